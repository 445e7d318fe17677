-- The words of a new record that are put one after another.
use Rattle.std.proofs.Common.{◌≡◌, ℕ, ◌+◌, ◌*◌, ◌/◌, ◌≤◌, List, length, ◌∙◌, arith}
use Rattle.page_table.specs.Pages.{Table}
use Rattle.py_data.specs.declared.value.Value.{Value}
use Rattle.paged_store.specs.Words.{Words}
use Rattle.dict_index.specs.Packed.{packed}
use Rattle.paged_store.specs.inner.Written.{put_word}
use Rattle.paged_store.specs.inner.Writing.{CanPut, with_words, laid, cleared, put_values, headed, filled_words}
use Rattle.paged_store.proofs.PutLemmas.{words_then, can_still, can_part}

-- ---- what is put one after another

pub can_twice : (k place n : ℕ) (w v : Words) (a b c : Table) → b ≡ with_words k w a → c ≡ with_words k v b →
    CanPut k place n a → CanPut k place n c
can_twice k place n w v a b c e h m = can_still k place n v b c h (can_still k place n w a b e m)

pub can_before : (k place n m : ℕ) (t : Table) → n ≤ m → CanPut k place m t → CanPut k place n t
can_before k place n m t h c = can_part k place m place n t (omega arith) (omega arith) c

module _ (k a body index : ℕ) (d t u v new : Table) (first n size : ℕ) (vs : List Value) (bs : List ℕ) where
  -- the values, the bytes, the empty index and the header
  pub fill_puts : t ≡ with_words k (put_values body vs (d.word k)) d →
      u ≡ with_words k (laid body ((length bs + 7) / 8) (packed bs) (t.word k)) t →
      v ≡ with_words k (cleared index size (u.word k)) u →
      new ≡ with_words k (headed a first body index (put_word (2 * a + 1) n (v.word k))) v →
      new ≡ with_words k (filled_words (d.word k) a first n body index size vs bs) d
  fill_puts et eu ev en =
      let w : Words = put_values body vs (d.word k) in
      let y : Words = laid body ((length bs + 7) / 8) (packed bs) w in
      let z : Words = cleared index size y in
      words_then k z (λ w. headed a first body index (put_word (2 * a + 1) n w)) d v new
      (words_then k y (cleared index size) d u v
      (words_then k w (laid body ((length bs + 7) / 8) (packed bs)) d t u et eu) ev) en

  -- the same with the numbers and lists that these are
  pub fill_is : (f m s : ℕ) (xs : List Value) (ys : List ℕ) → first ≡ f → n ≡ m → size ≡ s → vs ≡ xs → bs ≡ ys →
      new ≡ with_words k (filled_words (d.word k) a first n body index size vs bs) d →
      new ≡ with_words k (filled_words (d.word k) a f m body index s xs ys) d
  fill_is f m s xs ys ef em es ex ey e = e ∙
      (λ i. with_words k (filled_words (d.word k) a (ef i) (em i) body index (es i) (ex i) (ey i)) d)
