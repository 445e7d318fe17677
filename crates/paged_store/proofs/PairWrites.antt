-- A pair that is put at the end of a dictionary and into its index.
use Rattle.std.proofs.Common.{◌≡◌, ℕ, ◌+◌, ◌*◌, ◌/◌, ◌<◌, Bool, true, false, ◌||◌, [], ◌∷◌, ap, subst, ◌∙◌, arith}
use Rattle.std.proofs.lemmas.Bool.{or_left, or_right}
use Rattle.page_table.specs.Pages.{Table, after_write}
use Rattle.py_data.specs.declared.value.Value.{Value}
use Rattle.dict_index.specs.Keys.{home_of}
use Rattle.dict_index.proofs.Circle.{slot_within}
use Rattle.dict_index.proofs.Homes.{home_within}
use Rattle.paged_store.specs.Words.{Words, in_span, count_by, body_by, index_by, index_size}
use Rattle.paged_store.specs.inner.Indexed.{class_by}
use Rattle.paged_store.specs.inner.Indexing.{FreeSlot, AddsPair, RefusesPair}
use Rattle.paged_store.specs.inner.Written.{put_word}
use Rattle.paged_store.specs.inner.Writing.{Desk, Wrote, Refused, Readied, with_words, put_values, with_count}
use Rattle.paged_store.proofs.SpanLemmas.{in_span_holds}
use Rattle.paged_store.proofs.PutLemmas.{words_then}
use Rattle.paged_store.proofs.WriteLemmas.{wrote_ready, put_off, count_off, values_off, neither}

-- a slot that is found is one of the index
pub free_within : (w : Words) (d place : ℕ) (key : Value) → FreeSlot w d key place →
    place < index_by w d + index_size w d
free_within w d place key f =
    let n : ℕ = index_size w d in
    let start : ℕ = home_of n (class_by w key) in
    let l : f.first.steps < n = f.first.near in
    let s : start < n = home_within n (class_by w key) (omega arith) in
    omega (arith, f.at, f.first.at, slot_within n start f.first.steps s (omega arith))

-- a place that is ready is on a page of the segment's own, whatever words were put since
pub own_ready : (k p : ℕ) (t : ℕ → Bool) (u : Words) (a b : Desk) (x : Table) → Readied k t a b → t p ≡ true →
    x ≡ with_words k u b.table → x.own k (p / 512) ≡ true
own_ready k p t u a b x r h e = ap (λ z. z.own k (p / 512)) e ∙ (r.may p h).own

-- the words with a pair at a place, and then the count and a slot's word
abbrev put_pair : ℕ → ℕ → Value → Value → ℕ → ℕ → ℕ → Words → Words
put_pair d slot key v p x y z = put_word slot y (put_word (2 * d + 1) x (put_values p (key ∷ v ∷ []) z))

put_pair_off : (d slot : ℕ) (key v : Value) (place x y p : ℕ) (w : Words) →
    (in_span slot 1 p || with_count d place 4 p) ≡ false → put_pair d slot key v place x y w p ≡ w p
put_pair_off d slot key v place x y p w h =
    let q : (in_span slot 1 p ≡ false) × (with_count d place 4 p ≡ false) =
    neither (in_span slot 1 p) (with_count d place 4 p) h in
    put_off slot p y (put_word (2 * d + 1) x (put_values place (key ∷ v ∷ []) w)) q.0 ∙
    count_off d place 4 x p (put_values place (key ∷ v ∷ []) w) w (λ o. values_off place p (key ∷ v ∷ []) w o) q.1

pub pair_added : (k d place slot c m : ℕ) (key v : Value) (a b : Desk) (t u new : Table) →
    place ≡ body_by (a.table.word k) d + 2 * count_by (a.table.word k) d → c ≡ count_by (a.table.word k) d + 2 →
    m ≡ count_by (a.table.word k) d / 2 + 1 → FreeSlot (a.table.word k) d key slot →
    Readied k (λ p. in_span slot 1 p || with_count d place 4 p) a b →
    t ≡ with_words k (put_values place (key ∷ v ∷ []) (b.table.word k)) b.table →
    u ≡ after_write k (2 * d + 1) c t → new ≡ after_write k slot m u →
    AddsPair k d key v a (record { table = new; draft = b.draft })
pair_added k d place slot c m key v a b t u new ep ec em f r et eu en =
    let w : Words = a.table.word k in
    let all : new ≡ with_words k (put_pair d slot key v place c m (b.table.word k)) b.table =
    words_then k (put_word (2 * d + 1) c (put_values place (key ∷ v ∷ []) (b.table.word k))) (put_word slot m) b.table
    u new (words_then k (put_values place (key ∷ v ∷ []) (b.table.word k)) (put_word (2 * d + 1) c) b.table t u et eu)
    en in
    let P : ℕ → ℕ → ℕ → Type 0 = λ p x y. Wrote k (put_pair d slot key v p x y w)
    (λ q. in_span slot 1 q || with_count d p 4 q) a (record { table = new; draft = b.draft }) in
    record {
      slot = slot;
      free = f;
      wrote = subst (λ p. P p (count_by w d + 2) (count_by w d / 2 + 1)) ep
          (subst (λ x. P place x (count_by w d / 2 + 1)) ec (subst (P place c) em
          (wrote_ready k (λ q. in_span slot 1 q || with_count d place 4 q) a b new
          (put_pair d slot key v place c m) r all (λ z p h. put_pair_off d slot key v place c m p z h))));
    }

pub pair_refused : (k d place slot : ℕ) (key : Value) (a b : Desk) →
    place ≡ body_by (a.table.word k) d + 2 * count_by (a.table.word k) d → FreeSlot (a.table.word k) d key slot →
    Refused k (λ p. in_span slot 1 p || with_count d place 4 p) a b → RefusesPair k d key a b
pair_refused k d place slot key a b e f r = record {
  slot = slot;
  free = f;
  refused = subst (λ p. Refused k (λ q. in_span slot 1 q || with_count d p 4 q) a b) e r;
}

-- the count and the slot are ready
pub pair_count_ready : (d place n slot m : ℕ) → (in_span slot m (2 * d + 1) || with_count d place n (2 * d + 1)) ≡ true
pair_count_ready d place n slot m = or_right (in_span slot m (2 * d + 1)) (with_count d place n (2 * d + 1))
    (or_left (in_span (2 * d + 1) 1 (2 * d + 1)) (in_span place n (2 * d + 1))
    (in_span_holds (2 * d + 1) 1 (2 * d + 1) (omega arith) (omega arith)))

pub pair_slot_ready : (d place slot n : ℕ) → (in_span slot 1 slot || with_count d place n slot) ≡ true
pair_slot_ready d place slot n = or_left (in_span slot 1 slot) (with_count d place n slot)
    (in_span_holds slot 1 slot (omega arith) (omega arith))
