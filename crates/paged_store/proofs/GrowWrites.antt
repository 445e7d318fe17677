-- A record that is written with its body and its index in other places.
use Rattle.std.proofs.Common.{◌≡◌, ◌≢◌, ℕ, zero, suc, ◌+◌, ◌*◌, ◌/◌, ◌^◌, ◌<◌, ◌≤◌, true, false, List, length, sym, ap, subst, ◌∙◌, arith}
use Rattle.page_table.specs.Pages.{Table, after_write}
use Rattle.py_data.specs.declared.value.Value.{Value}
use Rattle.paged_store.specs.Words.{Words, in_span, size_of, kind_in, class_in, index_class_in, first_in, head_word, count_by, body_by, body_size, in_head, in_body}
use Rattle.py_base.specs.declared.kind.Kind.{Kind}
use Rattle.paged_store.specs.declared.value.Header.{Header}
use Rattle.paged_store.specs.inner.Formed.{Formed}
use Rattle.paged_store.specs.inner.Written.{put_word, copied, next_index, next_head}
use Rattle.paged_store.specs.inner.Growing.{grown_with, grown_class, grown_index, CanGrow}
use Rattle.paged_store.specs.inner.Writing.{CanPut, with_words, cleared, headed, put_values, next_body_size, next_index_size}
use Rattle.paged_store.proofs.SpanLemmas.{in_span_holds, span_bounds, head_at, head_first}
use Rattle.paged_store.proofs.PartLemmas.{false_from}
use Rattle.paged_store.proofs.PutWords.{put_miss}
use Rattle.paged_store.proofs.GrowWords.{size_grows}
use Rattle.paged_store.proofs.PutLemmas.{words_then, can_still, can_part, laid_none}

-- the parts of a header that stands are small
pub head_word_small : (w : Words) (a : ℕ) → Formed w a → w (2 * a) < 2 ^ 32
unfolding first_in
head_word_small w a f =
    let x : w (2 * a) / 16777216 ≤ class_in (w (2 * a)) = f.first in
    let y : class_in (w (2 * a)) ≤ 21 = f.class in
    omega arith

pub headed_off : (a first body index p : ℕ) (w : Words) → in_head a p ≡ false → headed a first body index w p ≡ w p
headed_off a first body index p w h =
    put_miss (2 * a) p first (put_word (2 * a + 2) body (put_word (2 * a + 3) index w)) (off (2 * a) (head_first a))
    ∙ put_miss (2 * a + 2) p body (put_word (2 * a + 3) index w) (off (2 * a + 2) (head_at a 2 (omega arith)))
    ∙ put_miss (2 * a + 3) p index w (off (2 * a + 3) (head_at a 3 (omega arith)))
  where
    off : (q : ℕ) → in_head a q ≡ true → p ≢ q
    off q i e = cc (ap (in_head a) e)

-- ---- the steps of the growth

module _ (k a body index m : ℕ) (t : Table) (g : CanGrow k a body index m t) where
  words_fit : 2 * count_by (t.word k) a ≤ next_body_size (t.word k) a
  words_fit = size_grows (class_in (t.word k (2 * a))) (2 * count_by (t.word k) a) g.grows.count

  pub grow_copies : (n : ℕ) → n ≡ 2 * count_by (t.word k) a → CanPut k body n t
  grow_copies n e = can_part k body (next_body_size (t.word k) a) body n t (omega arith) (omega (arith, words_fit, e))
      g.may_body

  -- what is copied stands in the old body, so outside the new one
  pub grow_clear : (from n : ℕ) → (0 < n → from ≡ body_by (t.word k) a) → n ≡ 2 * count_by (t.word k) a →
      (j : ℕ) → j < n → in_span body j (from + j) ≡ false
  grow_clear from n e f j h = false_from (in_span body j (from + j)) (λ i.
      let at : from ≡ body_by (t.word k) a = e (omega arith) in
      let s : (body ≤ from + j) × (from + j < body + j) = span_bounds body j (from + j) i in
      let c : 2 * count_by (t.word k) a ≤ body_size (t.word k) a = g.grows.count in
      let x : in_span body (next_body_size (t.word k) a) (from + j) ≡ true =
      in_span_holds body (next_body_size (t.word k) a) (from + j) (omega arith) (omega (arith, words_fit)) in
      let y : in_body (t.word k) a (from + j) ≡ true =
      in_span_holds (body_by (t.word k) a) (body_size (t.word k) a) (from + j) (omega arith) (omega arith) in
      let z : in_body (t.word k) a (from + j) ≡ false = g.apart (from + j) x in
      cc)

  module _ (n : ℕ) (en : n ≡ next_index_size (t.word k) a) (v1 v2 v3 v4 : Words) (t1 t2 t3 t4 : Table)
      (e1 : t1 ≡ with_words k v1 t) where
    pub grow_clears : CanPut k index n t1
    grow_clears =
        let P : ℕ → Type 0 = λ z. CanPut k index z t1 in
        subst P (sym en) (can_still k index (next_index_size (t.word k) a) v1 t t1 e1 g.may_index)

    module _ (e2 : t2 ≡ with_words k v2 t1) where
      pub grow_heads : CanPut k (2 * a) 4 t2
      grow_heads = can_still k (2 * a) 4 v2 t1 t2 e2 (can_still k (2 * a) 4 v1 t t1 e1 g.may_head)

      module _ (e3 : t3 ≡ with_words k v3 t2) where
        grow_body : CanPut k body (next_body_size (t.word k) a) t3
        grow_body =
            let size : ℕ = next_body_size (t.word k) a in
            can_still k body size v3 t2 t3 e3
            (can_still k body size v2 t1 t2 e2 (can_still k body size v1 t t1 e1 g.may_body))

        pub grow_values : (words l : ℕ) → words ≡ 2 * count_by (t.word k) a → l ≡ m → CanPut k (body + words) (2 * l) t3
        grow_values words l e f = can_part k body (next_body_size (t.word k) a) (body + words) (2 * l) t3 (omega arith)
            (let r : 2 * (count_by (t.word k) a + m) ≤ next_body_size (t.word k) a = g.grows.room in
            omega (arith, r, e, f)) grow_body

        pub grow_count : t4 ≡ with_words k v4 t3 → CanPut k (2 * a) 4 t4
        grow_count e4 = can_still k (2 * a) 4 v4 t3 t4 e4 (can_still k (2 * a) 4 v3 t2 t3 e3 grow_heads)

-- where there is nothing to copy it may be copied from any place
from_same : (w : Words) (from place body n : ℕ) → (0 < n → from ≡ place) → copied from body n w ≡ copied place body n w
from_same w from place body zero e = laid_none body (λ j. w (from + j)) w ∙ sym (laid_none body (λ j. w (place + j)) w)
from_same w from place body (suc n) e = ap {B = Words} (λ z. copied z body (suc n) w) (e (omega arith))

pub grow_puts_all : (k a body index from n m first x : ℕ) (vs : List Value) (d t u v y new : Table) →
    (0 < n → from ≡ body_by (d.word k) a) → n ≡ 2 * count_by (d.word k) a → m ≡ next_index_size (d.word k) a →
    first ≡ next_head (d.word k (2 * a)) → x ≡ count_by (d.word k) a + length vs →
    t ≡ with_words k (copied from body n (d.word k)) d → u ≡ with_words k (cleared index m (t.word k)) t →
    v ≡ with_words k (headed a first body index (u.word k)) u →
    y ≡ with_words k (put_values (body + n) vs (v.word k)) v → new ≡ after_write k (2 * a + 1) x y →
    new ≡ with_words k (grown_with (d.word k) a body index vs) d
grow_puts_all k a body index from n m first x vs d t u v y new ef en em eh ex et eu ev ey ez =
    let w : Words = d.word k in
    let one : Words = copied from body n w in
    let two : Words = cleared index m one in
    let three : Words = headed a first body index two in
    let four : Words = put_values (body + n) vs three in
    let all : new ≡ with_words k (put_word (2 * a + 1) x four) d =
    words_then k four (put_word (2 * a + 1) x) d y new
    (words_then k three (put_values (body + n) vs) d v y
    (words_then k two (headed a first body index) d u v
    (words_then k one (cleared index m) d t u et eu) ev) ey) ez in
    all ∙ (λ i. with_words k (put_word (2 * a + 1) (ex i) (put_values (body + en i) vs
    (headed a (eh i) body index (cleared index (em i)
    ((from_same w from (body_by w a) body n ef ∙ ap {B = Words} (λ z. copied (body_by w a) body z w) en) i))))) d)

-- ---- the header, as the code makes it of the one that stands there

pub next_index_is : (x y m i j : ℕ) (k : Kind) → m ≡ size_of j → j ≡ next_index k i → k ≡ kind_in x →
    i ≡ index_class_in x → x ≡ y → m ≡ size_of (next_index (kind_in y) (index_class_in y))
next_index_is x y m i j k em ej ek ei ex = em ∙ ap size_of ej ∙ (λ z. size_of (next_index (ek z) (ei z))) ∙
    ap (λ z. size_of (next_index (kind_in z) (index_class_in z))) ex

pub next_head_is : (x y m c f i : ℕ) (k : Kind) (next : Header) →
    m ≡ head_word next.kind next.class next.index next.first → next.kind ≡ k → next.class ≡ c + 1 →
    next.index ≡ next_index k i → next.first ≡ f → k ≡ kind_in x → c ≡ class_in x → i ≡ index_class_in x →
    f ≡ first_in x → x ≡ y → m ≡ next_head y
unfolding next_head
next_head_is x y m c f i k next em nk nc ni nf ek ec ei ef ex = em
    ∙ (λ z. head_word (nk z) (nc z) (ni z) (nf z))
    ∙ (λ z. head_word (ek z) (ec z + 1) (next_index (ek z) (ei z)) (ef z))
    ∙ ap (λ z. head_word (kind_in z) (class_in z + 1) (next_index (kind_in z) (index_class_in z)) (first_in z)) ex

pub grown_class_is : (w : Words) (a m c x : ℕ) → m ≡ c + 1 → c ≡ class_in x → x ≡ w (2 * a) → m ≡ grown_class w a
grown_class_is w a m c x em ec ex = em ∙ ap (λ z. z + 1) ec ∙ ap (λ z. class_in z + 1) ex

pub grown_index_is : (w : Words) (a m i x : ℕ) (k : Kind) → m ≡ next_index k i → k ≡ kind_in x → i ≡ index_class_in x →
    x ≡ w (2 * a)
    → m ≡ grown_index w a
grown_index_is w a m i x k em ek ei ex = em ∙ (λ z. next_index (ek z) (ei z)) ∙
    ap (λ z. next_index (kind_in z) (index_class_in z)) ex
