-- The index of a dictionary depends on its own words and on what its keys are.
use Rattle.std.proofs.Common.{◌≡◌, ℕ, zero, suc, ◌+◌, ◌*◌, ◌/◌, ◌<◌, true, false, Bool, cond, List, length, Some, None, refl, sym, ◌∙◌, ap, subst, arith}
use Rattle.std.proofs.lemmas.Bool.{cond-true}
use Rattle.py_base.specs.declared.kind.Kind.TheVariants.{List as ListKind, Dict}
use Rattle.py_data.specs.declared.value.Value.{Value}
use Rattle.py_data.specs.Heap.{Rec, value_at, is_tracked}
use Rattle.py_data.specs.Shape.{IsKey, ArePairs}
use Rattle.dict_index.specs.Keys.{home_of}
use Rattle.dict_index.specs.Index.{IsRight}
use Rattle.dict_index.specs.Laws.{KeepsFixed}
use Rattle.dict_index.proofs.Homes.{home_within}
use Rattle.dict_index.proofs.Pairs.{key_of}
use Rattle.dict_index.proofs.Kept.{class_kept}
use Rattle.dict_index.proofs.Right.{right_framed}
use Rattle.paged_store.specs.Words.{Words, size_of, kind_in, index_class_in, decode, kind_by, index_by, index_size}
use Rattle.paged_store.specs.inner.Formed.{AgreeOn}
use Rattle.paged_store.specs.inner.Sight.{records_in}
use Rattle.paged_store.specs.State.{heap_of}
use Rattle.paged_store.specs.inner.Indexed.{class_by, index_words, home_by, pairs_by, IsIndexed, AreIndexed}
use Rattle.paged_store.specs.inner.Keyed.{HasKeys}
use Rattle.paged_store.proofs.SpanLemmas.{in_span_at}
use Rattle.paged_store.proofs.FrameLemmas.{HeadSame, head_same, decode_agrees}
use Rattle.paged_store.proofs.RecordWords.{kind_is}

-- the same index, also where there is no slot
pub right_same : (home other : ℕ → ℕ) (n m : ℕ) (w v : Words) → (0 < n → (j : ℕ) → home j < n) → IsRight home n w m
    → ((s : ℕ) → s < n → v s ≡ w s) → ((j : ℕ) → j < m → other j ≡ home j) → IsRight other n v m
right_same home other zero m w v within x same homes = record {
  each = λ j l. absurd (let none = x.used in omega (arith, l, none));
  only = λ s l. absurd (omega (arith, l));
  once = λ s t l. absurd (omega (arith, l));
  used = x.used;
}
right_same home other (suc n) m w v within x same homes =
    right_framed home other (suc n) m w v (omega arith) (λ j l. within (omega arith) j) x same homes

-- as many pairs, with keys of the same classes, and the same words in the index
pub indexed_same : (w v : Words) (a : ℕ) → index_size w a ≡ index_size v a → pairs_by w a ≡ pairs_by v a
    → ((s : ℕ) → s < index_size w a → index_words v a s ≡ index_words w a s)
    → ((j : ℕ) → j < pairs_by w a → class_by v (value_at (decode v a).values (2 * j))
    ≡ class_by w (value_at (decode w a).values (2 * j)))
    → IsIndexed w a → IsIndexed v a
indexed_same w v a size pairs words classes x =
    let n : ℕ = index_size w a in
    let here : IsRight (home_by v a) n (index_words v a) (pairs_by w a) =
    right_same (home_by w a) (home_by v a) n (pairs_by w a) (index_words w a) (index_words v a)
    (λ some j. home_within n _ some) x words (λ j l i. home_of (sym size i) (classes j l i)) in
    subst (λ m. IsRight (home_by v a) (index_size v a) (index_words v a) m) pairs
    (subst (λ n. IsRight (home_by v a) n (index_words v a) (pairs_by w a)) size here)

-- words that agree on the places of the record
pub indexed_agrees : (w v : Words) (a : ℕ) → AgreeOn w v a
    → ((j : ℕ) → j < pairs_by w a → class_by v (value_at (decode w a).values (2 * j))
    ≡ class_by w (value_at (decode w a).values (2 * j)))
    → IsIndexed w a → IsIndexed v a
indexed_agrees w v a s classes x =
    let h : HeadSame w v a = head_same w v a s.head in
    let d : decode w a ≡ decode v a = decode_agrees w v a s in
    indexed_same w v a (ap (λ x. size_of (index_class_in x)) h.first)
    (ap (λ (r : Rec). length r.values / 2) d)
    (λ j l. ap (λ i. v (i + j)) (sym h.index)
    ∙ sym (s.index (index_by w a + j) (in_span_at (index_by w a) (index_size w a) j l)))
    (λ j l. ap (λ (r : Rec). class_by v (value_at r.values (2 * j))) (sym d) ∙ classes j l) x

-- ---- keys

-- the fixed records that are there in some words are the same in others
abbrev pub SameFixed : (ℕ → Bool) → Words → Words → Type 0
SameFixed there w v = (a : ℕ) → there a ≡ true → is_tracked (kind_by w a) ≡ false → decode v a ≡ decode w a

some_given : (t : Bool) (r q : Rec) → cond t (Some r) None ≡ Some q → (t ≡ true) × (r ≡ q)
some_given true r q e = (refl, cc)
some_given false r q e = absurd (cc)

pub there_is : (there : ℕ → Bool) (w : Words) (a : ℕ) → there a ≡ true → heap_of there w a ≡ Some (decode w a)
there_is there w a e = cond-true (there a) (Some (decode w a)) None e

-- so it is where a heap keeps them
pub same_fixed : (there more : ℕ → Bool) (w v : Words) → KeepsFixed (heap_of there w) (heap_of more v)
    → SameFixed there w v
same_fixed there more w v f a e fixed = (some_given (more a) (decode v a) (decode w a)
    (f a (decode w a) (there_is there w a e) (ap is_tracked (kind_is w a) ∙ fixed))).1

pub keeps_fixed : (there : ℕ → Bool) (w v : Words) → SameFixed there w v → KeepsFixed (heap_of there w) (records_in v)
keeps_fixed there w v f a r e fixed =
    let x : (there a ≡ true) × (decode w a ≡ r) = some_given (there a) (decode w a) r e in
    let kind : is_tracked (kind_by w a) ≡ is_tracked r.kind = ap is_tracked (sym (kind_is w a))
    ∙ ap (λ (q : Rec). is_tracked q.kind) x.1 in
    ap (λ (q : Rec). Some q) (f a x.0 (kind ∙ fixed) ∙ x.1)

-- so the keys of a dictionary have the same classes
pub classes_same : (there : ℕ → Bool) (w v : Words) (a : ℕ) → HasKeys (heap_of there w) → SameFixed there w v
    → there a ≡ true → kind_by w a ≡ Dict → (j : ℕ) → j < pairs_by w a
    → class_by v (value_at (decode w a).values (2 * j)) ≡ class_by w (value_at (decode w a).values (2 * j))
classes_same there w v a keys same e d j l =
    let vs : List Value = (decode w a).values in
    let pairs : ArePairs (heap_of there w) vs = (keys.dicts a (decode w a) (there_is there w a e) (kind_is w a ∙ d)).0
    in
    let k : IsKey (heap_of there w) (value_at vs (2 * j)) =
    key_of (heap_of there w) vs j pairs (omega (arith, l)) in
    class_kept (heap_of there w) (records_in v) (value_at vs (2 * j)) (keeps_fixed there w v same) k
    ∙ sym (class_kept (heap_of there w) (records_in w) (value_at vs (2 * j))
    (keeps_fixed there w w (λ b t f. refl)) k)

-- a dictionary that is there in both, with the same fixed records
pub dict_frame : (there : ℕ → Bool) (w v : Words) (a : ℕ) → HasKeys (heap_of there w) → SameFixed there w v
    → there a ≡ true → AgreeOn w v a → AreIndexed there w → kind_by v a ≡ Dict → IsIndexed v a
dict_frame there w v a keys same e s x d =
    let kind : kind_by w a ≡ Dict = ap kind_in (head_same w v a s.head).first ∙ d in
    indexed_agrees w v a s (classes_same there w v a keys same e kind) (x a e kind)

-- ---- a record that gets other words

-- where the keys of what is there are keys, its fixed records stay, and the words stand for r at a, the index of that
-- is right
abbrev pub Renews : (ℕ → Bool) → Words → Words → ℕ → Rec → Type 0
Renews there w v a r = HasKeys (heap_of there w) → SameFixed there w v → decode v a ≡ r → kind_by v a ≡ Dict
    → IsIndexed v a

-- a record that is no Dict
pub list_renews : (there : ℕ → Bool) (w v : Words) (a : ℕ) (r : Rec) → r.kind ≡ ListKind → Renews there w v a r
list_renews there w v a r k = λ keys same means d. absurd (let x : ListKind ≡ Dict =
    sym (ap (λ (q : Rec). q.kind) means ∙ k) ∙ kind_is v a ∙ d in cc)

-- a Dict that keeps its keys, and the words of its index
pub dict_renews : (there : ℕ → Bool) (w v : Words) (a : ℕ) (r : Rec) → there a ≡ true
    → (kind_by w a ≡ Dict → IsIndexed w a) → v (2 * a) ≡ w (2 * a) → v (2 * a + 3) ≡ w (2 * a + 3)
    → ((s : ℕ) → s < index_size w a → v (index_by w a + s) ≡ w (index_by w a + s))
    → length r.values ≡ length (decode w a).values
    → (kind_by w a ≡ Dict → (j : ℕ) → value_at r.values (2 * j) ≡ value_at (decode w a).values (2 * j))
    → Renews there w v a r
dict_renews there w v a r is was first index words count values = λ keys same means d.
    let kind : kind_by w a ≡ Dict = ap kind_in (sym first) ∙ d in
    indexed_same w v a (ap (λ x. size_of (index_class_in x)) (sym first))
    (ap (λ n. n / 2) (sym count) ∙ ap (λ (q : Rec). length q.values / 2) (sym means))
    (λ s l. ap (λ i. v (i + s)) index ∙ words s l)
    (λ j l. ap (λ (q : Rec). class_by v (value_at q.values (2 * j))) means ∙ ap (class_by v) (values kind j)
    ∙ classes_same there w v a keys same is kind j l) (was kind)
