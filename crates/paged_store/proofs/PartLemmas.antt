-- The header, the body and the index of a record have no place in common.
use Rattle.std.proofs.Common.{◌≡◌, ◌≢◌, ℕ, zero, suc, ◌+◌, ◌*◌, ◌<◌, ◌≤◌, Bool, true, false, refl, ap, inl, inr, arith}
use Rattle.paged_store.specs.Words.{Words, size_of, class_in, index_class_in, body_by, index_by, body_size, in_head, in_body, in_index, in_record}
use Rattle.paged_store.specs.inner.Formed.{Lays}
use Rattle.paged_store.proofs.SpanLemmas.{span_bounds, none_in_span, in_span_at, in_parts}

pub size_of_none : (c : ℕ) → c ≡ 0 → size_of c ≡ 0
unfolding size_of
size_of_none c e = rw e refl

-- an extent that has a place has a class
pub class_of_some : (c n : ℕ) → n < size_of c → 0 < c
class_of_some zero n h = absurd (let e : size_of 0 ≡ 0 = size_of_none 0 refl in omega arith)
class_of_some (suc c) n h = omega arith

pub no_body_place : (w : Words) (a p : ℕ) → class_in (w (2 * a)) ≡ 0 → in_body w a p ≡ false
no_body_place w a p e = rw (size_of_none (class_in (w (2 * a))) e) (none_in_span (body_by w a) p)

pub no_index_place : (w : Words) (a p : ℕ) → index_class_in (w (2 * a)) ≡ 0 → in_index w a p ≡ false
no_index_place w a p e = rw (size_of_none (index_class_in (w (2 * a))) e) (none_in_span (index_by w a) p)

pub body_has_class : (w : Words) (a p : ℕ) → in_body w a p ≡ true → 0 < class_in (w (2 * a))
body_has_class w a p h = let b : (body_by w a ≤ p) × (p < body_by w a + body_size w a) =
    span_bounds (body_by w a) (body_size w a) p h in class_of_some (class_in (w (2 * a))) 0 (omega arith)

pub false_from : (b : Bool) → (b ≡ true → ⊥) → b ≡ false
false_from true h = absurd (h refl)
false_from false h = refl

pub body_not_head : (own role w : Words) (a p : ℕ) → Lays own role w a → in_body w a p ≡ true → in_head a p ≡ false
body_not_head own role w a p l h = false_from (in_head a p) (λ i.
    let x : role p ≡ 0 = (l.head p i).1 in
    let y : role p ≡ 2 * class_in (w (2 * a)) = (l.body p h).1 in
    let z : 0 < class_in (w (2 * a)) = body_has_class w a p h in
    omega arith)

pub index_not_head : (own role w : Words) (a p : ℕ) → Lays own role w a → in_index w a p ≡ true → in_head a p ≡ false
index_not_head own role w a p l h = false_from (in_head a p) (λ i.
    let x : role p ≡ 0 = (l.head p i).1 in
    let y : role p ≡ 2 * index_class_in (w (2 * a)) + 1 = (l.index p h).1 in
    omega arith)

pub index_not_body : (own role w : Words) (a p : ℕ) → Lays own role w a → in_index w a p ≡ true →
    in_body w a p ≡ false
index_not_body own role w a p l h = false_from (in_body w a p) (λ i.
    let x : role p ≡ 2 * class_in (w (2 * a)) = (l.body p i).1 in
    let y : role p ≡ 2 * index_class_in (w (2 * a)) + 1 = (l.index p h).1 in
    omega arith)

pub body_not_index : (own role w : Words) (a p : ℕ) → Lays own role w a → in_body w a p ≡ true →
    in_index w a p ≡ false
body_not_index own role w a p l h = false_from (in_index w a p) (λ i.
    let x : role p ≡ 2 * class_in (w (2 * a)) = (l.body p h).1 in
    let y : role p ≡ 2 * index_class_in (w (2 * a)) + 1 = (l.index p i).1 in
    omega arith)

-- a place of the body is another than each of the header's
pub body_off_head : (own role w : Words) (a p q : ℕ) → Lays own role w a → in_body w a p ≡ true → in_head a q ≡ true →
    p ≢ q
body_off_head own role w a p q l h i e = let x : in_head a p ≡ false = body_not_head own role w a p l h in
    cc (ap (in_head a) e)

-- each place of a record is its own
pub own_of_record : (own role w : Words) (a p : ℕ) → Lays own role w a → in_record w a p ≡ true → own p ≡ a
own_of_record own role w a p l h = elim (in_parts (in_head a p) (in_body w a p) (in_index w a p) h) [
  | inl i ↦ (l.head p i).0
  | inr (inl i) ↦ (l.body p i).0
  | inr (inr i) ↦ (l.index p i).0
]

pub head_not_body : (own role w : Words) (a p : ℕ) → Lays own role w a → in_head a p ≡ true → in_body w a p ≡ false
head_not_body own role w a p l h = false_from (in_body w a p)
    (λ i. let x : in_head a p ≡ false = body_not_head own role w a p l i in cc)

pub head_not_index : (own role w : Words) (a p : ℕ) → Lays own role w a → in_head a p ≡ true → in_index w a p ≡ false
head_not_index own role w a p l h = false_from (in_index w a p)
    (λ i. let x : in_head a p ≡ false = index_not_head own role w a p l i in cc)

-- the words of a body are the record's
pub body_own : (own role w : Words) (a j : ℕ) → Lays own role w a → j < body_size w a → own (body_by w a + j) ≡ a
body_own own role w a j l h = (l.body (body_by w a + j) (in_span_at (body_by w a) (body_size w a) j h)).0

pub head_own : (own role w : Words) (a p : ℕ) → Lays own role w a → in_head a p ≡ true → own p ≡ a
head_own own role w a p l h = (l.head p h).0
