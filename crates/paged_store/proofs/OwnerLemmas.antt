-- Whose a place is, and a record that is laid out where its places are its own.
use Rattle.std.proofs.Common.{◌≡◌, ℕ, ◌+◌, ◌-◌, ◌*◌, ◌<◌, ◌≤◌, true, inl, inr, ◌∙◌, arith}
use Rattle.std.proofs.lemmas.Bool.{or_cases, or_left, or_right, and_from, le-leb, lt-ltb}
use Rattle.paged_store.specs.Words.{Words, in_span, body_by, body_size, index_by, index_size, in_head, in_body, in_index, in_record}
use Rattle.paged_store.specs.inner.Formed.{Lays}

-- a place of a record that is laid out is its own
pub place_own : (own role w : Words) (a p : ℕ) → Lays own role w a → in_record w a p ≡ true → own p ≡ a
place_own own role w a p o e = elim (or_cases _ _ e) [
  | inl x ↦ (o.head p x).0
  | inr x ↦ elim (or_cases _ _ x) [
    | inl y ↦ (o.body p y).0
    | inr y ↦ (o.index p y).0
  ]
]

-- a part's places are the record's
pub head_place : (w : Words) (a p : ℕ) → in_head a p ≡ true → in_record w a p ≡ true
head_place w a p e = or_left _ _ e

pub body_place : (w : Words) (a p : ℕ) → in_body w a p ≡ true → in_record w a p ≡ true
body_place w a p e = or_right _ _ (or_left _ _ e)

pub index_place : (w : Words) (a p : ℕ) → in_index w a p ≡ true → in_record w a p ≡ true
index_place w a p e = or_right _ _ (or_right _ _ e)

-- two accounts of whose the places are say the same of one
pub record SameOwner (own role own1 role1 : Words) (p : ℕ) : Type 0 where
  pub owner : own1 p ≡ own p
  pub part : role1 p ≡ role p

-- where they say the same of a record's places, it is laid out by both
pub lays_owner : (own role own1 role1 w : Words) (a : ℕ) → Lays own role w a
    → ((p : ℕ) → in_record w a p ≡ true → SameOwner own role own1 role1 p) → Lays own1 role1 w a
lays_owner own role own1 role1 w a o h = record {
  head = λ p e. let x = o.head p e in let y = h p (head_place w a p e) in (y.owner ∙ x.0, y.part ∙ x.1);
  body = λ p e. let x = o.body p e in let y = h p (body_place w a p e) in (y.owner ∙ x.0, y.part ∙ x.1);
  index = λ p e. let x = o.index p e in let y = h p (index_place w a p e) in (y.owner ∙ x.0, y.part ∙ x.1);
}

-- the first place of a record's header
pub first_place : (a : ℕ) → in_head a (2 * a) ≡ true
first_place a = and_from _ _ (le-leb (2 * a) (2 * a) (omega arith)) (lt-ltb (2 * a) (2 * a + 4) (omega arith))

-- a record is laid out at its own address: where the first place of the header is another's, it isn't
pub address_own : (own role w : Words) (a : ℕ) → Lays own role w a → own (2 * a) ≡ a
address_own own role w a o = (o.head (2 * a) (first_place a)).0

-- ---- places below a bound

-- a record's extents end at a bound or before
pub record EndsBy (n : ℕ) (w : Words) (a : ℕ) : Type 0 where
  pub head : 2 * a + 4 ≤ n
  pub body : 0 < body_size w a → body_by w a + body_size w a ≤ n
  pub index : 0 < index_size w a → index_by w a + index_size w a ≤ n

-- the last place of a span
last_place : (place size : ℕ) → 0 < size → in_span place size (place + (size - 1)) ≡ true
last_place place size l = and_from _ _ (le-leb place (place + (size - 1)) (omega (arith, l)))
    (lt-ltb (place + (size - 1)) (place + size) (omega (arith, l)))

pub ends_by : (n : ℕ) (w : Words) (a : ℕ) → ((p : ℕ) → in_record w a p ≡ true → p < n) → EndsBy n w a
ends_by n w a h = record {
  head = let l = h (2 * a + (4 - 1)) (head_place w a (2 * a + (4 - 1)) (last_place (2 * a) 4 (omega arith))) in
      omega (arith, l);
  body = λ s. let l = h (body_by w a + (body_size w a - 1))
      (body_place w a (body_by w a + (body_size w a - 1)) (last_place (body_by w a) (body_size w a) s)) in
      omega (arith, l, s);
  index = λ s. let l = h (index_by w a + (index_size w a - 1))
      (index_place w a (index_by w a + (index_size w a - 1)) (last_place (index_by w a) (index_size w a) s)) in
      omega (arith, l, s);
}
