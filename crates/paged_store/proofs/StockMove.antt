-- What is given back and what is reserved are others: no record changes.
use Rattle.std.proofs.Common.{◌≡◌, ℕ, ◌+◌, ◌<◌, ◌≤◌, inl, inr, refl, arith}
use Rattle.std.proofs.lemmas.Bool.{cases_lt}
use Rattle.paged_store.specs.Words.{Words}
use Rattle.paged_store.specs.State.{State, meaning_in}
use Rattle.paged_store.specs.inner.Sound.{Sound}
use Rattle.paged_store.specs.inner.Moves.{stocked, Stocks}
use Rattle.paged_store.proofs.StateLemmas.{none_or_some}

pub stocked_sound : (own role : Words) (s : State) (spare : ℕ → ℕ) (reserved : ℕ) → Sound own role s
    → Stocks own s spare reserved → Sound own role (stocked spare reserved s)
stocked_sound own role s spare reserved g k = record {
  lays = g.lays;
  formed = g.formed;
  now = g.now;
  before = g.before;
  step = g.step;
  held = g.held;
  held_before = g.held_before;
  apart = g.apart;
  nobody = g.nobody;
  held_some = g.held_some;
  spare = λ p e. (k.free p e).0;
  spare_once = k.once;
  beyond = λ p e. ((g.beyond p (let l = k.more in omega (arith, l, e))).0, none p e);
}
  where
    none : (p : ℕ) → reserved ≤ p → spare p ≡ 0
    none p e = elim (cases_lt 0 (spare p)) [
      | inl l ↦ absurd (let b = (k.free p l).1 in omega (arith, b, e))
      | inr l ↦ omega (arith, l)
    ]

pub stocked_means : (s : State) (spare : ℕ → ℕ) (reserved : ℕ) → meaning_in (stocked spare reserved s) ≡ meaning_in s
unfolding meaning_in
stocked_means s spare reserved = refl

-- what was taken out of what was given back, and no more
pub less_stocks : (own role : Words) (s : State) (spare : ℕ → ℕ) (reserved : ℕ) → Sound own role s
    → ((p : ℕ) → spare p ≤ s.spare p) → s.reserved ≤ reserved → Stocks own s spare reserved
less_stocks own role s spare reserved g less more = record {
  free = λ p e. let l = less p in (
    g.spare p (omega (arith, e, l)),
    elim (cases_lt p s.reserved) [
      | inl b ↦ omega (arith, b, more)
      | inr b ↦ absurd (let z = (g.beyond p b).1 in omega (arith, e, l, z))
    ],
  );
  once = λ p. let l = less p in let o = g.spare_once p in omega (arith, l, o);
  more = more;
}

-- extents that nobody has are given back
pub more_stocks : (own role : Words) (s : State) (e : ℕ → ℕ) → Sound own role s → ((p : ℕ) → e p ≤ 1)
    → ((p : ℕ) → 0 < e p → (own p ≡ 0) × (s.spare p ≡ 0) × (p < s.reserved))
    → Stocks own s (λ p. s.spare p + e p) s.reserved
more_stocks own role s e g once free = record {
  free = λ p l. elim (none_or_some (e p)) [
    | inl z ↦ (let same = less_stocks own role s s.spare s.reserved g (λ p. omega arith) (omega arith) in
        same.free p (omega (arith, l, z)))
    | inr m ↦ ((free p m).0, (free p m).2)
  ];
  once = λ p. elim (none_or_some (e p)) [
    | inl z ↦ (let o = g.spare_once p in omega (arith, o, z))
    | inr m ↦ (let o = once p in let z = (free p m).1 in omega (arith, o, z))
  ];
  more = omega arith;
}
