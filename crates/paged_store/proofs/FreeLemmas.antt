-- Places that a segment took are nobody's again.
use Rattle.std.proofs.Common.{◌≡◌, ◌≢◌, ℕ, ◌+◌, ◌<◌, ◌≤◌, Bool, true, false, inl, inr, refl, arith}
use Rattle.std.proofs.lemmas.Bool.{false_from_ne_true, ltb-true, le-ltb, cond-true, cond-false, cond_both}
use Rattle.paged_store.specs.Words.{Words}
use Rattle.paged_store.specs.inner.Formed.{Lays}
use Rattle.paged_store.specs.State.{Hand, State}
use Rattle.paged_store.specs.inner.Sound.{FitsHand, FitsBefore, Sound}
use Rattle.paged_store.specs.inner.Moves.{empty_hand, freed}
use Rattle.paged_store.proofs.OwnerLemmas.{SameOwner, lays_owner}
use Rattle.paged_store.proofs.StateLemmas.{none_or_some, hand_holds, taken_holds, holds_some, reserved_place}

-- a step that did nothing
pub same_step : (h : Hand) → FitsBefore h h
same_step h = record {
  holds = λ a e. e;
  taken = λ p. omega arith;
  touched = λ p e. absurd (let l = ltb-true (h.taken p) (h.taken p) e in omega (arith, l));
  records = λ a p e i. le-ltb (h.taken p) (h.taken p) (omega arith);
}

-- a hand without records fits where its words are the shared ones
pub empty_fits : (own role shared : Words) (image : ℕ → Bool) (w : Words) → ((p : ℕ) → w p ≡ shared p)
    → FitsHand own role shared image (empty_hand w)
empty_fits own role shared image w same = record {
  lays = λ a e. absurd (cc);
  formed = λ a e. absurd (cc);
  touched = λ p e. absurd (cc);
  same = λ p e. same p;
  taken = λ p e. absurd (omega (arith, e));
  once = λ p. omega arith;
  kept = λ a p e i. refl;
}

-- places t of extents that the segment took
module _ (own role : Words) (s : State) (k : ℕ) (t : ℕ → Bool) (g : Sound own role s)
    (took : (p : ℕ) → t p ≡ true → 0 < (s.now k).taken p) where
  took_holds : (p : ℕ) → t p ≡ true → (s.now k).holds (own p) ≡ true
  took_holds p e = taken_holds own role s.shared s.image (s.now k) (g.now k) p (took p e)

  pub still_owned : (p : ℕ) → t p ≡ false → SameOwner own role (freed t own) role p
  still_owned p e = record { owner = cond-false (t p) 0 (own p) e; part = refl }

  -- those of the image's records aren't among them
  pub image_freed : (a : ℕ) → s.image a ≡ true → Lays (freed t own) role s.shared a
  image_freed a e = lays_owner own role (freed t own) role s.shared a (g.lays a e)
      (λ p i. still_owned p (false_from_ne_true (t p) (λ x.
      let l = took p x in let z = (g.now k).kept a p e i in omega (arith, l, z))))

  -- nor are those of another segment's
  other_owned : (j p : ℕ) → j ≢ k → (s.now j).holds (own p) ≡ true → SameOwner own role (freed t own) role p
  other_owned j p n e = still_owned p (false_from_ne_true (t p) (λ x. n (g.apart j k (own p) e (took_holds p x))))

  pub now_freed : (j : ℕ) → j ≢ k → FitsHand (freed t own) role s.shared s.image (s.now j)
  now_freed j n = hand_holds own role s.shared s.image (s.now j) (g.now j) (freed t own) role
      (λ p e. other_owned j p n e)

  pub before_freed : (j : ℕ) → j ≢ k → FitsHand (freed t own) role s.shared s.image (s.before j)
  before_freed j n = hand_holds own role s.shared s.image (s.before j) (g.before j) (freed t own) role
      (λ p e. other_owned j p n ((g.step j).holds (own p) e))

  nobody_freed : (p : ℕ) → own p ≡ 0 → freed t own p ≡ 0
  nobody_freed p z = cond_both (t p) 0 (own p) (λ x. x ≡ 0) (λ _. refl) (λ _. z)

  -- they are given back
  module _ (more : ℕ → ℕ) (once : (p : ℕ) → more p ≤ 1) (gives : (p : ℕ) → 0 < more p → t p ≡ true) where
    taken_some : (p : ℕ) → 0 < more p → own p ≢ 0
    taken_some p l = holds_some own role s g k (own p) (took_holds p (gives p l))

    pub spare_freed : (p : ℕ) → 0 < s.spare p + more p → freed t own p ≡ 0
    spare_freed p l = elim (none_or_some (more p)) [
      | inl z ↦ nobody_freed p (g.spare p (omega (arith, l, z)))
      | inr m ↦ cond-true (t p) 0 (own p) (gives p m)
    ]

    pub spare_once_freed : (p : ℕ) → s.spare p + more p ≤ 1
    spare_once_freed p = elim (none_or_some (more p)) [
      | inl z ↦ (let o = g.spare_once p in omega (arith, o, z))
      | inr m ↦ (let o = once p in let z = (reserved_place own role s g p (taken_some p m)).1 in omega (arith, o, z))
    ]

    pub beyond_freed : (p : ℕ) → s.reserved ≤ p → (freed t own p ≡ 0) × (s.spare p + more p ≡ 0)
    beyond_freed p l = (
      nobody_freed p (g.beyond p l).0,
      elim (none_or_some (more p)) [
        | inl z ↦ (let y = (g.beyond p l).1 in omega (arith, y, z))
        | inr m ↦ absurd (taken_some p m (g.beyond p l).0)
      ],
    )
