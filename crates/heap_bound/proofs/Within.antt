-- From how far peaks rise at moments within the steps of a transaction to what was in use at once.
use Rattle.std.proofs.Common.{◌⊎◌, inl, inr, ℕ, ◌+◌, ◌<◌, ◌≤◌, List, subst, arith}
use Rattle.py_data.specs.Heap.{Heap}
use Rattle.lock_run.specs.Client.{WaitsQuietly, StaysSound, IsSafe}
use Rattle.lock_run.specs.Prog.{Prog}
use Rattle.lock_run.specs.Machine.{Machine}
use Rattle.stm_segment.specs.CoreState.{CoreState, committed}
use Rattle.stm_core.specs.Good.{Good}
use Rattle.stm_segment.specs.InUse.{core_use, next_more}
use Rattle.stm_core.specs.PeakRises.{Moment}
use Rattle.heap_bound.specs.Laws.{IsStart, WithinLaw}
use Rattle.heap_bound.specs.Moments.{InUse}
use Rattle.heap_bound.proofs.Calling.{GoodAfter}
use Rattle.heap_bound.proofs.Lifting.{rise_law}
use Rattle.heap_bound.proofs.Unmoved.{led_leaves}

module _ {S : Type 0} (p : Prog S) (sound : Heap → List S → Type 0) (law : StaysSound p sound) (safe : IsSafe p sound)
    (quiet : WaitsQuietly p) (after : GoodAfter S) where
  -- at one moment: so many, or none
  at_moment : (start : Machine S) → IsStart sound start → (most segments n i : ℕ) (k : CoreState S) →
      Good p start most k → i < segments → (m : Moment p most i k) (c : ℕ) → 1 ≤ c → (u : ℕ)
      → u ≤ core_use n segments i m.place.heap m.now c + next_more m.left m.place.heap c
      → (u ≤ 0) ⊎ InUse p most segments (committed k) c u
  at_moment start begins most segments n i k good within m c lo u l =
      let good1 = after p start most k m.now m.led.moves good m.led.follows in
      let used = λ (d : ℕ). core_use n segments i m.place.heap m.now d + next_more m.left m.place.heap d in
      elim (rise_law p sound law safe quiet start begins most segments n m.now good1 i m.last within
      (record { runs = m.runs; small = m.small; lives = m.lives }) m.left m.place m.upto (λ d. 0) used
      (λ d low. inr (le_refl (used d))) c lo) [
        | inl z ↦ inl (omega arith)
        | inr x ↦ inr (subst (λ (z : Machine S). InUse p most segments z c u) (led_leaves p most i k m.now m.led).base
            (less (used c) x l))
      ]
    where
      le_refl : (x : ℕ) → x ≤ x
      le_refl x = omega arith

      less : (x : ℕ) → InUse p most segments (committed m.now) c x → u ≤ x → InUse p most segments (committed m.now) c u
      less x a l = record { below = a.below; views = a.views; each = a.each; count = (let b = a.count in omega arith) }

  pub within_law : WithinLaw p sound
  within_law start begins most segments n i k good within f g r c lo = elim (r c lo) [
    | inl l ↦ inl l
    | inr m ↦ elim (at_moment start begins most segments n i k good within m.0 c lo (g c) m.1) [
      | inl z ↦ inl (omega arith)
      | inr x ↦ inr x
    ]
  ]
