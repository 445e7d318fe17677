-- A solo transaction whose next step was cut: it is committed up to its last whole step, and the books keep the step
-- and the cause.
use Rattle.std.proofs.Common.{◌≡◌, ◌≢◌, ℕ, zero, suc, Option, refl}
use Rattle.std.specs.List.{range_with_len}
use Rattle.seg_store.specs.Meaning.{Meaning}
use Rattle.stm_segment.specs.declared.books.Cut.{Cut}
use Rattle.stm_segment.specs.declared.books.Books.{Books}
use Rattle.stm_segment.specs.CoreState.{Transaction, Idle, CoreState, with_segment}
use Rattle.stm_core.specs.Passes.{after_commit}
use Rattle.stm_core.specs.Solo.{up_to_whole}
use Rattle.stm_core.specs.inner.Whole.{Whole}
use Rattle.stm_core.proofs.SoloMoves.{doom_leaves}

module _ {S : Type 0} (k n : ℕ) (x : Transaction S) (c : CoreState S) where
  -- where no step was done it is dropped
  pub whole_none : (i : ℕ) (c1 : CoreState S) → i ≡ 0 → c1 ≡ with_segment k Idle c → c1 ≡ up_to_whole k n x i c
  whole_none zero c1 e h = h
  whole_none (suc i) c1 e h = absurd cc

  -- and otherwise it is committed
  pub whole_some : (i : ℕ) (c1 : CoreState S) → i ≢ 0 → c1 ≡ after_commit k x (range_with_len 0 n) c →
      c1 ≡ up_to_whole k n x i c
  whole_some zero c1 e h = absurd (e refl)
  whole_some (suc i) c1 e h = h

  -- no cause is kept by that
  pub whole_cause : (i : ℕ) → (up_to_whole k n x i c).cause ≡ c.cause
  whole_cause zero = refl
  whole_cause (suc i) = (doom_leaves k x (range_with_len 0 n) c).cause

-- the books keep another step that was cut
pub cut_whole : {S : Type 0} (m : Meaning) (b : Books S) (z : Option Cut) → Whole m b →
    Whole m (record b { broken = z })
cut_whole m b z f = record {
  hands = f.hands;
  holders = f.holders;
  works = f.works;
  locked = f.locked;
  turns = f.turns;
  losses = f.losses;
  pending = f.pending;
  threads = f.threads;
}
