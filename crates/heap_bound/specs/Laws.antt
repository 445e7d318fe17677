-- Laws of the bound on a full heap, in the words in which `src/laws.rt` ensures them.
-- States `docs/HEAP.md`, "The bound on a full heap".
use Rattle.std.specs.declared.alloc.AllocError.{AllocError}
use Rattle.std.specs.Prelude.{◌≡◌, ℕ, suc, ◌+◌, ◌/◌, ◌<◌, ◌≤◌, List, Some, None, Result}
use Rattle.py_data.specs.declared.stop.Conflict.{Conflict}
use Rattle.py_data.specs.Heap.{Heap}
use Rattle.py_data.specs.Row.{Row, Do, Call, Reply}
use Rattle.py_data.specs.Sense.{Upto}
use Rattle.py_data.specs.Sight.{Sight, pure}
use Rattle.py_data.specs.World.{World}
use Rattle.lock_run.specs.declared.client.Outcome.{Outcome}
use Rattle.lock_run.specs.declared.client.Life.TheVariants.{Lives}
use Rattle.lock_run.specs.Prog.{Prog}
use Rattle.lock_run.specs.Machine.{Machine}
use Rattle.seg_store.specs.Extents.{words_in}
use Rattle.seg_store.specs.Meaning.{Meaning, sees}
use Rattle.seg_store.specs.Store.{IsStore}
use Rattle.seg_store.specs.Telling.{in_use, Rises, RisesTo}
use Rattle.stm_segment.specs.declared.books.Books.{Books}
use Rattle.stm_segment.specs.declared.books.Progress.{Progress}
use Rattle.stm_segment.specs.Books.{Worlds, core_of, Fit}
use Rattle.stm_core.specs.declared.answers.Advance.{Advance}
use Rattle.stm_core.specs.declared.answers.AdvanceError.{AdvanceError}
use Rattle.stm_core.specs.declared.answers.LoanError.{LoanError}
use Rattle.stm_core.specs.declared.begin.BeginError.{BeginError}
use Rattle.stm_core.specs.declared.commit.Commit.{Commit}
use Rattle.stm_core.specs.declared.solo.SoloError.{SoloError}
use Rattle.stm_segment.specs.declared.cause.Cause.TheVariants.{Full}
use Rattle.stm_core.specs.Advanced.{Advanced}
use Rattle.stm_core.specs.Begun.{Begun}
use Rattle.stm_core.specs.Committed.{Committed}
use Rattle.stm_core.specs.Finishing.{idle_core, SettlesSolo}
use Rattle.stm_segment.specs.InUse.{core_use, next_more, RisesUpTo}
use Rattle.stm_core.specs.PeakRises.{RisesWithin}
use Rattle.stm_core.specs.Outside.{Outer, OuterMove, OuterNext}
use Rattle.stm_core.specs.Pieces.{IsInstalled, IsLoaned}
use Rattle.stm_core.specs.Solo.{Soloed}
use Rattle.stm_segment.specs.Asking.{CallWants}
use Rattle.stm_segment.specs.CoreState.{Transaction, CoreState, Running, committed, sight_of, core_new}
use Rattle.stm_core.specs.Good.{Good}
use Rattle.stm_core.specs.Moves.{Move, Next}
use Rattle.heap_bound.specs.Growth.{IsNearlyFull}
use Rattle.heap_bound.specs.Moments.{IsAsked, IsWanted, IsExplained}
use Rattle.stm_pieces.specs.declared.loan.Loan.{Loan}
use Rattle.heap_bound.specs.Using.{Lifts, KeepsWanted, OuterWanted}

-- ---- a step that was cut asked for no more than some whole step

-- a machine begins: no record is there, and the states of its threads may stand over that
pub record IsStart {S : Type 0} (sound : Heap → List S → Type 0) (start : Machine S) : Type 0 where
  pub empty : (a : ℕ) → start.heap a ≡ None
  pub first : sound start.heap start.threads

-- a transaction that runs on segment i, whose thread lives and that may do a step more
pub record MayStep {S : Type 0} (p : Prog S) (most : ℕ) (k : CoreState S) (i : ℕ) (x : Transaction S) : Type 0 where
  pub runs : k.segments i ≡ Running x
  pub small : suc x.steps ≤ most
  pub lives : p.life x.state ≡ Lives

-- at any place within its next step, whatever was answered so far, no more extents are in use than whole steps leave
abbrev pub PlaceLaw : {S : Type 0} → Prog S → (Heap → List S → Type 0) → Type 0
PlaceLaw {S} p sound =
    (start : Machine S) → IsStart sound start → (most : ℕ) (k : CoreState S) → Good p start most k →
    (i : ℕ) (x : Transaction S) → MayStep p most k i x
    → (left : Row S (Outcome × S)) (place : Sight S) → Upto pure (p.row x.state) (sight_of k.image k.world x) left place
    → IsAsked p most (committed k) place.heap

-- and where a call wants words there, they are those of an extent that whole steps ask for
abbrev pub NextLaw : {S : Type 0} → Prog S → (Heap → List S → Type 0) → Type 0
NextLaw {S} p sound =
    (start : Machine S) → IsStart sound start → (most : ℕ) (k : CoreState S) → Good p start most k →
    (i : ℕ) (x : Transaction S) → MayStep p most k i x
    → (call : Call S) (next : Reply call → Row S (Outcome × S)) (place : Sight S) →
    Upto pure (p.row x.state) (sight_of k.image k.world x) (Do call next) place
    → (n : ℕ) → CallWants call place.heap n → IsWanted p most (committed k) n

-- so a full heap that is kept wanted words that whole steps ask for
abbrev pub KeptLaw : {S : Type 0} → Prog S → (Heap → List S → Type 0) → Type 0
KeptLaw {S} p sound =
    (start : Machine S) → IsStart sound start → (most : ℕ) (k k1 : CoreState S) (m : Move S) → Good p start most k →
    Next p most k m k1 → KeepsWanted p most (committed k) m

-- Where peaks rose within the step to what the core has in use at the place, with what the next call wants there, they
-- rose to what was in use at once: also for a step that was cut.
abbrev pub RiseLaw : {S : Type 0} → Prog S → (Heap → List S → Type 0) → Type 0
RiseLaw {S} p sound =
    (start : Machine S) → IsStart sound start → (most segments n : ℕ) (k : CoreState S) → Good p start most k →
    (i : ℕ) (x : Transaction S) → i < segments → MayStep p most k i x
    → (left : Row S (Outcome × S)) (place : Sight S) → Upto pure (p.row x.state) (sight_of k.image k.world x) left place
    → (f g : ℕ → ℕ) → RisesUpTo f g (λ c. core_use n segments i place.heap k c + next_more left place.heap c) →
    Lifts p most segments (committed k) f g

-- ---- what a core has in use

-- a store whose segment k is out of the core's hand has no more in use than the core, with what that segment sees
abbrev pub StoreLaw : Type 0 → Type 0
StoreLaw S = (w : Worlds) (reserved k : ℕ) (m : Meaning) (b : Books S) (p : Progress S) (c : ℕ) → IsStore reserved m →
    Fit k m b p → in_use m c ≤ core_use (m.limit / 2) m.segments k (sees m k) (core_of w m b) c

-- what a core has in use, with a view for which whole steps ask, was in use at once
abbrev pub UseLaw : Type 0 → Type 0
UseLaw S =
    (p : Prog S) (start : Machine S) (most segments n i : ℕ) (k : CoreState S) → Good p start most k → (own : Heap)
    (f g : ℕ → ℕ) → IsAsked p most (committed k) own → RisesUpTo f g (core_use n segments i own k) →
    Lifts p most segments (committed k) f g

-- by what a store's calls ensure of its peaks, a call that was done and one that was refused raise them at most so far
abbrev pub TellsLaw : Type 0
TellsLaw = (f g most : ℕ → ℕ) → Rises (Some f) (Some g) most → RisesUpTo f g most

abbrev pub TellsRefusedLaw : Type 0
TellsRefusedLaw = (f g most : ℕ → ℕ) → RisesTo (Some f) (Some g) most → RisesUpTo f g most

-- peaks that rose twice to what was in use at once did so at once
abbrev pub ChainLaw : Type 0 → Type 0
ChainLaw S =
    (p : Prog S) (most segments : ℕ) (m : Machine S) (f g h : ℕ → ℕ) → Lifts p most segments m f g →
    Lifts p most segments m g h → Lifts p most segments m f h

-- ---- what a core keeps

-- a core as it is made, where each peak is 0
abbrev pub NewLaw : Type 0 → Type 0
NewLaw S = (p : Prog S) (w : World) (most segments : ℕ) (f : ℕ → ℕ) → ((c : ℕ) → f c ≡ 0) →
    IsExplained p (committed (core_new p w)) most segments f (core_new p w)

-- each move keeps it, where peaks rise to what is in use at once, and a full heap that is kept is one that a step met
abbrev pub MoveLaw : Type 0 → Type 0
MoveLaw S =
    (p : Prog S) (start : Machine S) (most segments : ℕ) (k k1 : CoreState S) (f g : ℕ → ℕ) (m : Move S) →
    Good p start most k → IsExplained p start most segments f k → Next p most k m k1
    → Lifts p most segments (committed k) f g → KeepsWanted p most (committed k) m →
    IsExplained p start most segments g k1

-- and each move with what lies outside of the core
abbrev pub OuterLaw : Type 0 → Type 0
OuterLaw S =
    (p : Prog S) (start : Machine S) (most segments : ℕ) (o o1 : Outer S) (f g : ℕ → ℕ) (m : OuterMove S) →
    Good p start most o.core → IsExplained p start most segments f o.core → OuterNext p most o m o1
    → Lifts p most segments (committed o.core) f g → OuterWanted p start most o.core m →
    IsExplained p start most segments g o1.core

-- THE BOUND: where the words reserved are the first two and those of the peaks, and those that a kept full heap tells
-- are at most these, and with its need above the limit that it tells, that limit is below the bound
abbrev pub BoundLaw : Type 0 → Type 0
BoundLaw S =
    (p : Prog S) (start : Machine S) → ((a : ℕ) → start.heap a ≡ None) → (most segments : ℕ) (k : CoreState S)
    (peaks : ℕ → ℕ) → Good p start most k → IsExplained p start most segments peaks k
    → (reserved r n l : ℕ) → reserved ≡ 2 + words_in peaks → k.cause ≡ Some (Full r n l) → r ≤ reserved → l < r + n →
    IsNearlyFull p start most segments l k.history k.image

-- ---- what each call of a core keeps

-- Where peaks rose only to what was in use at moments within the steps of one segment's transaction, from a state of
-- the core on, they rose to what was in use at once, from its committed state on.
abbrev pub WithinLaw : {S : Type 0} → Prog S → (Heap → List S → Type 0) → Type 0
WithinLaw {S} p sound =
    (start : Machine S) → IsStart sound start → (most segments n i : ℕ) (k : CoreState S) → Good p start most k →
    i < segments → (f g : ℕ → ℕ) → RisesWithin p most n segments i k f g → Lifts p most segments (committed k) f g

-- of a call of `advance`, in which peaks rise to what is in use at once, from the committed state on
abbrev pub AdvanceLaw : {S : Type 0} → Prog S → (Heap → List S → Type 0) → Type 0
AdvanceLaw {S} p sound =
    (start : Machine S) → IsStart sound start → (most segments k n asked reserved limit : ℕ) (f g : ℕ → ℕ)
    (o o1 : Outer S) (r : Result Advance AdvanceError) → Good p start most o.core →
    IsExplained p start most segments f o.core → Lifts p most segments (committed o.core) f g
    → Advanced p most k n asked reserved limit o r o1 → IsExplained p start most segments g o1.core

-- of the other calls, which leave the peaks
abbrev pub BeginLaw : Type 0 → Type 0
BeginLaw S =
    (p : Prog S) (start : Machine S) (most segments : ℕ) (f : ℕ → ℕ) (c : CoreState S) → Good p start most c →
    IsExplained p start most segments f c → (k t budget : ℕ) (r : Result (Unit {0}) BeginError) (c1 : CoreState S) →
    Begun p k t budget r c c1 → IsExplained p start most segments f c1

abbrev pub SoloLaw : Type 0 → Type 0
SoloLaw S =
    (p : Prog S) (start : Machine S) (most segments : ℕ) (f : ℕ → ℕ) (o o1 : Outer S) → Good p start most o.core →
    IsExplained p start most segments f o.core → (k : ℕ) (r : Result (Unit {0}) SoloError) → Soloed k r o o1 →
    IsExplained p start most segments f o1.core

abbrev pub CommitLaw : Type 0 → Type 0
CommitLaw S =
    (p : Prog S) (start : Machine S) (most segments : ℕ) (f : ℕ → ℕ) (c : CoreState S) → Good p start most c →
    IsExplained p start most segments f c → (k n : ℕ) (r : Result Commit Conflict) (c1 : CoreState S) →
    Committed p k n r c c1 → IsExplained p start most segments f c1

-- ---- what pieces and the end keep

-- a piece is installed, or given up for want of memory
abbrev pub InstallLaw : Type 0 → Type 0
InstallLaw S =
    (p : Prog S) (start : Machine S) (most segments : ℕ) (f : ℕ → ℕ) (o o1 : Outer S) → Good p start most o.core →
    IsExplained p start most segments f o.core → (k n reserved limit : ℕ) (loaned left : Heap)
    (steps : ℕ) (last : S) (r : Result ℕ AllocError)
    → IsInstalled p most k n reserved limit loaned left steps last r o o1 → IsExplained p start most segments f o1.core

-- a segment is asked for a loan
abbrev pub LoanLaw : Type 0 → Type 0
LoanLaw S =
    (p : Prog S) (start : Machine S) (most segments : ℕ) (f : ℕ → ℕ) (o o1 : Outer S) → Good p start most o.core →
    IsExplained p start most segments f o.core → (k : ℕ) (r : Result (Loan S) LoanError) →
    IsLoaned p most k r o o1 → IsExplained p start most segments f o1.core

-- the solo transaction is committed, if there is one, and what else runs is dropped
abbrev pub EndLaw : Type 0 → Type 0
EndLaw S =
    (p : Prog S) (start : Machine S) (most segments : ℕ) (f : ℕ → ℕ) (o o1 : Outer S) → Good p start most o.core →
    IsExplained p start most segments f o.core → (n : ℕ) → SettlesSolo p n o o1 →
    IsExplained p start most segments f (idle_core o1.core)
