-- How a run's end shows in the machine to which the history leads, and what follows from how that machine stands.
use Rattle.std.proofs.Common.{◌≡◌, ℕ, ◌<◌, ◌≤◌, List, Option, Result, Ok, Err, refl, arith}
use Rattle.std.specs.Prelude.{IsSome}
use Rattle.py_data.specs.declared.stop.Conflict.{Conflict}
use Rattle.py_data.specs.World.{World}
use Rattle.stm_io.specs.declared.error.PutError.{PutError}
use Rattle.stm_io.specs.declared.error.PutError.TheVariants.{Failed as PutFailed, OutOfMemory as PutMemory}
use Rattle.stm_io.specs.Outside.{SourceState, SinkState, Rose, PutCause}
use Rattle.lock_run.specs.declared.turn.Turn.{Turn}
use Rattle.lock_run.specs.Prog.{Prog}
use Rattle.lock_run.specs.RunState.{steps_done, first_world, SomeLives, SomeReady, IsDone, IsStuck, AllWait}
use Rattle.lock_run.specs.Machine.{Machine, begin_with}
use Rattle.stm_segment.specs.declared.cause.Cause.TheVariants.{ReadFault, WriteFault, ErrFault}
use Rattle.stm_core.specs.Events.{Limits}
use Rattle.heap_bound.specs.Growth.{IsNearlyFull}
use Rattle.stm_top.specs.declared.status.Status.{Status}
use Rattle.stm_top.specs.declared.status.Status.TheVariants as status
use Rattle.stm_top.specs.Serial.{Ended, Whole, Cut, IsWhole, Serial}
use Rattle.stm_top.specs.TopCall.{Devices, Faults, faults_of}
use Rattle.top_laws.specs.Ends.{AtUntaken, StandsAt, EndsItself, AtDone, AtStuck, AtReady, AtFinished, AtComplete}
use Rattle.top_laws.specs.Known.{HasRoom, NoneRose}
use Rattle.top_laws.proofs.Opening.{EndedAt}
use Rattle.top_laws.proofs.Keeping.{cut_lives}

-- ---- the run's end

pub run_stands : {S : Type 0} (p : Prog S) (length : ℕ) (input : SourceState) (out err : Option (List ℕ))
    (history : List Turn)
    (conflicts : List Conflict) (input1 : SourceState) (out1 err1 : Option (List ℕ)) (l : Limits) (f g : Faults)
    (r : Serial p length input out err history conflicts input1 out1 err1) (x : Status) → IsSome input.told →
    EndedAt x l f g r → StandsAt p l.budget history r.machine x
run_stands p length input out err history conflicts input1 out1 err1 l f g r status.Done k h = (h.1, h.2)
run_stands p length input out err history conflicts input1 out1 err1 l f g r status.Failed k h = (h.1, h.2)
run_stands p length input out err history conflicts input1 out1 err1 l f g r status.InputFailed k h =
    cut_lives p (begin_with p (first_world input.told input.ends)) history r.machine r.machine.world r.told ReadFault
    r.ended k r.run
    h.0
run_stands p length input out err history conflicts input1 out1 err1 l f g r status.OutputFailed k h =
    cut_lives p (begin_with p (first_world input.told input.ends)) history r.machine r.machine.world r.told WriteFault
    r.ended k r.run
    h.0
run_stands p length input out err history conflicts input1 out1 err1 l f g r status.ErrorOutputFailed k h =
    cut_lives p (begin_with p (first_world input.told input.ends)) history r.machine r.machine.world r.told ErrFault
    r.ended k r.run
    h.0
run_stands p length input out err history conflicts input1 out1 err1 l f g r status.HeapFull k h = h.0
run_stands p length input out err history conflicts input1 out1 err1 l f g r status.Stuck k h = h.1
run_stands p length input out err history conflicts input1 out1 err1 l f g r status.BudgetSpent k h = h.1
run_stands p length input out err history conflicts input1 out1 err1 l f g r status.OutOfMemory k h = h
run_stands p length input out err history conflicts input1 out1 err1 l f g r _ k h = absurd h

-- at 8 the heap was nearly full
abbrev pub FullAt : {S : Type 0} → Prog S → Limits → Machine S → List Turn → Machine S → Status → Type 0
FullAt p l first history m status.HeapFull = IsNearlyFull p first l.length l.segments l.words history m.heap
FullAt p l first history m _ = Unit {0}

pub run_full : {S : Type 0} (p : Prog S) (length : ℕ) (input : SourceState) (out err : Option (List ℕ))
    (history : List Turn)
    (conflicts : List Conflict) (input1 : SourceState) (out1 err1 : Option (List ℕ)) (l : Limits) (f g : Faults)
    (r : Serial p length input out err history conflicts input1 out1 err1) (x : Status) → EndedAt x l f g r →
    FullAt p l (begin_with p (first_world input.told input.ends)) history r.machine x
run_full p length input out err history conflicts input1 out1 err1 l f g r status.HeapFull h = h.1
run_full p length input out err history conflicts input1 out1 err1 l f g r _ h = tt

-- at 5, 6 and 7 the count of that device rose
abbrev pub CountAt : Devices → Devices → Status → Type 0
CountAt a b status.InputFailed = Rose a.input.faults b.input.faults
CountAt a b status.OutputFailed = Rose a.out.faults b.out.faults
CountAt a b status.ErrorOutputFailed = Rose a.err.faults b.err.faults
CountAt a b _ = Unit {0}

pub run_counts : {S : Type 0} (p : Prog S) (length : ℕ) (input : SourceState) (out err : Option (List ℕ))
    (history : List Turn)
    (conflicts : List Conflict) (input1 : SourceState) (out1 err1 : Option (List ℕ)) (l : Limits) (a b : Devices)
    (r : Serial p length input out err history conflicts input1 out1 err1) (x : Status) →
    EndedAt x l (faults_of a) (faults_of b) r → CountAt a b x
run_counts p length input out err history conflicts input1 out1 err1 l a b r status.InputFailed h = h.1
run_counts p length input out err history conflicts input1 out1 err1 l a b r status.OutputFailed h = h.1
run_counts p length input out err history conflicts input1 out1 err1 l a b r status.ErrorOutputFailed h = h.1
run_counts p length input out err history conflicts input1 out1 err1 l a b r _ h = tt

put_grows : (x y : ℕ) (r : Result (Unit {0}) PutError) → PutCause x y r → x ≤ y
put_grows x y (Ok u) h = h
put_grows x y (Err PutFailed) h = h.0
put_grows x y (Err PutMemory) h = h

rose_on : (n x y : ℕ) → Rose n x → x ≤ y → Rose n y
rose_on n x y h k = omega arith

-- and it stays so where the text was put to the error output
pub counts_on : (a b : Devices) (s : SinkState) (r : Result (Unit {0}) PutError) (x : Status) →
    PutCause s.faults b.err.faults r → CountAt a (record b { err = s }) x → CountAt a b x
counts_on a b s r status.InputFailed k h = h
counts_on a b s r status.OutputFailed k h = h
counts_on a b s r status.ErrorOutputFailed k h =
    rose_on a.err.faults s.faults b.err.faults h (put_grows s.faults b.err.faults r k)
counts_on a b s r _ k h = tt

-- ---- what the devices were told

pub whole_told : {S : Type 0} (p : Prog S) (first : Machine S) (history : List Turn) (w told : World)
    (e : Ended p first history w told) → IsWhole e → told ≡ w
whole_told p first history w told (Whole e) h = e
whole_told p first history w told (Cut b e) h = absurd h

-- ---- how a machine stands

lives_or_done : {S : Type 0} (p : Prog S) (m : Machine S) → SomeLives p m → IsDone p m → ⊥
lives_or_done p m l d = d l.0 l.1 l.2 l.3

ready_lives : {S : Type 0} (p : Prog S) (m : Machine S) → SomeReady p m → SomeLives p m
ready_lives p m r = (r.0, r.1, r.2, r.3.0)

ready_or_stuck : {S : Type 0} (p : Prog S) (m : Machine S) → SomeReady p m → AllWait p m → ⊥
ready_or_stuck p m r h = let z = h r.0 r.1 r.2 r.3.0 m.world in r.3.1 m.world z.0 z.1 z.2

-- how a machine stands tells the status of a run that came to its end by itself
pub one_status : {S : Type 0} (p : Prog S) (m : Machine S) (budget budget1 : ℕ) (history history1 : List Turn)
    (x y : Status) → StandsAt p budget history m x → StandsAt p budget1 history1 m y → EndsItself x → EndsItself y →
    x ≡ y
one_status p m b c h i status.Done status.Done j k e f = refl
one_status p m b c h i status.Done status.Failed j k e f = absurd (j.1 k.1)
one_status p m b c h i status.Done status.Stuck j k e f = absurd (lives_or_done p m k.0 j.0)
one_status p m b c h i status.Done status.BudgetSpent j k e f = absurd (lives_or_done p m (ready_lives p m k.0) j.0)
one_status p m b c h i status.Failed status.Done j k e f = absurd (k.1 j.1)
one_status p m b c h i status.Failed status.Failed j k e f = refl
one_status p m b c h i status.Failed status.Stuck j k e f = absurd (lives_or_done p m k.0 j.0)
one_status p m b c h i status.Failed status.BudgetSpent j k e f = absurd (lives_or_done p m (ready_lives p m k.0) j.0)
one_status p m b c h i status.Stuck status.Done j k e f = absurd (lives_or_done p m j.0 k.0)
one_status p m b c h i status.Stuck status.Failed j k e f = absurd (lives_or_done p m j.0 k.0)
one_status p m b c h i status.Stuck status.Stuck j k e f = refl
one_status p m b c h i status.Stuck status.BudgetSpent j k e f = absurd (ready_or_stuck p m k.0 j.1)
one_status p m b c h i status.BudgetSpent status.Done j k e f = absurd (lives_or_done p m (ready_lives p m j.0) k.0)
one_status p m b c h i status.BudgetSpent status.Failed j k e f = absurd (lives_or_done p m (ready_lives p m j.0) k.0)
one_status p m b c h i status.BudgetSpent status.Stuck j k e f = absurd (ready_or_stuck p m j.0 k.1)
one_status p m b c h i status.BudgetSpent status.BudgetSpent j k e f = refl
one_status p m b c h i status.Done y j k e f = absurd f
one_status p m b c h i status.Failed y j k e f = absurd f
one_status p m b c h i status.Stuck y j k e f = absurd f
one_status p m b c h i status.BudgetSpent y j k e f = absurd f
one_status p m b c h i x y j k e f = absurd e

module _ {S : Type 0} (p : Prog S) (budget : ℕ) (history : List Turn) (m : Machine S) where
  pub where_done : (x : Status) → StandsAt p budget history m x → IsDone p m → AtDone p m x
  where_done status.Done h d = h.1
  where_done status.Failed h d = h.1
  where_done status.InputFailed h d = absurd (lives_or_done p m h d)
  where_done status.OutputFailed h d = absurd (lives_or_done p m h d)
  where_done status.ErrorOutputFailed h d = absurd (lives_or_done p m h d)
  where_done status.HeapFull h d = absurd (lives_or_done p m h d)
  where_done status.Stuck h d = absurd (lives_or_done p m h.0 d)
  where_done status.BudgetSpent h d = absurd (lives_or_done p m (ready_lives p m h.0) d)
  where_done status.OutOfMemory h d = absurd (lives_or_done p m h d)
  where_done _ h d = absurd h

  pub where_stuck : (a b : Devices) (x : Status) → StandsAt p budget history m x → CountAt a b x → IsStuck p m →
      AtStuck a b x
  where_stuck a b status.Done h k s = absurd (lives_or_done p m s.0 h.0)
  where_stuck a b status.Failed h k s = absurd (lives_or_done p m s.0 h.0)
  where_stuck a b status.InputFailed h k s = k
  where_stuck a b status.OutputFailed h k s = k
  where_stuck a b status.ErrorOutputFailed h k s = k
  where_stuck a b status.BudgetSpent h k s = absurd (ready_or_stuck p m h.0 s.1)
  where_stuck a b status.HeapFull h k s = tt
  where_stuck a b status.Stuck h k s = tt
  where_stuck a b status.OutOfMemory h k s = tt
  where_stuck a b _ h k s = absurd h

  pub where_ready : (a b : Devices) (x : Status) → StandsAt p budget history m x → CountAt a b x → SomeReady p m →
      AtReady budget history a b x
  where_ready a b status.Done h k s = absurd (lives_or_done p m (ready_lives p m s) h.0)
  where_ready a b status.Failed h k s = absurd (lives_or_done p m (ready_lives p m s) h.0)
  where_ready a b status.InputFailed h k s = k
  where_ready a b status.OutputFailed h k s = k
  where_ready a b status.ErrorOutputFailed h k s = k
  where_ready a b status.BudgetSpent h k s = h.1
  where_ready a b status.HeapFull h k s = tt
  where_ready a b status.Stuck h k s = absurd (ready_or_stuck p m s h.1)
  where_ready a b status.OutOfMemory h k s = tt
  where_ready a b _ h k s = absurd h

  -- where nothing stands in the way
  module _ (l : Limits) (first : Machine S) where
    pub where_free : (a b : Devices) (x : Status) → StandsAt p budget history m x → FullAt p l first history m x →
        CountAt a b x → NoneRose a b → (IsStuck p m → ⊥) → steps_done history < budget →
        AtFinished p l first history m x
    where_free a b status.Done h f k none go below = h
    where_free a b status.Failed h f k none go below = h
    where_free a b status.InputFailed h f k none go below = absurd (none.input k)
    where_free a b status.OutputFailed h f k none go below = absurd (none.out k)
    where_free a b status.ErrorOutputFailed h f k none go below = absurd (none.err k)
    where_free a b status.HeapFull h f k none go below = (h, f)
    where_free a b status.Stuck h f k none go below = absurd (go h)
    where_free a b status.BudgetSpent h f k none go below = let spent = h.1 in absurd (omega arith)
    where_free a b status.OutOfMemory h f k none go below = tt
    where_free a b _ h f k none go below = absurd h

    -- and where nothing ran
    pub where_idle : (a b : Devices) (x : Status) → AtUntaken a b x → NoneRose a b → AtFinished p l first history m x
    where_idle a b status.LoaderFailed h none = absurd (none.loader h)
    where_idle a b status.InputFailed h none = absurd (none.input h)
    where_idle a b status.OutOfMemory h none = tt
    where_idle a b _ h none = absurd h

    -- and there is room for all
    pub where_roomy : (x : Status) → AtFinished p l first history m x → HasRoom p l first history m →
        AtComplete p m x
    where_roomy status.Done h room = h
    where_roomy status.Failed h room = h
    where_roomy status.HeapFull h room =
        let full = h.1 room.bound room.bounds in
        let enough = room.room in
        absurd (omega arith)
    where_roomy status.OutOfMemory h room = tt
    where_roomy _ h room = absurd h
