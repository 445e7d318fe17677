-- What a LockRun holds, as values. States `docs/HEAP.md`, "The one-lock machine".
use Rattle.std.specs.Prelude.{◌≡◌, List, ◌++◌}
use Rattle.py_data.specs.Heap.{Heap}
use Rattle.stm_io.specs.Outside.{SourceState, SinkState}
use Rattle.lock_run.specs.declared.machine.LockRun.{LockRun}
use Rattle.lock_run.specs.PlainSense.{plain_state}
use Rattle.lock_run.specs.Turns.{LockState}

-- the view of a LockRun, and its threads: those that its last step started come last, and the view has them still
abbrev pub lock_state : {C S I O E : Type 0} → (I → SourceState) → (O → SinkState) → (E → SinkState) →
    LockRun C I O E S → LockState S
lock_state input out err run = record {
  view = plain_state input out err run.view;
  threads =
      run.threads ++ run.view.started;
}

-- what a LockRun holds where no thread was started that hasn't moved to the others
abbrev pub moved_state : {C S I O E : Type 0} → (I → SourceState) → (O → SinkState) → (E → SinkState) →
    LockRun C I O E S → LockState S
moved_state input out err run = record { view = plain_state input out err run.view; threads = run.threads }

-- its client
abbrev pub lock_client : {C S I O E : Type 0} → LockRun C I O E S → C
lock_client run = run.client.now

-- the states of the threads stand over the heap
abbrev pub IsSound : {S : Type 0} → (Heap → List S → Type 0) → LockState S → Type 0
IsSound sound s = sound s.view.heap s.threads

-- the devices of a machine are these, as far as they tell of themselves
pub record HasDevices {S : Type 0} (s : LockState S) (source : SourceState) (sink error_sink : SinkState) : Type 0 where
  pub input : s.view.input ≡ source.told
  pub ends : s.view.ends ≡ source.ends
  pub out : s.view.out ≡ sink.told
  pub err : s.view.err ≡ error_sink.told
  pub reads : s.view.reads ≡ source.faults
  pub writes : s.view.writes ≡ sink.faults
  pub errs : s.view.errs ≡ error_sink.faults
