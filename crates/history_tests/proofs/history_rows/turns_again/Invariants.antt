use Rattle.lock_run.specs.LockState.{lock_state, lock_client, IsSound}
use Rattle.py_frames.specs.Sound.{Sound}
use Rattle.py_step.specs.Client.{program_in}
use Rattle.stm_io.specs.Memory.{mem_sink_state, mem_source_state}
use Rattle.history_tests.proofs.history_rows.turns_again.Given as goal

abbrev pub invariant-turns : goal.invariant-turns
invariant-turns g l = IsSound (Sound (program_in (lock_client l.run)))
    (lock_state mem_source_state mem_sink_state mem_sink_state l.run)
