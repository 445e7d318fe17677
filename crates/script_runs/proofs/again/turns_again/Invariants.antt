use Rattle.lock_run.specs.LockState.{lock_state, lock_client, IsSound}
use Rattle.py_frames.specs.Sound.{Sound}
use Rattle.py_step.specs.Client.{program_in}
use Rattle.stm_io.specs.Memory.{sure_sink_state, sure_source_state}
use Rattle.script_runs.proofs.again.turns_again.Given as goal

abbrev pub invariant-turns : goal.invariant-turns
invariant-turns l = IsSound (Sound (program_in (lock_client l.run)))
    (lock_state sure_source_state sure_sink_state sure_sink_state l.run)
