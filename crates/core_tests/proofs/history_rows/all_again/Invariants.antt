use Rattle.lock_run.specs.LockState.{lock_state, IsSound}
use Rattle.lock_run.specs.Script.{ScriptSound}
use Rattle.stm_io.specs.Memory.{mem_sink_state, mem_source_state}
use Rattle.core_tests.proofs.history_rows.all_again.Given as goal

abbrev pub invariant-turns : goal.invariant-turns
invariant-turns g l = IsSound ScriptSound (lock_state mem_source_state mem_sink_state mem_sink_state l.run)
