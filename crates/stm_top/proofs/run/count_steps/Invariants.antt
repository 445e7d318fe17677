use Rattle.std.proofs.Common.{◌≡◌, take}
use Rattle.lock_run.specs.RunState.{steps_done}
use Rattle.stm_top.proofs.run.count_steps.Given as goal

abbrev pub invariant-loop-i : goal.invariant-loop-i
invariant-loop-i l = l.sum ≡ steps_done (take l.i l.history.entries)
