use Rattle.std.proofs.Common.{◌≤◌, ◌-◌, length}
use Rattle.stm_top.specs.Script.{TakenSoFar}
use Rattle.stm_top.proofs.script.take_lines.Given as goal

abbrev pub invariant-lines : goal.invariant-lines
invariant-lines g l = (length l.script.items ≤ 4194305) × TakenSoFar l.script.items (g.I.Source.state l.initial.input)
    (g.I.Source.state l.input)

abbrev pub decreases-lines : goal.decreases-lines
decreases-lines g l = 4194305 - length l.script.items
