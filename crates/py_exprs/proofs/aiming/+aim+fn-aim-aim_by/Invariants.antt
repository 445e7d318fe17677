use Rattle.std.proofs.Common.{◌+◌, ◌*◌}
use Rattle.py_exprs.proofs.aiming.+aim+fn-aim-aim_by.Given as goal

abbrev pub decreases-aim : goal.decreases-aim
decreases-aim l = 2 * l.budget + 1

abbrev pub decreases-aim_by : goal.decreases-aim_by
decreases-aim_by l = 2 * l.budget
