use Rattle.std.proofs.Common.{◌+◌, ◌*◌}
use Rattle.py_exprs.proofs.expression.+expression+fn-expression-read_by.Given as goal

abbrev pub decreases-expression : goal.decreases-expression
decreases-expression l = 2 * l.budget + 1

abbrev pub decreases-read_by : goal.decreases-read_by
decreases-read_by l = 2 * l.budget
