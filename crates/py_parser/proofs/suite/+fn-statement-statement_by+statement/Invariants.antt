use Rattle.std.proofs.Common.{◌+◌, ◌*◌}
use Rattle.py_parser.proofs.suite.+fn-statement-statement_by+statement.Given as goal

abbrev pub decreases-statement : goal.decreases-statement
decreases-statement l = 2 * l.budget + 1

abbrev pub decreases-statement_by : goal.decreases-statement_by
decreases-statement_by l = 2 * l.budget
