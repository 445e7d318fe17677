use Rattle.py_compile.proofs.PlanBounds.{outside}
use Rattle.py_compile.proofs.statement.+raise_again.Given as goal

abbrev pub decreases-raise_again : goal.decreases-raise_again
decreases-raise_again l = outside l.around.now
