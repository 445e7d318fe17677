use Rattle.std.proofs.Common.{arith}
use Rattle.std.proofs.lemmas.Grind.{common_steps}
use Rattle.py_exprs.proofs.Unfold.{at_zero}
use Rattle.py_exprs.proofs.expression.+expression+fn-expression-read_by.Goals as goal

pub returns-then-budget-eq0-clause-value : goal.returns-then-budget-eq0-clause-value
returns-then-budget-eq0-clause-value t c =
    let e = at_zero c.args.turns c.args.request c.args.tokens.now in
    grind (arith, common_steps)
