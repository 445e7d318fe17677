use Rattle.std.proofs.Common.{arith}
use Rattle.std.proofs.lemmas.Grind.{common_steps}
use Rattle.py_grammar.proofs.AimUnfold.{aim_none_at}
use Rattle.py_exprs.proofs.aiming.+aim+fn-aim-aim_by.Goals as goal

pub returns-then-starts-clause-value : goal.returns-then-starts-clause-value
returns-then-starts-clause-value t c =
    let e = aim_none_at c.args.turns c.args.tokens.now in
    grind (arith, common_steps)

pub returns-then-budget-eq0-clause-value : goal.returns-then-budget-eq0-clause-value
returns-then-budget-eq0-clause-value t c =
    let e = aim_none_at c.args.turns c.args.tokens.now in
    grind (arith, common_steps)
