use Rattle.std.proofs.Common.{arith}
use Rattle.std.proofs.lemmas.Grind.{common_steps}
use Rattle.py_exprs.proofs.Unfold.{read_up, after_up}
use Rattle.py_exprs.proofs.expression.read_by.Goals as goal

pub returns-in-Level-clause-value : goal.returns-in-Level-clause-value
returns-in-Level-clause-value g c =
    let e = read_up c.args.turns c.args.budget c.in-Level.level c.args.tokens.now in
    grind (arith, common_steps)

pub returns-clause-value : goal.returns-clause-value
returns-clause-value g c =
    let e = after_up c.args.turns c.args.budget c.in-After.test c.args.tokens.now in
    grind (arith, common_steps)
