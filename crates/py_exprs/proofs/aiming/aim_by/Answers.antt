use Rattle.std.proofs.Common.{arith}
use Rattle.std.proofs.lemmas.Grind.{common_steps}
use Rattle.py_grammar.proofs.AimUnfold.{aim_up}
use Rattle.py_exprs.proofs.aiming.aim_by.Goals as goal

pub returns-clause-value : goal.returns-clause-value
returns-clause-value g c =
    let e = aim_up c.args.turns c.args.room c.args.tokens.now in
    grind (arith, common_steps)
