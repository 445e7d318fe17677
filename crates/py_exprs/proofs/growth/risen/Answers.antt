use Rattle.std.proofs.Common.{arith}
use Rattle.std.proofs.lemmas.Grind.{common_steps}
use Rattle.py_grammar.proofs.AimUnfold.{risen_cases}
use Rattle.py_exprs.proofs.growth.risen.Goals as goal

pub returns-then-grows-clause-value : goal.returns-then-grows-clause-value
returns-then-grows-clause-value c =
    let e = risen_cases c.args.turns c.args.budget c.args.found c.args.tokens.now in
    grind (arith, common_steps)

pub returns-clause-value : goal.returns-clause-value
returns-clause-value c =
    let e = risen_cases c.args.turns c.args.budget c.args.found c.args.tokens.now in
    grind (arith, common_steps)
