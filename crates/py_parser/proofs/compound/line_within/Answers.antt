use Rattle.std.proofs.Common.{arith}
use Rattle.std.proofs.lemmas.Grind.{common_steps}
use Rattle.py_parser.proofs.Suites.{line_none, line_up}
use Rattle.py_parser.proofs.compound.line_within.Goals as goal

pub returns-then-budget-eq0 : goal.returns-then-budget-eq0
returns-then-budget-eq0 c =
    let e = line_none c.args.turns c.args.tokens.now in
    grind (arith, common_steps)

pub returns : goal.returns
returns c =
    let e = line_up c.args.turns c.args.budget c.args.tokens.now (omega arith) in
    grind (arith, common_steps)
