use Rattle.std.proofs.Common.{arith}
use Rattle.std.proofs.lemmas.Grind.{common_steps}
use Rattle.py_parser.proofs.Suites.{statements_none, statements_up}
use Rattle.py_parser.proofs.suite.+fn-statement-statement_by+statement.Goals as goal

pub returns-then-budget-eq0 : goal.returns-then-budget-eq0
returns-then-budget-eq0 t c =
    let e = statements_none c.args.turns c.args.tokens.now in
    grind (arith, common_steps)

pub returns : goal.returns
returns t c =
    let e = statements_up c.args.turns c.args.budget c.args.tokens.now (omega arith) in
    grind (arith, common_steps)
