use Rattle.std.proofs.Common.{arith}
use Rattle.std.proofs.lemmas.Grind.{common_steps}
use Rattle.py_grammar.specs.inner.Lines.{body_more, statements_at}
use Rattle.py_grammar.proofs.Turns.{one_more}
use Rattle.py_parser.proofs.suite.body.Goals as goal

pub returns-in_err-statements : goal.returns-in_err-statements
unfolding body_more
returns-in_err-statements c =
    let e = one_more (λ n. body_more (statements_at c.args.turns 99) n c.turns.found c.turns.more.now) _ c.turns._turn
    c.turns-test.true c.turns.invariant in
    grind (arith, common_steps)

pub turns-preserved : goal.turns-preserved
unfolding body_more
turns-preserved c =
    let e = one_more (λ n. body_more (statements_at c.args.turns 99) n c.turns.found c.turns.more.now) _ c.turns._turn
    c.turns-test.true c.turns.invariant in
    grind (arith, common_steps)
