use Rattle.std.proofs.Common.{arith}
use Rattle.std.proofs.lemmas.Grind.{common_steps}
use Rattle.py_grammar.specs.inner.Lines.{params_at}
use Rattle.py_grammar.specs.inner.Aiming.{readers}
use Rattle.py_grammar.proofs.Turns.{one_more}
use Rattle.py_parser.proofs.header.params.Goals as goal

pub returns-in_err-param : goal.returns-in_err-param
unfolding params_at
returns-in_err-param c =
    let e = one_more (λ n. params_at (readers c.args.turns c.args.budget) n c.turns.later c.turns.found
    c.turns.more.now) _ c.turns._turn c.turns-test.true c.turns.invariant in
    grind (arith, common_steps)

pub turns-preserved : goal.turns-preserved
unfolding params_at
turns-preserved c =
    let e = one_more (λ n. params_at (readers c.args.turns c.args.budget) n c.turns.later c.turns.found
    c.turns.more.now) _ c.turns._turn c.turns-test.true c.turns.invariant in
    grind (arith, common_steps)
