use Rattle.std.proofs.Common.{arith}
use Rattle.std.proofs.lemmas.Grind.{common_steps}
use Rattle.py_grammar.specs.inner.Lines.{loops_at}
use Rattle.py_grammar.specs.inner.Aiming.{readers}
use Rattle.py_grammar.proofs.Turns.{one_more}
use Rattle.py_parser.proofs.header.loop_targets.Goals as goal

pub returns-then-not-comes-clause-value : goal.returns-then-not-comes-clause-value
unfolding loops_at
returns-then-not-comes-clause-value c =
    let e = one_more (λ n. loops_at (readers c.args.turns c.args.budget) n c.turns.found c.turns.more.now) _
    c.turns._turn c.turns-test.true c.turns.invariant.0 in
    grind (arith, common_steps)

pub returns-in_err-next-clause-value : goal.returns-in_err-next-clause-value
unfolding loops_at
returns-in_err-next-clause-value c =
    let e = one_more (λ n. loops_at (readers c.args.turns c.args.budget) n c.turns.found c.turns.more.now) _
    c.turns._turn c.turns-test.true c.turns.invariant.0 in
    grind (arith, common_steps)

pub turns-preserved : goal.turns-preserved
unfolding loops_at
turns-preserved c =
    let e = one_more (λ n. loops_at (readers c.args.turns c.args.budget) n c.turns.found c.turns.more.now) _
    c.turns._turn c.turns-test.true c.turns.invariant.0 in
    grind (arith, common_steps)
