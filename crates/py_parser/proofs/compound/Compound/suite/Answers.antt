use Rattle.std.proofs.Common.{arith, ◌-◌}
use Rattle.std.proofs.lemmas.Grind.{common_steps}
use Rattle.py_grammar.specs.inner.Lines.{suite_at, statements_at}
use Rattle.py_grammar.proofs.Turns.{one_more}
use Rattle.py_parser.proofs.compound.Compound.suite.Goals as goal

pub returns-in_err-statements : goal.returns-in_err-statements
unfolding suite_at
returns-in_err-statements g c =
    let e = one_more (λ n. suite_at (statements_at c.args.self.now.turns (c.args.self.now.budget - 1)) n c.turns.found
    c.turns.more.now) _ c.turns._turn c.turns-test.true c.turns.invariant in
    grind (arith, common_steps)

pub returns-then-dedent_next : goal.returns-then-dedent_next
unfolding suite_at
returns-then-dedent_next g c =
    let e = one_more (λ n. suite_at (statements_at c.args.self.now.turns (c.args.self.now.budget - 1)) n c.turns.found
    c.turns.more.now) _ c.turns._turn c.turns-test.true c.turns.invariant in
    grind (arith, common_steps)

pub turns-preserved : goal.turns-preserved
unfolding suite_at
turns-preserved g c =
    let e = one_more (λ n. suite_at (statements_at c.args.self.now.turns (c.args.self.now.budget - 1)) n c.turns.found
    c.turns.more.now) _ c.turns._turn c.turns-test.true c.turns.invariant in
    grind (arith, common_steps)
