use Rattle.std.proofs.Common.{arith}
use Rattle.std.proofs.lemmas.Grind.{common_steps}
use Rattle.py_grammar.specs.inner.Lines.{handlers_at}
use Rattle.py_grammar.specs.inner.Aiming.{readers}
use Rattle.py_parser.specs.inner.Suites.{inner_block}
use Rattle.py_grammar.proofs.Turns.{one_more}
use Rattle.py_parser.proofs.compound.Compound.handlers.Goals as goal

pub returns-in_err-handler : goal.returns-in_err-handler
unfolding handlers_at
returns-in_err-handler g c =
    let e = one_more (λ n. handlers_at (readers c.args.self.now.turns c.args.self.now.budget)
    (inner_block c.args.self.now.turns c.args.self.now.budget) n c.turns.found c.turns.more.now) _ c.turns._turn
    c.turns-test.true c.turns.invariant in
    grind (arith, common_steps)

pub returns-then-not-has_test : goal.returns-then-not-has_test
unfolding handlers_at
returns-then-not-has_test g c =
    let e = one_more (λ n. handlers_at (readers c.args.self.now.turns c.args.self.now.budget)
    (inner_block c.args.self.now.turns c.args.self.now.budget) n c.turns.found c.turns.more.now) _ c.turns._turn
    c.turns-test.true c.turns.invariant in
    grind (arith, common_steps)

pub turns-preserved : goal.turns-preserved
unfolding handlers_at
turns-preserved g c =
    let e = one_more (λ n. handlers_at (readers c.args.self.now.turns c.args.self.now.budget)
    (inner_block c.args.self.now.turns c.args.self.now.budget) n c.turns.found c.turns.more.now) _ c.turns._turn
    c.turns-test.true c.turns.invariant in
    grind (arith, common_steps)
