use Rattle.std.proofs.Common.{arith}
use Rattle.std.proofs.lemmas.Grind.{common_steps}
use Rattle.py_grammar.specs.inner.Aiming.{aim_at, elements_at}
use Rattle.py_grammar.proofs.Turns.{one_more}
use Rattle.py_exprs.proofs.aiming.Aiming.elements.Goals as goal

pub returns-then-not-op_next-clause-value : goal.returns-then-not-op_next-clause-value
unfolding elements_at
returns-then-not-op_next-clause-value g c =
    let e = one_more (λ n. elements_at (aim_at c.args.self.now.turns c.args.self.now.room) c.args.self.now.turns
    c.args.self.now.room n c.turns.found c.turns.more.now) _ c.turns._turn c.turns-test.true c.turns.invariant.0 in
    grind (arith, common_steps)

pub returns-then-not-is_fine-clause-value : goal.returns-then-not-is_fine-clause-value
unfolding elements_at
returns-then-not-is_fine-clause-value g c =
    let e = one_more (λ n. elements_at (aim_at c.args.self.now.turns c.args.self.now.room) c.args.self.now.turns
    c.args.self.now.room n c.turns.found c.turns.more.now) _ c.turns._turn c.turns-test.true c.turns.invariant.0 in
    grind (arith, common_steps)

pub returns-then-not-comes-clause-value : goal.returns-then-not-comes-clause-value
unfolding elements_at
returns-then-not-comes-clause-value g c =
    let e = one_more (λ n. elements_at (aim_at c.args.self.now.turns c.args.self.now.room) c.args.self.now.turns
    c.args.self.now.room n c.turns.found c.turns.more.now) _ c.turns._turn c.turns-test.true c.turns.invariant.0 in
    grind (arith, common_steps)

pub returns-in_err-test-clause-value : goal.returns-in_err-test-clause-value
unfolding elements_at
returns-in_err-test-clause-value g c =
    let e = one_more (λ n. elements_at (aim_at c.args.self.now.turns c.args.self.now.room) c.args.self.now.turns
    c.args.self.now.room n c.turns.found c.turns.more.now) _ c.turns._turn c.turns-test.true c.turns.invariant.0 in
    grind (arith, common_steps)

pub turns-preserved : goal.turns-preserved
unfolding elements_at
turns-preserved g c =
    let e = one_more (λ n. elements_at (aim_at c.args.self.now.turns c.args.self.now.room) c.args.self.now.turns
    c.args.self.now.room n c.turns.found c.turns.more.now) _ c.turns._turn c.turns-test.true c.turns.invariant.0 in
    grind (arith, common_steps)
