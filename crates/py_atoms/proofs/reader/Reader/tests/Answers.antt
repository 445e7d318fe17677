use Rattle.std.proofs.Common.{arith}
use Rattle.std.proofs.lemmas.Grind.{common_steps}
use Rattle.py_grammar.specs.inner.Reading.{reads, tests_at}
use Rattle.py_grammar.proofs.Turns.{one_more}
use Rattle.py_atoms.proofs.reader.Reader.tests.Goals as goal

pub returns-then-not-comes-clause-value : goal.returns-then-not-comes-clause-value
unfolding tests_at
returns-then-not-comes-clause-value g c =
    let e = one_more (λ n. tests_at ((reads c.args.self.now.turns c.args.self.now.budget).read 14) n c.turns.found
    c.turns.more.now) _ c.turns._turn c.turns-test.true c.turns.invariant.0 in
    grind (arith, common_steps)

pub returns-in_err-test-clause-value : goal.returns-in_err-test-clause-value
unfolding tests_at
returns-in_err-test-clause-value g c =
    let e = one_more (λ n. tests_at ((reads c.args.self.now.turns c.args.self.now.budget).read 14) n c.turns.found
    c.turns.more.now) _ c.turns._turn c.turns-test.true c.turns.invariant.0 in
    grind (arith, common_steps)

pub turns-preserved : goal.turns-preserved
unfolding tests_at
turns-preserved g c =
    let e = one_more (λ n. tests_at ((reads c.args.self.now.turns c.args.self.now.budget).read 14) n c.turns.found
    c.turns.more.now) _ c.turns._turn c.turns-test.true c.turns.invariant.0 in
    grind (arith, common_steps)
