use Rattle.std.proofs.Common.{arith}
use Rattle.std.proofs.lemmas.Grind.{common_steps}
use Rattle.py_grammar.specs.inner.Reading.{reads, pairs_at}
use Rattle.py_grammar.proofs.Turns.{one_more}
use Rattle.py_atoms.proofs.reader.Reader.pairs.Goals as goal

pub returns-then-not-comes-clause-value : goal.returns-then-not-comes-clause-value
unfolding pairs_at
returns-then-not-comes-clause-value g c =
    let e = one_more (λ n. pairs_at ((reads c.args.self.now.turns c.args.self.now.budget).read 14) n c.turns.found
    c.turns.more.now) _ c.turns._turn c.turns-test.true c.turns.invariant.0 in
    grind (arith, common_steps)

pub returns-in_err-key-clause-value : goal.returns-in_err-key-clause-value
unfolding pairs_at
returns-in_err-key-clause-value g c =
    let e = one_more (λ n. pairs_at ((reads c.args.self.now.turns c.args.self.now.budget).read 14) n c.turns.found
    c.turns.more.now) _ c.turns._turn c.turns-test.true c.turns.invariant.0 in
    grind (arith, common_steps)

pub returns-in_err-after-clause-value : goal.returns-in_err-after-clause-value
unfolding pairs_at
returns-in_err-after-clause-value g c =
    let e = one_more (λ n. pairs_at ((reads c.args.self.now.turns c.args.self.now.budget).read 14) n c.turns.found
    c.turns.more.now) _ c.turns._turn c.turns-test.true c.turns.invariant.0 in
    grind (arith, common_steps)

pub returns-in_err-value-clause-value : goal.returns-in_err-value-clause-value
unfolding pairs_at
returns-in_err-value-clause-value g c =
    let e = one_more (λ n. pairs_at ((reads c.args.self.now.turns c.args.self.now.budget).read 14) n c.turns.found
    c.turns.more.now) _ c.turns._turn c.turns-test.true c.turns.invariant.0 in
    grind (arith, common_steps)

pub turns-preserved : goal.turns-preserved
unfolding pairs_at
turns-preserved g c =
    let e = one_more (λ n. pairs_at ((reads c.args.self.now.turns c.args.self.now.budget).read 14) n c.turns.found
    c.turns.more.now) _ c.turns._turn c.turns-test.true c.turns.invariant.0 in
    grind (arith, common_steps)
