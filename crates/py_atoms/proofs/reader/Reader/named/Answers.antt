use Rattle.std.proofs.Common.{arith}
use Rattle.std.proofs.lemmas.Grind.{common_steps}
use Rattle.py_grammar.specs.inner.Reading.{reads, named_at}
use Rattle.py_grammar.proofs.Turns.{one_more}
use Rattle.py_atoms.proofs.reader.Reader.named.Goals as goal

pub returns-then-star_next-clause-value : goal.returns-then-star_next-clause-value
unfolding named_at
returns-then-star_next-clause-value g c =
    let e = one_more (λ n. named_at ((reads c.args.self.now.turns c.args.self.now.budget).read 14) n c.turns.found
    c.turns.more.now) _ c.turns._turn c.turns-test.true c.turns.invariant.0 in
    grind (arith, common_steps)

pub returns-in_err-name-clause-value : goal.returns-in_err-name-clause-value
unfolding named_at
returns-in_err-name-clause-value g c =
    let e = one_more (λ n. named_at ((reads c.args.self.now.turns c.args.self.now.budget).read 14) n c.turns.found
    c.turns.more.now) _ c.turns._turn c.turns-test.true c.turns.invariant.0 in
    grind (arith, common_steps)

pub returns-in_err-after-clause-value : goal.returns-in_err-after-clause-value
unfolding named_at
returns-in_err-after-clause-value g c =
    let e = one_more (λ n. named_at ((reads c.args.self.now.turns c.args.self.now.budget).read 14) n c.turns.found
    c.turns.more.now) _ c.turns._turn c.turns-test.true c.turns.invariant.0 in
    grind (arith, common_steps)

pub returns-in_err-value-clause-value : goal.returns-in_err-value-clause-value
unfolding named_at
returns-in_err-value-clause-value g c =
    let e = one_more (λ n. named_at ((reads c.args.self.now.turns c.args.self.now.budget).read 14) n c.turns.found
    c.turns.more.now) _ c.turns._turn c.turns-test.true c.turns.invariant.0 in
    grind (arith, common_steps)

pub turns-preserved : goal.turns-preserved
unfolding named_at
turns-preserved g c =
    let e = one_more (λ n. named_at ((reads c.args.self.now.turns c.args.self.now.budget).read 14) n c.turns.found
    c.turns.more.now) _ c.turns._turn c.turns-test.true c.turns.invariant.0 in
    grind (arith, common_steps)
