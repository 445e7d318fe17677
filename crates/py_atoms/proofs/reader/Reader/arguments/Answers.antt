use Rattle.std.proofs.Common.{arith}
use Rattle.std.proofs.lemmas.Grind.{common_steps}
use Rattle.py_grammar.specs.inner.Reading.{reads, args_at}
use Rattle.py_grammar.proofs.Turns.{one_more}
use Rattle.py_atoms.proofs.reader.Reader.arguments.Goals as goal

pub returns-then-star_next-clause-value : goal.returns-then-star_next-clause-value
unfolding args_at
returns-then-star_next-clause-value g c =
    let e = one_more (λ n. args_at ((reads c.args.self.now.turns c.args.self.now.budget).read 14) n c.turns.found
    c.turns.more.now) _ c.turns.turn c.turns-test.true c.turns.invariant.0 in
    grind (arith, common_steps)

pub returns-in_err-test-clause-value : goal.returns-in_err-test-clause-value
unfolding args_at
returns-in_err-test-clause-value g c =
    let e = one_more (λ n. args_at ((reads c.args.self.now.turns c.args.self.now.budget).read 14) n c.turns.found
    c.turns.more.now) _ c.turns.turn c.turns-test.true c.turns.invariant.0 in
    grind (arith, common_steps)

pub returns-in-Some-clause-value : goal.returns-in-Some-clause-value
unfolding args_at
returns-in-Some-clause-value g c =
    let e = one_more (λ n. args_at ((reads c.args.self.now.turns c.args.self.now.budget).read 14) n c.turns.found
    c.turns.more.now) _ c.turns.turn c.turns-test.true c.turns.invariant.0 in
    grind (arith, common_steps)

pub returns-then-keyword_next-clause-value : goal.returns-then-keyword_next-clause-value
unfolding args_at
returns-then-keyword_next-clause-value g c =
    let e = one_more (λ n. args_at ((reads c.args.self.now.turns c.args.self.now.budget).read 14) n c.turns.found
    c.turns.more.now) _ c.turns.turn c.turns-test.true c.turns.invariant.0 in
    grind (arith, common_steps)

pub returns-then-not-op_next-clause-value : goal.returns-then-not-op_next-clause-value
unfolding args_at
returns-then-not-op_next-clause-value g c =
    let e = one_more (λ n. args_at ((reads c.args.self.now.turns c.args.self.now.budget).read 14) n c.turns.found
    c.turns.more.now) _ c.turns.turn c.turns-test.true c.turns.invariant.0 in
    grind (arith, common_steps)

pub returns-then-op_next-clause-value : goal.returns-then-op_next-clause-value
unfolding args_at
returns-then-op_next-clause-value g c =
    let e = one_more (λ n. args_at ((reads c.args.self.now.turns c.args.self.now.budget).read 14) n c.turns.found
    c.turns.more.now) _ c.turns.turn c.turns-test.true c.turns.invariant.0 in
    grind (arith, common_steps)

pub turns-preserved : goal.turns-preserved
unfolding args_at
turns-preserved g c =
    let e = one_more (λ n. args_at ((reads c.args.self.now.turns c.args.self.now.budget).read 14) n c.turns.found
    c.turns.more.now) _ c.turns.turn c.turns-test.true c.turns.invariant.0 in
    grind (arith, common_steps)
