use Rattle.std.proofs.Common.{arith}
use Rattle.std.proofs.lemmas.Grind.{common_steps}
use Rattle.py_grammar.specs.inner.Reading.{reads, trailers_at}
use Rattle.py_grammar.proofs.Turns.{one_more}
use Rattle.py_atoms.proofs.reader.Reader.trailers.Goals as goal

pub returns-in_err-trailer-clause-value : goal.returns-in_err-trailer-clause-value
unfolding trailers_at
returns-in_err-trailer-clause-value g c =
    let e = one_more (λ n. trailers_at (reads c.args.self.now.turns c.args.self.now.budget) c.args.self.now.turns n
    c.turns.found c.turns.more.now) _ c.turns._turn c.turns-test.true c.turns.invariant.0 in
    grind (arith, common_steps)

pub turns-preserved : goal.turns-preserved
unfolding trailers_at
turns-preserved g c =
    let e = one_more (λ n. trailers_at (reads c.args.self.now.turns c.args.self.now.budget) c.args.self.now.turns n
    c.turns.found c.turns.more.now) _ c.turns._turn c.turns-test.true c.turns.invariant.0 in
    grind (arith, common_steps)
