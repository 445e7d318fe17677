use Rattle.std.proofs.Common.{arith}
use Rattle.std.proofs.lemmas.Grind.{common_steps}
use Rattle.py_grammar.specs.inner.Lines.{elifs_at}
use Rattle.py_grammar.specs.inner.Aiming.{readers}
use Rattle.py_parser.specs.inner.Suites.{inner_block}
use Rattle.py_grammar.proofs.Turns.{one_more}
use Rattle.py_parser.proofs.compound.Compound.elifs.Goals as goal

pub returns-in_err-arm : goal.returns-in_err-arm
unfolding elifs_at
returns-in_err-arm g c =
    let e = one_more (λ n. elifs_at (readers c.args.self.now.turns c.args.self.now.budget)
    (inner_block c.args.self.now.turns c.args.self.now.budget) n c.turns.found c.turns.more.now) _ c.turns._turn
    c.turns-test.true c.turns.invariant in
    grind (arith, common_steps)

pub turns-preserved : goal.turns-preserved
unfolding elifs_at
turns-preserved g c =
    let e = one_more (λ n. elifs_at (readers c.args.self.now.turns c.args.self.now.budget)
    (inner_block c.args.self.now.turns c.args.self.now.budget) n c.turns.found c.turns.more.now) _ c.turns._turn
    c.turns-test.true c.turns.invariant in
    grind (arith, common_steps)
