use Rattle.std.proofs.Common.{arith}
use Rattle.std.proofs.lemmas.Grind.{common_steps}
use Rattle.py_grammar.specs.Words.{below}
use Rattle.py_grammar.specs.inner.Reading.{reads, links_at}
use Rattle.py_grammar.proofs.Turns.{one_more}
use Rattle.py_exprs.proofs.level.links.Goals as goal

pub returns-in_err-operator-clause-value : goal.returns-in_err-operator-clause-value
unfolding links_at
returns-in_err-operator-clause-value g c =
    let e = one_more (λ n. links_at c.args.level
    ((reads c.args.reader.now.turns c.args.reader.now.budget).read (below c.args.level)) n c.turns.found
    c.turns.more.now) _ c.turns._turn c.turns-test.true c.turns.invariant.0 in
    grind (arith, common_steps)

pub returns-in_err-operand-clause-value : goal.returns-in_err-operand-clause-value
unfolding links_at
returns-in_err-operand-clause-value g c =
    let e = one_more (λ n. links_at c.args.level
    ((reads c.args.reader.now.turns c.args.reader.now.budget).read (below c.args.level)) n c.turns.found
    c.turns.more.now) _ c.turns._turn c.turns-test.true c.turns.invariant.0 in
    grind (arith, common_steps)

pub turns-preserved : goal.turns-preserved
unfolding links_at
turns-preserved g c =
    let e = one_more (λ n. links_at c.args.level
    ((reads c.args.reader.now.turns c.args.reader.now.budget).read (below c.args.level)) n c.turns.found
    c.turns.more.now) _ c.turns._turn c.turns-test.true c.turns.invariant.0 in
    grind (arith, common_steps)
