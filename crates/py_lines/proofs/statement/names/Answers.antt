use Rattle.std.proofs.Common.{arith}
use Rattle.std.proofs.lemmas.Grind.{common_steps}
use Rattle.py_grammar.specs.inner.Lines.{names_at}
use Rattle.py_grammar.proofs.Turns.{one_more}
use Rattle.py_lines.proofs.statement.names.Goals as goal

pub returns-in_err-next : goal.returns-in_err-next
unfolding names_at
returns-in_err-next c =
    let e = one_more (λ n. names_at n c.turns.found c.turns.more.now) _ c.turns._turn c.turns-test.true
    c.turns.invariant in
    grind (arith, common_steps)

pub turns-preserved : goal.turns-preserved
unfolding names_at
turns-preserved c =
    let e = one_more (λ n. names_at n c.turns.found c.turns.more.now) _ c.turns._turn c.turns-test.true
    c.turns.invariant in
    grind (arith, common_steps)
