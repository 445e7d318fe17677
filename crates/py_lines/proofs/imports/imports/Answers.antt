use Rattle.std.proofs.Common.{arith}
use Rattle.std.proofs.lemmas.Grind.{common_steps}
use Rattle.py_lines.specs.inner.SimplePieces.{may_import}
use Rattle.py_grammar.specs.inner.Lines.{imports_at}
use Rattle.py_grammar.proofs.Turns.{one_more}
use Rattle.py_lines.proofs.imports.imports.Goals as goal

pub returns-in_err-next : goal.returns-in_err-next
unfolding imports_at
returns-in_err-next c =
    let e = one_more (λ n. imports_at (may_import c.args.what.now) n c.turns.found c.turns.more.now) _ c.turns._turn
    c.turns-test.true c.turns.invariant in
    grind (arith, common_steps)

pub turns-preserved : goal.turns-preserved
unfolding imports_at
turns-preserved c =
    let e = one_more (λ n. imports_at (may_import c.args.what.now) n c.turns.found c.turns.more.now) _ c.turns._turn
    c.turns-test.true c.turns.invariant in
    grind (arith, common_steps)
