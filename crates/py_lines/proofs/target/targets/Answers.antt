use Rattle.std.proofs.Common.{arith}
use Rattle.std.proofs.lemmas.Grind.{common_steps}
use Rattle.py_grammar.specs.inner.Aiming.{readers}
use Rattle.py_grammar.specs.inner.Lines.{targets_at}
use Rattle.py_grammar.proofs.Turns.{one_more}
use Rattle.py_lines.proofs.target.targets.Goals as goal

pub returns-in_err-next : goal.returns-in_err-next
unfolding targets_at
returns-in_err-next c =
    let e = one_more (λ n. targets_at (readers c.args.turns c.args.budget) n c.turns.found c.turns.more.now) _
    c.turns._turn c.turns-test.true c.turns.invariant in
    grind (arith, common_steps)

pub turns-preserved : goal.turns-preserved
unfolding targets_at
turns-preserved c =
    let e = one_more (λ n. targets_at (readers c.args.turns c.args.budget) n c.turns.found c.turns.more.now) _
    c.turns._turn c.turns-test.true c.turns.invariant in
    grind (arith, common_steps)
