use Rattle.std.proofs.Common.{arith}
use Rattle.std.proofs.lemmas.Grind.{common_steps}
use Rattle.py_grammar.specs.inner.Aiming.{readers}
use Rattle.py_grammar.specs.inner.Lines.{equals_at}
use Rattle.py_grammar.proofs.Turns.{one_more}
use Rattle.py_lines.proofs.assignment.equals.Goals as goal

pub returns-in_err-check_target : goal.returns-in_err-check_target
unfolding equals_at
returns-in_err-check_target c =
    let e = one_more (λ n. equals_at (readers c.args.turns c.args.budget) n c.turns.targets
    (c.turns.value, c.turns.more.now)) _ c.turns._turn c.turns-test.true c.turns.invariant in
    grind (arith, common_steps)

pub returns-then-keyword_next : goal.returns-then-keyword_next
unfolding equals_at
returns-then-keyword_next c =
    let e = one_more (λ n. equals_at (readers c.args.turns c.args.budget) n c.turns.targets
    (c.turns.value, c.turns.more.now)) _ c.turns._turn c.turns-test.true c.turns.invariant in
    grind (arith, common_steps)

pub returns-in_err-next : goal.returns-in_err-next
unfolding equals_at
returns-in_err-next c =
    let e = one_more (λ n. equals_at (readers c.args.turns c.args.budget) n c.turns.targets
    (c.turns.value, c.turns.more.now)) _ c.turns._turn c.turns-test.true c.turns.invariant in
    grind (arith, common_steps)

pub turns-preserved : goal.turns-preserved
unfolding equals_at
turns-preserved c =
    let e = one_more (λ n. equals_at (readers c.args.turns c.args.budget) n c.turns.targets
    (c.turns.value, c.turns.more.now)) _ c.turns._turn c.turns-test.true c.turns.invariant in
    grind (arith, common_steps)
