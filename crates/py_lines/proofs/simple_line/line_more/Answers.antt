use Rattle.std.proofs.Common.{arith, ◌-◌}
use Rattle.std.proofs.lemmas.Grind.{common_steps}
use Rattle.py_grammar.specs.inner.Aiming.{readers}
use Rattle.py_grammar.specs.inner.Lines.{simple_at, line_more}
use Rattle.py_grammar.proofs.Turns.{one_more}
use Rattle.py_lines.proofs.simple_line.line_more.Goals as goal

pub returns-then-newline_next : goal.returns-then-newline_next
unfolding line_more
returns-then-newline_next c =
    let e = one_more (λ n. line_more (simple_at (readers c.args.turns (c.args.budget - 1)) c.args.turns c.args.budget)
    n c.turns.found c.turns.more.now) _ c.turns._turn c.turns-test.true c.turns.invariant in
    grind (arith, common_steps)

pub returns-in_err-after : goal.returns-in_err-after
unfolding line_more
returns-in_err-after c =
    let e = one_more (λ n. line_more (simple_at (readers c.args.turns (c.args.budget - 1)) c.args.turns c.args.budget)
    n c.turns.found c.turns.more.now) _ c.turns._turn c.turns-test.true c.turns.invariant in
    grind (arith, common_steps)

pub returns-in_err-next : goal.returns-in_err-next
unfolding line_more
returns-in_err-next c =
    let e = one_more (λ n. line_more (simple_at (readers c.args.turns (c.args.budget - 1)) c.args.turns c.args.budget)
    n c.turns.found c.turns.more.now) _ c.turns._turn c.turns-test.true c.turns.invariant in
    grind (arith, common_steps)

pub turns-preserved : goal.turns-preserved
unfolding line_more
turns-preserved c =
    let e = one_more (λ n. line_more (simple_at (readers c.args.turns (c.args.budget - 1)) c.args.turns c.args.budget)
    n c.turns.found c.turns.more.now) _ c.turns._turn c.turns-test.true c.turns.invariant in
    grind (arith, common_steps)
