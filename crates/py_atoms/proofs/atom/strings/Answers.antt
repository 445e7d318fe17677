use Rattle.std.proofs.Common.{arith}
use Rattle.std.proofs.lemmas.Grind.{common_steps}
use Rattle.py_grammar.specs.inner.Reading.{strings_at}
use Rattle.py_grammar.proofs.Turns.{one_more}
use Rattle.py_atoms.proofs.atom.strings.Goals as goal

pub returns-then-unicode_next : goal.returns-then-unicode_next
unfolding strings_at
returns-then-unicode_next c =
    let e = one_more (λ n. strings_at n c.turns.found c.turns.more.now) _ c.turns._turn c.turns-test.true
    c.turns.invariant in
    grind (arith, common_steps)

pub turns-preserved : goal.turns-preserved
unfolding strings_at
turns-preserved c =
    let e = one_more (λ n. strings_at n c.turns.found c.turns.more.now) _ c.turns._turn c.turns-test.true
    c.turns.invariant in
    grind (arith, common_steps)
