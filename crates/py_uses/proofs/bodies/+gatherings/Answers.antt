use Rattle.std.proofs.Common.{◌+◌, ◌∷◌, ◌++◌, [], length, arith, ap, sym, ◌∙◌}
use Rattle.std.proofs.lemmas.Grind.{common_steps}
use Rattle.py_uses.proofs.bodies.+gatherings.Goals as goal
use Rattle.py_uses.specs.inner.Gathered.{numbered}
use Rattle.py_templates.specs.inner.Compounds.{tried_of}
use Rattle.py_templates.specs.Statements.{all_stated, armed_count, armed_inner, count, inners, stated, stated_arms}
use Rattle.py_templates.specs.inner.Weights.{weight, weights_handlers}
use Rattle.py_uses.proofs.Gathers.{two}
use Rattle.py_templates.proofs.Stateds.{stated_if, stated_while, stated_for, stated_def, stated_class, bodies_try, inner_try, weight_try}

pub gather_one-gather_try-requires : goal.gather_one-gather_try-requires
gather_one-gather_try-requires t c =
    let w = ap weight c.in-Try.is ∙ weight_try c.in-Try.block c.in-Try.handlers c.in-Try.other c.in-Try.last in
    let f = ap weights_handlers c.as_slice-in-Try.ensures in
    grind (arith, common_steps)

pub gather_one-gather-requires-in-Try : goal.gather_one-gather-requires-in-Try
gather_one-gather-requires-in-Try t c =
    let w = ap weight c.in-Try.is ∙ weight_try c.in-Try.block c.in-Try.handlers c.in-Try.other c.in-Try.last in
    let f = c.clause_body-in-Try.ensures.weight in
    grind (arith, common_steps)

pub gather_one-returns-in_ok-gather-in-If-clause-bodies : goal.gather_one-returns-in_ok-gather-in-If-clause-bodies
gather_one-returns-in_ok-gather-in-If-clause-bodies t c =
    two (numbered 0 c.args.out.now) _ _ (armed_inner (stated_arms c.in-If.arms) (length c.args.out.now))
    (inners (all_stated c.clause_body.result.now)) (length c.args.out.now) _
    (armed_count (stated_arms c.in-If.arms)) (rw c.as_slice.ensures at c.in_ok-gather_arms-in-If.ensures.bodies)
    (rw c.as_slice.ensures at c.in_ok-gather_arms-in-If.ensures.more) c.in_ok-gather-in-If.ensures.bodies
    ∙ ap (λ z. numbered 0 c.args.out.now ++
    (armed_inner (stated_arms c.in-If.arms) (length c.args.out.now) ++ z.inner
    (length c.args.out.now + armed_count (stated_arms c.in-If.arms)))) (sym c.clause_body.ensures.same)
    ∙ ap (λ z. numbered 0 c.args.out.now ++ z.inner (length c.args.out.now))
    (sym (stated_if c.in-If.arms c.in-If.other))
    ∙ ap (λ z. numbered 0 c.args.out.now ++ (stated z).inner (length c.args.out.now)) (sym c.in-If.is)

pub gather_one-returns-in-While-clause-bodies : goal.gather_one-returns-in-While-clause-bodies
gather_one-returns-in-While-clause-bodies t c =
    rw (c.in-While.is, stated_while c.in-While.arm c.in-While.other, ← c.as_slice-in-While.ensures)
    c.gather_both.ensures.bodies

pub gather_one-returns-in-For-clause-bodies : goal.gather_one-returns-in-For-clause-bodies
gather_one-returns-in-For-clause-bodies t c =
    rw (
      c.in-For.is,
      stated_for c.in-For.field-0 c.in-For.field-1 c.in-For.field-2 c.in-For.body c.in-For.other,
      ← c.as_slice-in-For.ensures,
    )
    c.gather_both-in-For.ensures.bodies

pub gather_both-returns-clause-bodies : goal.gather_both-returns-clause-bodies
gather_both-returns-clause-bodies t c =
    two (numbered 0 c.args.out.now) _ _ (inners (all_stated c.args.items.now) (length c.args.out.now))
    (inners (all_stated c.clause_body.result.now)) (length c.args.out.now) _ (count (all_stated c.args.items.now))
    c.in_ok-gather.ensures.bodies c.in_ok-gather.ensures.more c.in_ok-gather-2.ensures.bodies
    ∙ ap (λ z. numbered 0 c.args.out.now ++
    (inners (all_stated c.args.items.now) (length c.args.out.now) ++ z.inner
    (length c.args.out.now + count (all_stated c.args.items.now)))) (sym c.clause_body.ensures.same)

pub gather_one-returns-in_ok-gather-in-Try-clause-bodies : goal.gather_one-returns-in_ok-gather-in-Try-clause-bodies
gather_one-returns-in_ok-gather-in-Try-clause-bodies t c =
    two (numbered 0 c.args.out.now) _ _ ((tried_of c.in-Try.block c.in-Try.handlers c.in-Try.other).inner
    (length c.args.out.now)) (inners (all_stated c.clause_body-in-Try.result.now)) (length c.args.out.now) _
    ((tried_of c.in-Try.block c.in-Try.handlers c.in-Try.other).bodies)
    (rw c.as_slice-in-Try.ensures at c.in_ok-gather_try-in-Try.ensures.bodies)
    (rw c.as_slice-in-Try.ensures at c.in_ok-gather_try-in-Try.ensures.more) c.in_ok-gather-in-Try.ensures.bodies
    ∙ ap (λ z. numbered 0 c.args.out.now ++
    ((tried_of c.in-Try.block c.in-Try.handlers c.in-Try.other).inner (length c.args.out.now) ++ z.inner
    (length c.args.out.now + (tried_of c.in-Try.block c.in-Try.handlers c.in-Try.other).bodies)))
    (sym c.clause_body-in-Try.ensures.same)
    ∙ ap (λ z. numbered 0 c.args.out.now ++ z)
    (sym (inner_try c.in-Try.block c.in-Try.handlers c.in-Try.other c.in-Try.last (length c.args.out.now)))
    ∙ ap (λ z. numbered 0 c.args.out.now ++ (stated z).inner (length c.args.out.now)) (sym c.in-Try.is)

pub gather_one-returns-in_ok-gather-in-Try-clause-more : goal.gather_one-returns-in_ok-gather-in-Try-clause-more
gather_one-returns-in_ok-gather-in-Try-clause-more t c =
    let e = ap (λ z. (stated z).bodies) c.in-Try.is ∙ bodies_try c.in-Try.block c.in-Try.handlers c.in-Try.other
    c.in-Try.last in
    let f = ap (λ z. z.bodies) c.clause_body-in-Try.ensures.same in
    let g = rw c.as_slice-in-Try.ensures at c.in_ok-gather_try-in-Try.ensures.more in
    let h = c.in_ok-gather-in-Try.ensures.more in
    grind (arith, common_steps)

pub gather_one-returns-in_ok-gather-in-Def-clause-bodies : goal.gather_one-returns-in_ok-gather-in-Def-clause-bodies
gather_one-returns-in_ok-gather-in-Def-clause-bodies t c =
    rw (
      c.in-Def.is,
      stated_def c.in-Def.line c.in-Def.name c.in-Def.params c.in-Def.body,
      ← c.as_slice-body.ensures,
      ← c.as_slice-in-Def.ensures,
      ← c.len.ensures,
      ← c.in_ok-params-in-Def.ensures.same,
    )
    (two (numbered 0 c.args.out.now) _ _ (_ ∷ []) (inners (all_stated c.as_slice-body.result.now))
    (length c.args.out.now) _ 1 c.in_ok-add-in-Def.ensures.bodies c.in_ok-add-in-Def.ensures.more
    c.in_ok-gather-in-Def.ensures.bodies)

pub gather_one-returns-in_ok-gather-in-Class-clause-bodies : goal.gather_one-returns-in_ok-gather-in-Class-clause-bodies
gather_one-returns-in_ok-gather-in-Class-clause-bodies t c =
    rw (
      c.in-Class.is,
      stated_class c.in-Class.line c.in-Class.name c.in-Class.field-2 c.in-Class.body,
      ← c.as_slice-body-in-Class.ensures,
      ← c.as_slice-in-Class.ensures,
    )
    (two (numbered 0 c.args.out.now) _ _ (_ ∷ []) (inners (all_stated c.as_slice-body-in-Class.result.now))
    (length c.args.out.now) _ 1 c.in_ok-add-in-Class.ensures.bodies c.in_ok-add-in-Class.ensures.more
    c.in_ok-gather-in-Class.ensures.bodies)
