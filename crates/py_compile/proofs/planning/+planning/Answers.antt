use Rattle.std.proofs.Common.{◌+◌, ◌∷◌, arith, ap, sym, ◌∙◌}
use Rattle.std.proofs.lemmas.Grind.{common_steps}
use Rattle.py_templates.specs.Table.{InWhile, InFor, InTry, InClause, InFinally}
use Rattle.py_templates.specs.inner.Compounds.{finally_code, for_code, if_code, otherwise, tried_of, while_code}
use Rattle.py_templates.specs.Statements.{all_stated, armed_count, count, handled, handled_count, stated_arms, stated_block, stated_handlers}
use Rattle.py_templates.specs.inner.Weights.{weight, weights, weights_arms, weights_handlers, weights_some}
use Rattle.py_compile.proofs.Leaves.{ok_map}
use Rattle.py_compile.proofs.Plans.{add_none, add_plan, added_end, alone, arms_step, finally_plans, for_plans, handlers_step, if_plans, other_code, try_plans, while_plans}
use Rattle.py_templates.proofs.Stateds as k
use Rattle.py_compile.proofs.planning.+planning.Goals as goal

pub block-returns-clause-plans : goal.block-returns-clause-plans
block-returns-clause-plans t c =
    alone _ (λ n d. (stated_block c.args.items.now).code n d c.args.first)
    (rw c.new-out.ensures at c.in_ok-number.ensures.plans)

pub add_block-returns-clause-plans : goal.add_block-returns-clause-plans
add_block-returns-clause-plans t c =
    added_end c.args.out.now (all_stated c.args.items.now) c.args.first c.items.out c.items.number
    (rw c.in_default.ensures at c.items.invariant.0)

pub arms-items-preserved : goal.arms-items-preserved
arms-items-preserved t c =
    let e = c.in-Some.ensures in
    let f = ap (λ z. armed_count (stated_arms z)) e in
    let w = ap weights_arms e in
    let k = c.items.invariant.1 in
    let l = c.items.invariant.2 in
    let b = rw c.as_slice.ensures at c.in_ok-body.ensures.number in (
      λ n d. arms_step n d c.items.out _ _ c.in-Some.more.now c.items.number c.in_ok-body.behind _
          c.in_ok-push.ensures.ok (rw c.as_slice.ensures at (c.in_ok-body.ensures.plans n d)) b
          (rw e at (c.items.invariant.0 n d)),
      grind (arith, common_steps),
      grind (arith, common_steps),
    )

pub handlers-items-preserved : goal.handlers-items-preserved
handlers-items-preserved t c =
    let e = c.in-Some.ensures in
    let f = ap (λ z. handled_count (stated_handlers z)) e in
    let w = ap weights_handlers e in
    let k = c.items.invariant.1 in
    let l = c.items.invariant.2 in
    let b = rw c.as_slice.ensures at c.in_ok-body.ensures.number in (
      λ n d. handlers_step n d c.items.out _ _ c.in-Some.more.now c.items.number c.in_ok-body.behind _
          c.in_ok-push.ensures.ok (rw c.as_slice.ensures at (c.in_ok-body.ensures.plans n (InClause ∷ d))) b
          (rw e at (c.items.invariant.0 n d)),
      grind (arith, common_steps),
      grind (arith, common_steps),
    )

pub if_else-returns-clause-plans : goal.if_else-returns-clause-plans
if_else-returns-clause-plans t c =
    add_plan c.args.out.now _ _ (λ n d. if_code n d c.args.first c.args.items.now c.args.other.now)
    c.in_ok-push.ensures.ok (λ n d. if_plans n d _ _ _ _ (c.in_ok-arms.ensures.plans n d)
    (other_code n d (otherwise c.args.other.now) (stated_block c.clause_body.result.now) _ _ _
    c.clause_body.ensures.same c.in_ok-arms.ensures.number (c.in_ok-otherwise.ensures.plans n d)))

pub while_loop-returns-clause-plans : goal.while_loop-returns-clause-plans
while_loop-returns-clause-plans t c =
    add_plan c.args.out.now _ _ (λ n d. while_code n d c.args.first c.args.arm.now c.args.other.now)
    c.in_ok-push.ensures.ok (λ n d. while_plans n d c.args.arm _ _ _ _
    (rw c.as_slice.ensures at (c.in_ok-body.ensures.plans n (InWhile ∷ d)))
    (other_code n d (otherwise c.args.other.now) (stated_block c.clause_body.result.now) _ _ _
    c.clause_body.ensures.same (rw c.as_slice.ensures at c.in_ok-body.ensures.number)
    (c.in_ok-otherwise.ensures.plans n d)))

pub for_loop-returns-clause-plans : goal.for_loop-returns-clause-plans
for_loop-returns-clause-plans t c =
    add_plan c.args.out.now _ _ (λ n d. for_code n d c.args.first c.args.line c.args.target.now c.args.x.now
    c.args.body.now c.args.other.now) c.in_ok-push.ensures.ok
    (λ n d. for_plans n d c.args.line c.args.target c.args.x _ _ _ _ (c.in_ok-body.ensures.plans n (InFor ∷ d))
    (other_code n d (otherwise c.args.other.now) (stated_block c.clause_body.result.now) _ _ _
    c.clause_body.ensures.same c.in_ok-body.ensures.number (c.in_ok-otherwise.ensures.plans n d)))

pub tried-returns-in_ok-push-in-Some-clause-plans : goal.tried-returns-in_ok-push-in-Some-clause-plans
tried-returns-in_ok-push-in-Some-clause-plans t c =
    add_plan c.args.out.now _ _ (λ n d. (tried_of c.args.x.now c.args.items.now c.args.other.now).code n d
    c.args.first) c.in_ok-push-in-Some.ensures.ok (λ n d.
    try_plans n d c.args.x.now.line _ _ _ ((stated_block c.args.x.now.body).code n (InTry ∷ d) c.args.first)
    (handled (stated_handlers c.args.items.now) n d (c.args.first + count (all_stated c.args.x.now.body)))
    ((otherwise c.args.other.now).code n d
    (c.args.first + count (all_stated c.args.x.now.body) + handled_count (stated_handlers c.args.items.now)))
    (rw c.as_slice-in-Some.ensures at (c.in_ok-body-in-Some.ensures.plans n (InTry ∷ d)))
    (rw (c.in_ok-body-in-Some.ensures.number, c.as_slice-in-Some.ensures) at
    (c.in_ok-clauses-in-Some.ensures.plans n d))
    (other_code n d (otherwise c.args.other.now) (stated_block c.clause_body.result.now) _ _ _
    c.clause_body.ensures.same (rw (c.in_ok-body-in-Some.ensures.number, c.as_slice-in-Some.ensures) at
    c.in_ok-clauses-in-Some.ensures.number) (c.in_ok-otherwise-in-Some.ensures.plans n d))
    ∙ sym (k.try_code c.args.x.now c.args.items.now c.in-Some.field-0.0.now c.in-Some.field-0.1.now c.args.other.now n
    d c.args.first c.in-Some.ensures))

pub tried_finally-returns-clause-plans : goal.tried_finally-returns-clause-plans
tried_finally-returns-clause-plans t c =
    let inner = alone _ (λ n d. (tried_of c.args.x.now c.args.items.now c.args.other.now).code n d c.args.first)
    (rw c.new-inner.ensures at c.in_ok-behind.ensures.plans) in
    add_plan c.args.out.now _ _ (λ n d. finally_code n d c.args.first c.args.x.now c.args.items.now c.args.other.now
    c.args.last.now) c.in_ok-push.ensures.ok
    (λ n d. finally_plans n d c.args.x.now.line _ _ _ _
    (inner n (InFinally ((stated_block c.args.last.now.body).code n d
    (c.args.first + (tried_of c.args.x.now c.args.items.now c.args.other.now).bodies)) ∷ d))
    (rw (c.in_ok-behind.ensures.number, c.as_slice.ensures) at (c.in_ok-last.ensures.plans n d)))

pub statement-if_else-requires : goal.statement-if_else-requires
statement-if_else-requires t c =
    let w = ap weight c.in-If.is ∙ k.weight_if c.in-If.items c.in-If.other in
    let f = ap weights_arms c.as_slice-in-If.ensures in
    rw c.as_slice-in-If.ensures grind (arith, common_steps)

pub statement-while_loop-requires : goal.statement-while_loop-requires
statement-while_loop-requires t c =
    let w = ap weight c.in-While.is ∙ k.weight_while c.in-While.arm c.in-While.other in
    grind (arith, common_steps)

pub statement-for_loop-requires : goal.statement-for_loop-requires
statement-for_loop-requires t c =
    let w = ap weight c.in-For.is ∙ k.weight_for c.in-For.line c.in-For.target c.in-For.x c.in-For.body c.in-For.other
    in
    let f = ap weights c.as_slice-in-For.ensures in
    grind (arith, common_steps)

pub statement-tried-requires : goal.statement-tried-requires
statement-tried-requires t c =
    let w = ap weight c.in-Try.is ∙ k.weight_try c.in-Try.x c.in-Try.items c.in-Try.other c.in-Try.last in
    let f = ap weights_handlers c.as_slice-in-None.ensures in
    rw c.as_slice-in-None.ensures grind (arith, common_steps)

pub statement-tried_finally-requires : goal.statement-tried_finally-requires
statement-tried_finally-requires t c =
    let w = ap weight c.in-Try.is ∙ k.weight_try c.in-Try.x c.in-Try.items c.in-Try.other c.in-Try.last in
    let g = ap weights_some c.in-Some.is in
    let f = ap weights_handlers c.as_slice-in-Some.ensures in
    rw c.as_slice-in-Some.ensures grind (arith, common_steps)

pub statement-returns-in-If-clause-plans : goal.statement-returns-in-If-clause-plans
statement-returns-in-If-clause-plans t c =
    rw (c.in-If.is, k.stated_if c.in-If.items c.in-If.other, ← c.as_slice-in-If.ensures) c.if_else.ensures.plans

pub statement-returns-in-If-clause-number : goal.statement-returns-in-If-clause-number
statement-returns-in-If-clause-number t c =
    rw (c.in-If.is, k.stated_if c.in-If.items c.in-If.other, ← c.as_slice-in-If.ensures) c.if_else.ensures.number

pub statement-returns-in-While-clause-plans : goal.statement-returns-in-While-clause-plans
statement-returns-in-While-clause-plans t c =
    rw (c.in-While.is, k.stated_while c.in-While.arm c.in-While.other) c.while_loop.ensures.plans

pub statement-returns-in-While-clause-number : goal.statement-returns-in-While-clause-number
statement-returns-in-While-clause-number t c =
    rw (c.in-While.is, k.stated_while c.in-While.arm c.in-While.other) c.while_loop.ensures.number

pub statement-returns-in-For-clause-plans : goal.statement-returns-in-For-clause-plans
statement-returns-in-For-clause-plans t c =
    rw (
      c.in-For.is,
      k.stated_for c.in-For.line c.in-For.target c.in-For.x c.in-For.body c.in-For.other,
      ← c.as_slice-in-For.ensures,
    ) c.for_loop.ensures.plans

pub statement-returns-in-For-clause-number : goal.statement-returns-in-For-clause-number
statement-returns-in-For-clause-number t c =
    rw (
      c.in-For.is,
      k.stated_for c.in-For.line c.in-For.target c.in-For.x c.in-For.body c.in-For.other,
      ← c.as_slice-in-For.ensures,
    ) c.for_loop.ensures.number

pub statement-returns-in-None-clause-plans : goal.statement-returns-in-None-clause-plans
statement-returns-in-None-clause-plans t c =
    rw (
      c.in-Try.is,
      k.stated_try c.in-Try.x c.in-Try.items c.in-Try.other c.in-Try.last,
      c.in-None.is,
      ← c.as_slice-in-None.ensures,
    ) c.tried.ensures.plans

pub statement-returns-in-None-clause-number : goal.statement-returns-in-None-clause-number
statement-returns-in-None-clause-number t c =
    rw (
      c.in-Try.is,
      k.stated_try c.in-Try.x c.in-Try.items c.in-Try.other c.in-Try.last,
      c.in-None.is,
      ← c.as_slice-in-None.ensures,
    ) c.tried.ensures.number

pub statement-returns-in-Some-clause-plans : goal.statement-returns-in-Some-clause-plans
statement-returns-in-Some-clause-plans t c =
    rw (
      c.in-Try.is,
      k.stated_try c.in-Try.x c.in-Try.items c.in-Try.other c.in-Try.last,
      c.in-Some.is,
      ← c.as_slice-in-Some.ensures,
    ) c.tried_finally.ensures.plans

pub statement-returns-in-Some-clause-number : goal.statement-returns-in-Some-clause-number
statement-returns-in-Some-clause-number t c =
    rw (
      c.in-Try.is,
      k.stated_try c.in-Try.x c.in-Try.items c.in-Try.other c.in-Try.last,
      c.in-Some.is,
      ← c.as_slice-in-Some.ensures,
    ) c.tried_finally.ensures.number

pub statement-returns-in-Def-clause-plans : goal.statement-returns-in-Def-clause-plans
statement-returns-in-Def-clause-plans t c =
    rw (
      c.in-Def.is,
      k.stated_def c.in-Def.line c.in-Def.name c.in-Def.params c.in-Def.body,
      ← c.as_slice-in-Def.ensures,
    ) c.def.ensures.plans

pub statement-returns-in-Def-clause-number : goal.statement-returns-in-Def-clause-number
statement-returns-in-Def-clause-number t c =
    rw (
      c.in-Def.is,
      k.stated_def c.in-Def.line c.in-Def.name c.in-Def.params c.in-Def.body,
      ← c.as_slice-in-Def-2.ensures,
    ) c.def.ensures.number

pub statement-returns-in-Class-clause-plans : goal.statement-returns-in-Class-clause-plans
statement-returns-in-Class-clause-plans t c =
    rw (c.in-Class.is, k.stated_class c.in-Class.line c.in-Class.name c.in-Class.x c.in-Class.body)
    c.class.ensures.plans

pub statement-returns-in-Class-clause-number : goal.statement-returns-in-Class-clause-number
statement-returns-in-Class-clause-number t c =
    rw (
      c.in-Class.is,
      k.stated_class c.in-Class.line c.in-Class.name c.in-Class.x c.in-Class.body,
      ← c.as_slice-in-Class.ensures,
    ) c.class.ensures.number

pub statement-returns-in-Pass-clause-plans : goal.statement-returns-in-Pass-clause-plans
statement-returns-in-Pass-clause-plans t c =
    rw (c.in-Pass.is, k.stated_pass c.in-Pass.field-0) (add_none c.args.out.now c.in-Pass.field-0)

pub statement-returns-in-Pass-clause-number : goal.statement-returns-in-Pass-clause-number
statement-returns-in-Pass-clause-number t c =
    rw (c.in-Pass.is, k.stated_pass c.in-Pass.field-0) omega arith

pub statement-returns-in-Global-clause-plans : goal.statement-returns-in-Global-clause-plans
statement-returns-in-Global-clause-plans t c =
    rw (c.in-Global.is, k.stated_global c.in-Global.field-0 c.in-Global.field-1)
    (add_none c.args.out.now c.in-Global.field-0)

pub statement-returns-in-Global-clause-number : goal.statement-returns-in-Global-clause-number
statement-returns-in-Global-clause-number t c =
    rw (c.in-Global.is, k.stated_global c.in-Global.field-0 c.in-Global.field-1) omega arith

pub statement-returns-in-Del-clause-plans : goal.statement-returns-in-Del-clause-plans
statement-returns-in-Del-clause-plans t c =
    rw (c.in-Del.is, k.stated_del c.in-Del.line c.in-Del.targets, ← c.as_slice.ensures) c.delete.ensures.plans

pub statement-returns-in-Del-clause-number : goal.statement-returns-in-Del-clause-number
statement-returns-in-Del-clause-number t c =
    rw (c.in-Del.is, k.stated_del c.in-Del.line c.in-Del.targets)
    (ok_map c.delete.result c.delete.ensures.number (λ u h. omega (arith, h)))
