use Rattle.std.proofs.Common.{◌+◌, ◌∷◌, arith, ap, drop, ◌∙◌}
use Rattle.std.proofs.lemmas.Grind.{common_steps}
use Rattle.py_emit.specs.inner.State.{frame_there}
use Rattle.py_templates.specs.Expressions.{value, value_some, stored}
use Rattle.py_templates.specs.Table.{InWhile, InFor, InTry, InClause, InFinally}
use Rattle.py_compile.specs.inner.Plans.{planned, planned_all, planned_arm, planned_arms, planned_block, planned_handler, planned_handlers}
use Rattle.py_compile.specs.inner.Rounds.{around_of, env_of}
use Rattle.py_compile.proofs.PlanBounds.{plan_weight, plan_weights, plan_weights_arms, plan_weights_handlers}
use Rattle.py_base.proofs.Lists.{next_item}
use Rattle.py_emit.proofs.Rests.{rest_step}
use Rattle.py_emit.proofs.StmtArms.{if_arm, arm_arm, while_arm, for_arm, try_arm, finally_arm, return_arm, handler_arm}
use Rattle.py_compile.proofs.Leaves.{ok_map, leave_finally}
use Rattle.py_compile.proofs.Plans as p
use Rattle.py_compile.proofs.PlanWeights as w
use Rattle.py_templates.proofs.Stateds as k
use Rattle.py_compile.proofs.statement.+statements.Goals as goal

pub block-loop-x-preserved : goal.block-loop-x-preserved
block-loop-x-preserved t c =
    let e = next_item c.args.items.now c.loop-x.x-index c.x-item.result c.loop-x-test.true c.x-item.is in
    let w = ap plan_weights e in
    let l = c.loop-x.invariant.1 in (
      rest_step (env_of c.args.around.now) c.args.e.now
          (planned_all c.args.items.now c.args.names.now (around_of c.args.names.now c.args.around.now)) c.loop-x.e
          c.statement.new.e (planned c.x-item.result c.args.names.now (around_of c.args.names.now c.args.around.now))
          (planned_all (drop (c.loop-x.x-index + 1) c.args.items.now) c.args.names.now
          (around_of c.args.names.now c.args.around.now)) (rw e at c.loop-x.invariant.0) c.in_ok-statement.ensures.done,
      grind (arith, common_steps),
    )

pub arms-loop-x-preserved : goal.arms-loop-x-preserved
arms-loop-x-preserved t c =
    let e = next_item c.args.items.now c.loop-x.x-index c.x-item.result c.loop-x-test.true c.x-item.is in
    let w = ap plan_weights_arms e in
    let l = c.loop-x.invariant.1 in
    let x = c.x-item.result in (
      rest_step (λ ls. frame_there c.args.end 1 0 ls ∷ env_of c.args.around.now ls) c.args.e.now
          (planned_arms c.args.items.now c.args.names.now (around_of c.args.names.now c.args.around.now)) c.loop-x.e
          c.arm_tail.new.e (planned_arm x c.args.names.now (around_of c.args.names.now c.args.around.now))
          (planned_arms (drop (c.loop-x.x-index + 1) c.args.items.now) c.args.names.now
          (around_of c.args.names.now c.args.around.now)) (rw e at c.loop-x.invariant.0)
          (arm_arm x.arm.now.line (env_of c.args.around.now) (value c.args.names.now x.arm.now.line x.arm.now.test)
          (planned_block x.body c.args.names.now (around_of c.args.names.now c.args.around.now)) c.args.end
          c.in_ok-next.next c.loop-x.e _ _ _ c.in_ok-next.ensures.base
          (c.in_ok-next.ensures.done (λ ls. frame_there c.args.end 1 0 ls ∷ env_of c.args.around.now ls))
          (rw c.as_slice.ensures at c.in_ok-block.ensures.done) c.in_ok-arm_tail.ensures.done),
      grind (arith, common_steps),
    )

pub handlers-loop-x-preserved : goal.handlers-loop-x-preserved
handlers-loop-x-preserved t c =
    let e = next_item c.args.items.now c.loop-x.x-index c.x-item.result c.loop-x-test.true c.x-item.is in
    let w = ap plan_weights_handlers e in
    let l = c.loop-x.invariant.1 in
    let x = c.x-item.result in (
      rest_step (λ ls. frame_there c.args.base 2 c.args.slot ls ∷ env_of c.args.outer.now ls) c.args.e.now
          (planned_handlers c.args.items.now c.args.names.now (around_of c.args.names.now c.args.outer.now)) c.loop-x.e
          c.handler_tail.new.e (planned_handler x c.args.names.now (around_of c.args.names.now c.args.outer.now))
          (planned_handlers (drop (c.loop-x.x-index + 1) c.args.items.now) c.args.names.now
          (around_of c.args.names.now c.args.outer.now)) (rw e at c.loop-x.invariant.0)
          (handler_arm c.args.names.now x.handler.now.line (env_of c.args.outer.now) x.handler.now.test
          x.handler.now.target c.in_ok-next.next
          (planned_block x.body c.args.names.now (InClause ∷ (around_of c.args.names.now c.args.outer.now)))
          c.args.base c.args.slot c.loop-x.e _ _ _ c.in_ok-next.ensures.done
          (rw c.as_slice-body.ensures at c.in_ok-block.ensures.done) c.in_ok-handler_tail.ensures.done),
      grind (arith, common_steps),
    )

pub if_else-returns-clause-done : goal.if_else-returns-clause-done
if_else-returns-clause-done t c =
    if_arm 0 (env_of c.args.around.now) (planned_arms c.args.items.now c.args.names.now
    (around_of c.args.names.now c.args.around.now))
    (planned_block c.args.other.now c.args.names.now (around_of c.args.names.now c.args.around.now))
    c.in_ok-end.end _ c.args.e.now _ _ _ _ c.in_ok-end.ensures.base c.in_ok-end.ensures.slot
    c.in_ok-end.ensures.done c.in_ok-arms.ensures.done c.in_ok-block.ensures.done c.mark.ensures.done

pub while_loop-returns-clause-done : goal.while_loop-returns-clause-done
while_loop-returns-clause-done t c =
    while_arm c.args.arm.now.line (env_of c.args.around.now)
    (value c.args.names.now c.args.arm.now.line c.args.arm.now.test)
    (planned_block c.args.body.now c.args.names.now (InWhile ∷ (around_of c.args.names.now c.args.around.now)))
    (planned_block c.args.other.now c.args.names.now (around_of c.args.names.now c.args.around.now))
    c.in_ok-base.base c.args.e.now _ _ _ _ _ c.in_ok-base.ensures.base
    (c.in_ok-base.ensures.done (env_of c.args.around.now)) c.in_ok-block.ensures.done
    c.in_ok-loop_tail.ensures.done c.in_ok-block-2.ensures.done c.mark.ensures.done

pub for_loop-returns-clause-done : goal.for_loop-returns-clause-done
for_loop-returns-clause-done t c =
    for_arm c.args.line (env_of c.args.around.now) (stored c.args.names.now c.args.line c.args.target.now)
    (value c.args.names.now c.args.line c.args.x.now)
    (planned_block c.args.body.now c.args.names.now (InFor ∷ (around_of c.args.names.now c.args.around.now)))
    (planned_block c.args.other.now c.args.names.now (around_of c.args.names.now c.args.around.now))
    c.in_ok-base.base c.args.e.now _ _ _ _ _ c.in_ok-base.ensures.base
    (c.in_ok-base.ensures.done (env_of c.args.around.now)) c.in_ok-block.ensures.done
    c.in_ok-loop_tail.ensures.done c.in_ok-block-2.ensures.done c.mark.ensures.done

pub tried-returns-clause-done : goal.tried-returns-clause-done
tried-returns-clause-done t c =
    try_arm c.args.line (env_of c.args.around.now)
    (planned_block c.args.body.now c.args.names.now (InTry ∷ (around_of c.args.names.now c.args.around.now)))
    (planned_handlers c.args.items.now c.args.names.now (around_of c.args.names.now c.args.around.now))
    (planned_block c.args.other.now c.args.names.now (around_of c.args.names.now c.args.around.now))
    c.in_ok-base.base c.in_ok-base.slot c.args.e.now _ _ _ _ _ _ _ _ c.in_ok-base.ensures.base
    c.in_ok-base.ensures.slot c.in_ok-base.ensures.done c.in_ok-block.ensures.done c.in_ok-pop_try.ensures.done
    c.in_ok-block-2.ensures.done c.in_ok-catch.ensures.done c.in_ok-handlers.ensures.done
    c.in_ok-raise_slot.ensures.done c.mark.ensures.done

pub tried_finally-returns-clause-done : goal.tried_finally-returns-clause-done
tried_finally-returns-clause-done t c =
    finally_arm c.args.line (env_of c.args.around.now)
    (planned_block c.args.inner.now c.args.names.now
    (InFinally (planned_block c.args.last.now c.args.names.now (around_of c.args.names.now c.args.around.now)) ∷
    (around_of c.args.names.now c.args.around.now)))
    (planned_block c.args.last.now c.args.names.now (around_of c.args.names.now c.args.around.now))
    c.in_ok-base.base c.in_ok-base.slot c.args.e.now _ _ _ _ _ _ _ _ c.in_ok-base.ensures.base
    c.in_ok-base.ensures.slot c.in_ok-base.ensures.done c.in_ok-block.ensures.done c.in_ok-pop_try.ensures.done
    (rw c.as_slice.ensures at c.in_ok-block-2.ensures.done) c.in_ok-catch.ensures.done
    (rw c.as_slice-2.ensures at c.in_ok-block-3.ensures.done) c.in_ok-raise_slot.ensures.done c.mark.ensures.done

pub returned-returns-clause-done : goal.returned-returns-clause-done
returned-returns-clause-done t c =
    return_arm c.args.line (env_of c.args.around.now) (value_some c.args.names.now c.args.line c.args.x.now)
    (around_of c.args.names.now c.args.around.now) c.in_ok-slot.slot c.args.e.now _ _ _ c.in_ok-slot.ensures.slot
    (c.in_ok-slot.ensures.done (env_of c.args.around.now)) c.in_ok-leave.ensures.done
    c.in_ok-return_tail.ensures.done

pub leave-returns-in_ok-block-in-Finally-clause-done : goal.leave-returns-in_ok-block-in-Finally-clause-done
leave-returns-in_ok-block-in-Finally-clause-done t c =
    rw c.in-Finally.is (ok_map c.leave-in-Finally.result c.leave-in-Finally.ensures.done
    (λ u h. leave_finally c.args.line (env_of c.in-Finally.outer.now)
    (around_of c.args.names.now c.in-Finally.outer.now) c.args.way
    (planned_block c.in-Finally.last.now c.args.names.now (around_of c.args.names.now c.in-Finally.outer.now))
    c.in-Finally.field-0 c.in-Finally.field-1 c.args.e.now _ _ _ c.in_ok-pop_try-in-Finally.ensures.done
    (rw c.as_slice.ensures at c.in_ok-block-in-Finally.ensures.done) h))

pub simple-returns-in-Do-clause-done : goal.simple-returns-in-Do-clause-done
simple-returns-in-Do-clause-done t c =
    rw (c.in-Do.is, k.stated_do c.in-Do.line c.in-Do.x.now)
    (ok_map c.alone.result c.alone.ensures.done (λ u h. h (env_of c.args.around.now)))

pub simple-returns-in-Do-clause-large : goal.simple-returns-in-Do-clause-large
simple-returns-in-Do-clause-large t c =
    rw (c.in-Do.is, k.stated_do c.in-Do.line c.in-Do.x.now) c.alone.ensures.large

pub simple-returns-in-Assign-clause-done : goal.simple-returns-in-Assign-clause-done
simple-returns-in-Assign-clause-done t c =
    rw (
      c.in-Assign.is,
      k.stated_assign c.in-Assign.line c.in-Assign.targets.now c.in-Assign.x.now,
      ← c.as_slice.ensures,
    ) (ok_map c.assign.result c.assign.ensures.done (λ u h. h (env_of c.args.around.now)))

pub simple-returns-in-Assign-clause-large : goal.simple-returns-in-Assign-clause-large
simple-returns-in-Assign-clause-large t c =
    rw (
      c.in-Assign.is,
      k.stated_assign c.in-Assign.line c.in-Assign.targets.now c.in-Assign.x.now,
      ← c.as_slice.ensures,
    ) c.assign.ensures.large

pub simple-returns-in-Augment-clause-done : goal.simple-returns-in-Augment-clause-done
simple-returns-in-Augment-clause-done t c =
    rw (c.in-Augment.is, k.stated_augment c.in-Augment.line c.in-Augment.x.now c.in-Augment.o c.in-Augment.y.now)
    (ok_map c.change.result c.change.ensures.done (λ u h. h (env_of c.args.around.now)))

pub simple-returns-in-Augment-clause-large : goal.simple-returns-in-Augment-clause-large
simple-returns-in-Augment-clause-large t c =
    rw (c.in-Augment.is, k.stated_augment c.in-Augment.line c.in-Augment.x.now c.in-Augment.o c.in-Augment.y.now)
    c.change.ensures.large

pub simple-returns-in-Print-clause-done : goal.simple-returns-in-Print-clause-done
simple-returns-in-Print-clause-done t c =
    rw (
      c.in-Print.is,
      k.stated_print c.in-Print.line c.in-Print.items.now c.in-Print.comma,
      ← c.as_slice-in-Print.ensures,
    ) (ok_map c.print.result c.print.ensures.done
    (λ u h. h (env_of c.args.around.now)))

pub simple-returns-in-Print-clause-large : goal.simple-returns-in-Print-clause-large
simple-returns-in-Print-clause-large t c =
    rw (
      c.in-Print.is,
      k.stated_print c.in-Print.line c.in-Print.items.now c.in-Print.comma,
      ← c.as_slice-in-Print.ensures,
    ) c.print.ensures.large

pub simple-returns-in-Break-clause-done : goal.simple-returns-in-Break-clause-done
simple-returns-in-Break-clause-done t c =
    rw (c.in-Break.is, k.stated_break c.in-Break.line) c.leave.ensures.done

pub simple-returns-in-Break-clause-large : goal.simple-returns-in-Break-clause-large
simple-returns-in-Break-clause-large t c =
    rw (c.in-Break.is, k.stated_break c.in-Break.line) c.leave.ensures.large

pub simple-returns-in-Continue-clause-done : goal.simple-returns-in-Continue-clause-done
simple-returns-in-Continue-clause-done t c =
    rw (c.in-Continue.is, k.stated_continue c.in-Continue.line) c.leave-in-Continue.ensures.done

pub simple-returns-in-Continue-clause-large : goal.simple-returns-in-Continue-clause-large
simple-returns-in-Continue-clause-large t c =
    rw (c.in-Continue.is, k.stated_continue c.in-Continue.line) c.leave-in-Continue.ensures.large

pub simple-returns-in-Return-clause-done : goal.simple-returns-in-Return-clause-done
simple-returns-in-Return-clause-done t c =
    rw (c.in-Return.is, k.stated_return c.in-Return.line c.in-Return.x.now) c.returned.ensures.done

pub simple-returns-in-Return-clause-large : goal.simple-returns-in-Return-clause-large
simple-returns-in-Return-clause-large t c =
    rw (c.in-Return.is, k.stated_return c.in-Return.line c.in-Return.x.now) c.returned.ensures.large

pub simple-returns-in-Raise-clause-done : goal.simple-returns-in-Raise-clause-done
simple-returns-in-Raise-clause-done t c =
    rw (c.in-Raise.is, k.stated_raise c.in-Raise.line c.in-Raise.x.now c.in-Raise.v.now) c.raise.ensures.done

pub simple-returns-in-Raise-clause-large : goal.simple-returns-in-Raise-clause-large
simple-returns-in-Raise-clause-large t c =
    rw (c.in-Raise.is, k.stated_raise c.in-Raise.line c.in-Raise.x.now c.in-Raise.v.now) c.raise.ensures.large

pub simple-returns-in-Assert-clause-done : goal.simple-returns-in-Assert-clause-done
simple-returns-in-Assert-clause-done t c =
    rw (c.in-Assert.is, k.stated_assert c.in-Assert.line c.in-Assert.x.now c.in-Assert.message.now)
    (ok_map c.assert.result c.assert.ensures.done (λ u h. h (env_of c.args.around.now)))

pub simple-returns-in-Assert-clause-large : goal.simple-returns-in-Assert-clause-large
simple-returns-in-Assert-clause-large t c =
    rw (c.in-Assert.is, k.stated_assert c.in-Assert.line c.in-Assert.x.now c.in-Assert.message.now)
    c.assert.ensures.large

pub simple-returns-in-Import-clause-done : goal.simple-returns-in-Import-clause-done
simple-returns-in-Import-clause-done t c =
    rw (c.in-Import.is, k.stated_import c.in-Import.line c.in-Import.items.now, ← c.as_slice-in-Import.ensures)
    (ok_map c.import.result c.import.ensures.done (λ u h. h (env_of c.args.around.now)))

pub simple-returns-in-Import-clause-large : goal.simple-returns-in-Import-clause-large
simple-returns-in-Import-clause-large t c =
    rw (c.in-Import.is, k.stated_import c.in-Import.line c.in-Import.items.now, ← c.as_slice-in-Import.ensures)
    c.import.ensures.large

pub simple-returns-in-From-clause-done : goal.simple-returns-in-From-clause-done
simple-returns-in-From-clause-done t c =
    rw (
      c.in-From.is,
      k.stated_from c.in-From.line c.in-From.field-1.now c.in-From.items.now,
      ← c.as_slice-in-From.ensures,
    ) (ok_map c.take_from.result c.take_from.ensures.done
    (λ u h. h (env_of c.args.around.now)))

pub simple-returns-in-From-clause-large : goal.simple-returns-in-From-clause-large
simple-returns-in-From-clause-large t c =
    rw (
      c.in-From.is,
      k.stated_from c.in-From.line c.in-From.field-1.now c.in-From.items.now,
      ← c.as_slice-in-From.ensures,
    ) c.take_from.ensures.large

pub statement-simple-requires : goal.statement-simple-requires
statement-simple-requires t c =
    let w = ap plan_weight c.in-Simple.is ∙ w.weight_simple c.in-Simple.s in
    grind (arith, common_steps)

pub statement-returns-in-Simple-clause-done : goal.statement-returns-in-Simple-clause-done
statement-returns-in-Simple-clause-done t c =
    rw (c.in-Simple.is, p.planned_simple c.in-Simple.s c.args.names.now (around_of c.args.names.now c.args.around.now))
    c.simple.ensures.done

pub statement-returns-in-Simple-clause-large : goal.statement-returns-in-Simple-clause-large
statement-returns-in-Simple-clause-large t c =
    rw (c.in-Simple.is, p.planned_simple c.in-Simple.s c.args.names.now (around_of c.args.names.now c.args.around.now))
    c.simple.ensures.large

pub statement-returns-in-Delete-clause-done : goal.statement-returns-in-Delete-clause-done
statement-returns-in-Delete-clause-done t c =
    rw (
      c.in-Delete.is,
      p.planned_delete c.in-Delete.line c.in-Delete.items c.args.names.now
          (around_of c.args.names.now c.args.around.now),
      ← c.as_slice.ensures,
    )
    (ok_map c.delete.result c.delete.ensures.done (λ u h. h (env_of c.args.around.now)))

pub statement-returns-in-Delete-clause-large : goal.statement-returns-in-Delete-clause-large
statement-returns-in-Delete-clause-large t c =
    rw (
      c.in-Delete.is,
      p.planned_delete c.in-Delete.line c.in-Delete.items c.args.names.now
          (around_of c.args.names.now c.args.around.now),
      ← c.as_slice.ensures,
    ) c.delete.ensures.large

pub statement-returns-in-Def-clause-done : goal.statement-returns-in-Def-clause-done
statement-returns-in-Def-clause-done t c =
    rw (
      c.in-Def.is,
      p.planned_def c.in-Def.line c.in-Def.name c.in-Def.params c.in-Def.number c.args.names.now
          (around_of c.args.names.now c.args.around.now),
      ← c.as_slice-in-Def.ensures,
    )
    (ok_map c.def.result c.def.ensures.done (λ u h. h (env_of c.args.around.now)))

pub statement-returns-in-Def-clause-large : goal.statement-returns-in-Def-clause-large
statement-returns-in-Def-clause-large t c =
    rw (
      c.in-Def.is,
      p.planned_def c.in-Def.line c.in-Def.name c.in-Def.params c.in-Def.number c.args.names.now
          (around_of c.args.names.now c.args.around.now),
    ) c.def.ensures.large

pub statement-returns-in-Class-clause-done : goal.statement-returns-in-Class-clause-done
statement-returns-in-Class-clause-done t c =
    rw (
      c.in-Class.is,
      p.planned_class c.in-Class.line c.in-Class.name c.in-Class.x c.in-Class.number c.args.names.now
          (around_of c.args.names.now c.args.around.now),
      ← c.as_slice-in-Class.ensures,
    )
    (ok_map c.class.result c.class.ensures.done (λ u h. h (env_of c.args.around.now)))

pub statement-returns-in-Class-clause-large : goal.statement-returns-in-Class-clause-large
statement-returns-in-Class-clause-large t c =
    rw (
      c.in-Class.is,
      p.planned_class c.in-Class.line c.in-Class.name c.in-Class.x c.in-Class.number c.args.names.now
          (around_of c.args.names.now c.args.around.now),
    ) c.class.ensures.large

pub statement-if_else-requires : goal.statement-if_else-requires
statement-if_else-requires t c =
    let w = ap plan_weight c.in-If.is ∙ w.weight_if c.in-If.items c.in-If.other in
    let f0 = ap plan_weights_arms c.as_slice-in-If.ensures in
    let f1 = ap plan_weights c.as_slice-in-If-2.ensures in
    grind (arith, common_steps)

pub statement-returns-in-If-clause-done : goal.statement-returns-in-If-clause-done
statement-returns-in-If-clause-done t c =
    rw (
      c.in-If.is,
      p.planned_if c.in-If.items c.in-If.other c.args.names.now
          (around_of c.args.names.now c.args.around.now),
      ← c.as_slice-in-If.ensures,
      ← c.as_slice-in-If-2.ensures,
    )
    c.if_else.ensures.done

pub statement-returns-in-If-clause-large : goal.statement-returns-in-If-clause-large
statement-returns-in-If-clause-large t c =
    rw (
      c.in-If.is,
      p.planned_if c.in-If.items c.in-If.other c.args.names.now
          (around_of c.args.names.now c.args.around.now),
      ← c.as_slice-in-If.ensures,
      ← c.as_slice-in-If-2.ensures,
    )
    c.if_else.ensures.large

pub statement-while_loop-requires : goal.statement-while_loop-requires
statement-while_loop-requires t c =
    let w = ap plan_weight c.in-While.is ∙ w.weight_while c.in-While.arm c.in-While.body c.in-While.other in
    let f0 = ap plan_weights c.as_slice-in-While.ensures in
    let f1 = ap plan_weights c.as_slice-in-While-2.ensures in
    grind (arith, common_steps)

pub statement-returns-in-While-clause-done : goal.statement-returns-in-While-clause-done
statement-returns-in-While-clause-done t c =
    rw (
      c.in-While.is,
      p.planned_while c.in-While.arm c.in-While.body c.in-While.other c.args.names.now
          (around_of c.args.names.now c.args.around.now),
      ← c.as_slice-in-While.ensures,
      ← c.as_slice-in-While-2.ensures,
    )
    c.while_loop.ensures.done

pub statement-returns-in-While-clause-large : goal.statement-returns-in-While-clause-large
statement-returns-in-While-clause-large t c =
    rw (
      c.in-While.is,
      p.planned_while c.in-While.arm c.in-While.body c.in-While.other c.args.names.now
          (around_of c.args.names.now c.args.around.now),
      ← c.as_slice-in-While.ensures,
      ← c.as_slice-in-While-2.ensures,
    )
    c.while_loop.ensures.large

pub statement-for_loop-requires : goal.statement-for_loop-requires
statement-for_loop-requires t c =
    let w = ap plan_weight c.in-For.is ∙ w.weight_for c.in-For.line c.in-For.target c.in-For.x c.in-For.body
    c.in-For.other in
    let f0 = ap plan_weights c.as_slice-body.ensures in
    let f1 = ap plan_weights c.as_slice-in-For.ensures in
    grind (arith, common_steps)

pub statement-returns-in-For-clause-done : goal.statement-returns-in-For-clause-done
statement-returns-in-For-clause-done t c =
    rw (
      c.in-For.is,
      p.planned_for c.in-For.line c.in-For.target c.in-For.x c.in-For.body c.in-For.other
          c.args.names.now (around_of c.args.names.now c.args.around.now),
      ← c.as_slice-body.ensures,
      ← c.as_slice-in-For.ensures,
    ) c.for_loop.ensures.done

pub statement-returns-in-For-clause-large : goal.statement-returns-in-For-clause-large
statement-returns-in-For-clause-large t c =
    rw (
      c.in-For.is,
      p.planned_for c.in-For.line c.in-For.target c.in-For.x c.in-For.body c.in-For.other
          c.args.names.now (around_of c.args.names.now c.args.around.now),
      ← c.as_slice-body.ensures,
      ← c.as_slice-in-For.ensures,
    ) c.for_loop.ensures.large

pub statement-tried-requires : goal.statement-tried-requires
statement-tried-requires t c =
    let w = ap plan_weight c.in-Try.is ∙ w.weight_try c.in-Try.line c.in-Try.body c.in-Try.items c.in-Try.other in
    let f0 = ap plan_weights c.as_slice-body-in-Try.ensures in
    let f1 = ap plan_weights_handlers c.as_slice-in-Try.ensures in
    let f2 = ap plan_weights c.as_slice-in-Try-2.ensures in
    grind (arith, common_steps)

pub statement-returns-in-Try-clause-done : goal.statement-returns-in-Try-clause-done
statement-returns-in-Try-clause-done t c =
    rw (
      c.in-Try.is,
      p.planned_try c.in-Try.line c.in-Try.body c.in-Try.items c.in-Try.other c.args.names.now
          (around_of c.args.names.now c.args.around.now),
      ← c.as_slice-body-in-Try.ensures,
      ← c.as_slice-in-Try.ensures,
      ← c.as_slice-in-Try-2.ensures,
    ) c.tried.ensures.done

pub statement-returns-in-Try-clause-large : goal.statement-returns-in-Try-clause-large
statement-returns-in-Try-clause-large t c =
    rw (
      c.in-Try.is,
      p.planned_try c.in-Try.line c.in-Try.body c.in-Try.items c.in-Try.other c.args.names.now
          (around_of c.args.names.now c.args.around.now),
      ← c.as_slice-body-in-Try.ensures,
      ← c.as_slice-in-Try.ensures,
      ← c.as_slice-in-Try-2.ensures,
    ) c.tried.ensures.large

pub statement-tried_finally-requires : goal.statement-tried_finally-requires
statement-tried_finally-requires t c =
    let w = ap plan_weight c.in-Finally.is ∙ w.weight_finally c.in-Finally.line c.in-Finally.inner c.in-Finally.last in
    let f0 = ap plan_weights c.as_slice-in-Finally.ensures in
    grind (arith, common_steps)

pub statement-returns-in-Finally-clause-done : goal.statement-returns-in-Finally-clause-done
statement-returns-in-Finally-clause-done t c =
    rw (
      c.in-Finally.is,
      p.planned_finally c.in-Finally.line c.in-Finally.inner c.in-Finally.last c.args.names.now
          (around_of c.args.names.now c.args.around.now),
      ← c.as_slice-in-Finally.ensures,
    ) c.tried_finally.ensures.done

pub statement-returns-in-Finally-clause-large : goal.statement-returns-in-Finally-clause-large
statement-returns-in-Finally-clause-large t c =
    rw (
      c.in-Finally.is,
      p.planned_finally c.in-Finally.line c.in-Finally.inner c.in-Finally.last c.args.names.now
          (around_of c.args.names.now c.args.around.now),
      ← c.as_slice-in-Finally.ensures,
    ) c.tried_finally.ensures.large
