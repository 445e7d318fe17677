use Rattle.std.proofs.Common.{ap, ◌∙◌, ◌++◌, arith, refl, sym, true, false}
use Rattle.std.proofs.lemmas.Grind.{common_steps}
use Rattle.std.proofs.lemmas.Result.{on_ok_weaker}
use Rattle.py_tree.specs.Tall.{tall, talls, tall_arms, tall_handlers}
use Rattle.py_tree.proofs.Talls.{tall_for, tall_try}
use Rattle.py_uses.specs.inner.Tallies.{arm_uses, arms_uses, block_uses, clause_uses, done, handler_uses, handlers_uses, inside, locals_in}
use Rattle.py_templates.specs.Uses.{in_turn, name_bound, quiet, read, read_defaults, read_some, stmt_uses, target, target_some}
use Rattle.py_uses.proofs.Tallying.{turn, two, within}
use Rattle.py_uses.proofs.UsedStatements.{uses_if, uses_while, uses_for, uses_try, uses_def, uses_class}
use Rattle.py_uses.proofs.body_uses.+statements.Goals as goal

pub statement-block-requires : goal.statement-block-requires
statement-block-requires t c =
    let e = ap tall c.in-For.is ∙ tall_for c.in-For.field-0 c.in-For.target c.in-For.e c.in-For.body c.in-For.otherwise
    in
    let f = ap talls c.as_slice-in-For.ensures in
    grind (arith, common_steps)

pub statement-handlers-requires : goal.statement-handlers-requires
statement-handlers-requires t c =
    let e = ap tall c.in-Try.is ∙ tall_try c.in-Try.x c.in-Try.items c.in-Try.otherwise c.in-Try.last in
    let f = ap tall_handlers c.as_slice-in-Try-2.ensures in
    grind (arith, common_steps)

pub statement-clause-requires-in-Try-2 : goal.statement-clause-requires-in-Try-2
statement-clause-requires-in-Try-2 t c =
    let e = ap tall c.in-Try.is ∙ tall_try c.in-Try.x c.in-Try.items c.in-Try.otherwise c.in-Try.last in
    grind (arith, common_steps)

pub arm-returns : goal.arm-returns
arm-returns t c =
    rw (← c.as_slice.ensures)
    (turn c.args.out.now (inside c.args.all.now c.args.b) (quiet (λ b. read b c.args.x.now.test))
    (block_uses c.args.all.now c.as_slice.result.now) c.in_ok-expression.ensures c.in_ok-block.ensures)

pub block-items-preserved : goal.block-items-preserved
block-items-preserved t c = (
  turn c.items.out (inside c.args.all.now c.args.b) (stmt_uses (locals_in c.args.all.now) c.in-Some.x.now)
      (block_uses c.args.all.now c.in-Some.more.now) c.in_ok-statement.ensures refl
      ∙ ap (λ z. done c.items.out (inside c.args.all.now c.args.b) (block_uses c.args.all.now z))
      (sym c.in-Some.ensures) ∙ c.items.invariant.0,
  (let e = ap talls c.in-Some.ensures in omega (arith, e, c.items.invariant.1)),
)

pub arms-items-preserved : goal.arms-items-preserved
arms-items-preserved t c = (
  turn c.items.out (inside c.args.all.now c.args.b) (arm_uses c.args.all.now c.in-Some.x.now)
      (arms_uses c.args.all.now c.in-Some.more.now) c.in_ok-arm.ensures refl
      ∙ ap (λ z. done c.items.out (inside c.args.all.now c.args.b) (arms_uses c.args.all.now z))
      (sym c.in-Some.ensures) ∙ c.items.invariant.0,
  (let e = ap tall_arms c.in-Some.ensures in omega (arith, e, c.items.invariant.1)),
)

pub handler-returns : goal.handler-returns
handler-returns t c =
    rw (← c.as_slice.ensures)
    (turn c.args.out.now (inside c.args.all.now c.args.b)
    (quiet (λ b. read_some b c.args.x.now.test ++ target_some b c.args.x.now.target))
    (block_uses c.args.all.now c.as_slice.result.now)
    (two c.args.out.now (read_some (inside c.args.all.now c.args.b) c.args.x.now.test)
    (target_some (inside c.args.all.now c.args.b) c.args.x.now.target) c.in_ok-some.ensures c.in_ok-some-2.ensures)
    c.in_ok-block.ensures)

pub handlers-items-preserved : goal.handlers-items-preserved
handlers-items-preserved t c = (
  turn c.items.out (inside c.args.all.now c.args.b) (handler_uses c.args.all.now c.in-Some.x.now)
      (handlers_uses c.args.all.now c.in-Some.more.now) c.in_ok-handler.ensures refl
      ∙ ap (λ z. done c.items.out (inside c.args.all.now c.args.b) (handlers_uses c.args.all.now z))
      (sym c.in-Some.ensures) ∙ c.items.invariant.0,
  (let e = ap tall_handlers c.in-Some.ensures in omega (arith, e, c.items.invariant.1)),
)

pub statement-returns-in_ok-arms-in-If : goal.statement-returns-in_ok-arms-in-If
statement-returns-in_ok-arms-in-If t c =
    on_ok_weaker c.clause.result
    (λ h. rw (c.in-If.is, uses_if c.args.all.now c.in-If.items c.in-If.otherwise, ← c.as_slice-in-If.ensures)
    (turn c.args.out.now (inside c.args.all.now c.args.b) (arms_uses c.args.all.now c.as_slice-in-If.result.now)
    (clause_uses c.args.all.now c.in-If.otherwise) c.in_ok-arms-in-If.ensures h))
    c.clause.ensures

pub statement-returns-in_ok-arm-in-While : goal.statement-returns-in_ok-arm-in-While
statement-returns-in_ok-arm-in-While t c =
    on_ok_weaker c.clause-in-While.result
    (λ h. rw (c.in-While.is, uses_while c.args.all.now c.in-While.x c.in-While.otherwise)
    (turn c.args.out.now (inside c.args.all.now c.args.b) (arm_uses c.args.all.now c.in-While.x)
    (clause_uses c.args.all.now c.in-While.otherwise) c.in_ok-arm-in-While.ensures h))
    c.clause-in-While.ensures

pub statement-returns-in_ok-block-in-For : goal.statement-returns-in_ok-block-in-For
statement-returns-in_ok-block-in-For t c =
    on_ok_weaker c.clause-in-For.result
    (λ h. rw (
      c.in-For.is,
      uses_for c.args.all.now c.in-For.field-0 c.in-For.target c.in-For.e c.in-For.body
          c.in-For.otherwise,
      ← c.as_slice-in-For.ensures,
    )
    (turn c.args.out.now (inside c.args.all.now c.args.b) (quiet (λ b. target b c.in-For.target ++ read b c.in-For.e))
    (in_turn (block_uses c.args.all.now c.as_slice-in-For.result.now)
    (clause_uses c.args.all.now c.in-For.otherwise))
    (two c.args.out.now (target (inside c.args.all.now c.args.b) c.in-For.target)
    (read (inside c.args.all.now c.args.b) c.in-For.e) c.in_ok-expression-in-For.ensures
    c.in_ok-expression-in-For-2.ensures)
    (turn c.expression-in-For-2.new.out (inside c.args.all.now c.args.b)
    (block_uses c.args.all.now c.as_slice-in-For.result.now) (clause_uses c.args.all.now c.in-For.otherwise)
    c.in_ok-block-in-For.ensures h)))
    c.clause-in-For.ensures

pub statement-returns-in_ok-clause-in-Try : goal.statement-returns-in_ok-clause-in-Try
statement-returns-in_ok-clause-in-Try t c =
    on_ok_weaker c.clause-in-Try-2.result
    (λ h. rw (
      c.in-Try.is,
      uses_try c.args.all.now c.in-Try.x c.in-Try.items c.in-Try.otherwise c.in-Try.last,
      ← c.as_slice-in-Try.ensures,
      ← c.as_slice-in-Try-2.ensures,
    )
    (turn c.args.out.now (inside c.args.all.now c.args.b) (block_uses c.args.all.now c.as_slice-in-Try.result.now)
    (in_turn (handlers_uses c.args.all.now c.as_slice-in-Try-2.result.now)
    (in_turn (clause_uses c.args.all.now c.in-Try.otherwise) (clause_uses c.args.all.now c.in-Try.last)))
    c.in_ok-block-in-Try.ensures
    (turn c.block-in-Try.new.out (inside c.args.all.now c.args.b)
    (handlers_uses c.args.all.now c.as_slice-in-Try-2.result.now)
    (in_turn (clause_uses c.args.all.now c.in-Try.otherwise) (clause_uses c.args.all.now c.in-Try.last))
    c.in_ok-handlers-in-Try.ensures
    (turn c.handlers.new.out (inside c.args.all.now c.args.b) (clause_uses c.args.all.now c.in-Try.otherwise)
    (clause_uses c.args.all.now c.in-Try.last) c.in_ok-clause-in-Try.ensures h))))
    c.clause-in-Try-2.ensures

pub statement-returns-in-Def : goal.statement-returns-in-Def
statement-returns-in-Def t c =
    rw (c.in-Def.is, uses_def c.args.all.now c.in-Def.field-0 c.in-Def.name c.in-Def.params c.in-Def.body)
    c.def.ensures

pub statement-returns-in-Class : goal.statement-returns-in-Class
statement-returns-in-Class t c =
    rw (c.in-Class.is, uses_class c.args.all.now c.in-Class.field-0 c.in-Class.name c.in-Class.base c.in-Class.body)
    c.class.ensures

pub def-returns : goal.def-returns
def-returns t c =
    on_ok_weaker c.block.result
    (λ h. rw (← c.as_slice.ensures, ← c.as_slice-2.ensures, ← c.as_slice-3.ensures)
    (within c.args.all.now c.args.out.now (inside c.args.all.now c.args.b)
    (λ b. name_bound b c.as_slice.result.now ++ read_defaults b c.as_slice-2.result.now) false
    (block_uses c.args.all.now c.as_slice-3.result.now) c.in_ok-place.place
    (two c.args.out.now (name_bound (inside c.args.all.now c.args.b) c.as_slice.result.now)
    (read_defaults (inside c.args.all.now c.args.b) c.as_slice-2.result.now)
    c.in_ok-bind_name.ensures c.in_ok-defaults.ensures)
    c.in_ok-place.ensures.place c.in_ok-place.ensures.next h))
    c.block.ensures

pub class-returns : goal.class-returns
class-returns t c =
    on_ok_weaker c.block.result
    (λ h. rw (← c.as_slice.ensures, ← c.as_slice-2.ensures)
    (within c.args.all.now c.args.out.now (inside c.args.all.now c.args.b)
    (λ b. name_bound b c.as_slice.result.now ++ read_some b c.args.base.now) true
    (block_uses c.args.all.now c.as_slice-2.result.now) c.in_ok-place.place
    (two c.args.out.now (name_bound (inside c.args.all.now c.args.b) c.as_slice.result.now)
    (read_some (inside c.args.all.now c.args.b) c.args.base.now) c.in_ok-bind_name.ensures
    c.in_ok-some.ensures)
    c.in_ok-place.ensures.place c.in_ok-place.ensures.next h))
    c.block.ensures
