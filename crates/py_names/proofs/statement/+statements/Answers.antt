use Rattle.std.proofs.Common.{sym, ap, ◌∙◌, arith}
use Rattle.std.proofs.lemmas.Grind.{common_steps}
use Rattle.std.proofs.lemmas.List.{append-nil}
use Rattle.py_tree.specs.Tall.{tall, talls, tall_handlers}
use Rattle.py_tree.proofs.Talls.{tall_for, tall_try}
use Rattle.py_names.proofs.Added.{three, four}
use Rattle.py_names.proofs.Says.{says_pass, says_for, says_try}
use Rattle.py_names.proofs.statement.+statements.Goals as goal

pub statement-for_loop-requires : goal.statement-for_loop-requires
statement-for_loop-requires t c =
    let e = ap tall c.in-For.is ∙ tall_for c.in-For.line c.in-For.target c.in-For.a c.in-For.body c.in-For.otherwise in
    let f = ap talls c.as_slice-in-For.ensures in
    grind (arith, common_steps)

pub statement-guarded-requires : goal.statement-guarded-requires
statement-guarded-requires t c =
    let e = ap tall c.in-Try.is ∙ tall_try c.in-Try.x c.in-Try.items c.in-Try.otherwise c.in-Try.last in
    let f = ap tall_handlers c.as_slice-in-Try.ensures in
    grind (arith, common_steps)

pub statement-returns-in-Pass : goal.statement-returns-in-Pass
statement-returns-in-Pass t c = rw (c.in-Pass.is, says_pass c.in-Pass.field-0 c.args.place) (sym (append-nil _))

pub statement-returns-in-For : goal.statement-returns-in-For
statement-returns-in-For t c =
    rw (
      c.in-For.is,
      says_for c.in-For.line c.in-For.target c.in-For.a c.in-For.body c.in-For.otherwise c.args.place,
      ← c.as_slice-in-For.ensures,
    )
    c.for_loop.ensures

pub statement-returns-in-Try : goal.statement-returns-in-Try
statement-returns-in-Try t c =
    rw (
      c.in-Try.is,
      says_try c.in-Try.x c.in-Try.items c.in-Try.otherwise c.in-Try.last c.args.place,
      ← c.as_slice-in-Try.ensures,
    )
    c.guarded.ensures

pub for_loop-returns : goal.for_loop-returns
for_loop-returns t c =
    rw (← c.inside_loop.ensures)
    (four _ _ _ _ _ c.in_ok-expression.ensures c.in_ok-expression-2.ensures c.in_ok-block.ensures
    c.in_ok-clause.ensures)

pub guarded-returns : goal.guarded-returns
guarded-returns t c =
    rw (← c.inside_clause.ensures, ← c.inside_finally.ensures, ← c.as_slice.ensures)
    (four _ _ _ _ _ c.in_ok-block.ensures c.in_ok-handlers.ensures c.in_ok-clause.ensures c.in_ok-clause-2.ensures)

pub function-returns : goal.function-returns
function-returns t c = three _ _ _ _ c.in_ok-def_head.ensures c.in_ok-block.ensures c.in_ok-push.ensures

pub class-returns : goal.class-returns
class-returns t c = three _ _ _ _ c.in_ok-class_head.ensures c.in_ok-block.ensures c.in_ok-push.ensures
