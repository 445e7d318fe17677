use Rattle.std.proofs.Common.{ap}
use Rattle.std.proofs.lemmas.Result.{on_ok_weaker}
use Rattle.py_tree.specs.inner.Page.{put_all}
use Rattle.py_tree.proofs.Sheets.{arms_if, arms_more, resumed_more, handlers_more, handler_written, for_written, try_written}
use Rattle.py_tree.proofs.block.+writing.Goals as goal

pub arms-loop-a-init : goal.arms-loop-a-init
arms-loop-a-init t c = ap (put_all c.args.w.now) (arms_if c.args.each.now)

pub arms-loop-a-preserved : goal.arms-loop-a-preserved
arms-loop-a-preserved t c = arms_more c.loop-a.word c.loop-a.w c.arm.new.w _ c.args.each.now c.loop-a.a-index
    c.a-item.result c.loop-a-test.true c.a-item.is c.in_ok-arm.ensures c.loop-a.invariant

pub handlers-loop-h-preserved : goal.handlers-loop-h-preserved
handlers-loop-h-preserved t c =
    handlers_more c.loop-h.w c.suite.new.w _ c.args.each.now c.loop-h.h-index c.h-item.result c.loop-h-test.true
    c.h-item.is
    (handler_written c.loop-h.w c.except_head.new.w c.suite.new.w c.h-item.result c.as_slice.result.now
    c.as_slice.ensures c.in_ok-except_head.ensures c.in_ok-suite.ensures)
    c.loop-h.invariant

pub statements-loop-s-preserved : goal.statements-loop-s-preserved
statements-loop-s-preserved t c =
    resumed_more c.args.short c.loop-s.before c.line_of-line.result c.loop-s.w c.join.new.w c.statement.new.w _
    c.args.ss.now c.loop-s.s-index c.s-item.result c.loop-s-test.true c.s-item.is c.line_of-line.ensures
    c.in_ok-join.ensures c.in_ok-statement.ensures c.loop-s.invariant

pub statement-returns-in_ok-suite-in-For : goal.statement-returns-in_ok-suite-in-For
statement-returns-in_ok-suite-in-For t c =
    on_ok_weaker c.clause_or-in-For.result
    (λ h. for_written c.args.w.now c.for_head.new.w c.suite.new.w c.clause_or-in-For.new.w
    c.in-For.line c.in-For.target c.in-For.over c.in-For.body c.as_slice-in-For.result.now c.in-For.other
    c.args.s.now c.in-For.is c.as_slice-in-For.ensures
    c.in_ok-for_head-in-For.ensures c.in_ok-suite-in-For.ensures h)
    c.clause_or-in-For.ensures

pub statement-returns-in_ok-clause_or-in-Try : goal.statement-returns-in_ok-clause_or-in-Try
statement-returns-in_ok-clause_or-in-Try t c =
    on_ok_weaker c.clause_or-in-Try-2.result
    (λ h. try_written c.args.w.now c.clause.new.w c.handlers.new.w c.clause_or-in-Try.new.w c.clause_or-in-Try-2.new.w
    c.in-Try.first c.in-Try.each c.as_slice-in-Try.result.now c.in-Try.other c.in-Try.last c.args.s.now c.in-Try.is
    c.as_slice-in-Try.ensures
    c.in_ok-clause-in-Try.ensures c.in_ok-handlers-in-Try.ensures c.in_ok-clause_or-in-Try.ensures h)
    c.clause_or-in-Try-2.ensures
