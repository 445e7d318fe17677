use Rattle.std.proofs.Common.{refl, sym, None, Some, ◌+◌}
use Rattle.lock_run.specs.declared.client.Outcome.TheVariants.{Done}
use Rattle.lock_run.specs.declared.script.ScriptState.TheVariants.{Acts}
use Rattle.lock_run.specs.Script.{cells_in, lists_in}
use Rattle.lock_run.proofs.ScriptSteps.{perform_safe, has_ended, prelude_done, prelude_stopped, act_done, act_stopped, none_left}
use Rattle.lock_run.proofs.script.ScriptClient.step.Goals as goal

pub perform-requires-clause-safe : goal.perform-requires-clause-safe
perform-requires-clause-safe g c = perform_safe g.V.View.sense g.V.View.bracket _ c.args.s.now c.in-Acts.number
    c.in-Acts.done c.in-Acts.cells c.in-Acts.list c.in-Some.act _ _ g.met.V.View.bracketed c.open_step.ensures
    c.requires.stands c.in-Acts.is

pub returns-in-Ok-clause-ok : goal.returns-in-Ok-clause-ok
returns-in-Ok-clause-ok g c = prelude_done g.V.View.sense g.V.View.bracket (cells_in c.args.self.now)
    (lists_in c.args.self.now) c.args.s.now _ _ c.open_step.ensures _ (c.end.result, c.end.new.s) _ c.count.ensures
    c.in-Prelude.is (has_ended _ _ c.end.ensures.ended c.end.ensures.over) c.in-Ok.ensures

pub returns-in-Err-clause-err : goal.returns-in-Err-clause-err
returns-in-Err-clause-err g c = prelude_stopped g.V.View.sense g.V.View.bracket (cells_in c.args.self.now)
    (lists_in c.args.self.now) c.args.s.now _ _ c.open_step.ensures _ c.in-Err.stop _ _ c.count.ensures c.in-Prelude.is
    c.in-Err.ensures c.undo_step.ensures

pub returns-in-Some-act-clause-ok : goal.returns-in-Some-act-clause-ok
returns-in-Some-act-clause-ok g c =
    act_done g.V.View.sense g.V.View.bracket (cells_in c.args.self.now) (lists_in c.args.self.now) c.args.s.now _ _
    c.open_step.ensures c.in-Acts.number c.in-Acts.done c.in-Acts.cells c.in-Acts.list c.in-Acts.is
    c.in-Some.act (Some c.in-Some-act.field-0)
    (Done, Acts c.in-Acts.number (c.in-Acts.done + 1) c.in-Acts.cells c.in-Acts.list) _ (sym c.in-Some.ensures.is)
    (sym c.in-Some-act.ensures.is) refl c.in-Ok-perform.ensures

pub returns-in-None-act-clause-ok : goal.returns-in-None-act-clause-ok
returns-in-None-act-clause-ok g c =
    act_done g.V.View.sense g.V.View.bracket (cells_in c.args.self.now) (lists_in c.args.self.now) c.args.s.now _ _
    c.open_step.ensures c.in-Acts.number c.in-Acts.done c.in-Acts.cells c.in-Acts.list c.in-Acts.is
    c.in-Some.act None (c.end-in-None-act.result, c.end-in-None-act.new.s) _ (sym c.in-Some.ensures.is)
    (sym c.in-None-act.ensures.is) (has_ended _ _ c.end-in-None-act.ensures.ended c.end-in-None-act.ensures.over)
    c.in-Ok-perform.ensures

pub returns-in-Err-perform-clause-err : goal.returns-in-Err-perform-clause-err
returns-in-Err-perform-clause-err g c =
    act_stopped g.V.View.sense g.V.View.bracket (cells_in c.args.self.now) (lists_in c.args.self.now) c.args.s.now _ _
    c.open_step.ensures c.in-Acts.number c.in-Acts.done c.in-Acts.cells c.in-Acts.list c.in-Acts.is
    c.in-Some.act c.in-Err-perform.stop _ _ (sym c.in-Some.ensures.is) c.in-Err-perform.ensures
    c.undo_step-in-Err-perform.ensures

pub returns-in-None-clause-ok : goal.returns-in-None-clause-ok
returns-in-None-clause-ok g c =
    none_left g.V.View.sense g.V.View.bracket (cells_in c.args.self.now) (lists_in c.args.self.now) c.args.s.now _ _
    c.open_step.ensures c.in-Acts.number c.in-Acts.done c.in-Acts.cells c.in-Acts.list c.in-Acts.is
    (c.end-in-None.result, c.end-in-None.new.s) (sym c.in-None.ensures.is)
    (has_ended _ _ c.end-in-None.ensures.ended c.end-in-None.ensures.over)
