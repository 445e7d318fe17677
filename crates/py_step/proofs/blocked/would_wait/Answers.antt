use Rattle.std.proofs.Common.{false, sym, ◌∙◌}
use Rattle.py_frames.specs.Steps.{step_row}
use Rattle.py_step.proofs.PeekedRows.{step_waits, step_goes}
use Rattle.py_step.proofs.StackRefers.{closed_over, stack_refers}
use Rattle.py_step.proofs.StepWaits.{dying_goes, living_tells, lost_goes}
use Rattle.py_step.proofs.blocked.would_wait.Goals as goal

pub guarded_waits-requires-clause-closed : goal.guarded_waits-requires-clause-closed
guarded_waits-requires-clause-closed g c = closed_over c.args.program.now (g.P.Peek.image c.args.heap.now) c.args.s.now
    c.requires.stands

pub guarded_waits-requires-clause-refer : goal.guarded_waits-requires-clause-refer
guarded_waits-requires-clause-refer g c = stack_refers c.args.program.now (g.P.Peek.image c.args.heap.now) c.args.s.now
    c.requires.stands (sym c.dying.ensures ∙ c.in-None.is)

pub returns-in-Some-clause-not : goal.returns-in-Some-clause-not
returns-in-Some-clause-not g c =
    let h = g.P.Peek.image c.args.heap.now in
    step_goes h (step_row c.args.program.now c.args.s.now) false
    (dying_goes h c.args.program.now c.args.s.now c.in-Some.field-0 (sym c.dying.ensures ∙ c.in-Some.is))

pub returns-in-Some-instr_at-clause-yes : goal.returns-in-Some-instr_at-clause-yes
returns-in-Some-instr_at-clause-yes g c =
    let h = g.P.Peek.image c.args.heap.now in
    let p = c.args.program.now in
    let s = c.args.s.now in
    let b = c.guarded_waits.result in
    step_waits h (step_row p s) b
    (living_tells h b p s c.in-Some-instr_at.i c.requires.lives (sym c.dying.ensures ∙ c.in-None.is)
    (sym c.instr_at.ensures ∙ c.in-Some-instr_at.is) c.guarded_waits.ensures)

pub returns-in-Some-instr_at-clause-not : goal.returns-in-Some-instr_at-clause-not
returns-in-Some-instr_at-clause-not g c =
    let h = g.P.Peek.image c.args.heap.now in
    let p = c.args.program.now in
    let s = c.args.s.now in
    let b = c.guarded_waits.result in
    step_goes h (step_row p s) b
    (living_tells h b p s c.in-Some-instr_at.i c.requires.lives (sym c.dying.ensures ∙ c.in-None.is)
    (sym c.instr_at.ensures ∙ c.in-Some-instr_at.is) c.guarded_waits.ensures)

pub returns-in-None-instr_at-clause-not : goal.returns-in-None-instr_at-clause-not
returns-in-None-instr_at-clause-not g c =
    let h = g.P.Peek.image c.args.heap.now in
    let p = c.args.program.now in
    let s = c.args.s.now in
    step_goes h (step_row p s) false (lost_goes h p s c.requires.lives (sym c.dying.ensures ∙ c.in-None.is)
    (sym c.instr_at.ensures ∙ c.in-None-instr_at.is))
