use Rattle.std.proofs.Common.{sym, None, Some}
use Rattle.py_states.specs.Innermost.{innermost}
use Rattle.py_step.proofs.Moving.{at_is, at_of, both, dying_is, moves_as, operator_here, over, run_as, safe_as}
use Rattle.py_step.proofs.step.step_row.Goals as goal

pub die-requires-clause-safe : goal.die-requires-clause-safe
die-requires-clause-safe g c = safe_as g.V.View.sense _ _ _
    (dying_is c.args.p.now c.args.s.now c.in-Some.d c.requires.lives (sym c.in-Some.ensures)) c.requires.safe

pub returns-in-Some : goal.returns-in-Some
returns-in-Some g c = moves_as g.V.View.sense _ _ _ _ _ _ _
    (dying_is c.args.p.now c.args.s.now c.in-Some.d c.requires.lives (sym c.in-Some.ensures)) c.die.ensures

pub go-requires-clause-operator : goal.go-requires-clause-operator
go-requires-clause-operator g c = operator_here c.args.p.now c.args.s.now c.in-Some-instr_at.i
    c.requires.operable c.requires.lives (sym c.in_default.ensures)
    (at_of _ _ (innermost c.args.s.now.frames) _ c.program.ensures c.in-Some-instr_at.ensures)

pub go-requires-clause-safe : goal.go-requires-clause-safe
go-requires-clause-safe g c =
    safe_as g.V.View.sense _ _ _ (at_is c.args.p.now c.args.s.now (Some c.in-Some-instr_at.i) c.requires.lives
    (sym c.in_default.ensures)
    (at_of _ _ (innermost c.args.s.now.frames) _ c.program.ensures c.in-Some-instr_at.ensures)) c.requires.safe

pub returns-in-Some-instr_at : goal.returns-in-Some-instr_at
returns-in-Some-instr_at g c =
    moves_as g.V.View.sense _ _ _ _ _ _ _
    (at_is c.args.p.now c.args.s.now (Some c.in-Some-instr_at.i) c.requires.lives (sym c.in_default.ensures)
    (at_of _ _ (innermost c.args.s.now.frames) _ c.program.ensures c.in-Some-instr_at.ensures)) c.go.ensures

pub returns-in-None : goal.returns-in-None
returns-in-None g c =
    run_as g.V.View.sense _ _ _ (c.end.result, c.end.new.s) _ _
    (at_is c.args.p.now c.args.s.now None c.requires.lives (sym c.in_default.ensures)
    (at_of _ _ (innermost c.args.s.now.frames) _ c.program.ensures c.in-None.ensures))
    (both _ _ _ _ c.end.ensures.outcome c.end.ensures.state)
    (over g.V.View.sense c.args.p.now c.args.s.now _ _ _)
