use Rattle.std.proofs.Common.{arith, subst, Ok}
use Rattle.py_data.specs.Sense.{Meets}
use Rattle.py_data.proofs.Steps.{stop_as}
use Rattle.py_data.proofs.Turns.{each_safe, each_stop, each_more, each_raised, each_end}
use Rattle.obj_builtins.specs.Kinds.{class_turn}
use Rattle.obj_builtins.proofs.Loops.{classes_begin}
use Rattle.obj_builtins.proofs.kinds.classes_in.Goals as goal

pub turns-init : goal.turns-init
turns-init g c = classes_begin c.args.a.0 c.args.n c.new-classes.result _ c.new-classes.ensures c.requires.safe
    c.requires.live

pub class_turn-requires-clause-live : goal.class_turn-requires-clause-live
class_turn-requires-clause-live g c = c.turns.invariant.live

pub class_turn-requires-clause-safe : goal.class_turn-requires-clause-safe
class_turn-requires-clause-safe g c = each_safe (class_turn c.args.a.0) c.turns.i c.args.n c.turns.classes
    (omega arith) c.turns.invariant

pub returns-in_err-next : goal.returns-in_err-next
returns-in_err-next g c = stop_as _ _ _ _ _ _
    (each_stop (class_turn c.args.a.0) _ _ c.turns.i c.args.n c.turns.classes (omega arith) c.turns.invariant
    c.in_err-next.ensures) c.from_residual.ensures.1

pub returns-in-Raise : goal.returns-in-Raise
returns-in-Raise g c = each_raised (class_turn c.args.a.0) g.met.V.View.lawful _ c.turns.i c.args.n c.turns.classes
    c.in-Raise.e (omega arith) c.turns.invariant
    (subst (λ r. Meets g.V.View.sense (class_turn c.args.a.0 c.turns.i c.turns.classes) c.turns.v c.class_turn.new.v
    (Ok r)) c.in-Raise.is c.in_ok-next.ensures)

pub turns-preserved : goal.turns-preserved
turns-preserved g c = each_more (class_turn c.args.a.0) g.met.V.View.lawful _ c.turns.i c.args.n c.turns.classes
    c.in-Is.more (omega arith) c.turns.invariant
    (subst (λ r. Meets g.V.View.sense (class_turn c.args.a.0 c.turns.i c.turns.classes) c.turns.v c.class_turn.new.v
    (Ok r)) c.in-Is.is c.in_ok-next.ensures)

pub returns : goal.returns
returns g c = each_end (class_turn c.args.a.0) c.turns.i c.args.n c.turns.classes (omega arith) c.turns.invariant
