use Rattle.std.proofs.Common.{arith, false, subst, Ok}
use Rattle.py_data.specs.Sense.{Meets}
use Rattle.py_data.proofs.Steps.{stop_as}
use Rattle.py_data.proofs.Turns.{walk_safe, walk_stop, walk_more, walk_done, walk_end}
use Rattle.obj_class.specs.Bases.{MOST_BASES, sub_step}
use Rattle.obj_class.proofs.bases.is_sub.Goals as goal

pub sub_step-requires-clause-safe : goal.sub_step-requires-clause-safe
sub_step-requires-clause-safe g c = walk_safe (sub_step c.args.base.0) false c.turns.counter MOST_BASES c.turns.at
    (omega arith) c.turns.invariant

pub returns-in_err-turn : goal.returns-in_err-turn
returns-in_err-turn g c = stop_as _ _ _ _ _ _
    (walk_stop (sub_step c.args.base.0) false _ _ c.turns.counter MOST_BASES c.turns.at (omega arith) c.turns.invariant
    c.in_err-turn.ensures) c.from_residual.ensures.1

pub returns-in-Err : goal.returns-in-Err
returns-in-Err g c = walk_done (sub_step c.args.base.0) false g.met.V.View.lawful _ c.turns.counter MOST_BASES
    c.turns.at c.in-Err.found (omega arith) c.turns.invariant
    (subst (λ r. Meets g.V.View.sense (sub_step c.args.base.0 c.turns.at) c.turns.v c.sub_step.new.v (Ok r))
    c.in-Err.is c.in_ok-turn.ensures)

pub turns-preserved : goal.turns-preserved
turns-preserved g c = walk_more (sub_step c.args.base.0) false g.met.V.View.lawful _ c.turns.counter MOST_BASES
    c.turns.at c.in-Ok.b (omega arith) c.turns.invariant
    (subst (λ r. Meets g.V.View.sense (sub_step c.args.base.0 c.turns.at) c.turns.v c.sub_step.new.v (Ok r)) c.in-Ok.is
    c.in_ok-turn.ensures)

pub returns : goal.returns
returns g c = walk_end (sub_step c.args.base.0) false c.turns.counter MOST_BASES c.turns.at (omega arith)
    c.turns.invariant
