use Rattle.std.proofs.Common.{arith, None, subst, Ok}
use Rattle.py_data.specs.Sense.{Meets}
use Rattle.py_data.proofs.Steps.{stop_as, leads_begin}
use Rattle.py_data.proofs.Turns.{walk_safe, walk_stop, walk_more, walk_done, walk_end}
use Rattle.obj_class.specs.Bases.{MOST_BASES}
use Rattle.obj_class.specs.AttrRows.{heir_step, inherited_row}
use Rattle.obj_class.proofs.inheritance.inherited.Goals as goal

pub turns-init : goal.turns-init
unfolding inherited_row
turns-init g c = leads_begin g.V.View.sense (inherited_row c.args.key c.args.class) _ c.requires.safe c.requires.live

pub heir_step-requires-clause-safe : goal.heir_step-requires-clause-safe
heir_step-requires-clause-safe g c = walk_safe (heir_step c.args.key) None c.turns.counter MOST_BASES c.turns.at
    (omega arith) c.turns.invariant

pub returns-in_err-turn : goal.returns-in_err-turn
returns-in_err-turn g c = stop_as _ _ _ _ _ _
    (walk_stop (heir_step c.args.key) None _ _ c.turns.counter MOST_BASES c.turns.at (omega arith) c.turns.invariant
    c.in_err-turn.ensures) c.from_residual.ensures.1

pub returns-in-Err : goal.returns-in-Err
returns-in-Err g c = walk_done (heir_step c.args.key) None g.met.V.View.lawful _ c.turns.counter MOST_BASES c.turns.at
    c.in-Err.found (omega arith) c.turns.invariant
    (subst (λ r. Meets g.V.View.sense (heir_step c.args.key c.turns.at) c.turns.v c.heir_step.new.v (Ok r)) c.in-Err.is
    c.in_ok-turn.ensures)

pub turns-preserved : goal.turns-preserved
turns-preserved g c = walk_more (heir_step c.args.key) None g.met.V.View.lawful _ c.turns.counter MOST_BASES c.turns.at
    c.in-Ok.base (omega arith) c.turns.invariant
    (subst (λ r. Meets g.V.View.sense (heir_step c.args.key c.turns.at) c.turns.v c.heir_step.new.v (Ok r)) c.in-Ok.is
    c.in_ok-turn.ensures)

pub returns : goal.returns
returns g c = walk_end (heir_step c.args.key) None c.turns.counter MOST_BASES c.turns.at (omega arith) c.turns.invariant
