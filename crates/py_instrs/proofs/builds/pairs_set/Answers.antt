use Rattle.std.proofs.Common.{arith, ◌≤◌, length, subst, Ok}
use Rattle.std.proofs.lemmas.Grind.{common_steps}
use Rattle.py_data.specs.Sense.{Meets}
use Rattle.py_data.proofs.Steps.{stop_as}
use Rattle.obj_dict.specs.Dict.{set_row}
use Rattle.py_instrs.proofs.PairLoops.{set_safe, set_stop, set_more, set_raised, set_end}
use Rattle.py_instrs.proofs.builds.pairs_set.Goals as goal

pub set-requires-clause-safe : goal.set-requires-clause-safe
set-requires-clause-safe g c = set_safe c.args.d.0 c.turns.rest.now c.in-Some.key c.in-Some.x c.in-Some.more.now
    c.in-Some.ensures c.turns.invariant

pub returns-in_err-turn : goal.returns-in_err-turn
returns-in_err-turn g c = stop_as _ _ _ _ _ _
    (set_stop c.args.d.0 _ _ c.turns.rest.now c.in-Some.key c.in-Some.x c.in-Some.more.now c.in-Some.ensures
    c.turns.invariant c.in_err-turn.ensures) c.from_residual.ensures.1

pub returns-in-Raise : goal.returns-in-Raise
returns-in-Raise g c =
    set_raised c.args.d.0 g.met.V.View.lawful _ c.turns.rest.now c.in-Some.key c.in-Some.x c.in-Some.more.now
    c.in-Raise.e c.in-Some.ensures c.turns.invariant
    (subst (λ r. Meets g.V.View.sense (set_row c.args.d.0 c.in-Some.key c.in-Some.x) c.turns.v c.set.new.v (Ok r))
    c.in-Raise.is c.in_ok-turn.ensures)

pub turns-preserved : goal.turns-preserved
turns-preserved g c =
    set_more c.args.d.0 g.met.V.View.lawful _ c.turns.rest.now c.in-Some.key c.in-Some.x c.in-Some.more.now
    c.in-Is.field-0 c.in-Some.ensures c.turns.invariant
    (subst (λ r. Meets g.V.View.sense (set_row c.args.d.0 c.in-Some.key c.in-Some.x) c.turns.v c.set.new.v (Ok r))
    c.in-Is.is c.in_ok-turn.ensures)

pub returns : goal.returns
returns g c =
    let end : length c.turns.rest.now ≤ 1 = grind (arith, common_steps) in
    set_end c.args.d.0 c.turns.rest.now end c.turns.invariant
