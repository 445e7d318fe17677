use Rattle.std.proofs.Common.{arith, ◌≡◌, [], Ok, subst}
use Rattle.std.proofs.lemmas.Grind.{common_steps}
use Rattle.py_data.proofs.Steps.{stop_as}
use Rattle.obj_str.specs.Adding.{Adds}
use Rattle.obj_str.proofs.JoinLoop.{join_safe, join_stop, join_raise, join_turn, end_safe, end_met}
use Rattle.obj_str.proofs.join.join_texts.Goals as goal

pub add_item-requires-clause-safe : goal.add_item-requires-clause-safe
add_item-requires-clause-safe g c = join_safe c.turns.invariant c.in-Some.x.now c.in-Some.more.now c.in-Some.ensures

pub returns-in_err-longer : goal.returns-in_err-longer
returns-in_err-longer g c = stop_as _ _ _ _ _ _
    (join_stop c.turns.invariant c.in-Some.x.now c.in-Some.more.now c.in-Some.ensures _ _ c.in_err-longer.ensures)
    c.from_residual.ensures.1

pub returns-in-Raise : goal.returns-in-Raise
returns-in-Raise g c =
    join_raise c.turns.invariant c.in-Some.x.now c.in-Some.more.now c.in-Some.ensures g.met.V.View.lawful _ c.in-Raise.e
    (subst (λ r. Adds g.V.View.sense c.between.result.now c.turns.text c.in-Some.x.now c.turns.v c.add_item.new.v
    (Ok r)) c.in-Raise.is c.in_ok-longer.ensures)

pub turns-preserved : goal.turns-preserved
turns-preserved g c =
    join_turn c.turns.invariant c.in-Some.x.now c.in-Some.more.now c.in-Some.ensures g.met.V.View.lawful
    c.between.result.now _ c.in-Is.longer c.between.ensures
    (subst (λ r. Adds g.V.View.sense c.between.result.now c.turns.text c.in-Some.x.now c.turns.v c.add_item.new.v
    (Ok r)) c.in-Is.is c.in_ok-longer.ensures)

pub make_fitting-requires-clause-safe : goal.make_fitting-requires-clause-safe
make_fitting-requires-clause-safe g c =
    let end : c.turns.rest.now ≡ [] = grind (arith, common_steps) in
    end_safe c.turns.invariant end

pub returns : goal.returns
returns g c =
    let end : c.turns.rest.now ≡ [] = grind (arith, common_steps) in
    end_met c.turns.invariant end _ _ c.make_fitting.ensures
