use Rattle.std.proofs.Common.{arith, ◌≤◌, length}
use Rattle.std.proofs.lemmas.Grind.{common_steps}
use Rattle.py_data.proofs.Steps.{stop_as}
use Rattle.py_instrs.proofs.PairLoops.{keys_safe, keys_stop, keys_more, keys_found, keys_end}
use Rattle.py_instrs.proofs.builds.all_keys_row.Goals as goal

pub key_row-requires-clause-safe : goal.key_row-requires-clause-safe
key_row-requires-clause-safe g c = keys_safe c.turns.rest.now c.in-Some.key c.in-Some.field-0-1 c.in-Some.more.now
    c.in-Some.ensures c.turns.invariant

pub returns-in_err-usable : goal.returns-in_err-usable
returns-in_err-usable g c = stop_as _ _ _ _ _ _
    (keys_stop _ _ c.turns.rest.now c.in-Some.key c.in-Some.field-0-1 c.in-Some.more.now c.in-Some.ensures
    c.turns.invariant c.in_err-usable.ensures) c.from_residual.ensures.1

pub returns-else-usable : goal.returns-else-usable
returns-else-usable g c = keys_found g.met.V.View.lawful _ c.in_ok-usable.usable c.turns.rest.now c.in-Some.key
    c.in-Some.field-0-1 c.in-Some.more.now c.in-Some.ensures c.turns.invariant c.in_ok-usable.ensures c.if-usable.false

pub turns-preserved : goal.turns-preserved
turns-preserved g c = keys_more g.met.V.View.lawful _ c.in_ok-usable.usable c.turns.rest.now c.in-Some.key
    c.in-Some.field-0-1 c.in-Some.more.now c.in-Some.ensures c.turns.invariant c.in_ok-usable.ensures c.if-usable.true

pub returns : goal.returns
returns g c =
    let end : length c.turns.rest.now ≤ 1 = grind (arith, common_steps) in
    keys_end c.turns.rest.now end c.turns.invariant
