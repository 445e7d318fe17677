use Rattle.std.proofs.Common.{arith, ◌≡◌, []}
use Rattle.std.proofs.lemmas.Grind.{common_steps}
use Rattle.py_data.specs.declared.stop.Stop.TheVariants.{OutOfMemory}
use Rattle.py_data.proofs.Steps.{stop_as}
use Rattle.py_instrs.proofs.RootsLoop.{roots_begin, root_safe, root_stop, root_more, root_starved, roots_end}
use Rattle.py_instrs.proofs.setup.roots_row.Goals as goal

pub turns-init : goal.turns-init
turns-init g c = roots_begin c.args.roots.now c.new-values.result _ c.new-values.ensures c.requires.safe c.requires.live

pub root_by-requires-clause-live : goal.root_by-requires-clause-live
root_by-requires-clause-live g c = c.turns.invariant.live

pub root_by-requires-clause-safe : goal.root_by-requires-clause-safe
root_by-requires-clause-safe g c = root_safe c.turns.rest.now c.in-Some.more.now c.in-Some.r.now c.turns.values
    c.in-Some.ensures c.turns.invariant

pub returns-in_err-x : goal.returns-in_err-x
returns-in_err-x g c = stop_as _ _ _ _ _ _
    (root_stop _ _ c.turns.rest.now c.in-Some.more.now c.in-Some.r.now c.turns.values c.in-Some.ensures
    c.turns.invariant c.in_err-x.ensures) c.from_residual.ensures.1

pub returns-in_err-push : goal.returns-in_err-push
returns-in_err-push g c = stop_as _ _ _ _ OutOfMemory _
    (root_starved g.met.V.View.lawful _ c.in_ok-x.x c.turns.rest.now c.in-Some.more.now c.in-Some.r.now c.turns.values
    c.in-Some.ensures c.turns.invariant c.in_ok-x.ensures) c.from_residual-in_err-push.ensures.1

pub turns-preserved : goal.turns-preserved
turns-preserved g c = root_more g.met.V.View.lawful _ c.in_ok-x.x c.turns.rest.now c.in-Some.more.now c.in-Some.r.now
    c.turns.values _ c.in-Some.ensures c.in_ok-push.ensures.ok c.turns.invariant c.in_ok-x.ensures

pub returns : goal.returns
returns g c =
    let end : c.turns.rest.now ≡ [] = grind (arith, common_steps) in
    roots_end c.turns.rest.now c.turns.values end c.turns.invariant
