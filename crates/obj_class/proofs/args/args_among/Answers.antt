use Rattle.std.proofs.Common.{arith, ◌∙◌, sym, None}
use Rattle.py_data.proofs.Steps.{stop_as}
use Rattle.py_data.proofs.Turns.{until_safe, until_stop, until_more, until_found, until_end}
use Rattle.obj_class.specs.Telling.{args_pair_row, is_missing}
use Rattle.obj_class.proofs.args.args_among.Goals as goal

pub args_pair-requires-clause-safe : goal.args_pair-requires-clause-safe
args_pair-requires-clause-safe g c = until_safe (args_pair_row c.args.d.0) is_missing None c.turns.i c.args.n
    (omega arith) c.turns.invariant

pub returns-in_err-found : goal.returns-in_err-found
returns-in_err-found g c = stop_as _ _ _ _ _ _
    (until_stop (args_pair_row c.args.d.0) is_missing None _ _ c.turns.i c.args.n (omega arith) c.turns.invariant
    c.in_err-found.ensures) c.from_residual.ensures.1

pub returns-then-not-is_missing : goal.returns-then-not-is_missing
returns-then-not-is_missing g c = until_found (args_pair_row c.args.d.0) is_missing None g.met.V.View.lawful _
    c.in_ok-found.found c.turns.i c.args.n (omega arith) c.turns.invariant c.in_ok-found.ensures
    (sym c.is_missing.ensures ∙ c.if-not-is_missing.true)

pub turns-preserved : goal.turns-preserved
turns-preserved g c = until_more (args_pair_row c.args.d.0) is_missing None g.met.V.View.lawful _ c.in_ok-found.found
    c.turns.i c.args.n (omega arith) c.turns.invariant c.in_ok-found.ensures
    (sym c.is_missing.ensures ∙ c.if-not-is_missing.false)

pub returns : goal.returns
returns g c = until_end (args_pair_row c.args.d.0) is_missing None c.turns.i c.args.n (omega arith) c.turns.invariant
