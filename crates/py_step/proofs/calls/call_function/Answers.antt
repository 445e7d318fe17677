use Rattle.py_data.proofs.Steps.{live_after}
use Rattle.py_step.proofs.FastPaths.{function_is}
use Rattle.py_step.proofs.Moving.{more_moved, more_safe, part_moved, part_safe}
use Rattle.py_step.proofs.calls.call_function.Goals as goal

pub code_of-requires-clause-safe : goal.code_of-requires-clause-safe
code_of-requires-clause-safe g c =
    let law = function_is c.args.p.now c.args.s.now c.args.n c.args.a.0 in
    part_safe g.V.View.sense _ _ _ law _ c.requires.safe

pub returns-in_err-code : goal.returns-in_err-code
returns-in_err-code g c =
    let law = function_is c.args.p.now c.args.s.now c.args.n c.args.a.0 in
    part_moved g.V.View.sense _ _ _ law c.args.s.now _ _ _ _ c.in_err-code.ensures c.from_residual.ensures.1

pub call_code-requires-clause-live : goal.call_code-requires-clause-live
call_code-requires-clause-live g c =
    live_after g.V.View.sense g.met.V.View.lawful _ _ _ _ c.in_ok-code.ensures c.requires.live

pub call_code-requires-clause-safe : goal.call_code-requires-clause-safe
call_code-requires-clause-safe g c =
    let law = function_is c.args.p.now c.args.s.now c.args.n c.args.a.0 in
    more_safe g.V.View.sense _ _ _ law g.met.V.View.lawful _ _ _ c.requires.safe c.in_ok-code.ensures

pub returns : goal.returns
returns g c =
    let law = function_is c.args.p.now c.args.s.now c.args.n c.args.a.0 in
    more_moved g.V.View.sense _ _ _ law c.args.s.now _ _ _ _ _ _ c.in_ok-code.ensures c.call_code.ensures
