use Rattle.py_frames.specs.State.{State}
use Rattle.py_step.proofs.BuiltinWaits.{one_in_lock, lock_tells, lock_goes}
use Rattle.py_step.proofs.blocked.builtins.lock_waits.Goals as goal

pub acquire_waits-requires-clause-lock : goal.acquire_waits-requires-clause-lock
acquire_waits-requires-clause-lock g c = let i = c.in-Some.ensures in
    one_in_lock (g.P.Peek.image c.args.heap.now) c.requires.closed c.in-Some.a.0 i.1 i.2

pub returns-in-Some : goal.returns-in-Some
returns-in-Some g c =
    let i = c.in-Some.ensures in
    lock_tells State (g.P.Peek.image c.args.heap.now) c.acquire_waits.result c.args.own c.in-Some.a c.args.args.now i.0
    i.1 i.2 c.acquire_waits.ensures

pub returns-in-None : goal.returns-in-None
returns-in-None g c = lock_goes State (g.P.Peek.image c.args.heap.now) c.args.own c.args.args.now c.requires.own
    c.in-None.ensures
