use Rattle.py_frames.specs.State.{State}
use Rattle.py_step.proofs.BuiltinWaits.{none_of, four_in_thread, thread_tells, thread_goes, asked_goes}
use Rattle.py_step.proofs.CallWaits.{me_of}
use Rattle.py_step.proofs.blocked.builtins.thread_waits.Goals as goal

pub join_waits-requires-clause-thread : goal.join_waits-requires-clause-thread
join_waits-requires-clause-thread g c = let i = c.in-Some.ensures in
    four_in_thread (g.P.Peek.image c.args.heap.now) c.requires.closed c.in-Some.a.0 i.1 i.2

pub returns-in-Some : goal.returns-in-Some
returns-in-Some g c = λ roots.
    let i = c.in-Some.ensures in
    thread_tells State (g.P.Peek.image c.args.heap.now) roots (me_of c.args.me) c.join_waits.result c.args.own
    c.in-Some.a c.args.args.now i.0 (none_of c.args.args.now c.in-empty.len_below) i.1 i.2 c.join_waits.ensures

pub returns-in-None : goal.returns-in-None
returns-in-None g c = λ roots. thread_goes State (g.P.Peek.image c.args.heap.now) roots (me_of c.args.me) c.args.own
    c.args.args.now c.requires.own c.in-None.ensures

pub returns-in_default : goal.returns-in_default
returns-in_default g c = λ roots. asked_goes State (g.P.Peek.image c.args.heap.now) roots (me_of c.args.me) c.args.own
    c.args.args.now c.in_default.len_at_least c.requires.own
