use Rattle.std.proofs.Common.{[]}
use Rattle.py_frames.specs.State.{State}
use Rattle.py_step.specs.inner.Peeked.{AnswersWait}
use Rattle.py_step.proofs.BuiltinWaits.{acquire_tells, join_tells, other_goes, neither}
use Rattle.py_step.proofs.CallWaits.{me_of}
use Rattle.py_step.proofs.PeekedRows.{never_avoids}
use Rattle.py_step.proofs.blocked.builtins.builtin_waits.Goals as goal

pub returns-then-b-eq-LOCK_ACQUIRE : goal.returns-then-b-eq-LOCK_ACQUIRE
returns-then-b-eq-LOCK_ACQUIRE g c = λ roots.
    acquire_tells State (g.P.Peek.image c.args.heap.now) roots (me_of c.args.me) c.args.own c.args.args.now
    c.lock_waits.result c.args.b c.if-b-eq-LOCK_ACQUIRE.true c.lock_waits.ensures

pub returns-then-b-eq-THREAD_JOIN : goal.returns-then-b-eq-THREAD_JOIN
returns-then-b-eq-THREAD_JOIN g c = λ roots.
    join_tells State (g.P.Peek.image c.args.heap.now) roots (me_of c.args.me) c.args.own c.args.args.now
    c.thread_waits.result c.args.b c.if-b-eq-THREAD_JOIN.true (c.thread_waits.ensures roots)

pub returns : goal.returns
returns g c = λ roots.
    never_avoids AnswersWait (g.P.Peek.image c.args.heap.now) _
    (other_goes State roots (me_of c.args.me) c.args.b c.args.own c.args.args.now []
    (neither c.args.b [] c.if-b-eq-LOCK_ACQUIRE.false c.if-b-eq-THREAD_JOIN.false))
