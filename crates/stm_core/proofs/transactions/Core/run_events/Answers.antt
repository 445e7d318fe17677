use Rattle.std.proofs.Common.{rules, arith}
use Rattle.stm_core.specs.CoreHeld.{core_client, core_limits}
use Rattle.stm_core.proofs.Calling.{same_then}
use Rattle.stm_core.proofs.Counting.{counts_then}
use Rattle.stm_core.proofs.EventSteps.{turn, ended}
use Rattle.stm_core.proofs.Histories.{all_leave, all_grown}
use Rattle.stm_core.proofs.transactions.Core.run_events.Goals as goal

pub events-preserved : goal.events-preserved
events-preserved g c = record {
  good = c.make-reply.ensures.good;
  job = same_then g.S.SegStore.meaning c.args.self.now c.events.self c.make-reply.new.self c.events.invariant.job
      c.make-reply.ensures.job;
  made = λ o s.
      let z = c.events.invariant.made o s in
      let v = c.make-reply.ensures.made z.0 z.1 in (
        v.0,
        v.1,
        turn g.C.Client.prog (core_client c.args.self.now) (core_client c.events.self)
            (core_limits g.S.SegStore.meaning c.args.self.now) (core_limits g.S.SegStore.meaning c.events.self)
            c.args.list.now c.events.replies.items c.push.new.self.items c.in-Some.event.now c.events.rest.now
            c.in-Some.more.now c.make-reply.result
            o z.0 v.0 z.2 (search (rules)) c.events.invariant.job.client c.events.invariant.job.limits v.2
            (search (rules)),
      );
  counts = counts_then _ _ _ c.events.invariant.counts c.make-reply.ensures.counts;
  room = search (rules, arith);
}

pub returns-clause-made : goal.returns-clause-made
returns-clause-made g c = λ o s.
    let p = g.C.Client.prog (core_client c.args.self.now) in
    let l = core_limits g.S.SegStore.meaning c.args.self.now in
    let z = c.events.invariant.made o s in
    let e = ended p l c.args.list.now c.events.replies.items c.events.rest.now o z.0 z.2 (search (rules)) in
    let a = all_leave p l c.args.list.now c.events.replies.items o z.0 e in
    (z.0, z.1, (e, a, all_grown p l c.args.list.now c.events.replies.items o.core z.0.core a))
