use Rattle.std.proofs.Common.{ap, ◌∙◌}
use Rattle.stm_core.specs.Moves.{published}
use Rattle.stm_segment.specs.Books.{worlds_after, transaction}
use Rattle.stm_core.specs.inner.Trying.{core_with}
use Rattle.stm_core.proofs.Publishing.{left_idle, thread_still, count_still}
use Rattle.stm_core.proofs.Breaking.{whole_none, whole_some}
use Rattle.stm_core.proofs.Ended.{ended_dropped, ended_then}
use Rattle.stm_core.proofs.Calling.{blank}
use Rattle.stm_core.proofs.transactions.Core.commit_whole.Goals as goal

pub publish-requires-clause-thread : goal.publish-requires-clause-thread
publish-requires-clause-thread g c =
    thread_still blank c.args.k (g.S.SegStore.meaning c.args.self.now.store)
    (g.S.SegStore.meaning c.doom_readers.new.self.store) c.args.self.now.books c.doom_readers.new.self.books
    c.args.work (c.doom_readers.ensures.core blank) c.requires.out.thread

pub returns-then-work-eq0-clause-core : goal.returns-then-work-eq0-clause-core
returns-then-work-eq0-clause-core g c = λ w.
    let m = g.S.SegStore.meaning c.args.self.now.store in
    let b = c.args.self.now.books in
    let u = core_with w c.args.k m b c.args.work in (
      w,
      whole_none c.args.k m.segments (transaction w.own (m.part c.args.k) c.args.work) u c.args.work.steps _
          c.if-work-eq0.true (c.drop_out.ensures.core w ∙ left_idle w c.args.k m b c.args.work c.requires.out.idle),
    )

pub returns-else-work-eq0-clause-core : goal.returns-else-work-eq0-clause-core
returns-else-work-eq0-clause-core g c = λ w.
    let m = g.S.SegStore.meaning c.args.self.now.store in
    let m1 = g.S.SegStore.meaning c.doom_readers.new.self.store in
    let tx = transaction w.own (m.part c.args.k) c.args.work in
    let u = core_with w c.args.k m c.args.self.now.books c.args.work in (
      worlds_after w c.args.work,
      whole_some c.args.k m.segments tx u c.args.work.steps _ c.if-work-eq0.false
          (c.publish.ensures.core w ∙ ap
          (λ p. published c.args.k (transaction w.own p c.args.work)
          (core_with w c.args.k m1 c.doom_readers.new.self.books c.args.work)) c.doom_readers.ensures.part ∙
          ap (published c.args.k tx) (c.doom_readers.ensures.core w)),
    )

pub publish-requires-clause-count : goal.publish-requires-clause-count
publish-requires-clause-count g c =
    count_still blank c.args.k (g.S.SegStore.meaning c.args.self.now.store)
    (g.S.SegStore.meaning c.doom_readers.new.self.store) c.args.self.now.books c.doom_readers.new.self.books
    c.args.work (c.doom_readers.ensures.core blank) _ _ (ap (λ s. s.spent) c.doom_readers.ensures.rest)
    c.requires.out.count

pub drop_out-requires-clause-fit : goal.drop_out-requires-clause-fit
drop_out-requires-clause-fit g c = c.requires.out.fit

pub drop_out-requires-clause-idle : goal.drop_out-requires-clause-idle
drop_out-requires-clause-idle g c = c.requires.out.idle

pub doom_readers-requires : goal.doom_readers-requires
doom_readers-requires g c = record { fit = c.requires.out.fit }

pub publish-requires-clause-idle : goal.publish-requires-clause-idle
publish-requires-clause-idle g c = c.doom_readers.ensures.idle ∙ c.requires.out.idle

pub returns-then-work-eq0-clause-ended : goal.returns-then-work-eq0-clause-ended
returns-then-work-eq0-clause-ended g c =
    let d = c.drop_out.ensures in
    ended_dropped g.S.SegStore.meaning g.S.SegStore.reserved g.S.SegStore.peaks c.args.self.now c.drop_out.new.self
    c.args.k d.rest d.whole (ap (λ k. k.history) (d.core blank)) d.store d.reserved d.peaks c.requires.out.count

pub returns-else-work-eq0-clause-ended : goal.returns-else-work-eq0-clause-ended
returns-else-work-eq0-clause-ended g c =
    let d = c.doom_readers.ensures in
    let p = c.publish.ensures in
    ended_then g.S.SegStore.meaning g.S.SegStore.reserved g.S.SegStore.peaks c.args.self.now c.doom_readers.new.self
    c.publish.new.self d.rest d.shape d.reserved d.peaks p.rest p.whole p.count p.shape p.reserved p.peaks
