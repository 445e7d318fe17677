use Rattle.std.proofs.Common.{◌≢◌, Some, None, length, ap, subst, ◌∙◌, arith}
use Rattle.std.specs.List.{range_with_len}
use Rattle.stm_segment.specs.CoreState.{with_conflict}
use Rattle.stm_core.specs.Moves.{published}
use Rattle.stm_segment.specs.Books.{worlds_after, transaction}
use Rattle.stm_core.specs.inner.Trying.{core_with}
use Rattle.stm_core.specs.inner.Readers.{FirstBeats}
use Rattle.stm_core.proofs.Committing.{none_wins, beaten_is}
use Rattle.stm_core.proofs.Publishing.{left_idle, dooms_keep, thread_still, count_still}
use Rattle.stm_core.proofs.Calling.{blank}
use Rattle.stm_core.proofs.Ended.{ended_dropped, ended_then}
use Rattle.stm_core.proofs.transactions.Core.commit_out.Goals as goal

pub returns-then-work-eq0-clause-ends : goal.returns-then-work-eq0-clause-ends
returns-then-work-eq0-clause-ends g c = λ w. (
  w,
  (
    c.if-work-eq0.true,
    c.drop_out.ensures.core w ∙
        left_idle w c.args.k (g.S.SegStore.meaning c.args.self.now.store) c.args.self.now.books c.args.work
        c.requires.out.idle,
  ),
)

pub publish-requires-clause-thread : goal.publish-requires-clause-thread
publish-requires-clause-thread g c =
    thread_still blank c.args.k (g.S.SegStore.meaning c.args.self.now.store)
    (g.S.SegStore.meaning c.doom_readers.new.self.store) c.args.self.now.books c.doom_readers.new.self.books
    c.args.work (c.doom_readers.ensures.core blank) c.requires.out.thread

pub publish-requires-clause-count : goal.publish-requires-clause-count
publish-requires-clause-count g c =
    count_still blank c.args.k (g.S.SegStore.meaning c.args.self.now.store)
    (g.S.SegStore.meaning c.doom_readers.new.self.store) c.args.self.now.books c.doom_readers.new.self.books
    c.args.work (c.doom_readers.ensures.core blank) _ _ (ap (λ s. s.spent) c.doom_readers.ensures.rest)
    c.requires.out.count

pub returns-in-Some-clause-ended : goal.returns-in-Some-clause-ended
returns-in-Some-clause-ended g c =
    let d = c.lose_out.ensures in
    ended_dropped g.S.SegStore.meaning g.S.SegStore.reserved g.S.SegStore.peaks c.args.self.now c.lose_out.new.self
    c.args.k d.rest d.whole (ap (λ k. k.history) (d.core blank)) d.store d.reserved d.peaks c.requires.out.count

pub returns-in-Some-clause-ends : goal.returns-in-Some-clause-ends
returns-in-Some-clause-ends g c = λ w.
    let m = g.S.SegStore.meaning c.args.self.now.store in
    let n : c.args.work.steps ≢ 0 = c.if-work-eq0.false in (
      w,
      (
        omega (arith, n),
        beaten_is w c.args.k m c.args.self.now.books c.args.work (g.C.Client.prog c.args.self.now.client.now)
            m.segments c.in-Some.f (subst
            (λ s. FirstBeats c.args.self.now.books.hands.items m c.args.k s m.segments (Some c.in-Some.f))
            c.side-me.ensures c.in-Some.ensures),
        c.lose_out.ensures.core w ∙ ap (with_conflict c.in-Some.f)
            (left_idle w c.args.k m c.args.self.now.books c.args.work c.requires.out.idle),
      ),
    )

pub returns-in-None-clause-ends : goal.returns-in-None-clause-ends
returns-in-None-clause-ends g c = λ w.
    let m = g.S.SegStore.meaning c.args.self.now.store in
    let m1 = g.S.SegStore.meaning c.doom_readers.new.self.store in
    let tx = transaction w.own (m.part c.args.k) c.args.work in
    let u = core_with w c.args.k m c.args.self.now.books c.args.work in
    let n : c.args.work.steps ≢ 0 = c.if-work-eq0.false in (
      worlds_after w c.args.work,
      (
        omega (arith, n),
        none_wins w c.args.k m c.args.self.now.books c.args.work m.segments c.requires.out.fit.hands
            (subst (λ s. FirstBeats c.args.self.now.books.hands.items m c.args.k s m.segments None) c.side-me.ensures
            c.in-None.ensures) c.requires.numbers,
        c.publish.ensures.place ∙ ap (λ k. length k.history) (c.doom_readers.ensures.core w) ∙
            ap length (dooms_keep c.args.k tx (range_with_len 0 m.segments) u).1,
        c.publish.ensures.core w ∙ ap (λ p.
            published c.args.k (transaction w.own p c.args.work)
            (core_with w c.args.k m1 c.doom_readers.new.self.books c.args.work)) c.doom_readers.ensures.part ∙
            ap (published c.args.k tx) (c.doom_readers.ensures.core w),
      ),
    )

pub drop_out-requires-clause-fit : goal.drop_out-requires-clause-fit
drop_out-requires-clause-fit g c = c.requires.out.fit

pub drop_out-requires-clause-idle : goal.drop_out-requires-clause-idle
drop_out-requires-clause-idle g c = c.requires.out.idle

pub lose_out-requires-clause-fit : goal.lose_out-requires-clause-fit
lose_out-requires-clause-fit g c = c.requires.out.fit

pub lose_out-requires-clause-idle : goal.lose_out-requires-clause-idle
lose_out-requires-clause-idle g c = c.requires.out.idle

pub doom_readers-requires : goal.doom_readers-requires
doom_readers-requires g c = record { fit = c.requires.out.fit }

pub publish-requires-clause-idle : goal.publish-requires-clause-idle
publish-requires-clause-idle g c = c.doom_readers.ensures.idle ∙ c.requires.out.idle

pub returns-then-work-eq0-clause-ended : goal.returns-then-work-eq0-clause-ended
returns-then-work-eq0-clause-ended g c =
    let d = c.drop_out.ensures in
    ended_dropped g.S.SegStore.meaning g.S.SegStore.reserved g.S.SegStore.peaks c.args.self.now c.drop_out.new.self
    c.args.k d.rest d.whole (ap (λ k. k.history) (d.core blank)) d.store d.reserved d.peaks c.requires.out.count

pub returns-in-None-clause-ended : goal.returns-in-None-clause-ended
returns-in-None-clause-ended g c =
    let d = c.doom_readers.ensures in
    let p = c.publish.ensures in
    ended_then g.S.SegStore.meaning g.S.SegStore.reserved g.S.SegStore.peaks c.args.self.now c.doom_readers.new.self
    c.publish.new.self d.rest d.shape d.reserved d.peaks p.rest p.whole p.count p.shape p.reserved p.peaks
