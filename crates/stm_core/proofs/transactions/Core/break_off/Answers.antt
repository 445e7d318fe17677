use Rattle.std.proofs.Common.{ap, ◌∙◌}
use Rattle.stm_segment.specs.declared.books.Books.{Books}
use Rattle.stm_segment.specs.CoreState.{first_cause}
use Rattle.stm_segment.specs.Books.{transaction}
use Rattle.stm_core.specs.inner.Trying.{core_with}
use Rattle.stm_core.specs.Advanced.{with_cause}
use Rattle.stm_core.proofs.Settling.{caused, core_caused}
use Rattle.stm_core.proofs.Breaking.{whole_cause, cut_whole}
use Rattle.stm_core.proofs.Ended.{ended_kept}
use Rattle.stm_core.proofs.Calling.{blank}
use Rattle.stm_core.proofs.transactions.Core.break_off.Goals as goal

pub returns-clause-ended : goal.returns-clause-ended
returns-clause-ended g c =
    let y = c.commit_whole.new.self in
    let m1 = g.S.SegStore.meaning y.store in
    let h = c.commit_whole.ensures.ended in
    ended_kept g.S.SegStore.meaning g.S.SegStore.reserved g.S.SegStore.peaks c.args.self.now y c.keep.new.self h
    (caused m1 _ c.keep.new.self (cut_whole m1 y.books _ h.whole) c.keep.ensures.rest)
    (ap (λ (z : Books g.row.C-State.Denot). z.history.entries) c.keep.ensures.rest)

pub returns-clause-cause : goal.returns-clause-cause
returns-clause-cause g c =
    let m = g.S.SegStore.meaning c.args.self.now.store in
    let z = c.commit_whole.ensures.core blank in
    c.keep.ensures.cause ∙ ap (λ o. first_cause o c.args.cause)
    (ap (λ k. k.cause) z.1 ∙ whole_cause c.args.k m.segments (transaction blank.own (m.part c.args.k) c.args.work)
    (core_with blank c.args.k m c.args.self.now.books c.args.work) c.args.work.steps)

pub returns-clause-core : goal.returns-clause-core
returns-clause-core g c = λ w.
    let y = c.commit_whole.new.self in
    let m1 = g.S.SegStore.meaning y.store in
    let z = c.commit_whole.ensures.core w in (
      z.0,
      core_caused z.0 m1 _ c.keep.new.self c.args.cause c.keep.ensures.rest c.keep.ensures.cause ∙
          ap (with_cause c.args.cause) z.1,
    )
