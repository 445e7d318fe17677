use Rattle.std.proofs.Common.{sym, ◌∙◌}
use Rattle.stm_workers.specs.inner.GrowthLaws.{grows_same}
use Rattle.stm_workers.proofs.Growing.{commit_grows}
use Rattle.stm_workers.proofs.visits.commit.Goals as goal

pub returns-then-is_busy-clause-grows : goal.returns-then-is_busy-clause-grows
returns-then-is_busy-clause-grows g c = commit_grows c.events_law.ensures.each c.events_law.ensures.all
    g.I.Source.state g.O.Sink.state g.E.Sink.state g.C.Client.prog g.S.SegStore.meaning g.S.SegStore.peaks
    c.args.core.now
    c.commit.new.self c.commit.ensures.job c.commit.ensures.peaks c.args.k c.slot-slot.result c.requires.segment
    c.slot-slot.ensures
    (sym c.is_busy.ensures ∙ c.if-is_busy.true) c.call_law.ensures.commit c.commit.result c.commit.ensures.committed

pub returns-else-is_busy-clause-grows : goal.returns-else-is_busy-clause-grows
returns-else-is_busy-clause-grows g c = grows_same g.I.Source.state g.O.Sink.state g.E.Sink.state g.C.Client.prog
    g.S.SegStore.meaning g.S.SegStore.peaks c.args.core.now
