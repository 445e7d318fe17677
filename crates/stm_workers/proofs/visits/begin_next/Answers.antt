use Rattle.stm_workers.specs.inner.GrowthLaws.{grows_same}
use Rattle.stm_workers.proofs.visits.begin_next.Goals as goal

pub returns-then-is_busy-clause-grows : goal.returns-then-is_busy-clause-grows
returns-then-is_busy-clause-grows g c = grows_same g.I.Source.state g.O.Sink.state g.E.Sink.state g.C.Client.prog
    g.S.SegStore.meaning g.S.SegStore.peaks c.args.core.now

pub returns-in_default-clause-grows : goal.returns-in_default-clause-grows
returns-in_default-clause-grows g c = grows_same g.I.Source.state g.O.Sink.state g.E.Sink.state g.C.Client.prog
    g.S.SegStore.meaning g.S.SegStore.peaks c.args.core.now
