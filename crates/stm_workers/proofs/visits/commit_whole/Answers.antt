use Rattle.stm_workers.specs.inner.GrowthLaws.{grows_same}
use Rattle.stm_workers.proofs.visits.commit_whole.Goals as goal

pub returns-in-Running-clause-grows : goal.returns-in-Running-clause-grows
returns-in-Running-clause-grows g c = grows_same g.I.Source.state g.O.Sink.state g.E.Sink.state g.C.Client.prog
    g.S.SegStore.meaning g.S.SegStore.peaks c.args.core.now
