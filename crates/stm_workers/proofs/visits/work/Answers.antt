use Rattle.stm_workers.specs.inner.GrowthLaws.{grows_then}
use Rattle.stm_workers.proofs.visits.work.Goals as goal

pub returns-clause-grows : goal.returns-clause-grows
returns-clause-grows g c = grows_then g.I.Source.state g.O.Sink.state g.E.Sink.state g.C.Client.prog
    g.S.SegStore.meaning g.S.SegStore.peaks c.args.core.now c.begin_next.new.core c.go_on.new.core
    c.begin_next.ensures.grows
    c.go_on.ensures.grows
