use Rattle.stm_workers.specs.inner.GrowthLaws.{grows_then}
use Rattle.stm_workers.proofs.workers.run_workers.Goals as goal

pub returns-clause-grows : goal.returns-clause-grows
returns-clause-grows g c = grows_then g.I.Source.state g.O.Sink.state g.E.Sink.state g.C.Client.prog
    g.S.SegStore.meaning g.S.SegStore.peaks c.args.core c.run_held-core.result.core c.finish.result
    c.run_held-core.ensures.grows
    c.finish.ensures.grows
