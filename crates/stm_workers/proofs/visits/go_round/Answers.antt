use Rattle.stm_workers.specs.inner.GrowthLaws.{grows_same, grows_then}
use Rattle.stm_workers.proofs.visits.go_round.Goals as goal

pub returns-then-has_ended-clause-grows : goal.returns-then-has_ended-clause-grows
returns-then-has_ended-clause-grows g c = grows_same g.I.Source.state g.O.Sink.state g.E.Sink.state g.C.Client.prog
    g.S.SegStore.meaning g.S.SegStore.peaks c.args.core.now

pub returns-clause-grows : goal.returns-clause-grows
returns-clause-grows g c = grows_then g.I.Source.state g.O.Sink.state g.E.Sink.state g.C.Client.prog
    g.S.SegStore.meaning g.S.SegStore.peaks c.args.core.now c.take_in-steps.new.core c.work.new.core
    c.take_in-steps.ensures.grows
    c.work.ensures.grows
