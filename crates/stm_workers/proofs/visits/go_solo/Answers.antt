use Rattle.stm_workers.specs.inner.GrowthLaws.{grows_then}
use Rattle.stm_workers.proofs.visits.go_solo.Goals as goal

pub returns-then-is_taken-clause-grows : goal.returns-then-is_taken-clause-grows
returns-then-is_taken-clause-grows g c = grows_then g.I.Source.state g.O.Sink.state g.E.Sink.state g.C.Client.prog
    g.S.SegStore.meaning g.S.SegStore.peaks c.args.core.now c.is_taken.new.core c.commit.new.core
    c.is_taken.ensures.grows
    c.commit.ensures.grows
