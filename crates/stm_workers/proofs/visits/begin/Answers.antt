use Rattle.stm_workers.proofs.Growing.{begin_grows}
use Rattle.stm_workers.proofs.visits.begin.Goals as goal

pub returns-clause-grows : goal.returns-clause-grows
returns-clause-grows g c = begin_grows c.events_law.ensures.each c.events_law.ensures.all g.I.Source.state
    g.O.Sink.state g.E.Sink.state g.C.Client.prog g.S.SegStore.meaning g.S.SegStore.peaks c.args.core.now
    c.begin.new.self c.begin.ensures.job
    c.begin.ensures.peaks c.call_law.ensures.begin c.args.k c.args.t c.begin.result c.requires.segment
    c.begin.ensures.begun
