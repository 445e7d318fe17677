use Rattle.stm_workers.proofs.Growing.{advance_grows}
use Rattle.stm_workers.proofs.visits.step.Goals as goal

pub returns-clause-grows : goal.returns-clause-grows
returns-clause-grows g c = advance_grows c.events_law.ensures.each c.events_law.ensures.all g.I.Source.state
    g.O.Sink.state g.E.Sink.state g.C.Client.prog g.S.SegStore.meaning g.S.SegStore.peaks c.args.core.now
    c.advance-answer.new.self
    c.advance-answer.ensures.job g.C.Client.sound c.client.result.now c.client.ensures c.call_law.ensures.within
    c.call_law.ensures.advance c.requires.good.sane.first_sound c.args.k c.args.steps _ c.advance-answer.result
    c.requires.may c.advance-answer.ensures.peaks c.advance-answer.ensures.advanced
