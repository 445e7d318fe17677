use Rattle.std.proofs.Common.{sym, ◌∙◌}
use Rattle.stm_workers.specs.inner.GrowthLaws.{grows_same}
use Rattle.stm_workers.proofs.Growing.{solo_grows}
use Rattle.stm_workers.proofs.visits.is_taken.Goals as goal

pub returns-then-is_busy-clause-grows : goal.returns-then-is_busy-clause-grows
returns-then-is_busy-clause-grows g c = solo_grows c.events_law.ensures.each c.events_law.ensures.all g.I.Source.state
    g.O.Sink.state g.E.Sink.state g.C.Client.prog g.S.SegStore.meaning g.S.SegStore.peaks c.args.core.now
    c.solo-answer.new.self
    c.solo-answer.ensures.job c.solo-answer.ensures.peaks c.args.k
    c.slot.result c.requires.segment c.slot.ensures (sym c.is_busy.ensures ∙ c.if-is_busy.true) c.call_law.ensures.solo
    c.solo-answer.result
    c.solo-answer.ensures.soloed

pub returns-clause-grows : goal.returns-clause-grows
returns-clause-grows g c = grows_same g.I.Source.state g.O.Sink.state g.E.Sink.state g.C.Client.prog
    g.S.SegStore.meaning g.S.SegStore.peaks c.args.core.now
