use Rattle.std.proofs.Common.{refl, ◌∙◌}
use Rattle.stm_workers.specs.inner.GrowthLaws.{grows_same, grows_then}
use Rattle.stm_workers.proofs.workers.finish.Goals as goal

pub loop-init : goal.loop-init
loop-init g c = (
  c.requires.good,
  refl,
  grows_same g.I.Source.state g.O.Sink.state g.E.Sink.state g.C.Client.prog
      g.S.SegStore.meaning g.S.SegStore.peaks c.args.core,
)

pub returns-then-is_last-clause-grows : goal.returns-then-is_last-clause-grows
returns-then-is_last-clause-grows g c = grows_then g.I.Source.state g.O.Sink.state g.E.Sink.state g.C.Client.prog
    g.S.SegStore.meaning g.S.SegStore.peaks c.args.core c.segments.core c.visit.new.core c.segments.invariant.2
    c.visit.ensures.grows

pub returns-then-is_last-clause-ended : goal.returns-then-is_last-clause-ended
returns-then-is_last-clause-ended g c = c.visit.ensures.over (c.is_last.ensures.yes c.if-is_last.true)

pub segments-preserved : goal.segments-preserved
segments-preserved g c = (
  c.visit.ensures.good,
  c.visit.ensures.job ∙ c.segments.invariant.1,
  grows_then g.I.Source.state g.O.Sink.state g.E.Sink.state g.C.Client.prog g.S.SegStore.meaning g.S.SegStore.peaks
      c.args.core
      c.segments.core c.visit.new.core c.segments.invariant.2 c.visit.ensures.grows,
)
