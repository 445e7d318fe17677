use Rattle.std.proofs.Common.{◌≡◌}
use Rattle.stm_core.specs.CoreHeld.{IsGoodCore}
use Rattle.stm_workers.specs.CoreJob.{core_job}
use Rattle.stm_workers.specs.Growth.{Grows}
use Rattle.stm_workers.proofs.workers.finish.Given as goal

abbrev pub invariant-segments : goal.invariant-segments
invariant-segments g l =
    IsGoodCore g.I.Source.state g.O.Sink.state g.E.Sink.state g.C.Client.prog g.C.Client.sound g.S.SegStore.reserved
    g.S.SegStore.meaning l.core
    × (core_job g.S.SegStore.meaning l.core ≡ core_job g.S.SegStore.meaning l.fn.core)
    × Grows g.I.Source.state g.O.Sink.state g.E.Sink.state g.C.Client.prog g.S.SegStore.meaning g.S.SegStore.peaks
    l.fn.core l.core

abbrev pub invariant-loop : goal.invariant-loop
invariant-loop g l =
    IsGoodCore g.I.Source.state g.O.Sink.state g.E.Sink.state g.C.Client.prog g.C.Client.sound g.S.SegStore.reserved
    g.S.SegStore.meaning l.core
    × (core_job g.S.SegStore.meaning l.core ≡ core_job g.S.SegStore.meaning l.fn.core)
    × Grows g.I.Source.state g.O.Sink.state g.E.Sink.state g.C.Client.prog g.S.SegStore.meaning g.S.SegStore.peaks
    l.fn.core l.core
