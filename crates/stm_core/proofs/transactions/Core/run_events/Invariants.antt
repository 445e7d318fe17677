use Rattle.std.specs.Prelude.{◌≤◌, ◌+◌, length, vec_len, vec_capacity}
use Rattle.stm_segment.specs.Devices.{CountsGrow}
use Rattle.stm_core.specs.CoreHeld.{core_client, core_devices, core_limits, IsGoodCore, SameJob, Leads}
use Rattle.stm_core.proofs.EventSteps.{SoFar}
use Rattle.stm_core.proofs.transactions.Core.run_events.Given as goal

abbrev pub invariant-events : goal.invariant-events
invariant-events g l = record {
  good : IsGoodCore g.I.Source.state g.O.Sink.state g.E.Sink.state g.C.Client.prog g.C.Client.sound
      g.S.SegStore.reserved g.S.SegStore.meaning l.self;
  job : SameJob g.S.SegStore.meaning l.fn.self l.self;
  made : Leads g.I.Source.state g.O.Sink.state g.E.Sink.state g.C.Client.prog g.S.SegStore.meaning l.fn.self l.self
      (SoFar (g.C.Client.prog (core_client l.fn.self)) (core_limits g.S.SegStore.meaning l.fn.self) l.list
      l.replies.items l.rest);
  counts : CountsGrow (core_devices g.I.Source.state g.O.Sink.state g.E.Sink.state l.fn.self)
      (core_devices g.I.Source.state g.O.Sink.state g.E.Sink.state l.self);
  room : vec_len l.replies + length l.rest ≤ vec_capacity l.replies;
}

abbrev pub decreases-events : goal.decreases-events
decreases-events g l = length l.rest
