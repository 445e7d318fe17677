use denote.Ref.{NamedLft}
use denote.Param.Send.{sendable}
use Rattle.stm_workers.proofs.Sent.{held_sent}
use Rattle.worker_tests.proofs.TurnsLaws.{turns_grow}
use Rattle.worker_tests.proofs.watch_rows.watch_core.Goals as goal

pub watch_both-seat-requires-clause-more : goal.watch_both-seat-requires-clause-more
watch_both-seat-requires-clause-more g c κs within = λ x y. turns_grow g.I.Source.state g.O.Sink.state g.E.Sink.state
    g.C.Client.prog g.C.Client.sound g.S.SegStore.reserved g.S.SegStore.meaning g.S.SegStore.peaks x.core y.core

pub watch_both-seat-requires-send-T : goal.watch_both-seat-requires-send-T
watch_both-seat-requires-send-T g c κs within =
    let b = c.type_bounds in
    let h = λ (κ : NamedLft). held_sent κ _ _ _ _ _ _ b.sync-C b.send-S b.send-I b.send-O b.send-E b.send-C-State in
    search (h, sendable) depth 8
