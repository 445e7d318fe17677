use denote.Ref.{NamedLft}
use denote.Param.Send.{sendable}
use Rattle.stm_workers.proofs.Sent.{held_sent}
use Rattle.stm_workers.proofs.workers.run_locked.Goals as goal

pub run_all-seat-requires-send-T : goal.run_all-seat-requires-send-T
run_all-seat-requires-send-T g c κs within =
    let b = c.type_bounds in
    let h = λ (κ : NamedLft). held_sent κ _ _ _ _ _ _ b.sync-C b.send-S b.send-I b.send-O b.send-E b.send-C-State in
    search (h, sendable) depth 8

pub returns-clause-grows : goal.returns-clause-grows
returns-clause-grows g c = c.run_all-seat.ensures.seen c.close.result c.close.ensures.later
