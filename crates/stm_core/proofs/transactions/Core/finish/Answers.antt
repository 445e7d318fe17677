use Rattle.stm_core.proofs.Calling.{same_then}
use Rattle.std.proofs.Common.{ap, subst}
use Rattle.lock_run.specs.RunState.{first_world}
use Rattle.lock_run.specs.Machine.{begin_with}
use Rattle.stm_segment.specs.CoreState.{CoreState}
use Rattle.stm_core.specs.Outside.{Outer}
use Rattle.stm_core.specs.Standing.{IsOutcome}
use Rattle.stm_core.specs.CoreHeld.{core_client, core_limits, first_devices}
use Rattle.stm_core.proofs.FinishingLemmas.{handed_out}
use Rattle.stm_core.proofs.StaysOver.{stays_over}
use Rattle.stm_core.proofs.transactions.Core.finish.Goals as goal

pub returns-clause-finished : goal.returns-clause-finished
returns-clause-finished g c = λ o s.
    let x = c.args.self in
    let y = c.settle_solo.new.self in
    let z = c.come_to_rest.new.self in
    let a = c.settle_solo.ensures.settles o s in
    let b = c.come_to_rest.ensures.idle a.0 a.1 in
    let h = handed_out g.I.Source.state g.O.Sink.state g.E.Sink.state g.C.Client.prog g.C.Client.sound
    g.S.SegStore.reserved g.S.SegStore.meaning x z
    (same_then g.S.SegStore.meaning x y z c.settle_solo.ensures.job c.come_to_rest.ensures.job)
    c.come_to_rest.ensures.good
    c.outcome-state.result c.has_failed-failed.result c.outcome-state.ensures c.has_failed-failed.ensures.yes
    c.has_failed-failed.ensures.not o a.0 b.0 a.2 b.1 b.2 in
    (b.0, h.0, h.1)

pub returns-clause-over : goal.returns-clause-over
returns-clause-over g c = λ o s stands is over.
    let x = c.args.self in
    let first = first_devices g.I.Source.state g.O.Sink.state g.E.Sink.state x in
    let p = g.C.Client.prog (core_client x) in
    let l = core_limits g.S.SegStore.meaning x in
    let h = (returns-clause-finished g c o stands).1 in
    stays_over p (begin_with p (first_world first.input first.ends)) l.length l.budget l.segments o h.settled s
    c.outcome-state.result stands.kept.good is over h.settles
    (subst (λ (z : CoreState _). IsOutcome p l.budget z c.outcome-state.result)
    (ap (λ (z : Outer _). z.core) h.idle) h.outcome)
