use Rattle.std.proofs.Common.{◌≡◌, Some, refl, ◌∙◌, subst}
use Rattle.stm_core.specs.CoreHeld.{core_client, core_limits, core_store, first_devices}
use Rattle.stm_top.specs.TopCall.{Devices, Told, devices_of, told_of}
use Rattle.stm_top.specs.inner.Ending.{RunEnds}
use Rattle.stm_top.proofs.FullHeap.{NearlyFullAt, full_heap}
use Rattle.stm_top.proofs.HandedOver.{handed_over}
use Rattle.stm_top.proofs.run.run_core.Goals as goal

pub answer-requires : goal.answer-requires
answer-requires g c =
    let over = c.run_workers-core.ensures.ended in
    let sane = c.run_workers-core.ensures.good.sane in
    c.finish-state.ensures.over sane.state over.state sane.stands (over.is sane.state sane.stands) over.over

pub returns-clause-ended : goal.returns-clause-ended
returns-clause-ended g c = λ i o e has first stands explained.
    let x = c.args.core in
    let y = c.run_workers-core.result in
    let job = c.run_workers-core.ensures.job in
    let r = c.finish-state.result in
    let made = y.made_with.value in
    let left = devices_of g.L.Loader.state g.I.Source.state g.O.Sink.state g.E.Sink.state c.args.loader r.input r.out
    r.err in
    let t : Told = told_of g.S.SegStore.meaning g.S.SegStore.reserved r.history.entries r.conflicts.entries
    (Some r.store) in
    let lead = c.run_workers-core.ensures.grows.leads first stands in
    let f = c.finish-state.ensures.finished lead.0 lead.1 in
    let nearly : NearlyFullAt (g.C.Client.prog (core_client y)) (core_limits g.S.SegStore.meaning y)
    (g.I.Source.state made.input).told (g.I.Source.state made.input).ends f.0.core
    = full_heap c.full_law.ensures.bound c.piece_law.ensures.end (g.C.Client.prog (core_client y))
    (core_limits g.S.SegStore.meaning y) (first_devices g.I.Source.state g.O.Sink.state g.E.Sink.state y) _ r.state
    r.failed r.history.entries r.conflicts.entries (g.S.SegStore.meaning r.store).image lead.0 f.0 f.1
    lead.1.kept.good (g.S.SegStore.peaks (core_store y)) (g.S.SegStore.peaks r.store) c.finish-state.ensures.peaks
    (lead.2.1 explained) (g.S.SegStore.reserved r.store) (g.S.SegStore.meaning r.store) c.known.ensures.told f.2 in
    let ends : RunEnds (g.C.Client.prog (core_client y)) (core_limits g.S.SegStore.meaning y) c.answer.result
    (devices_of g.L.Loader.state g.I.Source.state g.O.Sink.state g.E.Sink.state c.args.loader made.input made.out
    made.err) t left
    = handed_over (g.C.Client.prog (core_client y)) (core_limits g.S.SegStore.meaning y)
    (devices_of g.L.Loader.state g.I.Source.state g.O.Sink.state g.E.Sink.state c.args.loader made.input made.out
    made.err) left
    made.mid made.was_mid (g.S.SegStore.meaning r.store) (g.S.SegStore.reserved r.store) lead.0 f.0 r.state
    r.failed t c.answer.result
    f.1 f.2 nearly c.finish-state.ensures.shape.0 c.finish-state.ensures.shape.1 c.finish-state.ensures.unused refl
    refl c.answer.ensures in
    let ends1 = subst (λ z. RunEnds (g.C.Client.prog z) (core_limits g.S.SegStore.meaning y) c.answer.result
    (devices_of g.L.Loader.state g.I.Source.state g.O.Sink.state g.E.Sink.state c.args.loader made.input made.out
    made.err) t left) (λ k. (job k).client) ends in
    let limits : core_limits g.S.SegStore.meaning y ≡ core_limits g.S.SegStore.meaning x
    = λ k. record {
      length = (job k).length;
      budget = (job k).budget;
      segments = (job k).segments;
      words =
          (job k).words;
    } in
    let ends2 = subst (λ z. RunEnds (g.C.Client.prog (core_client x)) z c.answer.result
    (devices_of g.L.Loader.state g.I.Source.state g.O.Sink.state g.E.Sink.state c.args.loader made.input made.out
    made.err) t left) limits ends1 in
    let input = (λ k. (job k).input) ∙ has.input_is in
    let out = (λ k. (job k).out) ∙ has.out_is in
    let err = (λ k. (job k).err) ∙ has.err_is in
    subst (λ (d : Devices). RunEnds (g.C.Client.prog (core_client x)) (core_limits g.S.SegStore.meaning x)
    c.answer.result d t left)
    (λ k. devices_of g.L.Loader.state g.I.Source.state g.O.Sink.state g.E.Sink.state c.args.loader (input k) (out k)
    (err k)) ends2
