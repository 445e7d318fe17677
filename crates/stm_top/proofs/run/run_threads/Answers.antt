use Rattle.std.proofs.Common.{◌≡◌, inr, Some, ap, ◌∙◌, subst}
use Rattle.lock_run.specs.RunState.{first_world}
use Rattle.paged_store.specs.Stores.{paged_meaning, reserved_of, peaks_of}
use Rattle.stm_core.specs.CoreHeld.{core_client, core_limits, core_store}
use Rattle.stm_segment.specs.CoreState.{core_new}
use Rattle.stm_core.specs.Outside.{outer_new}
use Rattle.stm_top.specs.TopCall.{Told, devices_of, limits_of, told_of}
use Rattle.stm_top.specs.inner.Ending.{RunEnds}
use Rattle.stm_top.proofs.FullHeap.{made_explained}
use Rattle.stm_top.proofs.run.run_threads.Goals as goal

pub new-requires-2-clause-store : goal.new-requires-2-clause-store
new-requires-2-clause-store g c = c.in-Ok.ensures.empty

pub returns-in-Ok-new : goal.returns-in-Ok-new
returns-in-Ok-new g c =
    let r = c.run_core.result in
    let n = c.in-Ok-new.ensures in
    let o = c.args.options.now in
    let a = devices_of g.L.Loader.state g.I.Source.state g.O.Sink.state g.E.Sink.state c.args.outside.loader
    c.args.outside.input c.args.outside.out c.args.outside.err in
    let b = devices_of g.L.Loader.state g.I.Source.state g.O.Sink.state g.E.Sink.state r.outside.loader r.outside.input
    r.outside.out r.outside.err in
    let t : Told = told_of paged_meaning reserved_of r.history.entries r.conflicts.entries r.store in
    let limits : core_limits paged_meaning c.in-Ok-new.core ≡ limits_of o
    = n.limits ∙ (λ k. record {
      length = o.length;
      budget = o.budget;
      segments = (c.in-Ok.ensures.meaning k).segments;
      words = (c.in-Ok.ensures.meaning k).limit;
    }) in
    let x = c.in-Ok-new.core in
    let client = c.args.client.now in
    let explained = made_explained c.full_law.ensures.new g.C.Client.prog g.I.Source.state client (core_client x)
    c.args.outside.input x.made_with.value.input n.client n.devices.input_is (core_limits paged_meaning x).length
    (core_limits paged_meaning x).segments (Some (peaks_of (core_store x))) (peaks_of c.in-Ok.store) n.peaks
    c.in-Ok.ensures.empty.none in
    let ends = c.run_core.ensures.ended c.args.outside.input c.args.outside.out c.args.outside.err n.devices
    (outer_new (core_new (g.C.Client.prog client) (first_world a.input.told a.input.ends))) n.state explained in
    let ends1 = subst (λ z. RunEnds (g.C.Client.prog z) (core_limits paged_meaning c.in-Ok-new.core) r.answer a t b)
    n.client ends in
    record {
      ended = (
        ap g.L.Loader.state c.run_core.ensures.loader,
        inr (subst (λ z. RunEnds (g.C.Client.prog c.args.client.now) z r.answer a t b) limits ends1),
      );
    }
