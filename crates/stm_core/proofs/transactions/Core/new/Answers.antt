use Rattle.std.proofs.Common.{sym, subst, refl}
use Rattle.stm_segment.specs.Books.{IsFirst}
use Rattle.stm_core.specs.Begun.{CountsSteps}
use Rattle.stm_segment.specs.Devices.{device_state}
use Rattle.stm_core.specs.CoreHeld.{IsFullKept}
use Rattle.stm_core.proofs.Ends.{new_whole, stands_first, new_sane}
use Rattle.stm_core.proofs.transactions.Core.new.Goals as goal

pub returns-in-Ok-clause-good : goal.returns-in-Ok-clause-good
returns-in-Ok-clause-good g c =
    let p = g.C.Client.prog c.args.client.now in
    let m = g.S.SegStore.meaning c.args.store in
    let b = c.in-Ok.books in
    let n = subst (λ i. IsFirst p i b) c.segments.ensures c.in-Ok.ensures in
    let e = c.requires.store in
    record {
      store = c.known.ensures.store;
      whole = new_whole p m b e.image e.changed e.made n;
      count = subst (CountsSteps 0) (sym n.history) refl;
      kept = subst (IsFullKept _ _) (sym n.cause) tt;
      sane = new_sane p m b e.image e.changed e.made n c.args.length _ _
          (λ i. device_state g.I.Source.state g.O.Sink.state g.E.Sink.state (c.of-made_with.ensures i)) refl
          (g.C.Client.sound c.args.client.now) c.requires.first;
    }

pub returns-in-Ok-clause-devices : goal.returns-in-Ok-clause-devices
returns-in-Ok-clause-devices g c = record {
  input_is = λ i. (c.of-made_with.ensures i).input;
  out_is = λ i.
      (c.of-made_with.ensures i).out;
  err_is = λ i. (c.of-made_with.ensures i).err;
}

pub returns-in-Ok-clause-state : goal.returns-in-Ok-clause-state
returns-in-Ok-clause-state g c =
    let p = g.C.Client.prog c.args.client.now in
    let e = c.requires.store in
    stands_first p (g.S.SegStore.meaning c.args.store) c.in-Ok.books e.image e.changed e.made
    (subst (λ i. IsFirst p i c.in-Ok.books) c.segments.ensures c.in-Ok.ensures) c.args.length _ _
    (λ i. device_state g.I.Source.state g.O.Sink.state g.E.Sink.state (c.of-made_with.ensures i)) refl
