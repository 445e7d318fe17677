use Rattle.py_data.specs.Changes.{after}
use Rattle.py_data.specs.declared.change.Change.TheVariants.{Set, Push, Cut, Pair, Unpair}
use Rattle.std.proofs.Common.{IfErr, sym, subst}
use Rattle.std.proofs.lemmas.Result.{on_ok_weaker, on_err_weaker}
use Rattle.seg_store.specs.Meaning.{sees}
use Rattle.stm_segment.specs.Asking.{ChangeWants}
use Rattle.stm_segment.specs.inner.Hold.{FaultWhy}
use Rattle.stm_segment.proofs.Changing.{fit_change_result, err_both, wants_more}
use Rattle.stm_segment.proofs.Peaks.{rises_told, rises_none, err_told}
use Rattle.stm_segment.proofs.segment.SegView.change_held.Goals as goal

pub invariant_of-self : goal.invariant_of-self
invariant_of-self g c = record {
  fits = fit_change_result c.set_val.result c.args.self.now.segment c.args.a.0
      (after (Set c.in-Set.i c.in-Set.v)) (g.S.SegStore.meaning c.args.self.now.store.now)
      (g.S.SegStore.meaning c.set_val.new.self) c.args.self.now.books.now c.args.self.now.progress.now
      c.args.self.now.fits c.set_val.ensures.ok c.set_val.ensures.err;
}

pub invariant_of-self-in-Push : goal.invariant_of-self-in-Push
invariant_of-self-in-Push g c = record {
  fits = fit_change_result c.push_val.result c.args.self.now.segment c.args.a.0
      (after (Push c.in-Push.v)) (g.S.SegStore.meaning c.args.self.now.store.now)
      (g.S.SegStore.meaning c.push_val.new.self) c.args.self.now.books.now c.args.self.now.progress.now
      c.args.self.now.fits c.push_val.ensures.ok c.push_val.ensures.err;
}

pub invariant_of-self-in-Cut : goal.invariant_of-self-in-Cut
invariant_of-self-in-Cut g c = record {
  fits = fit_change_result c.truncate.result c.args.self.now.segment c.args.a.0
      (after (Cut c.in-Cut.n)) (g.S.SegStore.meaning c.args.self.now.store.now)
      (g.S.SegStore.meaning c.truncate.new.self) c.args.self.now.books.now c.args.self.now.progress.now
      c.args.self.now.fits c.truncate.ensures.ok c.truncate.ensures.err;
}

pub invariant_of-self-in-Pair : goal.invariant_of-self-in-Pair
invariant_of-self-in-Pair g c = record {
  fits = fit_change_result c.push_pair.result c.args.self.now.segment c.args.a.0
      (after (Pair c.in-Pair.key c.in-Pair.v)) (g.S.SegStore.meaning c.args.self.now.store.now)
      (g.S.SegStore.meaning c.push_pair.new.self) c.args.self.now.books.now c.args.self.now.progress.now
      c.args.self.now.fits c.push_pair.ensures.ok c.push_pair.ensures.err;
}

pub invariant_of-self-in-Unpair : goal.invariant_of-self-in-Unpair
invariant_of-self-in-Unpair g c = record {
  fits = fit_change_result c.drop_pair.result c.args.self.now.segment c.args.a.0 (after (Unpair c.in-Unpair.n))
      (g.S.SegStore.meaning c.args.self.now.store.now) (g.S.SegStore.meaning c.drop_pair.new.self)
      c.args.self.now.books.now c.args.self.now.progress.now c.args.self.now.fits c.drop_pair.ensures.ok
      c.drop_pair.ensures.err;
}

pub returns-in-Push-clause-cause : goal.returns-in-Push-clause-cause
returns-in-Push-clause-cause g c =
    let h = sees (g.S.SegStore.meaning c.args.self.now.store.now) c.args.self.now.segment in
    subst (λ z. IfErr c.push_val.result (FaultWhy (ChangeWants z h c.args.a.0)
    (g.S.SegStore.reserved c.push_val.new.self) (g.S.SegStore.meaning c.args.self.now.store.now).limit))
    (sym c.in-Push.is)
    (err_both c.push_val.result (λ x p q. wants_more (Push c.in-Push.v) h c.args.a.0 _ _ _ x p q)
    c.push_val.ensures.cause c.push_val.ensures.asked)

pub returns-in-Pair-clause-cause : goal.returns-in-Pair-clause-cause
returns-in-Pair-clause-cause g c =
    let h = sees (g.S.SegStore.meaning c.args.self.now.store.now) c.args.self.now.segment in
    subst (λ z. IfErr c.push_pair.result
    (FaultWhy (ChangeWants z h c.args.a.0) (g.S.SegStore.reserved c.push_pair.new.self)
    (g.S.SegStore.meaning c.args.self.now.store.now).limit)) (sym c.in-Pair.is)
    (err_both c.push_pair.result (λ x p q. wants_more (Pair c.in-Pair.key c.in-Pair.v) h c.args.a.0 _ _ _ x p q)
    c.push_pair.ensures.cause c.push_pair.ensures.asked)

pub returns-in-Set-clause-peaks : goal.returns-in-Set-clause-peaks
returns-in-Set-clause-peaks g c =
    on_ok_weaker c.set_val.result (λ h. rises_none _ _ _ c.set_val.ensures.peaks) c.set_val.ensures.ok

pub returns-in-Set-clause-peaks_err : goal.returns-in-Set-clause-peaks_err
returns-in-Set-clause-peaks_err g c =
    on_err_weaker c.set_val.result (λ h. rises_none _ _ _ c.set_val.ensures.peaks) c.set_val.ensures.err

pub returns-in-Push-clause-peaks : goal.returns-in-Push-clause-peaks
returns-in-Push-clause-peaks g c =
    on_ok_weaker c.push_val.result (rises_told _ _ _) c.push_val.ensures.peaks

pub returns-in-Push-clause-peaks_err : goal.returns-in-Push-clause-peaks_err
returns-in-Push-clause-peaks_err g c =
    err_told c.push_val.result c.args.self.now.segment c.args.a.0
    (g.S.SegStore.meaning c.args.self.now.store.now) c.args.change (Push c.in-Push.v)
    (g.S.SegStore.peaks c.args.self.now.store.now) (g.S.SegStore.peaks c.push_val.new.self) c.in-Push.is
    c.push_val.ensures.peaks_err

pub returns-in-Cut-clause-peaks : goal.returns-in-Cut-clause-peaks
returns-in-Cut-clause-peaks g c =
    on_ok_weaker c.truncate.result (λ h. rises_none _ _ _ c.truncate.ensures.peaks) c.truncate.ensures.ok

pub returns-in-Cut-clause-peaks_err : goal.returns-in-Cut-clause-peaks_err
returns-in-Cut-clause-peaks_err g c =
    on_err_weaker c.truncate.result (λ h. rises_none _ _ _ c.truncate.ensures.peaks) c.truncate.ensures.err

pub returns-in-Pair-clause-peaks : goal.returns-in-Pair-clause-peaks
returns-in-Pair-clause-peaks g c =
    on_ok_weaker c.push_pair.result (rises_told _ _ _) c.push_pair.ensures.peaks

pub returns-in-Pair-clause-peaks_err : goal.returns-in-Pair-clause-peaks_err
returns-in-Pair-clause-peaks_err g c =
    err_told c.push_pair.result c.args.self.now.segment c.args.a.0
    (g.S.SegStore.meaning c.args.self.now.store.now) c.args.change (Pair c.in-Pair.key c.in-Pair.v)
    (g.S.SegStore.peaks c.args.self.now.store.now) (g.S.SegStore.peaks c.push_pair.new.self) c.in-Pair.is
    c.push_pair.ensures.peaks_err

pub returns-in-Unpair-clause-peaks : goal.returns-in-Unpair-clause-peaks
returns-in-Unpair-clause-peaks g c =
    on_ok_weaker c.drop_pair.result (λ h. rises_none _ _ _ c.drop_pair.ensures.peaks) c.drop_pair.ensures.ok

pub returns-in-Unpair-clause-peaks_err : goal.returns-in-Unpair-clause-peaks_err
returns-in-Unpair-clause-peaks_err g c =
    on_err_weaker c.drop_pair.result (λ h. rises_none _ _ _ c.drop_pair.ensures.peaks) c.drop_pair.ensures.err
