use Rattle.std.proofs.Common.{refl, sym, ap, subst}
use Rattle.py_data.specs.Made.{rec_of}
use Rattle.stm_segment.specs.Books.{Fit}
use Rattle.stm_segment.proofs.Seeing.{fit_made, name_set, name_back}
use Rattle.stm_segment.proofs.Peaks.{rises_told, made_told}
use Rattle.stm_segment.proofs.segment.SegView.name_made.Goals as goal

pub invariant_of-self-in-Ok : goal.invariant_of-self-in-Ok
invariant_of-self-in-Ok g c = record {
  fits = subst (λ m. Fit c.args.self.now.segment m c.args.self.now.books.now
      (record c.args.self.now.progress.now { names = c.set.new.self })) (sym c.in-Ok.ensures.ok)
      (fit_made c.args.self.now.segment c.in-Ok.n.0 (rec_of c.args.r.now)
      (g.S.SegStore.meaning c.args.self.now.store.now) c.args.self.now.books.now c.args.self.now.progress.now
      (record c.args.self.now.progress.now { names = c.set.new.self }) c.in-Ok.n c.args.self.now.fits refl
      (ap (λ l. record c.args.self.now.progress.now { names = l })
      (name_set c.args.self.now.progress.now.names c.push.new.self c.set.new.self _ c.in-Ok.n c.len-last.result
      c.in_ok-push.ensures.ok c.len-last.ensures c.set.ensures)));
}

pub returns-in-Ok-clause-names : goal.returns-in-Ok-clause-names
returns-in-Ok-clause-names g c = ap (λ l. record c.args.self.now.progress.now { names = l })
    (name_set c.args.self.now.progress.now.names c.push.new.self c.set.new.self _ c.in-Ok.n c.len-last.result
    c.in_ok-push.ensures.ok c.len-last.ensures c.set.ensures)

pub invariant_of-self-in-Err : goal.invariant_of-self-in-Err
invariant_of-self-in-Err g c = record {
  fits = subst (λ m. Fit c.args.self.now.segment m c.args.self.now.books.now
      (record c.args.self.now.progress.now { names = c.truncate.new.self })) (sym c.in-Err.ensures.err)
      (subst (λ l. Fit c.args.self.now.segment (g.S.SegStore.meaning c.args.self.now.store.now)
      c.args.self.now.books.now (record c.args.self.now.progress.now { names = l }))
      (sym (name_back c.args.self.now.progress.now.names c.push.new.self c.truncate.new.self _ c.len-last.result
      c.in_ok-push.ensures.ok c.len-last.ensures c.truncate.ensures)) c.args.self.now.fits);
}

pub returns-in-Ok-clause-peaks : goal.returns-in-Ok-clause-peaks
returns-in-Ok-clause-peaks g c = rises_told _ _ _ c.in-Ok.ensures.peaks

pub returns-in-Err-clause-peaks_err : goal.returns-in-Err-clause-peaks_err
returns-in-Err-clause-peaks_err g c =
    made_told _ _ (g.S.SegStore.meaning c.args.self.now.store.now) (rec_of c.args.r.now) c.in-Err.ensures.peaks_err
