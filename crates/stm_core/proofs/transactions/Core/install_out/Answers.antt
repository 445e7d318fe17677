use Rattle.std.proofs.Common.{ap, sym, subst, ◌∙◌}
use Rattle.seg_store.specs.Meaning.{Meaning}
use Rattle.seg_store.specs.Calls.{after_open}
use Rattle.stm_core.specs.Begun.{CountsSteps}
use Rattle.stm_segment.specs.Books.{Fit}
use Rattle.stm_segment.specs.declared.books.Work.{Work}
use Rattle.stm_core.specs.inner.Replayed.{replayed, OnlyChanges}
use Rattle.stm_core.specs.inner.Whole.{SameShape}
use Rattle.stm_core.proofs.Calling.{blank}
use Rattle.stm_segment.proofs.Fits.{fit_open}
use Rattle.stm_core.proofs.Replaying.{taken_back}
use Rattle.stm_core.proofs.Putting.{fit_replayed, shape_replayed, failed_out, put_in}
use Rattle.stm_core.proofs.transactions.Core.install_out.Goals as goal

pub put_back-requires-clause-fit : goal.put_back-requires-clause-fit
put_back-requires-clause-fit g c =
    let k = c.args.k in
    let b = c.args.self.now.books in
    let m = g.S.SegStore.meaning c.args.self.now.store in
    let m0 = g.S.SegStore.meaning c.open_step.new.self in
    let m1 = g.S.SegStore.meaning c.replay.new.store in
    let p = c.open.new.self in
    let fit : Fit k m1 b p =
    subst (λ z. Fit k z b p) (sym c.in-Ok.ensures.ok)
    (fit_replayed k c.args.edits.now m0 b p
    (fit_open k m m0 b c.args.work.progress p c.requires.fit c.open_step.ensures.meaning c.open.ensures)) in
    subst (λ (z : Work g.row.C-State.Denot). Fit k m1 b z.progress) (sym c.count_steps.ensures) fit

pub fail_out-requires : goal.fail_out-requires
fail_out-requires g c =
    let k = c.args.k in
    let m = g.S.SegStore.meaning c.args.self.now.store in
    let only = subst (λ (z : Meaning). OnlyChanges k z (g.S.SegStore.meaning c.replay.new.store))
    c.open_step.ensures.meaning c.in-Err.ensures.err in
    record {
      out = record {
        fit = fit_open k m (g.S.SegStore.meaning c.undo_step.new.self) c.args.self.now.books c.args.work.progress
            c.open.new.self c.requires.fit
            (c.undo_step.ensures.meaning ∙ taken_back k m (g.S.SegStore.meaning c.replay.new.store) only)
            c.open.ensures;
        idle = c.requires.idle;
        thread = c.requires.thread;
        count = c.requires.count;
      };
    }

pub returns-in-Ok-clause-count : goal.returns-in-Ok-clause-count
returns-in-Ok-clause-count g c =
    ap (λ s. s.spent) c.put_back.ensures.rest ∙ subst (λ l. CountsSteps c.args.self.now.spent l)
    (sym (ap (λ k. k.history) (c.put_back.ensures.core blank))) c.requires.count

pub returns-in-Ok-clause-shape : goal.returns-in-Ok-clause-shape
returns-in-Ok-clause-shape g c =
    let m = g.S.SegStore.meaning c.args.self.now.store in
    let same = ap (λ z. g.S.SegStore.meaning z.store) c.put_back.ensures.rest ∙ c.in-Ok.ensures.ok ∙
    ap (replayed c.args.k c.args.edits.now) c.open_step.ensures.meaning in
    subst (SameShape m) (sym same) (shape_replayed c.args.k c.args.edits.now (after_open c.args.k m))

pub returns-in-Ok-clause-ok : goal.returns-in-Ok-clause-ok
returns-in-Ok-clause-ok g c = put_in c.args.k (g.S.SegStore.meaning c.args.self.now.store)
    (g.S.SegStore.meaning c.open_step.new.self) c.args.self.now.books c.args.work c.open.new.self
    c.open_step.ensures.meaning c.open.ensures c.requires.fit c.args.edits.now c.args.steps c.args.last
    (g.S.SegStore.meaning c.replay.new.store) (g.S.SegStore.meaning c.put_back.new.self.store) c.count_steps.new.work
    c.put_back.new.self.books c.in-Ok.ensures.ok c.count_steps.ensures
    (ap (λ z. g.S.SegStore.meaning z.store) c.put_back.ensures.rest) c.put_back.ensures.broken c.put_back.ensures.core

pub returns-in-Err-clause-err : goal.returns-in-Err-clause-err
returns-in-Err-clause-err g c =
    let k = c.args.k in
    let m = g.S.SegStore.meaning c.args.self.now.store in
    let m1 = g.S.SegStore.meaning c.replay.new.store in
    let only = subst (λ (z : Meaning). OnlyChanges k z m1) c.open_step.ensures.meaning c.in-Err.ensures.err in
    failed_out k m (g.S.SegStore.meaning c.undo_step.new.self) c.args.self.now.books c.args.work c.open.new.self
    (c.undo_step.ensures.meaning ∙ taken_back k m m1 only) c.open.ensures c.requires.fit
    (g.S.SegStore.meaning c.fail_out.new.self.store) c.fail_out.new.self.books c.fail_out.ensures.cause
    c.fail_out.ensures.mortal c.fail_out.ensures.solo
