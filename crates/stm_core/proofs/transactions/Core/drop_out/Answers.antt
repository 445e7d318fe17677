use Rattle.std.proofs.Common.{sym, subst, ap, ◌∙◌, ◌+◌}
use Rattle.stm_core.specs.inner.Whole.{Whole}
use Rattle.stm_core.proofs.Wholes.{dropped}
use Rattle.stm_core.proofs.transactions.Core.drop_out.Goals as goal

pub returns-clause-whole : goal.returns-clause-whole
returns-clause-whole g c = subst (λ m. Whole m c.forget.new.self) (sym c.drop_changes.ensures.meaning)
    (dropped c.args.k (g.S.SegStore.meaning c.args.self.now.store) c.args.self.now.books c.forget.new.self
    c.args.work.progress c.requires.fit c.requires.idle c.forget.ensures.rest
    (ap (λ n. c.forget.new.self.pending + n) (sym c.len.ensures) ∙ c.forget.ensures.pending))
