use Rattle.std.proofs.Common.{sym, ◌∙◌, ap, option_copied}
use Rattle.seg_store.specs.inner.Images.{stands}
use Rattle.seg_store.proofs.Goodness.{good_some}
use Rattle.seg_store.proofs.plain.PlainStore.committed.Goals as goal

pub returns-in-Some-clause-good : goal.returns-in-Some-clause-good
returns-in-Some-clause-good c =
    good_some _ c.as_ref.result c.as_ref.ensures.value
    (λ r e. c.args.self.now.sound.good c.args.a r
    (ap stands (sym c.slot.ensures) ∙ ap (λ o. stands (option_copied o)) c.in-Some.is ∙ e))
