use Rattle.std.proofs.Common.{sym}
use Rattle.std.proofs.lemmas.List.{take-map}
use Rattle.paged_store.specs.Paged.{drafted}
use Rattle.paged_store.specs.inner.Drafts.{step_undone}
use Rattle.paged_store.proofs.draft.Draft.undo.Goals as goal

pub returns : goal.returns
unfolding drafted
returns c =
    rw (c.clear.ensures.items, c.truncate.ensures.items, c.truncate-2.ensures.items, c.truncate-3.ensures)
    (λ i. record (step_undone (drafted c.args.self.now))
    { made = sym (take-map (λ a. a.0) c.args.self.now.made_before c.args.self.now.made) i })
