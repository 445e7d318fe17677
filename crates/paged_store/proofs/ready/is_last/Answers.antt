use Rattle.paged_store.proofs.DeskLemmas.{spanned_already}
use Rattle.paged_store.proofs.ready.is_last.Goals as goal

pub returns-then-last-words : goal.returns-then-last-words
returns-then-last-words c = λ h. spanned_already c.args.spans.now c.in-Some.last.now c.args.place
    c.args.words c.in-Some.ensures.value c.if-last-place.true c.if-last-words.true
