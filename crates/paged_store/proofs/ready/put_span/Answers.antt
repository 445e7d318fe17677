use Rattle.paged_store.proofs.DeskLemmas.{spanned_more}
use Rattle.paged_store.proofs.ready.put_span.Goals as goal

pub returns-then-not-is_last : goal.returns-then-not-is_last
returns-then-not-is_last c = spanned_more c.args.spans.now.items c.push_reserved.new.self.items
    (record { place = c.args.place; words = c.args.words }) c.push_reserved.ensures.items
