use Rattle.page_table.proofs.ListsLemmas.{has_words_later}
use Rattle.page_table.proofs.pages.spread.Goals as goal

pub restore_at-requires-clause-there : goal.restore_at-requires-clause-there
restore_at-requires-clause-there c =
    has_words_later c.args.k _ c.args.place c.args.n _ _ _ c.requires.there c.segments.invariant
