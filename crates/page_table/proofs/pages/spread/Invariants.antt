use Rattle.page_table.specs.Lists.{word_at}
use Rattle.page_table.specs.inner.Spreading.{Spread}
use Rattle.page_table.proofs.pages.spread.Given as goal

abbrev pub invariant-segments : goal.invariant-segments
invariant-segments l = Spread l.i l.place l.n (word_at l.shared) l.initial.sheets.items l.sheets.items
