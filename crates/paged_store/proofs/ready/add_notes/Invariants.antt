use Rattle.std.proofs.Common.{◌≡◌}
use Rattle.page_table.specs.Lists.{table_of}
use Rattle.paged_store.specs.inner.Writing.{with_notes}
use Rattle.paged_store.proofs.ready.add_notes.Given as goal

abbrev pub invariant-words : goal.invariant-words
invariant-words l = l.notes.items ≡ with_notes ((table_of l.pages).word l.k) l.place l.j l.fn.notes.items
