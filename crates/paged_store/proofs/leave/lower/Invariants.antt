use Rattle.page_table.specs.Lists.{table_of}
use Rattle.paged_store.proofs.LeaveLemmas.{Fallen}
use Rattle.paged_store.proofs.leave.lower.Given as goal

abbrev pub invariant-slots : goal.invariant-slots
invariant-slots l = Fallen l.k l.place l.n l.s l.above (table_of l.fn.pages) (table_of l.pages)
