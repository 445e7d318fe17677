use Rattle.std.proofs.Common.{◌≡◌, ℕ, ◌<◌, ◌≤◌, ◌/◌, true}
use Rattle.page_table.specs.Lists.{table_of}
use Rattle.paged_store.specs.inner.Writing.{Opened}
use Rattle.paged_store.proofs.ready.open_pages.Given as goal

abbrev pub invariant-pages : goal.invariant-pages
invariant-pages l = record {
  opened : Opened (table_of l.fn.pages) (table_of l.pages);
  own : (q : ℕ) → l.place / 512 ≤ q → q < l.page → (table_of l.pages).own l.k q ≡ true;
}
