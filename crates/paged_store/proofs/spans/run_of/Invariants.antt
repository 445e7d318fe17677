use Rattle.page_table.specs.Lists.{table_of}
use Rattle.paged_store.specs.inner.Ending.{LieSideBySide}
use Rattle.std.proofs.Common.{◌-◌, length}
use Rattle.paged_store.proofs.spans.run_of.Given as goal

abbrev pub invariant-run : goal.invariant-run
invariant-run l = LieSideBySide (table_of l.pages).reserved l.extents l.from l.to l.place l.words

abbrev pub decreases-run : goal.decreases-run
decreases-run l = length l.extents - l.to
