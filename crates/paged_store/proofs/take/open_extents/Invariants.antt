use Rattle.std.proofs.Common.{take}
use Rattle.page_table.specs.Lists.{table_of}
use Rattle.paged_store.specs.inner.Taking.{OwnExtents}
use Rattle.paged_store.specs.inner.Writing.{Opened}
use Rattle.paged_store.proofs.take.open_extents.Given as goal

abbrev pub invariant-extents : goal.invariant-extents
invariant-extents l = record {
  same : Opened (table_of l.initial.pages) (table_of l.pages);
  own : OwnExtents l.k (take l.extent-index l.extents) (table_of l.pages);
}
