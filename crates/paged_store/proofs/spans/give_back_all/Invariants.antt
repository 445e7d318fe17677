use Rattle.std.proofs.Common.{take}
use Rattle.page_table.specs.Lists.{table_of}
use Rattle.paged_store.specs.inner.Ending.{GivenBack}
use Rattle.paged_store.proofs.spans.give_back_all.Given as goal

abbrev pub invariant-extents : goal.invariant-extents
invariant-extents l = GivenBack (take l.extent-index l.extents) (table_of l.initial.pages) (table_of l.pages)
