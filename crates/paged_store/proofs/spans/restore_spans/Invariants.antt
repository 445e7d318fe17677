use Rattle.std.proofs.Common.{◌≡◌, take}
use Rattle.page_table.specs.Lists.{table_of}
use Rattle.paged_store.specs.Paged.{in_spans}
use Rattle.paged_store.specs.inner.Ending.{restores}
use Rattle.paged_store.proofs.spans.restore_spans.Given as goal

abbrev pub invariant-spans : goal.invariant-spans
invariant-spans l = table_of l.pages ≡ restores l.k (in_spans (take l.span-index l.spans)) (table_of l.initial.pages)
