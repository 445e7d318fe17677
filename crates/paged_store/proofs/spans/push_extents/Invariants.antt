use Rattle.std.proofs.Common.{◌≡◌, ◌-◌, ◌≤◌, length, take}
use Rattle.page_table.specs.Lists.{table_of}
use Rattle.paged_store.specs.Paged.{in_extents}
use Rattle.paged_store.specs.inner.Ending.{pushes}
use Rattle.paged_store.proofs.spans.push_extents.Given as goal

abbrev pub invariant-runs : goal.invariant-runs
invariant-runs l = record {
  within : l.done ≤ length l.extents;
  words : table_of l.pages ≡ pushes l.k (in_extents (take l.done l.extents)) (table_of l.initial.pages);
}

abbrev pub decreases-runs : goal.decreases-runs
decreases-runs l = length l.extents - l.done
