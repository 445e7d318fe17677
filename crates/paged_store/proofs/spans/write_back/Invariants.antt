use Rattle.std.proofs.Common.{◌≡◌, ◌≤◌, length, drop}
use Rattle.page_table.specs.Lists.{table_of}
use Rattle.paged_store.specs.Paged.{rewound}
use Rattle.paged_store.specs.inner.Ending.{with_words}
use Rattle.paged_store.proofs.spans.write_back.Given as goal

abbrev pub invariant-notes : goal.invariant-notes
invariant-notes l = record {
  within : l.left ≤ length l.notes;
  table : table_of l.pages ≡ with_words l.k (rewound (drop l.left l.notes) ((table_of l.initial.pages).word l.k))
      (table_of l.initial.pages);
}

abbrev pub decreases-notes : goal.decreases-notes
decreases-notes l = l.left
