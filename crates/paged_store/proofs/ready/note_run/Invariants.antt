use Rattle.std.proofs.Common.{◌≡◌, ◌+◌, ◌-◌, ◌≤◌, length, vec_capacity}
use Rattle.page_table.specs.Lists.{IsRun}
use Rattle.paged_store.specs.Words.{Words}
use Rattle.paged_store.specs.inner.Writing.{with_notes}
use Rattle.paged_store.proofs.ready.note_run.Given as goal

abbrev pub invariant-run : goal.invariant-run
invariant-run l = record {
  noted : (w : Words) → IsRun w l.place l.n l.words → l.notes.items ≡ with_notes w l.place l.j l.fn.notes.items;
  room : length l.notes.items + (l.n - l.j) ≤ vec_capacity l.notes;
}
