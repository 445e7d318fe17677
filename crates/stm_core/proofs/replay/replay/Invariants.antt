use Rattle.std.specs.Prelude.{◌≡◌, ◌≤◌, ◌<◌}
use Rattle.stm_core.specs.inner.Replayed.{Replaying}
use Rattle.stm_core.proofs.replay.replay.Given as goal

abbrev pub invariant-loop-edit : goal.invariant-loop-edit
invariant-loop-edit g l = record {
  segment : l.k < (g.S.SegStore.meaning l.store).segments;
  replaying : Replaying l.k l.edits (g.S.SegStore.meaning l.fn.store) l.edit-index (g.S.SegStore.meaning l.store);
  reserved : g.S.SegStore.reserved l.fn.store ≤ g.S.SegStore.reserved l.store;
  peaks : g.S.SegStore.peaks l.store ≡ g.S.SegStore.peaks l.fn.store;
}
