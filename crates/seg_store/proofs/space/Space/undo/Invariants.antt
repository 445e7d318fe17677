use Rattle.std.proofs.Common.{◌≡◌, length}
use Rattle.seg_store.specs.inner.Space.{space_base}
use Rattle.seg_store.proofs.space.Space.undo.Given as goal

abbrev pub invariant-entries : goal.invariant-entries
invariant-entries l = space_base l.self ≡ space_base l.initial.self

abbrev pub decreases-entries : goal.decreases-entries
decreases-entries l = length l.self.journal.items
