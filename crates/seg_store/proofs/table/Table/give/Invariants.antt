use Rattle.std.proofs.Common.{length}
use Rattle.seg_store.specs.inner.Table.{table_heap}
use Rattle.seg_store.proofs.Moving.{IsMoved}
use Rattle.seg_store.proofs.table.Table.give.Given as goal

abbrev pub invariant-records : goal.invariant-records
invariant-records l = IsMoved l.initial.image.items (table_heap l.initial.self) l.image.items (table_heap l.self)

abbrev pub decreases-records : goal.decreases-records
decreases-records l = length l.self.list.items
