use Rattle.std.specs.Prelude.{◌≡◌, length}
use Rattle.py_data.specs.Closed.{IsItem}
use Rattle.py_data.specs.Every.{Every}
use Rattle.py_data.specs.Heap.{Heap}
use Rattle.obj_bench.proofs.stacking.copies.Given as goal

abbrev pub invariant-turns : goal.invariant-turns
invariant-turns l = (length l.values ≡ l._i) × ((h : Heap) → IsItem h l.x → Every (IsItem h) l.values)
