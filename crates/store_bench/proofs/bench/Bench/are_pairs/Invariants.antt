use Rattle.std.proofs.Common.{◌≡◌, ◌≤◌, length, drop}
use Rattle.py_data.specs.Heap.{at}
use Rattle.py_data.specs.Shape.{ArePairs}
use Rattle.seg_store.specs.Meaning.{sees}
use Rattle.store_bench.proofs.bench.Bench.are_pairs.Given as goal

abbrev pub invariant-pairs : goal.invariant-pairs
invariant-pairs g l = (l.n ≡ length (at (sees (g.S.SegStore.meaning l.self.store) l.k) l.d.0).values) × (l.left ≤ l.n) ×
    ArePairs (sees (g.S.SegStore.meaning l.self.store) l.k)
    (drop l.left (at (sees (g.S.SegStore.meaning l.self.store) l.k) l.d.0).values)

abbrev pub decreases-pairs : goal.decreases-pairs
decreases-pairs g l = l.left
