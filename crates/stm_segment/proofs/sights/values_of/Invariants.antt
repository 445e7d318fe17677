use Rattle.std.proofs.Common.{◌≡◌, take}
use Rattle.py_data.specs.Heap.{at}
use Rattle.seg_store.specs.Meaning.{sees}
use Rattle.stm_segment.proofs.sights.values_of.Given as goal

abbrev pub invariant-values : goal.invariant-values
invariant-values g l = l.values.items ≡ take l.i (at (sees (g.S.SegStore.meaning l.store) l.k) l.a.0).values
