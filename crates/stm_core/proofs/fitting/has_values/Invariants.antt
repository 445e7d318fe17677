use Rattle.std.proofs.Common.{◌≡◌, take}
use Rattle.py_data.specs.Heap.{at}
use Rattle.seg_store.specs.Meaning.{sees}
use Rattle.stm_core.proofs.fitting.has_values.Given as goal

abbrev pub invariant-values : goal.invariant-values
invariant-values g l =
    take l.i (at (sees (g.S.SegStore.meaning l.store) l.k) l.a.0).values ≡ take l.i l.values
