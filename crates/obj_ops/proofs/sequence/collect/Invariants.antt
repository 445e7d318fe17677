use Rattle.std.proofs.Common.{◌≡◌, take}
use Rattle.py_data.specs.Heap.{at}
use Rattle.obj_ops.proofs.sequence.collect.Given as goal

abbrev pub invariant-turns : goal.invariant-turns
invariant-turns g l = record {
  same : l.v ≡ l.fn.v;
  items : l.values ≡ take l.i (at (g.V.View.sense.heap l.fn.v) l.a.0).values;
}
