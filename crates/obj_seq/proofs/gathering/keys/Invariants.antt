use Rattle.std.proofs.Common.{◌≡◌, ◌*◌, take}
use Rattle.py_data.specs.Heap.{at}
use Rattle.obj_seq.specs.Gather.{keys_of}
use Rattle.obj_seq.proofs.gathering.keys.Given as goal

abbrev pub invariant-turns : goal.invariant-turns
invariant-turns g l = record {
  same : l.v ≡ l.fn.v;
  keys : l.keys ≡ keys_of (take (2 * l.i) (at (g.V.View.sense.heap l.fn.v) l.a.0).values);
}
