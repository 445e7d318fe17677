use Rattle.std.proofs.Common.{◌≡◌, ◌*◌, take}
use Rattle.py_data.specs.Heap.{at}
use Rattle.obj_dict.specs.Listing.{half}
use Rattle.obj_dict.proofs.listing.collect.Given as goal

abbrev pub invariant-turns : goal.invariant-turns
invariant-turns g l = record {
  same : l.v ≡ l.fn.v;
  items : l.values ≡ half l.second (take (2 * l.i) (at (g.V.View.sense.heap l.fn.v) l.d.0).values);
}
