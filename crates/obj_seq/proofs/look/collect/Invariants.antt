use Rattle.std.proofs.Common.{◌≡◌, ◌≤◌, ◌-◌}
use Rattle.py_data.specs.Heap.{at}
use Rattle.obj_seq.specs.Seq.{part}
use Rattle.obj_seq.proofs.look.collect.Given as goal

abbrev pub invariant-turns : goal.invariant-turns
invariant-turns g l = record {
  same : l.v ≡ l.fn.v;
  items : l.values ≡ part (at (g.V.View.sense.heap l.fn.v) l.a.0).values l.i l.k;
  within : l.k - l.i ≤ l.j - l.i;
}
