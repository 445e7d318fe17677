use Rattle.py_data.specs.Heap.{at}
use Rattle.obj_dict.proofs.Halves.{Tupling}
use Rattle.obj_dict.proofs.listing.make_tuples.Given as goal

abbrev pub invariant-turns : goal.invariant-turns
invariant-turns g l = let u = g.V.View.sense in Tupling u l.d.0 l.n (at (u.heap l.fn.v) l.d.0).values l.i l.refs l.fn.v
    l.v
