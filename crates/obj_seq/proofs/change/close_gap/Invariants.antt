use Rattle.py_data.specs.Heap.{at}
use Rattle.obj_seq.proofs.GapLoop.{Closing}
use Rattle.obj_seq.proofs.change.close_gap.Given as goal

abbrev pub invariant-turns : goal.invariant-turns
invariant-turns g l = let u = g.V.View.sense in Closing u l.a.0 l.k l.n (at (u.heap l.fn.v) l.a.0).values l.j l.fn.v l.v
