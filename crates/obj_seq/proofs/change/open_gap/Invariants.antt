use Rattle.py_data.specs.Heap.{at}
use Rattle.obj_seq.proofs.GapLoop.{Opening}
use Rattle.obj_seq.proofs.change.open_gap.Given as goal

abbrev pub invariant-turns : goal.invariant-turns
invariant-turns g l = let u = g.V.View.sense in Opening u l.a.0 l.k l.n l.fn.x (at (u.heap l.fn.v) l.a.0).values l.j
    l.held l.fn.v l.v
