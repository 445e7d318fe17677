use Rattle.py_data.specs.Heap.{at}
use Rattle.obj_seq.proofs.GatherSteps.{Lettering}
use Rattle.obj_seq.proofs.gathering.letters.Given as goal

abbrev pub invariant-turns : goal.invariant-turns
invariant-turns g l = let u = g.V.View.sense in Lettering u l.a.0 l.n (at (u.heap l.fn.v) l.a.0).bytes l.i l.letters
    l.fn.v l.v
