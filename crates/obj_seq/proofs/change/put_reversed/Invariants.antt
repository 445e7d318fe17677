use Rattle.obj_seq.proofs.ReverseLoop.{Turning}
use Rattle.obj_seq.proofs.change.put_reversed.Given as goal

abbrev pub invariant-turns : goal.invariant-turns
invariant-turns g l = Turning g.V.View.sense l.a.0 l.values l.j l.fn.v l.v
