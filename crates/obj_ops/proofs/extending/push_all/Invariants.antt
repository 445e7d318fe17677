use Rattle.std.proofs.Common.{drop}
use Rattle.py_data.specs.inner.Rest.{Leads}
use Rattle.obj_ops.specs.InPlace.{push_row}
use Rattle.obj_ops.proofs.extending.push_all.Given as goal

abbrev pub invariant-turns : goal.invariant-turns
invariant-turns g l = Leads g.V.View.sense (push_row l.a.0 l.values) l.fn.v (push_row l.a.0 (drop l.i l.values)) l.v
