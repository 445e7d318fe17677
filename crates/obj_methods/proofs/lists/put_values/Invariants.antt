use Rattle.std.proofs.Common.{drop}
use Rattle.py_data.specs.inner.Rest.{Leads}
use Rattle.obj_seq.specs.Seq.{put_row}
use Rattle.obj_methods.proofs.lists.put_values.Given as goal

abbrev pub invariant-turns : goal.invariant-turns
invariant-turns g l = Leads g.V.View.sense (put_row l.a.0 0 l.values) l.fn.v (put_row l.a.0 l.i (drop l.i l.values)) l.v
