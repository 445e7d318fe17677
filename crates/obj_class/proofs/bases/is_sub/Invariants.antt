use Rattle.std.proofs.Common.{◌-◌, false}
use Rattle.py_data.specs.inner.Rest.{Leads}
use Rattle.py_data.specs.Looking.{walk_row}
use Rattle.obj_class.specs.Bases.{MOST_BASES, sub_step, is_sub_row}
use Rattle.obj_class.proofs.bases.is_sub.Given as goal

abbrev pub invariant-turns : goal.invariant-turns
invariant-turns g l = Leads g.V.View.sense (is_sub_row l.fn.c.0 l.base.0) l.fn.v
    (walk_row (sub_step l.base.0) false (MOST_BASES - l.counter) l.at) l.v
