use Rattle.std.proofs.Common.{◌-◌, None}
use Rattle.py_data.specs.inner.Rest.{Leads}
use Rattle.py_data.specs.Looking.{walk_row}
use Rattle.obj_class.specs.Bases.{MOST_BASES}
use Rattle.obj_class.specs.AttrRows.{heir_step, inherited_row}
use Rattle.obj_class.proofs.inheritance.inherited.Given as goal

abbrev pub invariant-turns : goal.invariant-turns
invariant-turns g l = Leads g.V.View.sense (inherited_row l.fn.key l.fn.class) l.fn.v
    (walk_row (heir_step l.key) None (MOST_BASES - l.counter) l.at) l.v
