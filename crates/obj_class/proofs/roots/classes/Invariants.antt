use Rattle.std.proofs.Common.{◌-◌}
use Rattle.py_base.specs.Numbers.{class_count}
use Rattle.py_data.specs.inner.Rest.{Leads}
use Rattle.obj_class.specs.NewRoots.{roots_from}
use Rattle.obj_class.proofs.roots.classes.Given as goal

abbrev pub invariant-turns : goal.invariant-turns
invariant-turns g l = Leads g.V.View.sense (roots_from 0 class_count l.fn.first) l.fn.v
    (roots_from l.n (class_count - l.n) l.values) l.v
