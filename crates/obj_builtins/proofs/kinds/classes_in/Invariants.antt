use Rattle.std.proofs.Common.{◌-◌}
use Rattle.py_data.specs.Looking.{each_row}
use Rattle.py_data.specs.inner.Rest.{Leads}
use Rattle.obj_builtins.specs.Kinds.{classes_in, class_turn}
use Rattle.obj_builtins.proofs.kinds.classes_in.Given as goal

abbrev pub invariant-turns : goal.invariant-turns
invariant-turns g l = Leads g.V.View.sense (classes_in l.a.0 l.n) l.fn.v
    (each_row (class_turn l.a.0) l.i (l.n - l.i) l.classes) l.v
