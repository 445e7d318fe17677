use Rattle.std.proofs.Common.{◌-◌, false, not}
use Rattle.py_data.specs.Looking.{until_row}
use Rattle.py_data.specs.inner.Rest.{Leads}
use Rattle.obj_builtins.specs.Kinds.{any_row, class_row, class_at}
use Rattle.obj_builtins.proofs.kinds.is_any.Given as goal

abbrev pub invariant-turns : goal.invariant-turns
invariant-turns g l = Leads g.V.View.sense (any_row l.roots.0 l.f l.classes) l.fn.v
    (until_row (λ i. class_row l.roots.0 l.f (class_at l.classes i)) not false l.i (l.n - l.i)) l.v
