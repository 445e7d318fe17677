use Rattle.std.proofs.Common.{◌-◌}
use Rattle.py_data.specs.Heap.{value_at}
use Rattle.py_data.specs.Looking.{each_row}
use Rattle.py_data.specs.inner.Rest.{Leads}
use Rattle.obj_builtins.specs.Best.{best_from, better_row}
use Rattle.obj_builtins.proofs.best.best_from.Given as goal

abbrev pub invariant-turns : goal.invariant-turns
invariant-turns g l = Leads g.V.View.sense (best_from l.side l.fn.first l.values) l.fn.v
    (each_row (λ i best. better_row l.side (value_at l.values i) best) l.i (l.n - l.i) l.found) l.v
