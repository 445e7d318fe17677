use Rattle.std.proofs.Common.{◌-◌, false, not}
use Rattle.py_data.specs.Looking.{until_row}
use Rattle.py_data.specs.inner.Rest.{Leads}
use Rattle.py_frames.specs.RaiseRows.{place_catches, some_catches}
use Rattle.py_raises.proofs.raises.some_catches.Given as goal

abbrev pub invariant-turns : goal.invariant-turns
invariant-turns g l = Leads g.V.View.sense (some_catches l.roots.0 l.e.0 l.t.0 l.n) l.fn.v
    (until_row (place_catches l.roots.0 l.e.0 l.t.0) not false l.i (l.n - l.i)) l.v
