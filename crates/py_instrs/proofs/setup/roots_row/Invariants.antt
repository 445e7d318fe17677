use Rattle.std.proofs.Common.{[], length}
use Rattle.py_data.specs.inner.Rest.{Leads}
use Rattle.py_frames.specs.SetupRows.{roots_row}
use Rattle.py_instrs.proofs.setup.roots_row.Given as goal

abbrev pub invariant-turns : goal.invariant-turns
invariant-turns g l = Leads g.V.View.sense (roots_row l.fn.roots []) l.fn.v (roots_row l.rest l.values) l.v

abbrev pub decreases-turns : goal.decreases-turns
decreases-turns g l = length l.rest
