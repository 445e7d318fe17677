use Rattle.std.proofs.Common.{length}
use Rattle.py_data.specs.inner.Rest.{Leads}
use Rattle.py_frames.specs.BuildRows.{all_keys_row}
use Rattle.py_instrs.proofs.builds.all_keys_row.Given as goal

abbrev pub invariant-turns : goal.invariant-turns
invariant-turns g l = Leads g.V.View.sense (all_keys_row l.pairs) l.fn.v (all_keys_row l.rest) l.v

abbrev pub decreases-turns : goal.decreases-turns
decreases-turns g l = length l.rest
