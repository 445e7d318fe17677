use Rattle.std.proofs.Common.{length}
use Rattle.py_data.specs.inner.Rest.{Leads}
use Rattle.py_frames.specs.BuildRows.{pairs_set}
use Rattle.py_instrs.proofs.builds.pairs_set.Given as goal

abbrev pub invariant-turns : goal.invariant-turns
invariant-turns g l = Leads g.V.View.sense (pairs_set l.d.0 l.pairs) l.fn.v (pairs_set l.d.0 l.rest) l.v

abbrev pub decreases-turns : goal.decreases-turns
decreases-turns g l = length l.rest
