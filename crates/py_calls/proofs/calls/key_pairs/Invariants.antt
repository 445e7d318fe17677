use Rattle.std.proofs.Common.{◌≡◌, ◌++◌, length}
use Rattle.py_frames.specs.CallRows.{key_pairs}
use Rattle.py_calls.proofs.calls.key_pairs.Given as goal

abbrev pub invariant-names : goal.invariant-names
invariant-names l = l.out ++ key_pairs l.roots l.rest l.left ≡ key_pairs l.roots l.names l.values

abbrev pub decreases-names : goal.decreases-names
decreases-names l = length l.rest
