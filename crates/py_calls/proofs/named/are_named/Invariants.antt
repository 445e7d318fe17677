use Rattle.std.proofs.Common.{◌≡◌, length, map}
use Rattle.py_frames.specs.Binding.{are_named}
use Rattle.py_frames.specs.State.{root_name}
use Rattle.py_calls.proofs.named.are_named.Given as goal

abbrev pub invariant-keys : goal.invariant-keys
invariant-keys l = are_named l.names (map (root_name l.p) l.keys) ≡ are_named l.names (map (root_name l.p) l.rest)

abbrev pub decreases-keys : goal.decreases-keys
decreases-keys l = length l.rest
