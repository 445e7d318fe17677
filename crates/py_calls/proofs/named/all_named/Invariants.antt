use Rattle.std.proofs.Common.{◌≡◌, length, map}
use Rattle.py_frames.specs.Binding.{all_named}
use Rattle.py_frames.specs.State.{root_name}
use Rattle.py_calls.proofs.named.all_named.Given as goal

abbrev pub invariant-names : goal.invariant-names
invariant-names l = all_named l.names (map (root_name l.p) l.keys) ≡ all_named l.rest (map (root_name l.p) l.keys)

abbrev pub decreases-names : goal.decreases-names
decreases-names l = length l.rest
