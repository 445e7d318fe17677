use Rattle.std.proofs.Common.{◌≡◌, length, map}
use Rattle.py_frames.specs.Binding.{value_named}
use Rattle.py_frames.specs.State.{root_name}
use Rattle.py_calls.proofs.named.value_named.Given as goal

abbrev pub invariant-keys : goal.invariant-keys
invariant-keys l = value_named l.name (map (root_name l.p) l.keys) l.values l.other ≡ value_named l.name
    (map (root_name l.p) l.rest) l.left l.other

abbrev pub decreases-keys : goal.decreases-keys
decreases-keys l = length l.rest
