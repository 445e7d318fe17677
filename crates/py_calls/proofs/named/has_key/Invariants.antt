use Rattle.std.proofs.Common.{◌≡◌, length, map}
use Rattle.py_base.specs.NameLists.{has}
use Rattle.py_frames.specs.State.{root_name}
use Rattle.py_calls.proofs.named.has_key.Given as goal

abbrev pub invariant-keys : goal.invariant-keys
invariant-keys l = has l.name (map (root_name l.p) l.keys) ≡ has l.name (map (root_name l.p) l.rest)

abbrev pub decreases-keys : goal.decreases-keys
decreases-keys l = length l.rest
