use Rattle.std.proofs.Common.{◌≡◌, ◌++◌, length, map}
use Rattle.py_frames.specs.Binding.{filled}
use Rattle.py_frames.specs.State.{root_name}
use Rattle.py_calls.proofs.named.push_filled.Given as goal

abbrev pub invariant-names : goal.invariant-names
invariant-names l =
    l.out ++ filled l.rest (map (root_name l.p) l.keys) l.values l.left
    ≡ l.fn.out ++ filled l.names (map (root_name l.p) l.keys) l.values l.defaults

abbrev pub decreases-names : goal.decreases-names
decreases-names l = length l.rest
