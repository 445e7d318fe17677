use Rattle.std.proofs.Common.{◌≡◌, ◌++◌, take}
use Rattle.py_code.specs.Listing.{keys_text}
use Rattle.py_code.proofs.assembly.step.push_keys.Given as goal

abbrev pub invariant-loop-k : goal.invariant-loop-k
invariant-loop-k l = l.text ≡ l.fn.text ++ keys_text l.roots (take l.k-index l.keys)
