use Rattle.std.proofs.Common.{◌≡◌, take}
use Rattle.py_base.proofs.collection.Log.copy.Given as goal

abbrev pub invariant-loop-x : goal.invariant-loop-x
invariant-loop-x g l = l.items.items ≡ take l.x-index l.self.entries
