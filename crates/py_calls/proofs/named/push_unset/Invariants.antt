use Rattle.std.proofs.Common.{◌≡◌, ◌≤◌, ◌++◌, length, take}
use Rattle.py_frames.specs.Binding.{unset_slots}
use Rattle.py_calls.proofs.named.push_unset.Given as goal

-- with those that are left it is what is to come, and it begins with what was there
abbrev pub invariant-slots : goal.invariant-slots
invariant-slots l = (l.out ++ unset_slots l.left ≡ l.fn.out ++ unset_slots l.n) × (take l.start l.out ≡ l.fn.out)
    × (l.start ≤ length l.out)

abbrev pub decreases-slots : goal.decreases-slots
decreases-slots l = l.left
