use Rattle.std.proofs.Common.{◌≡◌, ◌-◌, ℕ, [], get_or, length}
use Rattle.py_compile.proofs.compiler.pad.Given as goal

abbrev pub invariant-sets : goal.invariant-sets
invariant-sets l = (b : ℕ) → get_or l.sets.items b [] ≡ get_or l.initial.sets.items b []

abbrev pub decreases-sets : goal.decreases-sets
decreases-sets l = l.count - length l.sets.items
