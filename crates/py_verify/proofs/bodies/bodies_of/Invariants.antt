use Rattle.std.proofs.Common.{◌≡◌, ◌||◌, ℕ, length}
use Rattle.std.specs.Prelude.{nat_eq}
use Rattle.indexmap.specs.IndexSet.{contains}
use Rattle.py_code.specs.Right.{is_body}
use Rattle.py_verify.proofs.bodies.bodies_of.Given as goal

abbrev pub invariant-codes : goal.invariant-codes
invariant-codes l = (f : ℕ) → (contains nat_eq l.bodies f || is_body l.rest f) ≡ is_body l.codes f

abbrev pub decreases-codes : goal.decreases-codes
decreases-codes l = length l.rest
