use Rattle.std.proofs.Common.{◌≡◌, ◌||◌, ℕ, length}
use Rattle.std.specs.Prelude.{nat_eq}
use Rattle.std.specs.List.{list_any}
use Rattle.indexmap.specs.IndexSet.{contains}
use Rattle.py_code.specs.Right.{opens_body}
use Rattle.py_verify.proofs.bodies.add_all.Given as goal

abbrev pub invariant-instrs : goal.invariant-instrs
invariant-instrs l = (f : ℕ) → (contains nat_eq l.bodies f || list_any (opens_body f) l.rest) ≡
    (contains nat_eq l.fn.bodies f || list_any (opens_body f) l.instrs)

abbrev pub decreases-instrs : goal.decreases-instrs
decreases-instrs l = length l.rest
