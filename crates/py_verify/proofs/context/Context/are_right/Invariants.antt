use Rattle.std.proofs.Common.{◌≡◌, ◌+◌, length}
use Rattle.std.specs.Prelude.{◌↔◌}
use Rattle.py_code.specs.Right.{AreRight}
use Rattle.py_verify.proofs.context.Context.are_right.Given as goal

abbrev pub invariant-codes : goal.invariant-codes
invariant-codes l = (AreRight l.self.codes l.self.roots l.n l.rest ↔ AreRight l.self.codes l.self.roots 0 l.self.codes)
    × (l.n + length l.rest ≡ length l.self.codes)

abbrev pub decreases-codes : goal.decreases-codes
decreases-codes l = length l.rest
