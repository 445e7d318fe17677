-- What code and proofs say to each other: nothing public rests on it. What names stand for where nothing is bound to
-- them.
use Rattle.std.specs.Prelude.{◌≡◌, ℕ, List, Option, slice_get, IfSome}
use Rattle.py_code.specs.declared.instr.Constant.{Constant}
use Rattle.py_code.specs.declared.program.Program.{Program}
use Rattle.py_frames.specs.GlobalRows.{builtin_named}
use Rattle.py_frames.specs.State.{root_name}

-- the names of a program's first roots, in order, stand for these where nothing is bound to them
abbrev pub AreBuiltins : Program → List (Option Constant) → Type 0
AreBuiltins p found = (n : ℕ) → IfSome (slice_get found n) (λ o. o ≡ builtin_named p (root_name p n))
