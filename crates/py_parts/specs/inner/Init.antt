-- What is known of the number of `__init__` among the roots of a program.
-- What code and proofs say to each other: nothing public rests on it.
use Rattle.std.specs.Prelude.{ℕ, Option, Some, None}
use Rattle.py_parts.specs.declared.site.InitNumber.{InitNumber}
use Rattle.py_parts.specs.declared.site.InitNumber.TheVariants.{Missing, At, Unknown}

-- the number, or that there is none; None where it wasn't looked up
abbrev pub known : InitNumber → Option (Option ℕ)
known Missing = Some None
known (At n) = Some (Some n)
known Unknown = None
