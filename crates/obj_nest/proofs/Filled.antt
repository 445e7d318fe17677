-- What is empty, by its length.
use Rattle.std.proofs.Common.{arith, ◌≡◌, List, [], ◌∷◌, length, refl}
use Rattle.std.specs.Prelude.{nat_lt}
use Rattle.std.proofs.lemmas.Bool.Decides.{nat_tests}
use Rattle.py_data.specs.Truth.{is_filled}

pub filled : {A : Type 0} (xs : List A) → nat_lt 0 (length xs) ≡ is_filled xs
filled [] = refl
filled (x ∷ xs) = grind (arith, nat_tests)
