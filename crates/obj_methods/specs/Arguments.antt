-- What methods of lists and dictionaries take of their arguments. States `docs/LANGUAGE.md`, "Methods of lists" and
-- "Methods of dictionaries".
use Rattle.std.specs.Prelude.{ℤ, List, [], ◌∷◌, Option, Some, None}
use Rattle.py_data.specs.declared.value.Value.{Value}
use Rattle.py_data.specs.Comparing.{number_of}

-- the number that the one argument is
abbrev pub only_number : List Value → Option ℤ
only_number [] = None
only_number (x ∷ []) = number_of x
only_number (x ∷ y ∷ zs) = None

-- a number, if it is one, and a value
abbrev pub beside : Option ℤ → Value → Option (ℤ × Value)
beside (Some i) x = Some (i, x)
beside None x = None

-- the number that the first of two arguments is, and the second one
abbrev pub number_and_value : List Value → Option (ℤ × Value)
number_and_value [] = None
number_and_value (i ∷ []) = None
number_and_value (i ∷ x ∷ []) = beside (number_of i) x
number_and_value (i ∷ x ∷ y ∷ zs) = None

-- a key, and a value where there is a second argument
abbrev pub key_and_value : List Value → Option (Value × Option Value)
key_and_value [] = None
key_and_value (k ∷ []) = Some (k, None)
key_and_value (k ∷ x ∷ []) = Some (k, Some x)
key_and_value (k ∷ x ∷ y ∷ zs) = None
