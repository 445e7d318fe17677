-- The rows of `str`, `repr` and `ord`. States `docs/LANGUAGE.md`, "Builtins".
use Rattle.std.specs.Prelude.{ℕ, pos, Bool, true, false, List, [], ◌∷◌, Option, Some, None}
use Rattle.py_data.specs.declared.value.Value.{Value}
use Rattle.py_data.specs.declared.value.Value.TheVariants.{Int}
use Rattle.py_data.specs.declared.record.Got.{Got}
use Rattle.py_data.specs.declared.record.Got.TheVariants.{Is, Raise}
use Rattle.py_data.specs.Fault.{argument_fault}
use Rattle.py_data.specs.Looking.{bytes_row, got_row}
use Rattle.py_data.specs.Row.{Row, Ret, bind}
use Rattle.obj_class.specs.Telling.{told_row}
use Rattle.obj_str.specs.Strings.{new_text}
use Rattle.obj_builtins.specs.declared.arguments.Few.{Few}
use Rattle.obj_builtins.specs.declared.arguments.Few.TheVariants.{Nothing, One, Many}
use Rattle.obj_builtins.specs.declared.arguments.Form.{Form}
use Rattle.obj_builtins.specs.declared.arguments.Form.TheVariants.{Text}
use Rattle.obj_builtins.specs.Arguments.{form_row}

-- a new string of a value's text: as it stands within others, or by itself
unfoldable pub written_row : {S : Type 0} → ℕ → Value → Bool → Row S (Got Value)
written_row roots x quoted = bind (told_row roots x quoted) (got_row new_text)

-- ---- str

-- a string is its own text
unfoldable pub str_of : {S : Type 0} → ℕ → Value → Form → Row S (Got Value)
str_of roots x (Text a) = Ret (Is x)
str_of roots x f = written_row roots x false

unfoldable pub str_alone : {S : Type 0} → ℕ → Value → Row S (Got Value)
str_alone roots x = bind (form_row x) (λ f. str_of roots x f)

-- the empty string where there is no argument
unfoldable pub str_row : {S : Type 0} → ℕ → Few → Row S (Got Value)
str_row roots Nothing = new_text []
str_row roots (One x) = str_alone roots x
str_row roots Many = Ret (Raise argument_fault)

-- ---- repr

unfoldable pub repr_row : {S : Type 0} → ℕ → Option Value → Row S (Got Value)
repr_row roots (Some x) = written_row roots x true
repr_row roots None = Ret (Raise argument_fault)

-- ---- ord

-- the one byte as a number
abbrev pub byte_value : List ℕ → Got Value
byte_value (b ∷ []) = Is (Int (pos b))
byte_value _ = Raise argument_fault

unfoldable pub byte_row : {S : Type 0} → ℕ → Row S (Got Value)
byte_row a = bind (bytes_row a) (λ bs. Ret (byte_value bs))

unfoldable pub ord_of : {S : Type 0} → Form → Row S (Got Value)
ord_of (Text a) = byte_row a.0
ord_of _ = Ret (Raise argument_fault)

unfoldable pub ord_alone : {S : Type 0} → Value → Row S (Got Value)
ord_alone x = bind (form_row x) (λ f. ord_of f)

unfoldable pub ord_row : {S : Type 0} → Option Value → Row S (Got Value)
ord_row (Some x) = ord_alone x
ord_row None = Ret (Raise argument_fault)
