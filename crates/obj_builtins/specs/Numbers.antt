-- The rows of `int`, `bool`, `abs` and `chr`. States `docs/LANGUAGE.md`, "Builtins".
use Rattle.std.specs.Prelude.{ℕ, ℤ, pos, negsuc, neg_ℤ, cond, false, leb, [], ◌∷◌, Option, Some, None, codes, int_lt}
use Rattle.py_base.specs.Numbers.{class_number}
use Rattle.py_data.specs.declared.value.Value.{Value}
use Rattle.py_data.specs.declared.value.Value.TheVariants.{Bool as BoolValue, Int}
use Rattle.py_data.specs.declared.record.Fault.{Fault}
use Rattle.py_data.specs.declared.record.Got.{Got}
use Rattle.py_data.specs.declared.record.Got.TheVariants.{Is, Raise}
use Rattle.py_data.specs.Fault.{text_fault, argument_fault}
use Rattle.py_data.specs.Looking.{bytes_row}
use Rattle.py_data.specs.Row.{Row, Ret, bind}
use Rattle.py_data.specs.Shape.{bit}
use Rattle.obj_nest.specs.Truth.{truth_row}
use Rattle.obj_ops.specs.Format.{number_in}
use Rattle.obj_ops.specs.Numbers.{narrowed}
use Rattle.obj_str.specs.Strings.{new_text}
use Rattle.obj_builtins.specs.declared.arguments.Few.{Few}
use Rattle.obj_builtins.specs.declared.arguments.Few.TheVariants.{Nothing, One, Many}
use Rattle.obj_builtins.specs.declared.arguments.Form.{Form}
use Rattle.obj_builtins.specs.declared.arguments.Form.TheVariants.{Number, Truth, Text}
use Rattle.obj_builtins.specs.Arguments.{form_row}
use Rattle.obj_builtins.specs.Literals.{text_number}

-- ---- int

-- the number that a string writes
unfoldable pub read_row : {S : Type 0} → ℕ → Row S (Got Value)
read_row a = bind (bytes_row a) (λ bs. Ret (text_number bs))

unfoldable pub int_of : {S : Type 0} → Form → Row S (Got Value)
int_of (Number i) = Ret (Is (Int i))
int_of (Truth b) = Ret (Is (Int (bit b)))
int_of (Text a) = read_row a.0
int_of _ = Ret (Raise argument_fault)

unfoldable pub int_alone : {S : Type 0} → Value → Row S (Got Value)
int_alone x = bind (form_row x) (λ f. int_of f)

-- 0 where there is no argument
unfoldable pub int_row : {S : Type 0} → Few → Row S (Got Value)
int_row Nothing = Ret (Is (Int (pos 0)))
int_row (One x) = int_alone x
int_row Many = Ret (Raise argument_fault)

-- ---- bool

unfoldable pub bool_alone : {S : Type 0} → Value → Row S (Got Value)
bool_alone x = bind (truth_row x) (λ b. Ret (Is (BoolValue b)))

-- False where there is no argument
unfoldable pub bool_row : {S : Type 0} → Few → Row S (Got Value)
bool_row Nothing = Ret (Is (BoolValue false))
bool_row (One x) = bool_alone x
bool_row Many = Ret (Raise argument_fault)

-- ---- abs

-- a number without its sign, where 64 bits hold it
unfoldable pub absolute : ℤ → Got Value
absolute i = narrowed (cond (int_lt i (pos 0)) (neg_ℤ i) i)

unfoldable pub absolute_in : Option ℤ → Got Value
absolute_in (Some i) = absolute i
absolute_in None = Raise argument_fault

unfoldable pub abs_row : {S : Type 0} → Option Value → Row S (Got Value)
abs_row o = Ret (absolute_in (number_in o))

-- ---- chr

-- no byte is this number
abbrev pub byte_fault : Fault
byte_fault = text_fault (class_number (codes "ValueError")) (codes "chr() arg not in range(256)")

abbrev pub byte_of : ℤ → Option ℕ
byte_of (pos n) = cond (leb n 255) (Some n) None
byte_of (negsuc n) = None

-- a new string of one byte
unfoldable pub letter_row : {S : Type 0} → Option ℕ → Row S (Got Value)
letter_row (Some b) = new_text (b ∷ [])
letter_row None = Ret (Raise byte_fault)

unfoldable pub letter_of : {S : Type 0} → Option ℤ → Row S (Got Value)
letter_of (Some i) = letter_row (byte_of i)
letter_of None = Ret (Raise argument_fault)

unfoldable pub chr_row : {S : Type 0} → Option Value → Row S (Got Value)
chr_row o = letter_of (number_in o)
