-- The rows of the methods of dictionaries. States `docs/LANGUAGE.md`, "Methods of dictionaries".
use Rattle.std.specs.Prelude.{ℕ, ◌==◌, cond, List, length, is_some, Option, Some, None, unwrap_or, codes}
use Rattle.py_base.specs.Numbers.{builtin_number, class_number}
use Rattle.py_data.specs.declared.value.Value.{Value}
use Rattle.py_data.specs.declared.value.Value.TheVariants.{None as NoneValue, Bool as BoolValue}
use Rattle.py_data.specs.declared.record.Fault.{Fault}
use Rattle.py_data.specs.declared.record.Got.{Got}
use Rattle.py_data.specs.declared.record.Got.TheVariants.{Is, Raise}
use Rattle.py_data.specs.Fault.{operand_fault, argument_fault}
use Rattle.py_data.specs.Row.{Row, Ret, bind}
use Rattle.obj_dict.specs.declared.listing.Part.{Part}
use Rattle.obj_dict.specs.declared.listing.Part.TheVariants.{Keys, Values, Items}
use Rattle.obj_dict.specs.Dict.{get_row, del_row}
use Rattle.obj_dict.specs.Listing.{list_of_row}
use Rattle.obj_str.specs.Methods.{only}
use Rattle.obj_methods.specs.Arguments.{key_and_value}

-- ---- get

-- what was found, or else this value
abbrev pub found_or : Value → Got (Option Value) → Got Value
found_or x (Is (Some y)) = Is y
found_or x (Is None) = Is x
found_or x (Raise e) = Raise e

-- None, where no value is given
unfoldable pub get_with : {S : Type 0} → ℕ → Option (Value × Option Value) → Row S (Got Value)
get_with d (Some p) = bind (get_row d p.0) (λ g. Ret (found_or (unwrap_or p.1 NoneValue) g))
get_with d None = Ret (Raise argument_fault)

-- ---- keys, values, items

unfoldable pub list_by : {S : Type 0} → Part → ℕ → List Value → Row S (Got Value)
list_by part d args = cond (length args == 0) (list_of_row d part) (Ret (Raise argument_fault))

-- ---- has_key

-- a value was found
abbrev pub is_there : Got (Option Value) → Got Value
is_there (Is o) = Is (BoolValue (is_some o))
is_there (Raise e) = Raise e

unfoldable pub has_with : {S : Type 0} → ℕ → Option Value → Row S (Got Value)
has_with d (Some k) = bind (get_row d k) (λ g. Ret (is_there g))
has_with d None = Ret (Raise argument_fault)

-- ---- pop

-- a value in the place of a KeyError
abbrev pub or_value : Value → Fault → Got Value
or_value x e = cond (e.exc == class_number (codes "KeyError")) (Is x) (Raise e)

abbrev pub if_given : Option Value → Fault → Got Value
if_given (Some x) e = or_value x e
if_given None e = Raise e

-- where a value is given, it stands for a key that isn't there
abbrev pub or_given : Option Value → Got Value → Got Value
or_given o (Is y) = Is y
or_given o (Raise e) = if_given o e

unfoldable pub pop_with : {S : Type 0} → ℕ → Option (Value × Option Value) → Row S (Got Value)
pop_with d (Some p) = bind (del_row d p.0) (λ g. Ret (or_given p.1 g))
pop_with d None = Ret (Raise argument_fault)

-- ---- the method of a number

-- TypeError, `unsupported operand`, for a number of no method of dictionaries
unfoldable pub dict_method_row : {S : Type 0} → ℕ → ℕ → List Value → Row S (Got Value)
dict_method_row m d args =
    cond (m == builtin_number (codes "dict.get")) (get_with d (key_and_value args))
    (cond (m == builtin_number (codes "dict.keys")) (list_by Keys d args)
    (cond (m == builtin_number (codes "dict.values")) (list_by Values d args)
    (cond (m == builtin_number (codes "dict.items")) (list_by Items d args)
    (cond (m == builtin_number (codes "dict.has_key")) (has_with d (only args))
    (cond (m == builtin_number (codes "dict.pop")) (pop_with d (key_and_value args)) (Ret (Raise operand_fault)))))))
