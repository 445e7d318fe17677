-- The row of `isinstance`. States `docs/LANGUAGE.md`, "Builtins" and "Classes and instances".
use Rattle.std.specs.Prelude.{ℕ, ◌==◌, Bool, true, false, not, eqb, if◌then◌else◌, List, [], ◌∷◌, ◌++◌, length, Option, Some, None, codes, slice_index_or}
use Rattle.py_base.specs.Numbers.{builtin_number, class_number}
use Rattle.py_data.specs.declared.value.Addr.{Addr}
use Rattle.py_data.specs.declared.value.Value.{Value}
use Rattle.py_data.specs.declared.value.Value.TheVariants.{Bool as BoolValue, Ref}
use Rattle.py_data.specs.declared.record.Got.{Got}
use Rattle.py_data.specs.declared.record.Got.TheVariants.{Is, Raise}
use Rattle.py_data.specs.Fault.{argument_fault}
use Rattle.py_data.specs.Looking.{size_row, look_row, until_row, each_row, got_row}
use Rattle.py_data.specs.Row.{Row, Ret, bind}
use Rattle.obj_class.specs.Bases.{is_sub_row}
use Rattle.obj_class.specs.Roots.{class_place}
use Rattle.obj_builtins.specs.declared.arguments.Form.{Form}
use Rattle.obj_builtins.specs.declared.arguments.Form.TheVariants.{Number, Truth, Text, Items, ListOf, Pairs, Class as ClassForm, Object, Named}
use Rattle.obj_builtins.specs.declared.kinds.Class.{Class}
use Rattle.obj_builtins.specs.declared.kinds.Class.TheVariants.{Own, Numbers, Truths, Texts, Lists, Tuples, Dicts}
use Rattle.obj_builtins.specs.Arguments.{form_row}

-- ---- what is asked for

-- the types among the builtins
abbrev pub builtin_class : ℕ → Option Class
builtin_class b =
    if b == builtin_number (codes "int") then Some Numbers else
    if b == builtin_number (codes "bool") then Some Truths else
    if b == builtin_number (codes "str") then Some Texts else
    if b == builtin_number (codes "list") then Some Lists else
    if b == builtin_number (codes "tuple") then Some Tuples else
    if b == builtin_number (codes "dict") then Some Dicts else None

-- a class, or a type among the builtins
abbrev pub class_of : Form → Option Class
class_of (ClassForm c) = Some (Own c)
class_of (Named b) = builtin_class b
class_of _ = None

-- one that is asked for behind others
abbrev pub with_class : List Class → Option Class → Got (List Class)
with_class cs (Some c) = Is (cs ++ c ∷ [])
with_class cs None = Raise argument_fault

-- an item of a tuple
unfoldable pub item_form : {S : Type 0} → ℕ → ℕ → Row S Form
item_form a i = bind (look_row a i) (λ x. form_row x)

unfoldable pub class_turn : {S : Type 0} → ℕ → ℕ → List Class → Row S (Got (List Class))
class_turn a i cs = bind (item_form a i) (λ f. Ret (with_class cs (class_of f)))

-- all items of a tuple of n, from the first on
unfoldable pub classes_in : {S : Type 0} → ℕ → ℕ → Row S (Got (List Class))
classes_in a n = each_row (class_turn a) 0 n []

unfoldable pub classes_at : {S : Type 0} → ℕ → Row S (Got (List Class))
classes_at a = bind (size_row a) (λ n. classes_in a n)

-- one, or those of a tuple
unfoldable pub classes_row : {S : Type 0} → Form → Row S (Got (List Class))
classes_row (Items a) = classes_at a.0
classes_row f = Ret (with_class [] (class_of f))

-- ---- whether a value is one

abbrev pub is_ref : Value → Addr → Bool
is_ref (Ref a) c = eqb a.0 c.0
is_ref _ c = false

-- the class of an instance is that class or below it
unfoldable pub below_row : {S : Type 0} → Value → Addr → Row S Bool
below_row (Ref k) c = is_sub_row k.0 c.0
below_row _ c = Ret false

unfoldable pub object_below : {S : Type 0} → ℕ → Addr → Row S Bool
object_below a c = bind (look_row a 0) (λ k. below_row k c)

unfoldable pub form_below : {S : Type 0} → Form → Addr → Row S Bool
form_below (Object a) c = object_below a.0 c
form_below _ c = Ret false

-- of the class `object` every value is one
unfoldable pub own_test : {S : Type 0} → Form → Addr → Bool → Row S Bool
own_test f c true = Ret true
own_test f c false = form_below f c

unfoldable pub own_row : {S : Type 0} → ℕ → Form → Addr → Row S Bool
own_row roots f c = bind (look_row roots (class_place (class_number (codes "object")))) (λ o. own_test f c (is_ref o c))

-- a truth value is a number too
abbrev pub is_number : Form → Bool
is_number (Number i) = true
is_number (Truth b) = true
is_number _ = false

abbrev pub is_truth : Form → Bool
is_truth (Truth b) = true
is_truth _ = false

abbrev pub is_text : Form → Bool
is_text (Text a) = true
is_text _ = false

abbrev pub is_list : Form → Bool
is_list ListOf = true
is_list _ = false

abbrev pub is_tuple : Form → Bool
is_tuple (Items a) = true
is_tuple _ = false

abbrev pub is_dict : Form → Bool
is_dict Pairs = true
is_dict _ = false

unfoldable pub class_row : {S : Type 0} → ℕ → Form → Class → Row S Bool
class_row roots f (Own c) = own_row roots f c
class_row roots f Numbers = Ret (is_number f)
class_row roots f Truths = Ret (is_truth f)
class_row roots f Texts = Ret (is_text f)
class_row roots f Lists = Ret (is_list f)
class_row roots f Tuples = Ret (is_tuple f)
class_row roots f Dicts = Ret (is_dict f)

-- ---- the function

abbrev pub class_at : List Class → ℕ → Class
class_at cs i = slice_index_or cs i Numbers

-- one of them is enough
unfoldable pub any_row : {S : Type 0} → ℕ → Form → List Class → Row S Bool
any_row roots f cs = until_row (λ i. class_row roots f (class_at cs i)) not false 0 (length cs)

unfoldable pub form_told : {S : Type 0} → ℕ → List Class → Form → Row S (Got Value)
form_told roots cs f = bind (any_row roots f cs) (λ b. Ret (Is (BoolValue b)))

unfoldable pub value_told : {S : Type 0} → ℕ → Value → List Class → Row S (Got Value)
value_told roots x cs = bind (form_row x) (λ f. form_told roots cs f)

-- what is asked for is tested whole, before the value
unfoldable pub told_of : {S : Type 0} → ℕ → Value → Form → Row S (Got Value)
told_of roots x f = bind (classes_row f) (got_row (value_told roots x))

unfoldable pub told_by : {S : Type 0} → ℕ → Value → Value → Row S (Got Value)
told_by roots x c = bind (form_row c) (λ f. told_of roots x f)

unfoldable pub isinstance_row : {S : Type 0} → ℕ → Option (Value × Value) → Row S (Got Value)
isinstance_row roots (Some p) = told_by roots p.0 p.1
isinstance_row roots None = Ret (Raise argument_fault)
