-- The rows of global names, and of the names of a class body. States `docs/LANGUAGE.md`, "Instructions" and "Numbers
-- and names".
use Rattle.std.specs.Prelude.{ℕ, ◌+◌, true, false, cond, List, [], ◌∷◌, ◌++◌, length, take, Option, Some, None, option_map, codes}
use Rattle.std.specs.Str.{bytes_eq}
use Rattle.py_base.specs.Numbers.{number_in, class_names, class_number, builtin_names, builtin_number}
use Rattle.py_data.specs.declared.value.Value.{Value}
use Rattle.py_data.specs.declared.value.Value.TheVariants.{Unset}
use Rattle.py_data.specs.declared.change.Change.TheVariants as change
use Rattle.py_data.specs.declared.record.Fault.{Fault}
use Rattle.py_data.specs.declared.record.Got.{Got}
use Rattle.py_data.specs.declared.record.Got.TheVariants.{Is, Raise}
use Rattle.py_data.specs.Fault.{text_fault}
use Rattle.py_data.specs.Looking.{look_row}
use Rattle.py_data.specs.Row.{Row, Ret, Do, Edit, bind}
use Rattle.py_code.specs.declared.instr.Constant.{Constant}
use Rattle.py_code.specs.declared.instr.Constant.TheVariants.{Truth, Builtin as BuiltinConstant, Root as RootConstant}
use Rattle.py_code.specs.declared.program.Program.{Program}
use Rattle.py_code.specs.Right.{first_text, texts_of, names_of, own_name}
use Rattle.obj_class.specs.AttrRows.{held_row}
use Rattle.obj_class.specs.Roots.{class_place}
use Rattle.obj_dict.specs.Dict.{set_row, del_row}
use Rattle.py_frames.specs.declared.next.Next.{Next}
use Rattle.py_frames.specs.declared.next.Next.TheVariants.{Goes}
use Rattle.py_frames.specs.Raising.{place_in, raise_row, done}
use Rattle.py_frames.specs.LocalRows.{const_row}

-- ---- the numbers of roots by their names

-- the number of the first cell of a global name
abbrev pub first_cell : Program → ℕ
first_cell p = first_text + length (texts_of p.roots)

-- the string of these bytes
abbrev pub text_number : Program → List ℕ → Option ℕ
text_number p text = option_map (λ k. first_text + k) (number_in (texts_of p.roots) text)

-- the cell of a global name
abbrev pub cell_number : Program → List ℕ → Option ℕ
cell_number p name = option_map (λ k. first_cell p + k) (number_in (names_of p.roots) name)

-- ---- builtins that stand for a name

-- the functions and types are the builtins before the modules
abbrev pub function_names : List (List ℕ)
function_names = take (builtin_number (codes "thread")) builtin_names

-- the classes that have a name of their own: all but the last
abbrev pub exception_names : List (List ℕ)
exception_names = take (class_number (codes "thread.error")) class_names

abbrev pub function_named : List ℕ → Option Constant
function_named name = option_map BuiltinConstant (number_in function_names name)

abbrev pub class_or : Option ℕ → Option Constant → Option Constant
class_or (Some n) o = Some (RootConstant (class_place n))
class_or None o = o

-- `__main__` is the last string of a program that has the global name `__name__`
abbrev pub main_place : Program → ℕ
main_place p = length (texts_of p.roots) + class_place (class_number (codes "thread.error"))

-- what a name stands for where nothing is bound to it
unfoldable pub builtin_named : Program → List ℕ → Option Constant
builtin_named p name =
    cond (bytes_eq (codes "True") name) (Some (Truth true))
    (cond (bytes_eq (codes "False") name) (Some (Truth false))
    (cond (bytes_eq own_name name) (Some (RootConstant (main_place p)))
    (class_or (number_in exception_names name) (function_named name))))

-- ---- global names

abbrev pub name_fault : List ℕ → Fault
name_fault name = text_fault (class_number (codes "NameError")) (codes "name '" ++ name ++ codes "' is not defined")

unfoldable pub unbound_row : {S : Type 0} → ℕ → List ℕ → Option Constant → Row S Next
unbound_row roots name (Some c) = const_row roots c
unbound_row roots name None = raise_row roots (name_fault name)

-- what the cell of a name holds; where it holds nothing, the builtin of that name
unfoldable pub bound_row : {S : Type 0} → ℕ → List ℕ → Option Constant → Value → Row S Next
bound_row roots name o Unset = unbound_row roots name o
bound_row roots name o x = Ret (Goes (x ∷ []))

unfoldable pub load_cell_row : {S : Type 0} → ℕ → List ℕ → Option Constant → ℕ → Row S Next
load_cell_row roots name o a = bind (look_row a 0) (λ x. bound_row roots name o x)

-- LOAD_GLOBAL, by the number of the cell among the roots, its name, and the builtin of that name
unfoldable pub load_global_row : {S : Type 0} → ℕ → ℕ → List ℕ → Option Constant → Row S Next
load_global_row roots g name o = bind (look_row roots g) (λ c. load_cell_row roots name o (place_in c))

-- a value in a cell
unfoldable pub set_cell_row : {S : Type 0} → ℕ → Value → Row S Next
set_cell_row a x = Do (Edit a (change.Set 0 x)) (λ _. Ret (Goes []))

-- STORE_GLOBAL
unfoldable pub store_global_row : {S : Type 0} → ℕ → ℕ → Value → Row S Next
store_global_row roots g x = bind (look_row roots g) (λ c. set_cell_row (place_in c) x)

-- DEL_GLOBAL
unfoldable pub cleared_row : {S : Type 0} → ℕ → List ℕ → ℕ → Value → Row S Next
cleared_row roots name a Unset = raise_row roots (name_fault name)
cleared_row roots name a x = set_cell_row a Unset

unfoldable pub clear_cell_row : {S : Type 0} → ℕ → List ℕ → ℕ → Row S Next
clear_cell_row roots name a = bind (look_row a 0) (λ x. cleared_row roots name a x)

unfoldable pub del_global_row : {S : Type 0} → ℕ → ℕ → List ℕ → Row S Next
del_global_row roots g name = bind (look_row roots g) (λ c. clear_cell_row roots name (place_in c))

-- ---- names of a class body: they stand in its Dict d

-- the global of the name, where it has a cell
unfoldable pub outer_row : {S : Type 0} → ℕ → List ℕ → Option Constant → Option ℕ → Row S Next
outer_row roots name o (Some g) = load_global_row roots g name o
outer_row roots name o None = unbound_row roots name o

unfoldable pub named_row : {S : Type 0} → ℕ → List ℕ → Option Constant → Option ℕ → Option Value → Row S Next
named_row roots name o g (Some x) = Ret (Goes (x ∷ []))
named_row roots name o g None = outer_row roots name o g

unfoldable pub own_or_outer : {S : Type 0} → ℕ → ℕ → List ℕ → Option Constant → Option ℕ → Value → Row S Next
own_or_outer roots d name o g key = bind (held_row d key) (λ x. named_row roots name o g x)

-- LOAD_NAME, by the number of the string among the roots, the name, its builtin, and the number of its cell
unfoldable pub load_name_row : {S : Type 0} → ℕ → ℕ → ℕ → List ℕ → Option Constant → Option ℕ → Row S Next
load_name_row roots d n name o g = bind (look_row roots n) (λ key. own_or_outer roots d name o g key)

unfoldable pub put_name_row : {S : Type 0} → ℕ → ℕ → Value → Value → Row S Next
put_name_row roots d x key = bind (set_row d key x) (λ g. done roots g)

-- STORE_NAME
unfoldable pub store_name_row : {S : Type 0} → ℕ → ℕ → ℕ → Value → Row S Next
store_name_row roots d n x = bind (look_row roots n) (λ key. put_name_row roots d x key)

-- a name that can't be taken out isn't there
unfoldable pub gone_row : {S : Type 0} → ℕ → List ℕ → Got Value → Row S Next
gone_row roots name (Is x) = Ret (Goes [])
gone_row roots name (Raise e) = raise_row roots (name_fault name)

unfoldable pub drop_name_row : {S : Type 0} → ℕ → ℕ → List ℕ → Value → Row S Next
drop_name_row roots d name key = bind (del_row d key) (λ g. gone_row roots name g)

-- DEL_NAME
unfoldable pub del_name_row : {S : Type 0} → ℕ → ℕ → ℕ → List ℕ → Row S Next
del_name_row roots d n name = bind (look_row roots n) (λ key. drop_name_row roots d name key)
