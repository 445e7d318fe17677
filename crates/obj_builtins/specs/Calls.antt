-- The call of a builtin by its number: the methods of strings, lists and dictionaries, the functions, `raw_input`, and
-- what `thread` and `threading` have. States `docs/LANGUAGE.md`, "Builtins", "Locks and threads" and "Numbers and
-- names".
use Rattle.std.specs.Prelude.{ℕ, ◌==◌, Bool, ◌||◌, cond, codes, List, length, nat_lt, Option}
use Rattle.py_base.specs.declared.kind.Kind.{Kind}
use Rattle.py_base.specs.declared.kind.Kind.TheVariants.{Str, List as ListKind, Dict}
use Rattle.py_base.specs.Numbers.{builtin_number}
use Rattle.py_data.specs.declared.value.Value.{Value}
use Rattle.py_data.specs.declared.value.Value.TheVariants.{Ref}
use Rattle.py_data.specs.declared.record.Got.{Got}
use Rattle.py_data.specs.declared.record.Got.TheVariants.{Is, Raise}
use Rattle.py_data.specs.Fault.{argument_fault, operand_fault}
use Rattle.py_data.specs.Looking.{kind_row}
use Rattle.py_data.specs.Row.{Row, Ret, bind}
use Rattle.obj_str.specs.Methods.{method_row}
use Rattle.obj_methods.specs.Lists.{list_method_row}
use Rattle.obj_methods.specs.Dicts.{dict_method_row}
use Rattle.obj_threads.specs.declared.answer.Answer.{Answer}
use Rattle.obj_threads.specs.Arguments.{answered, is_method_of}
use Rattle.obj_threads.specs.Threads.{thread_call_row}
use Rattle.obj_builtins.specs.Functions.{function_row}
use Rattle.obj_builtins.specs.Input.{input_row}

-- a value is the answer, and an exception is raised
abbrev pub valued : Got Value → Got Answer
valued (Is x) = answered x
valued (Raise e) = Raise e

-- ---- methods of strings, lists and dictionaries

unfoldable pub str_call : {S : Type 0} → ℕ → ℕ → List Value → Row S (Got Answer)
str_call m a args = bind (method_row m a args) (λ g. Ret (valued g))

unfoldable pub list_call : {S : Type 0} → ℕ → ℕ → List Value → Row S (Got Answer)
list_call m a args = bind (list_method_row m a args) (λ g. Ret (valued g))

unfoldable pub dict_call : {S : Type 0} → ℕ → ℕ → List Value → Row S (Got Answer)
dict_call m a args = bind (dict_method_row m a args) (λ g. Ret (valued g))

unfoldable pub method_by : {S : Type 0} → ℕ → ℕ → List Value → Kind → Row S (Got Answer)
method_by m a args Str = str_call m a args
method_by m a args ListKind = list_call m a args
method_by m a args Dict = dict_call m a args
method_by m a args _ = Ret (Raise operand_fault)

-- no keyword may stand there
unfoldable pub method_keyed : {S : Type 0} → ℕ → ℕ → List Value → List Value → Kind → Row S (Got Answer)
method_keyed m a args keys k = cond (length keys == 0) (method_by m a args k) (Ret (Raise argument_fault))

-- the object is a record of a kind that has this method
unfoldable pub method_of : {S : Type 0} → ℕ → ℕ → List Value → List Value → Kind → Row S (Got Answer)
method_of m a args keys k = cond (is_method_of k m) (method_keyed m a args keys k) (Ret (Raise operand_fault))

unfoldable pub method_at : {S : Type 0} → ℕ → ℕ → List Value → List Value → Row S (Got Answer)
method_at m a args keys = bind (kind_row a) (λ k. method_of m a args keys k)

unfoldable pub object_row : {S : Type 0} → ℕ → Value → List Value → List Value → Row S (Got Answer)
object_row m (Ref a) args keys = method_at m a.0 args keys
object_row m _ args keys = Ret (Raise operand_fault)

-- ---- functions

unfoldable pub function_call : {S : Type 0} → ℕ → ℕ → List Value → Row S (Got Answer)
function_call roots b args = bind (function_row roots b args) (λ g. Ret (valued g))

unfoldable pub function_keyed : {S : Type 0} → ℕ → ℕ → List Value → List Value → Row S (Got Answer)
function_keyed roots b args keys = cond (length keys == 0) (function_call roots b args) (Ret (Raise argument_fault))

unfoldable pub input_call : {S : Type 0} → ℕ → List Value → Row S (Got Answer)
input_call roots args = bind (input_row roots args) (λ g. Ret (valued g))

unfoldable pub input_keyed : {S : Type 0} → ℕ → List Value → List Value → Row S (Got Answer)
input_keyed roots args keys = cond (length keys == 0) (input_call roots args) (Ret (Raise argument_fault))

-- ---- the builtin of a number

-- the functions stand before `raw_input` in the list of builtins
abbrev pub is_function : ℕ → Bool
is_function b = nat_lt b (builtin_number (codes "raw_input"))

abbrev pub is_object_method : ℕ → Bool
is_object_method b = is_method_of Str b || (is_method_of ListKind b || is_method_of Dict b)

-- neither a function nor a method of these kinds
unfoldable pub other_row : {S : Type 0} → ℕ → Option ℕ → ℕ → Value → List Value → List Value → Row S (Got Answer)
other_row roots me b own args keys = cond (b == builtin_number (codes "raw_input")) (input_keyed roots args keys)
    (thread_call_row roots me b own args keys)

-- The call of the builtin of number b, with arguments and with keywords as name, value, name, value; each name is the
-- address of a string. `own` is the object of a method. At `roots` stands the list of roots, at `me` the Thread record
-- of the calling thread, if it has one.
unfoldable pub call_row : {S : Type 0} → ℕ → Option ℕ → ℕ → Value → List Value → List Value → Row S (Got Answer)
call_row roots me b own args keys =
    cond (is_object_method b) (object_row b own args keys)
    (cond (is_function b) (function_keyed roots b args keys) (other_row roots me b own args keys))
