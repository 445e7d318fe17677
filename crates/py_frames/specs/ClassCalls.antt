-- The row of the call of a class, which makes an instance. States `docs/LANGUAGE.md`, "Calls and frames" and "Classes
-- and instances".
use Rattle.std.specs.Prelude.{ℕ, Bool, true, false, cond, leb, ltb, ◌&&◌, List, [], ◌∷◌, length, slice_set, Option, Some, None, codes}
use Rattle.py_base.specs.Numbers.{class_number}
use Rattle.py_base.specs.declared.kind.Kind.{Kind}
use Rattle.py_base.specs.declared.kind.Kind.TheVariants.{Str, Dict, Function, Instance}
use Rattle.py_data.specs.declared.value.Addr.{Addr}
use Rattle.py_data.specs.declared.value.Value.{Value}
use Rattle.py_data.specs.declared.value.Value.TheVariants.{Unset, Ref}
use Rattle.py_data.specs.declared.record.Got.{Got}
use Rattle.py_data.specs.declared.record.Got.TheVariants.{Is, Raise}
use Rattle.py_data.specs.declared.record.TheConstants.{LENGTH_LIMIT}
use Rattle.py_data.specs.Fault.{argument_fault, depth_fault, memory_fault}
use Rattle.py_data.specs.Heap.{new_rec}
use Rattle.py_data.specs.Looking.{look_row, kind_row}
use Rattle.py_data.specs.Row.{Row, Ret, bind}
use Rattle.py_code.specs.declared.program.Program.{Program}
use Rattle.obj_class.specs.AttrRows.{inherited_row}
use Rattle.obj_class.specs.Bases.{ref, is_sub_row}
use Rattle.obj_class.specs.Exceptions.{made_row, args_row}
use Rattle.obj_class.specs.Roots.{class_place}
use Rattle.py_frames.specs.declared.state.Frame.{Frame}
use Rattle.py_frames.specs.declared.next.Next.{Next}
use Rattle.py_frames.specs.declared.next.Next.TheVariants.{Enters}
use Rattle.py_frames.specs.Binding.{Given, with_first, bound_row}
use Rattle.py_frames.specs.GlobalRows.{text_number}
use Rattle.py_frames.specs.Raising.{place_in, raise_row, give, call_fault}

-- where a call happens: the program and its roots, the Thread record of the thread, and how many frames it has
pub record Site : Type 0 where
  pub program : Program
  pub roots : ℕ
  pub thread : Option Addr
  pub depth : ℕ

-- at most so many frames stand in one another
abbrev pub MOST_FRAMES : ℕ
MOST_FRAMES = 1_000

-- the frame is entered, where there is room for one more
unfoldable pub entered_row : {S : Type 0} → Site → Got Frame → Row S Next
entered_row s (Is f) = cond (ltb s.depth MOST_FRAMES) (Ret (Enters f)) (raise_row s.roots depth_fault)
entered_row s (Raise e) = raise_row s.roots e

-- ---- what the class says

-- the `__init__` of a class; a program that doesn't name it has none
unfoldable pub init_by : {S : Type 0} → ℕ → ℕ → Option ℕ → Row S (Option Value)
init_by roots c (Some n) = bind (look_row roots n) (λ key. inherited_row key (ref c))
init_by roots c None = Ret None

unfoldable pub init_row : {S : Type 0} → Site → ℕ → Row S (Option Value)
init_row s c = init_by s.roots c (text_number s.program (codes "__init__"))

-- whether a class is an exception class
unfoldable pub exception_class_row : {S : Type 0} → ℕ → ℕ → Row S Bool
exception_class_row roots c = bind (look_row roots (class_place (class_number (codes "BaseException"))))
    (λ b. is_sub_row c (place_in b))

-- ---- the instance

unfoldable pub plain_instance : {S : Type 0} → ℕ → Row S Value
plain_instance c = bind (made_row (new_rec Dict [] [])) (λ d. made_row (new_rec Instance (ref c ∷ d ∷ []) []))

-- an exception has the arguments as its attribute `args`
unfoldable pub args_instance : {S : Type 0} → ℕ → List Value → Row S Value
args_instance c args = bind (made_row (new_rec Str [] (codes "args"))) (λ key. args_row (ref c) key args)

unfoldable pub instance_of : {S : Type 0} → ℕ → List Value → Bool → Row S Value
instance_of c args true = args_instance c args
instance_of c args false = plain_instance c

unfoldable pub new_instance : {S : Type 0} → ℕ → List Value → Bool → Row S (Got Value)
new_instance c args exception = cond (leb (length args) LENGTH_LIMIT)
    (bind (instance_of c args exception) (λ x. Ret (Is x))) (Ret (Raise memory_fault))

-- ---- without an `__init__` only an exception class takes arguments

abbrev pub none_given : {A : Type 0} → List A → Bool
none_given [] = true
none_given _ = false

abbrev pub takes : Bool → Given → Bool
takes true g = none_given g.names
takes false g = none_given g.args && none_given g.names

unfoldable pub given_instance : {S : Type 0} → Site → ℕ → Given → Bool → Row S Next
given_instance s c g exception = bind (new_instance c g.args exception) (λ x. give s.roots x)

unfoldable pub bare_call : {S : Type 0} → Site → ℕ → Given → Bool → Row S Next
bare_call s c g exception = cond (takes exception g) (given_instance s c g exception) (raise_row s.roots argument_fault)

-- ---- with one, its frame is entered once the instance is made, which is its first argument

abbrev pub made_by : Frame → Value → Frame
made_by f x = record f { slots = slice_set f.slots 0 x; made = x }

unfoldable pub with_instance : {S : Type 0} → Site → Frame → Got Value → Row S Next
with_instance s f (Is x) = Ret (Enters (made_by f x))
with_instance s f (Raise e) = raise_row s.roots e

unfoldable pub making_row : {S : Type 0} → Site → ℕ → Given → Bool → Frame → Row S Next
making_row s c g exception f = bind (new_instance c g.args exception) (λ x. with_instance s f x)

unfoldable pub init_entered : {S : Type 0} → Site → ℕ → Given → Bool → Got Frame → Row S Next
init_entered s c g exception (Is f) = cond (ltb s.depth MOST_FRAMES) (making_row s c g exception f)
    (raise_row s.roots depth_fault)
init_entered s c g exception (Raise e) = raise_row s.roots e

-- the arguments are bound before the instance is made, with nothing yet in its place
unfoldable pub function_init : {S : Type 0} → Site → ℕ → Given → Bool → ℕ → Row S Next
function_init s c g exception f = bind (bound_row s.program (with_first Unset g) f)
    (λ x. init_entered s c g exception x)

unfoldable pub record_init : {S : Type 0} → Site → ℕ → Given → Bool → ℕ → Kind → Row S Next
record_init s c g exception f Function = function_init s c g exception f
record_init s c g exception f _ = raise_row s.roots call_fault

-- an `__init__` that is no function can't be called
unfoldable pub value_init : {S : Type 0} → Site → ℕ → Given → Bool → Value → Row S Next
value_init s c g exception (Ref f) = bind (kind_row f.0) (λ k. record_init s c g exception f.0 k)
value_init s c g exception _ = raise_row s.roots call_fault

unfoldable pub init_or_bare : {S : Type 0} → Site → ℕ → Given → Option Value → Bool → Row S Next
init_or_bare s c g (Some x) exception = value_init s c g exception x
init_or_bare s c g None exception = bare_call s c g exception

unfoldable pub known_class : {S : Type 0} → Site → ℕ → Given → Option Value → Row S Next
known_class s c g init = bind (exception_class_row s.roots c) (λ b. init_or_bare s c g init b)

-- the call of the class at an address
unfoldable pub class_call : {S : Type 0} → Site → Given → ℕ → Row S Next
class_call s g c = bind (init_row s c) (λ o. known_class s c g o)
