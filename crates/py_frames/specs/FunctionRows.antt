-- The rows that make functions and classes, and that leave frames. States `docs/LANGUAGE.md`, "Instructions", "Calls
-- and frames" and "Sizes".
use Rattle.std.specs.Prelude.{ℕ, pos, zero, suc, cond, leb, ltb, true, ◌&&◌, List, [], ◌∷◌, length, Option, Some, None}
use Rattle.py_base.specs.declared.kind.Kind.{Kind}
use Rattle.py_base.specs.declared.kind.Kind.TheVariants.{Str, Tuple, Dict, Function, Class}
use Rattle.py_data.specs.declared.change.Change.TheVariants as change
use Rattle.py_data.specs.declared.value.Addr.{Addr}
use Rattle.py_data.specs.declared.value.Value.{Value}
use Rattle.py_data.specs.declared.value.Value.TheVariants.{Unset, None as NoneValue, Bool as BoolValue, Int, Ref}
use Rattle.py_data.specs.declared.record.TheConstants.{LENGTH_LIMIT}
use Rattle.py_data.specs.Fault.{depth_fault, memory_fault, operand_fault}
use Rattle.py_data.specs.Heap.{new_rec}
use Rattle.py_data.specs.Looking.{kind_row}
use Rattle.py_data.specs.Row.{Row, Ret, Do, Edit, bind}
use Rattle.obj_class.specs.Exceptions.{made_row}
use Rattle.py_frames.specs.declared.state.Frame.{Frame}
use Rattle.py_frames.specs.declared.next.Next.{Next}
use Rattle.py_frames.specs.declared.next.Next.TheVariants.{Goes, Enters, Leaves}
use Rattle.py_frames.specs.Binding.{entered, unset_slots}
use Rattle.py_frames.specs.ClassCalls.{Site, MOST_FRAMES}
use Rattle.py_frames.specs.Raising.{place_in, raise_row, fail_row, base_fault}
use Rattle.py_frames.specs.State.{code_at}

-- ---- MAKE_FUNCTION

unfoldable pub function_of : {S : Type 0} → ℕ → Value → Value → Row S Next
function_of n name defaults = bind (made_row (new_rec Function (name ∷ Int (pos n) ∷ defaults ∷ []) []))
    (λ f. Ret (Goes (f ∷ [])))

unfoldable pub named_function : {S : Type 0} → ℕ → List Value → Value → Row S Next
named_function n defaults name = bind (made_row (new_rec Tuple defaults [])) (λ d. function_of n name d)

unfoldable pub new_function : {S : Type 0} → List ℕ → ℕ → List Value → Row S Next
new_function name n defaults = bind (made_row (new_rec Str [] name)) (λ a. named_function n defaults a)

-- by the name of the code, its number, and the defaults
unfoldable pub make_function_row : {S : Type 0} → ℕ → List ℕ → ℕ → List Value → Row S Next
make_function_row roots name n defaults = cond (leb (length name) LENGTH_LIMIT && leb (length defaults) LENGTH_LIMIT)
    (new_function name n defaults) (raise_row roots memory_fault)

-- ---- CLASS_BODY

-- the frame of a class body: no slot has a value
abbrev pub body_frame : ℕ → ℕ → Value → Value → Frame
body_frame n slots base dict = record (entered n (unset_slots slots))
    { made = base; names = Some (record { 0 = place_in dict }) }

unfoldable pub new_body : {S : Type 0} → ℕ → ℕ → Value → Row S Next
new_body n slots base = bind (made_row (new_rec Dict [] [])) (λ d. Ret (Enters (body_frame n slots base d)))

unfoldable pub body_by : {S : Type 0} → Site → ℕ → Value → Kind → Row S Next
body_by s n base Class = cond (ltb s.depth MOST_FRAMES) (new_body n (length (code_at s.program n).slots) base)
    (raise_row s.roots depth_fault)
body_by s n base _ = raise_row s.roots base_fault

unfoldable pub class_body_row : {S : Type 0} → Site → ℕ → Value → Row S Next
class_body_row s n (Ref a) = bind (kind_row a.0) (λ k. body_by s n (Ref a) k)
class_body_row s n _ = raise_row s.roots base_fault

-- ---- RETURN

-- behind the last frame the Thread record is marked as ended
unfoldable pub ended_row : {S : Type 0} → Option Addr → Row S (Unit {0})
ended_row (Some t) = Do (Edit t.0 (change.Set 3 (BoolValue true))) (λ _. Ret tt)
ended_row None = Ret tt

-- a value, from a frame that stands on so many others
unfoldable pub leave_row : {S : Type 0} → Option Addr → ℕ → Value → Row S Next
leave_row thread zero x = bind (ended_row thread) (λ _. Ret (Leaves x))
leave_row thread (suc n) x = Ret (Leaves x)

-- the class of a body that has ended: its name, its base and its Dict
unfoldable pub class_of : {S : Type 0} → Value → Addr → Value → Row S Next
class_of base dict name = bind (made_row (new_rec Class (name ∷ base ∷ Ref dict ∷ []) [])) (λ c. Ret (Leaves c))

unfoldable pub new_class : {S : Type 0} → List ℕ → Value → Addr → Row S Next
new_class name base dict = bind (made_row (new_rec Str [] name)) (λ a. class_of base dict a)

-- the body's frame has gone by then
unfoldable pub class_row : {S : Type 0} → ℕ → List ℕ → Value → Addr → Row S Next
class_row roots name base dict = cond (leb (length name) LENGTH_LIMIT) (new_class name base dict)
    (fail_row roots memory_fault)

-- what an `__init__` returned must be None
unfoldable pub instance_row : {S : Type 0} → ℕ → Value → Value → Row S Next
instance_row roots x NoneValue = Ret (Leaves x)
instance_row roots x _ = raise_row roots operand_fault

-- of a function or the module, or of an `__init__`
unfoldable pub value_or_instance : {S : Type 0} → ℕ → Option Addr → ℕ → Value → Value → Row S Next
value_or_instance roots thread depth x Unset = leave_row thread depth x
value_or_instance roots thread depth x made = instance_row roots made x

unfoldable pub return_by : {S : Type 0} → ℕ → Option Addr → List ℕ → ℕ → Value → Value → Option Addr → Row S Next
return_by roots thread name depth x made (Some d) = class_row roots name made d
return_by roots thread name depth x made None = value_or_instance roots thread depth x made

-- by the name of the frame's code, and how many frames it stands on
abbrev pub return_row : {S : Type 0} → ℕ → Option Addr → List ℕ → ℕ → Frame → Value → Row S Next
return_row roots thread name depth f x = return_by roots thread name depth x f.made f.names
