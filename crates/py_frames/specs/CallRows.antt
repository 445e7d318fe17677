-- The rows of calls, of functions and of what starts a thread. States `docs/LANGUAGE.md`, "Calls and frames" and
-- "Threads".
use Rattle.std.specs.Prelude.{ℕ, pos, ◌+◌, ◌<◌, cond, leb, ltb, ◌&&◌, List, [], ◌∷◌, length, get_or, Option, Some, None, option_map}
use Rattle.py_base.specs.declared.kind.Kind.{Kind}
use Rattle.py_base.specs.declared.kind.Kind.TheVariants.{Function, Class, Method}
use Rattle.py_data.specs.declared.change.Change.TheVariants as change
use Rattle.py_data.specs.declared.value.Addr.{Addr}
use Rattle.py_data.specs.declared.value.Value.{Value}
use Rattle.py_data.specs.declared.value.Value.TheVariants.{None as NoneValue, Int, Ref, Builtin}
use Rattle.py_data.specs.declared.record.Got.{Got}
use Rattle.py_data.specs.declared.record.Got.TheVariants.{Is, Raise}
use Rattle.py_data.specs.Heap.{value_at}
use Rattle.py_data.specs.Looking.{look_row, kind_row}
use Rattle.py_data.specs.Row.{Row, Ret, Do, Edit, Start, bind}
use Rattle.obj_threads.specs.declared.answer.Answer.{Answer}
use Rattle.obj_threads.specs.declared.answer.Answer.TheVariants.{Value as ValueAnswer, Waits as WaitsAnswer, Start as StartAnswer}
use Rattle.py_frames.specs.declared.state.Frame.{Frame}
use Rattle.py_frames.specs.declared.next.Next.{Next}
use Rattle.py_frames.specs.declared.next.Next.TheVariants.{Goes, Waits}
use Rattle.py_frames.specs.Binding.{Given, plainly, with_first, with_own, bound_row}
use Rattle.obj_builtins.specs.Calls.{call_row}
use Rattle.py_frames.specs.ClassCalls.{Site, entered_row, class_call}
use Rattle.py_frames.specs.Raising.{place_in, count_in, values_row, raise_row, call_fault}
use Rattle.py_frames.specs.State.{State}

-- ---- functions

-- the call of the Function at an address
unfoldable pub function_call : {S : Type 0} → Site → Given → ℕ → Row S Next
function_call s g f = bind (bound_row s.program g f) (λ x. entered_row s x)

-- ---- threads that are started

-- a thread of this number, Thread record and frame
abbrev pub new_state : ℕ → ℕ → Option Addr → Frame → State
new_state n roots thread f = record {
  number = n;
  roots = Some (record { 0 = roots });
  thread = thread;
  frames =
      f ∷ [];
  dying = None;
}

-- The count of threads rises, and the thread starts. Its number is how many were started before it, the first one
-- counted.
unfoldable pub counted_row : ℕ → Option Addr → Frame → ℕ → ℕ → Value → Row State Next
counted_row roots thread f count n x = Do (Edit count (change.Set 0 (Int (pos (n + 1)))))
    (λ _. Do (Start (new_state n roots thread f)) (λ _. Ret (Goes (x ∷ []))))

-- the Thread record gets its number, and the answer is None; without one the answer is the number
unfoldable pub started_row : ℕ → Option Addr → Frame → ℕ → ℕ → Row State Next
started_row roots (Some t) f count n = Do (Edit t.0 (change.Set 2 (Int (pos n))))
    (λ _. counted_row roots (Some t) f count n NoneValue)
started_row roots None f count n = counted_row roots None f count n (Int (pos n))

unfoldable pub numbered_start : ℕ → Option Addr → Frame → ℕ → Row State Next
numbered_start roots thread f count = bind (look_row count 0) (λ v. started_row roots thread f count (count_in v))

unfoldable pub thread_row : ℕ → Option Addr → Got Frame → Row State Next
thread_row roots thread (Is f) = bind (look_row roots 0) (λ c. numbered_start roots thread f (place_in c))
thread_row roots thread (Raise e) = raise_row roots e

-- the arguments are bound as by a call of the target, a Function or a Method of one, before anything is changed
unfoldable pub function_start : Site → Option Addr → List Value → ℕ → Row State Next
function_start s thread args f = bind (bound_row s.program (plainly args) f) (λ g. thread_row s.roots thread g)

unfoldable pub owned_start : Site → Option Addr → List Value → ℕ → ℕ → Row State Next
owned_start s thread args a f = bind (look_row a 1) (λ own. function_start s thread (own ∷ args) f)

unfoldable pub target_start : Site → Option Addr → List Value → ℕ → Kind → Row State Next
target_start s thread args a Method = bind (look_row a 0) (λ f. owned_start s thread args a (place_in f))
target_start s thread args a _ = function_start s thread args a

unfoldable pub kind_start : Site → Option Addr → ℕ → List Value → Row State Next
kind_start s thread a args = bind (kind_row a) (λ k. target_start s thread args a k)

unfoldable pub start_row : Site → Option Addr → Value → ℕ → Row State Next
start_row s thread target args = bind (values_row args) (λ vs. kind_start s thread (place_in target) vs)

-- ---- builtins

unfoldable pub answered : Site → Got Answer → Row State Next
answered s (Is (ValueAnswer x)) = Ret (Goes (x ∷ []))
answered s (Is WaitsAnswer) = Ret Waits
answered s (Is (StartAnswer target args thread)) = start_row s thread target args.0
answered s (Raise e) = raise_row s.roots e

unfoldable pub keyed_call : Site → ℕ → Value → List Value → List Value → Row State Next
keyed_call s b own args keys = bind (call_row s.roots (option_map (λ a. a.0) s.thread) b own args keys)
    (λ g. answered s g)

-- beside the name of each keyword, a root, its value
abbrev pub key_pairs : List Value → List ℕ → List Value → List Value
key_pairs rs [] vs = []
key_pairs rs (n ∷ ns) vs = value_at rs n ∷ value_at vs 0 ∷ key_pairs rs ns (Rattle.std.specs.Prelude.drop 1 vs)

unfoldable pub keys_row : {S : Type 0} → ℕ → List ℕ → List Value → Row S (List Value)
keys_row roots [] vs = Ret []
keys_row roots (n ∷ ns) vs = bind (values_row roots) (λ rs. Ret (key_pairs rs (n ∷ ns) vs))

-- the call of a builtin, with its own object or Unset
unfoldable pub builtin_call : Site → Value → Given → ℕ → Row State Next
builtin_call s own g b = bind (keys_row s.roots g.names g.values) (λ keys. keyed_call s b own g.args keys)

-- ---- what is called

-- what a Method binds to its own object
unfoldable pub owned_call : Site → Value → Given → Value → Row State Next
owned_call s (Builtin b) g own = builtin_call s own g b
owned_call s f g own = function_call s (with_first own g) (place_in f)

unfoldable pub method_of : Site → ℕ → Given → Value → Row State Next
method_of s a g f = bind (look_row a 1) (λ own. owned_call s f g own)

unfoldable pub method_call : Site → Given → ℕ → Row State Next
method_call s g a = bind (look_row a 0) (λ f. method_of s a g f)

unfoldable pub record_call : Site → Given → ℕ → Kind → Row State Next
record_call s g a Function = function_call s g a
record_call s g a Method = method_call s g a
record_call s g a Class = class_call s g a
record_call s g a _ = raise_row s.roots call_fault

-- The call of a value, where an object may stand in front: it is a builtin's own object, and the first argument of all
-- else.
unfoldable pub value_call : Site → Value → Given → Value → Row State Next
value_call s own g (Ref a) = bind (kind_row a.0) (λ k. record_call s (with_own own g) a.0 k)
value_call s own g (Builtin b) = builtin_call s own g b
value_call s own g _ = raise_row s.roots call_fault
