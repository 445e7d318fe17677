-- The rows that lead to a thread's start: what it is to call, and whether there may be one more.
-- States `docs/LANGUAGE.md`, "Locks and threads".
use Rattle.std.specs.Prelude.{ℕ, pos, ◌==◌, Bool, true, false, cond, codes, List, [], ◌∷◌, length, Option, Some, None, int_lt}
use Rattle.py_base.specs.declared.kind.Kind.{Kind}
use Rattle.py_base.specs.declared.kind.Kind.TheVariants.{Tuple, Function, Method}
use Rattle.py_data.specs.declared.value.Addr.{Addr}
use Rattle.py_data.specs.declared.value.Value.{Value}
use Rattle.py_data.specs.declared.value.Value.TheVariants.{Unset, Int, Ref}
use Rattle.py_data.specs.declared.record.Fault.{Fault}
use Rattle.py_data.specs.declared.record.Got.{Got}
use Rattle.py_data.specs.declared.record.Got.TheVariants.{Is, Raise}
use Rattle.py_data.specs.Fault.{argument_fault}
use Rattle.py_data.specs.Heap.{Heap, value_at}
use Rattle.py_data.specs.Looking.{kind_row, look_row}
use Rattle.py_data.specs.Row.{Row, Ret, bind}
use Rattle.obj_class.specs.Attributes.{values_in}
use Rattle.obj_threads.specs.declared.answer.Answer.{Answer}
use Rattle.obj_threads.specs.declared.answer.Answer.TheVariants.{Start}
use Rattle.obj_threads.specs.Arguments.{thread_fault}

-- ---- how many threads there may be

-- the threads that a run has at most, the first one counted
abbrev pub most_threads : ℕ
most_threads = 1_024

abbrev pub full_fault : Fault
full_fault = thread_fault (codes "can't start new thread")

-- so many threads were started that there may be one more; what is no number counts as full
abbrev pub has_room : Value → Bool
has_room (Int i) = int_lt i (pos most_threads)
has_room _ = false

-- the first value of the record that a value is the address of
abbrev pub first_in : Heap → Value → Value
first_in h (Ref c) = value_at (values_in (h c.0)) 0
first_in h _ = Unset

-- what the Cell of the count of threads holds, which is the first of the roots
abbrev pub thread_count : Heap → ℕ → Value
thread_count h roots = first_in h (value_at (values_in (h roots)) 0)

unfoldable pub cell_row : {S : Type 0} → Value → Row S Value
cell_row (Ref c) = look_row c.0 0
cell_row _ = Ret Unset

unfoldable pub count_row : {S : Type 0} → ℕ → Row S Value
count_row roots = bind (look_row roots 0) (λ cell. cell_row cell)

-- ---- what a thread calls

-- the address of a tuple
abbrev pub tuple_by : Addr → Kind → Option Addr
tuple_by a Tuple = Some a
tuple_by a _ = None

unfoldable pub tuple_row : {S : Type 0} → Value → Row S (Option Addr)
tuple_row (Ref a) = bind (kind_row a.0) (λ k. Ret (tuple_by a k))
tuple_row _ = Ret None

abbrev pub is_function : Kind → Bool
is_function Function = true
is_function _ = false

unfoldable pub function_row : {S : Type 0} → Value → Row S Bool
function_row (Ref a) = bind (kind_row a.0) (λ k. Ret (is_function k))
function_row _ = Ret false

unfoldable pub method_row : {S : Type 0} → ℕ → Row S Bool
method_row a = bind (look_row a 0) (λ f. function_row f)

unfoldable pub target_by : {S : Type 0} → ℕ → Kind → Row S Bool
target_by a Function = Ret true
target_by a Method = method_row a
target_by a _ = Ret false

unfoldable pub target_at : {S : Type 0} → ℕ → Row S Bool
target_at a = bind (kind_row a) (λ k. target_by a k)

-- a function, or a method of a function
unfoldable pub target_row : {S : Type 0} → Value → Row S Bool
target_row (Ref a) = target_at a.0
target_row _ = Ret false

-- ---- a start: the tuple is tested, then what is called, and then the count

abbrev pub start_answer : Value → Addr → Option Addr → Bool → Got Answer
start_answer f t thread true = Is (Start f t thread)
start_answer f t thread false = Raise full_fault

unfoldable pub answer_row : {S : Type 0} → Value → Addr → Option Addr → Bool → Row S (Got Answer)
answer_row f t thread room = Ret (start_answer f t thread room)

unfoldable pub room_row : {S : Type 0} → ℕ → Value → Addr → Option Addr → Row S (Got Answer)
room_row roots f t thread = bind (count_row roots) (λ n. answer_row f t thread (has_room n))

unfoldable pub start_by : {S : Type 0} → ℕ → Value → Addr → Option Addr → Bool → Row S (Got Answer)
start_by roots f t thread good = cond good (room_row roots f t thread) (Ret (Raise argument_fault))

unfoldable pub start_called : {S : Type 0} → ℕ → Value → Option Addr → Addr → Row S (Got Answer)
start_called roots f thread t = bind (target_row f) (λ good. start_by roots f t thread good)

unfoldable pub start_with : {S : Type 0} → ℕ → Value → Option Addr → Option Addr → Row S (Got Answer)
start_with roots f thread (Some t) = start_called roots f thread t
start_with roots f thread None = Ret (Raise argument_fault)

-- a value is called with arguments in a new thread, which may have a Thread record
unfoldable pub begin_row : {S : Type 0} → ℕ → Value → Value → Option Addr → Row S (Got Answer)
begin_row roots f args thread = bind (tuple_row args) (λ o. start_with roots f thread o)

-- ---- start_new_thread

-- two arguments
unfoldable pub start_new_with : {S : Type 0} → ℕ → List Value → Row S (Got Answer)
start_new_with roots [] = Ret (Raise argument_fault)
start_new_with roots (x ∷ []) = Ret (Raise argument_fault)
start_new_with roots (f ∷ args ∷ []) = begin_row roots f args None
start_new_with roots (x ∷ y ∷ z ∷ zs) = Ret (Raise argument_fault)

unfoldable pub start_new_row : {S : Type 0} → ℕ → List Value → List Value → Row S (Got Answer)
start_new_row roots args keys = cond (length keys == 0) (start_new_with roots args) (Ret (Raise argument_fault))
