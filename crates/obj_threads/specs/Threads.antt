-- The rows of thread records, and of the call of a builtin of `thread` or `threading`. States `docs/LANGUAGE.md`,
-- "Locks and threads".
use Rattle.std.specs.Prelude.{ℕ, ◌==◌, Bool, true, false, ◌||◌, cond, codes, List, [], ◌∷◌, length, Option, Some, None}
use Rattle.py_base.specs.declared.kind.Kind.{Kind}
use Rattle.py_base.specs.declared.kind.Kind.TheVariants.{Tuple, Lock, Thread}
use Rattle.py_base.specs.Numbers.{builtin_number}
use Rattle.py_data.specs.declared.value.Addr.{Addr}
use Rattle.py_data.specs.declared.value.Value.{Value}
use Rattle.py_data.specs.declared.value.Value.TheVariants.{None as NoneValue, Bool as BoolValue, Ref}
use Rattle.py_data.specs.declared.record.Fault.{Fault}
use Rattle.py_data.specs.declared.record.Got.{Got}
use Rattle.py_data.specs.declared.record.Got.TheVariants.{Is, Raise}
use Rattle.py_data.specs.Fault.{argument_fault, operand_fault}
use Rattle.py_data.specs.Heap.{new_rec}
use Rattle.py_data.specs.Looking.{kind_row, look_row, got_row}
use Rattle.py_data.specs.Row.{Row, Ret, Do, Make, bind}
use Rattle.obj_class.specs.Bases.{ref}
use Rattle.obj_threads.specs.declared.answer.Answer.{Answer}
use Rattle.obj_threads.specs.declared.answer.Answer.TheVariants.{Waits}
use Rattle.obj_threads.specs.declared.keywords.Keywords.{Keywords}
use Rattle.obj_threads.specs.Arguments.{answered, runtime_fault, callable_fault, is_bare, is_set, is_none, is_method_of}
use Rattle.obj_threads.specs.Keywords.{keywords_row}
use Rattle.obj_threads.specs.Locks.{lock_row, new_lock_row}
use Rattle.obj_threads.specs.Starting.{tuple_row, begin_row, start_new_row}

-- ---- a new thread, which isn't started

unfoldable pub made_thread : {S : Type 0} → Value → Value → Row S (Got Answer)
made_thread f args = Do (Make (new_rec Thread (f ∷ args ∷ NoneValue ∷ BoolValue false ∷ []) []))
    (λ a. Ret (answered (ref a)))

unfoldable pub empty_row : {S : Type 0} → Row S Value
empty_row = Do (Make (new_rec Tuple [] [])) (λ a. Ret (ref a))

unfoldable pub thread_by : {S : Type 0} → Value → Option Addr → Row S (Got Answer)
thread_by f (Some t) = made_thread f (Ref t)
thread_by f None = Ret (Raise argument_fault)

-- without arguments a new tuple without items is made first
unfoldable pub thread_with : {S : Type 0} → Value → Option Value → Row S (Got Answer)
thread_with f None = bind empty_row (λ t. made_thread f t)
thread_with f (Some x) = bind (tuple_row x) (λ o. thread_by f o)

-- a target has to be given
unfoldable pub thread_of_target : {S : Type 0} → Option Value → Option Value → Row S (Got Answer)
thread_of_target args (Some f) = thread_with f args
thread_of_target args None = Ret (Raise argument_fault)

unfoldable pub thread_given : {S : Type 0} → Keywords → Row S (Got Answer)
thread_given k = thread_of_target k.args k.target

unfoldable pub thread_keyed : {S : Type 0} → List Value → Row S (Got Answer)
thread_keyed keys = bind (keywords_row keys) (got_row thread_given)

-- keywords alone
unfoldable pub new_thread_row : {S : Type 0} → List Value → List Value → Row S (Got Answer)
new_thread_row args keys = cond (length args == 0) (thread_keyed keys) (Ret (Raise argument_fault))

-- ---- start

abbrev pub started_fault : Fault
started_fault = runtime_fault (codes "thread already started")

unfoldable pub start_called : {S : Type 0} → ℕ → Addr → Value → Row S (Got Answer)
start_called roots a f = bind (look_row a.0 1) (λ args. begin_row roots f args (Some a))

unfoldable pub start_fresh : {S : Type 0} → ℕ → Addr → Row S (Got Answer)
start_fresh roots a = bind (look_row a.0 0) (λ f. start_called roots a f)

unfoldable pub start_by_number : {S : Type 0} → ℕ → Addr → Bool → Row S (Got Answer)
start_by_number roots a fresh = cond fresh (start_fresh roots a) (Ret (Raise started_fault))

-- a thread that has no number isn't started
unfoldable pub start_row : {S : Type 0} → ℕ → Addr → Row S (Got Answer)
start_row roots a = bind (look_row a.0 2) (λ n. start_by_number roots a (is_none n))

-- ---- join

abbrev pub unstarted_fault : Fault
unstarted_fault = runtime_fault (codes "thread not started")

abbrev pub current_fault : Fault
current_fault = runtime_fault (codes "cannot join current thread")

-- the calling thread, which may have no record, has this one
abbrev pub is_me : Option ℕ → ℕ → Bool
is_me None a = false
is_me (Some m) a = m == a

-- a thread that has not ended is waited for
abbrev pub joined : Bool → Got Answer
joined true = answered NoneValue
joined false = Is Waits

unfoldable pub join_other : {S : Type 0} → ℕ → Row S (Got Answer)
join_other a = bind (look_row a 3) (λ ended. Ret (joined (is_set ended)))

unfoldable pub join_started : {S : Type 0} → Option ℕ → ℕ → Row S (Got Answer)
join_started me a = cond (is_me me a) (Ret (Raise current_fault)) (join_other a)

unfoldable pub join_by_number : {S : Type 0} → Option ℕ → ℕ → Bool → Row S (Got Answer)
join_by_number me a fresh = cond fresh (Ret (Raise unstarted_fault)) (join_started me a)

unfoldable pub join_row : {S : Type 0} → Option ℕ → ℕ → Row S (Got Answer)
join_row me a = bind (look_row a 2) (λ n. join_by_number me a (is_none n))

-- ---- the method of a number

unfoldable pub bare_thread_row : {S : Type 0} → ℕ → Option ℕ → ℕ → Addr → Row S (Got Answer)
bare_thread_row roots me m a = cond (m == builtin_number (codes "thread.start")) (start_row roots a) (join_row me a.0)

unfoldable pub thread_bare : {S : Type 0} → ℕ → Option ℕ → ℕ → Addr → List Value → List Value → Row S (Got Answer)
thread_bare roots me m a args keys = cond (is_bare args keys) (bare_thread_row roots me m a)
    (Ret (Raise argument_fault))

unfoldable pub thread_of : {S : Type 0} → ℕ → Option ℕ → ℕ → Addr → List Value → List Value → Kind → Row S (Got Answer)
thread_of roots me m a args keys Thread = thread_bare roots me m a args keys
thread_of roots me m a args keys _ = Ret (Raise operand_fault)

unfoldable pub thread_at : {S : Type 0} → ℕ → Option ℕ → ℕ → Addr → List Value → List Value → Row S (Got Answer)
thread_at roots me m a args keys = bind (kind_row a.0) (λ k. thread_of roots me m a args keys k)

-- The method of a number, of a value; TypeError, `unsupported operand`, where it is no thread.
unfoldable pub thread_row : {S : Type 0} → ℕ → Option ℕ → ℕ → Value → List Value → List Value → Row S (Got Answer)
thread_row roots me m (Ref a) args keys = thread_at roots me m a args keys
thread_row roots me m _ args keys = Ret (Raise operand_fault)

-- ---- the builtin of a number

-- both modules have a function that makes a lock
abbrev pub makes_lock : ℕ → Bool
makes_lock b = (b == builtin_number (codes "thread.allocate_lock")) || (b == builtin_number (codes "threading.Lock"))

-- A function of a module. TypeError, `not callable`, for the modules and any other number.
unfoldable pub member_row : {S : Type 0} → ℕ → ℕ → List Value → List Value → Row S (Got Answer)
member_row roots b args keys =
    cond (b == builtin_number (codes "thread.start_new_thread")) (start_new_row roots args keys)
    (cond (makes_lock b) (new_lock_row args keys)
    (cond (b == builtin_number (codes "threading.Thread")) (new_thread_row args keys) (Ret (Raise callable_fault))))

-- The call of the builtin of number b by a thread whose record is at `me`, if it has one; `own` is the object of a
-- method.
unfoldable pub thread_call_row : {S : Type 0} → ℕ → Option ℕ → ℕ → Value → List Value → List Value → Row S (Got Answer)
thread_call_row roots me b own args keys =
    cond (is_method_of Lock b) (lock_row b own args keys)
    (cond (is_method_of Thread b) (thread_row roots me b own args keys) (member_row roots b args keys))
