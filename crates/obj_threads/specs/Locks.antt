-- The rows of locks, look by look. States `docs/LANGUAGE.md`, "Locks and threads".
use Rattle.std.specs.Prelude.{ℕ, ◌==◌, Bool, true, false, cond, codes, List, [], ◌∷◌, length, Option, Some, None}
use Rattle.py_base.specs.declared.kind.Kind.{Kind}
use Rattle.py_base.specs.declared.kind.Kind.TheVariants.{Lock}
use Rattle.py_base.specs.Numbers.{builtin_number}
use Rattle.py_data.specs.declared.change.Change.TheVariants.{Set}
use Rattle.py_data.specs.declared.value.Value.{Value}
use Rattle.py_data.specs.declared.value.Value.TheVariants.{None as NoneValue, Bool as BoolValue, Ref}
use Rattle.py_data.specs.declared.record.Fault.{Fault}
use Rattle.py_data.specs.declared.record.Got.{Got}
use Rattle.py_data.specs.declared.record.Got.TheVariants.{Is, Raise}
use Rattle.py_data.specs.Fault.{argument_fault, operand_fault}
use Rattle.py_data.specs.Heap.{new_rec}
use Rattle.py_data.specs.Looking.{kind_row, look_row}
use Rattle.py_data.specs.Row.{Row, Ret, Do, Edit, Make, bind}
use Rattle.obj_class.specs.Bases.{ref}
use Rattle.obj_nest.specs.Truth.{truth_row}
use Rattle.obj_threads.specs.declared.answer.Answer.{Answer}
use Rattle.obj_threads.specs.declared.answer.Answer.TheVariants.{Waits}
use Rattle.obj_threads.specs.Arguments.{answered, thread_fault, is_bare, is_set}

-- only a held lock can be released
abbrev pub unlocked_fault : Fault
unlocked_fault = thread_fault (codes "release unlocked lock")

-- ---- a new lock, which isn't held

unfoldable pub made_lock : {S : Type 0} → Row S (Got Answer)
made_lock = Do (Make (new_rec Lock (BoolValue false ∷ []) [])) (λ a. Ret (answered (ref a)))

unfoldable pub new_lock_row : {S : Type 0} → List Value → List Value → Row S (Got Answer)
new_lock_row args keys = cond (is_bare args keys) made_lock (Ret (Raise argument_fault))

-- ---- acquire

-- a held lock is waited for, or not
abbrev pub held_answer : Bool → Got Answer
held_answer true = Is Waits
held_answer false = answered (BoolValue false)

-- of a held lock, by the argument, which says whether to wait: without one the call waits
unfoldable pub held_row : {S : Type 0} → Option Value → Row S (Got Answer)
held_row None = Ret (Is Waits)
held_row (Some x) = bind (truth_row x) (λ b. Ret (held_answer b))

-- a free lock is held from now on
unfoldable pub hold_row : {S : Type 0} → ℕ → Row S (Got Answer)
hold_row a = Do (Edit a (Set 0 (BoolValue true))) (λ u. Ret (answered (BoolValue true)))

unfoldable pub acquire_by : {S : Type 0} → ℕ → Option Value → Bool → Row S (Got Answer)
acquire_by a x held = cond held (held_row x) (hold_row a)

unfoldable pub acquire_row : {S : Type 0} → ℕ → Option Value → Row S (Got Answer)
acquire_row a x = bind (look_row a 0) (λ held. acquire_by a x (is_set held))

-- with one argument at most
unfoldable pub acquire_with : {S : Type 0} → ℕ → List Value → Row S (Got Answer)
acquire_with a [] = acquire_row a None
acquire_with a (x ∷ []) = acquire_row a (Some x)
acquire_with a (x ∷ y ∷ zs) = Ret (Raise argument_fault)

-- ---- release and locked

unfoldable pub free_row : {S : Type 0} → ℕ → Row S (Got Answer)
free_row a = Do (Edit a (Set 0 (BoolValue false))) (λ u. Ret (answered NoneValue))

unfoldable pub release_by : {S : Type 0} → ℕ → Bool → Row S (Got Answer)
release_by a held = cond held (free_row a) (Ret (Raise unlocked_fault))

unfoldable pub release_row : {S : Type 0} → ℕ → Row S (Got Answer)
release_row a = bind (look_row a 0) (λ held. release_by a (is_set held))

unfoldable pub locked_row : {S : Type 0} → ℕ → Row S (Got Answer)
locked_row a = bind (look_row a 0) (λ held. Ret (answered (BoolValue (is_set held))))

-- ---- the method of a number

unfoldable pub bare_lock_row : {S : Type 0} → ℕ → ℕ → Row S (Got Answer)
bare_lock_row m a = cond (m == builtin_number (codes "lock.release")) (release_row a) (locked_row a)

unfoldable pub unasked_lock_row : {S : Type 0} → ℕ → ℕ → List Value → Row S (Got Answer)
unasked_lock_row m a args = cond (length args == 0) (bare_lock_row m a) (Ret (Raise argument_fault))

unfoldable pub lock_by : {S : Type 0} → ℕ → ℕ → List Value → Row S (Got Answer)
lock_by m a args = cond (m == builtin_number (codes "lock.acquire")) (acquire_with a args) (unasked_lock_row m a args)

-- no keyword may stand there
unfoldable pub lock_keyed : {S : Type 0} → ℕ → ℕ → List Value → List Value → Row S (Got Answer)
lock_keyed m a args keys = cond (length keys == 0) (lock_by m a args) (Ret (Raise argument_fault))

unfoldable pub lock_of : {S : Type 0} → ℕ → ℕ → List Value → List Value → Kind → Row S (Got Answer)
lock_of m a args keys Lock = lock_keyed m a args keys
lock_of m a args keys _ = Ret (Raise operand_fault)

unfoldable pub lock_at : {S : Type 0} → ℕ → ℕ → List Value → List Value → Row S (Got Answer)
lock_at m a args keys = bind (kind_row a) (λ k. lock_of m a args keys k)

-- The method of a number, of a value; TypeError, `unsupported operand`, where it is no lock.
unfoldable pub lock_row : {S : Type 0} → ℕ → Value → List Value → List Value → Row S (Got Answer)
lock_row m (Ref a) args keys = lock_at m a.0 args keys
lock_row m _ args keys = Ret (Raise operand_fault)
