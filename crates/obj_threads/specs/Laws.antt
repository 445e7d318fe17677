-- What locks and threads are for, in the words in which `src/laws.rt` ensures it. States `docs/LANGUAGE.md`, "Locks and
-- threads".
use Rattle.std.specs.Prelude.{◌≡◌, ◌≢◌, ◌⊎◌, ℕ, ℤ, Bool, true, false, codes, List, [], ◌∷◌, Option, Some}
use Rattle.py_base.specs.declared.kind.Kind.TheVariants.{Lock, Thread}
use Rattle.py_base.specs.Numbers.{builtin_number}
use Rattle.py_data.specs.declared.value.Value.{Value}
use Rattle.py_data.specs.declared.value.Value.TheVariants.{None as NoneValue, Bool as BoolValue, Int}
use Rattle.py_data.specs.declared.record.Got.{Got}
use Rattle.py_data.specs.declared.record.Got.TheVariants.{Is, Raise}
use Rattle.py_data.specs.Heap.{Heap, Rec, value_at}
use Rattle.py_data.specs.Sense.{Sense, Run}
use Rattle.obj_class.specs.Bases.{ref}
use Rattle.obj_threads.specs.declared.answer.Answer.{Answer}
use Rattle.obj_threads.specs.declared.answer.Answer.TheVariants.{Waits}
use Rattle.obj_threads.specs.Arguments.{answered}
use Rattle.obj_threads.specs.Locks.{lock_row, unlocked_fault}
use Rattle.obj_threads.specs.Threads.{thread_row, is_me, joined, started_fault, unstarted_fault, current_fault}

-- a lock stands there, and is held or isn't
pub record IsLock (h : Heap) (a : ℕ) (held : Bool) : Type 0 where
  pub lock : Rec
  pub here : h a ≡ Some lock
  pub kind : lock.kind ≡ Lock
  pub values : lock.values ≡ BoolValue held ∷ []

-- the lock is held now, or isn't, and each other record is as it was
pub record LockIsNow (h h1 : Heap) (a : ℕ) (held : Bool) : Type 0 where
  pub lock : IsLock h1 a held
  pub others : (b : ℕ) → b ≢ a → h1 b ≡ h b

-- a call of a method of locks was answered
abbrev pub LockDone : {S X : Type 0} → Sense S X → List ℕ → ℕ → List Value → X → Got Answer → X → Type 0
LockDone u name a args v y w = Run u (lock_row (builtin_number name) (ref a) args []) v y w

-- over each view
pub record LockLaw {S X : Type 0} (u : Sense S X) : Type 0 where
  -- who acquires a free lock holds it, whether he would have waited or not
  pub acquire_free : (a : ℕ) (x : Value) (v w : X) (y : Got Answer) → IsLock (u.heap v) a false →
      LockDone u (codes "lock.acquire") a [] v y w ⊎ LockDone u (codes "lock.acquire") a (x ∷ []) v y w
      → (y ≡ answered (BoolValue true)) × LockIsNow (u.heap v) (u.heap w) a true
  -- a held one is waited for, or False is the answer, and all is as it was
  pub acquire_held : (a : ℕ) (v w : X) (y : Got Answer) → IsLock (u.heap v) a true →
      LockDone u (codes "lock.acquire") a [] v y w → (y ≡ Is Waits) × (u.heap w ≡ u.heap v)
  pub acquire_asked : (a : ℕ) (x : Value) (v w : X) (y : Got Answer) → IsLock (u.heap v) a true →
      LockDone u (codes "lock.acquire") a (x ∷ []) v y w
      → (y ≡ Is Waits ⊎ y ≡ answered (BoolValue false)) × (u.heap w ≡ u.heap v)
  pub acquire_unwilling : (a : ℕ) (v w : X) (y : Got Answer) → IsLock (u.heap v) a true →
      LockDone u (codes "lock.acquire") a (BoolValue false ∷ []) v y w → y ≡ answered (BoolValue false)
  -- a held lock is free once it is released, by whichever thread; a free one can't be released
  pub release_held : (a : ℕ) (v w : X) (y : Got Answer) → IsLock (u.heap v) a true →
      LockDone u (codes "lock.release") a [] v y w
      → (y ≡ answered NoneValue) × LockIsNow (u.heap v) (u.heap w) a false
  pub release_free : (a : ℕ) (v w : X) (y : Got Answer) → IsLock (u.heap v) a false →
      LockDone u (codes "lock.release") a [] v y w → (y ≡ Raise unlocked_fault) × (u.heap w ≡ u.heap v)
  -- `locked` says whether it is held
  pub locked : (a : ℕ) (held : Bool) (v w : X) (y : Got Answer) → IsLock (u.heap v) a held →
      LockDone u (codes "lock.locked") a [] v y w → (y ≡ answered (BoolValue held)) × (u.heap w ≡ u.heap v)

-- a thread stands there, with what it has as its number, and it has ended or hasn't
pub record IsThread (h : Heap) (a : ℕ) (number : Value) (ended : Bool) : Type 0 where
  pub thread : Rec
  pub here : h a ≡ Some thread
  pub kind : thread.kind ≡ Thread
  pub numbered : value_at thread.values 2 ≡ number
  pub over : value_at thread.values 3 ≡ BoolValue ended

-- a call of a method of threads was answered
abbrev pub ThreadDone : {S X : Type 0} → Sense S X → List ℕ → ℕ → Option ℕ → ℕ → X → Got Answer → X → Type 0
ThreadDone u name roots me a v y w = Run u (thread_row roots me (builtin_number name) (ref a) [] []) v y w

-- over each view; in all these cases the heap is as it was
pub record ThreadLaw {S X : Type 0} (u : Sense S X) : Type 0 where
  -- a thread that has a number was started, and isn't started again
  pub start_again : (roots : ℕ) (me : Option ℕ) (a : ℕ) (i : ℤ) (ended : Bool) (v w : X) (y : Got Answer) →
      IsThread (u.heap v) a (Int i) ended → ThreadDone u (codes "thread.start") roots me a v y w →
      (y ≡ Raise started_fault) × (u.heap w ≡ u.heap v)
  -- one that has none can't be waited for, and neither can the calling one
  pub join_fresh : (roots : ℕ) (me : Option ℕ) (a : ℕ) (ended : Bool) (v w : X) (y : Got Answer) →
      IsThread (u.heap v) a NoneValue ended → ThreadDone u (codes "thread.join") roots me a v y w →
      (y ≡ Raise unstarted_fault) × (u.heap w ≡ u.heap v)
  pub join_own : (roots : ℕ) (me : Option ℕ) (a : ℕ) (i : ℤ) (ended : Bool) (v w : X) (y : Got Answer) →
      IsThread (u.heap v) a (Int i) ended → is_me me a ≡ true → ThreadDone u (codes "thread.join") roots me a v y w
      → (y ≡ Raise current_fault) × (u.heap w ≡ u.heap v)
  -- another one is waited for until it has ended
  pub join_other : (roots : ℕ) (me : Option ℕ) (a : ℕ) (i : ℤ) (ended : Bool) (v w : X) (y : Got Answer) →
      IsThread (u.heap v) a (Int i) ended → is_me me a ≡ false → ThreadDone u (codes "thread.join") roots me a v y w
      → (y ≡ joined ended) × (u.heap w ≡ u.heap v)
