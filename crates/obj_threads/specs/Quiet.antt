-- Calls that wait, or that let a thread start, have done nothing but look; and no call of a builtin of this crate
-- touches the world or starts a thread itself. States `docs/LANGUAGE.md`, "Locks and threads", and `docs/HEAP.md`,
-- "Clients".
use Rattle.std.specs.Prelude.{◌≡◌, ◌⊎◌, ℕ, List, Option}
use Rattle.py_data.specs.declared.value.Value.{Value}
use Rattle.py_data.specs.declared.record.Got.{Got}
use Rattle.py_data.specs.declared.record.Got.TheVariants.{Is, Raise}
use Rattle.py_data.specs.Looking.{IsLook}
use Rattle.py_data.specs.Row.{Call, Reply, Row, Ret, Do, Read, Find, Edit, Make}
use Rattle.py_data.specs.Sight.{Sight, Does}
use Rattle.obj_threads.specs.declared.answer.Answer.{Answer}
use Rattle.obj_threads.specs.declared.answer.Answer.TheVariants.{Value as ValueAnswer, Waits, Start}
use Rattle.obj_threads.specs.Threads.{thread_call_row}

-- ---- looks alone

-- the call waits, or a thread is to be started
abbrev pub IsPending : Answer → Type 0
IsPending (ValueAnswer x) = ⊥
IsPending Waits = Unit {0}
IsPending (Start f t thread) = Unit {0}

abbrev pub IsGotPending : Got Answer → Type 0
IsGotPending (Is x) = IsPending x
IsGotPending (Raise e) = ⊥

-- no answer of the row is such a one
unfoldable pub Never : {S A : Type 0} → (A → Type 0) → Row S A → Type 0
Never p (Ret a) = p a → ⊥
Never p (Do c k) = (r : Reply c) → Never p (k r)

-- Such an answer comes only where nothing but looks came before it: the row looks, and then goes on so; or no answer
-- from here on is such a one.
unfoldable pub BehindLooks : {S A : Type 0} → (A → Type 0) → Row S A → Type 0
BehindLooks p (Ret a) = Unit {0}
BehindLooks p (Do c k) = (IsLook c × ((r : Reply c) → BehindLooks p (k r))) ⊎ ((r : Reply c) → Never p (k r))

-- heap, made records, started states and world are as they were; only looks may have been added
pub record IsUntouched {S : Type 0} (s t : Sight S) : Type 0 where
  pub heap : t.heap ≡ s.heap
  pub made : t.made ≡ s.made
  pub started : t.started ≡ s.started
  pub world : t.world ≡ s.world
  pub used : t.used ≡ s.used

-- a row that has given such an answer behind looks alone has changed nothing
abbrev pub PendingLaw : Type 0 → Type 0
PendingLaw S = (row : Row S (Got Answer)) (s t : Sight S) (y : Got Answer) → BehindLooks IsGotPending row →
    IsGotPending y → Does row s y t → IsUntouched s t

-- ---- the heap alone

-- a call that looks at a record, changes one or makes one
abbrev pub IsHeapCall : {S : Type 0} → Call S → Type 0
IsHeapCall (Read a) = Unit {0}
IsHeapCall (Find d key) = Unit {0}
IsHeapCall (Edit a c) = Unit {0}
IsHeapCall (Make r) = Unit {0}
IsHeapCall _ = ⊥

-- each call of the row is such a call
unfoldable pub OnlyCalls : {S A : Type 0} → (Call S → Type 0) → Row S A → Type 0
OnlyCalls f (Ret a) = Unit {0}
OnlyCalls f (Do c k) = f c × ((r : Reply c) → OnlyCalls f (k r))

-- no thread was started, and the world was neither asked nor changed
pub record IsInside {S : Type 0} (s t : Sight S) : Type 0 where
  pub started : t.started ≡ s.started
  pub world : t.world ≡ s.world
  pub used : t.used ≡ s.used

abbrev pub InsideLaw : Type 0 → Type 0
InsideLaw S = (row : Row S (Got Answer)) (s t : Sight S) (y : Got Answer) → OnlyCalls IsHeapCall row → Does row s y t →
    IsInside s t

-- ---- the calls of this crate

pub record ThreadsQuiet (S : Type 0) : Type 0 where
  pub pending : (roots : ℕ) (me : Option ℕ) (b : ℕ) (own : Value) (args keys : List Value) →
      BehindLooks {S = S} IsGotPending (thread_call_row roots me b own args keys)
  pub inside : (roots : ℕ) (me : Option ℕ) (b : ℕ) (own : Value) (args keys : List Value) →
      OnlyCalls {S = S} IsHeapCall (thread_call_row roots me b own args keys)
