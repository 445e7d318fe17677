-- Rows: what an object operation, an instruction or a step does, as a small program over the calls of a view. S is the
-- state of a thread that a row may start, A the answer.
-- States `docs/HEAP.md`, "Rows".
use Rattle.std.specs.Prelude.{ℕ, List, Bool, Option}
use Rattle.py_data.specs.declared.value.Value.{Value}
use Rattle.py_data.specs.declared.stop.Out.{Out}
use Rattle.py_data.specs.declared.change.Change.{Change}
use Rattle.py_data.specs.Heap.{Rec}

-- one call of a view
pub data Call (S : Type 0) : Type 0 where
  Read : ℕ → Call S  -- a look at a record: its kind, its values, its bytes
  Find : ℕ → Value → Call S  -- the pair of a dictionary with an equal key
  Edit : ℕ → Change → Call S  -- a change of the record at an address
  Make : Rec → Call S  -- a new record
  Start : S → Call S  -- a thread of this state starts
  Put : Out → List ℕ → Call S  -- bytes to an output
  Take : ℕ → Call S  -- the next line of the input, of at most so many bytes
  MidLine : Call S  -- is the output in the middle of a line?
  SetMidLine : Bool → Call S  -- from now on it is, or isn't

-- what it answers; of `Make` it is the address
abbrev pub Reply : {S : Type 0} → Call S → Type 0
Reply (Read a) = Rec
Reply (Find d key) = Option ℕ
Reply (Make r) = ℕ
Reply (Take most) = List ℕ
Reply MidLine = Bool
Reply (Edit a c) = Unit {0}
Reply (Start s) = Unit {0}
Reply (Put on bytes) = Unit {0}
Reply (SetMidLine mid) = Unit {0}

-- it answers, or does a call and goes on by what the call answered
pub data Row (S A : Type 0) : Type 0 where
  Ret : A → Row S A
  Do : (c : Call S) → (Reply c → Row S A) → Row S A

-- one row and then another, which depends on the answer of the first
unfoldable pub bind : {S A B : Type 0} → Row S A → (A → Row S B) → Row S B
bind (Ret a) f = f a
bind (Do c k) f = Do c (λ r. bind (k r) f)

-- rows in `do` blocks
infixl 1 ◌>>=◌
abbrev pub ◌>>=◌ : {S A B : Type 0} → Row S A → (A → Row S B) → Row S B
r >>= f = bind r f

-- a call as a row
abbrev pub call : {S : Type 0} (c : Call S) → Row S (Reply c)
call c = Do c (λ r. Ret r)
