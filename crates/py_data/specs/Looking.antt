-- Rows that only look, over one heap: each look has what it needs, and what the row answers has a property; and the
-- rows that loops have.
-- States `docs/HEAP.md`, "Rows that hold".
use Rattle.std.specs.Prelude.{◌≡◌, ℕ, zero, suc, ◌+◌, pos, Bool, false, cond, List, [], ◌∷◌, length, Result, Ok, Err, refl}
use Rattle.py_base.specs.declared.kind.Kind.{Kind}
use Rattle.py_base.specs.declared.kind.Kind.TheVariants.{Tuple}
use Rattle.py_data.specs.declared.value.Value.{Value}
use Rattle.py_data.specs.declared.value.Value.TheVariants.{Unset, Int}
use Rattle.py_data.specs.declared.record.Got.{Got}
use Rattle.py_data.specs.declared.record.Got.TheVariants.{Is, Raise}
use Rattle.py_data.specs.declared.record.Head.{Head}
use Rattle.py_data.specs.Heap.{Heap, Rec, new_rec, value_at}
use Rattle.py_data.specs.Row.{Call, Reply, Row, Ret, Do, Read, Find, bind}
use Rattle.py_data.specs.Sense.{Asks, Effect}

-- a call that looks at a record
abbrev pub IsLook : {S : Type 0} → Call S → Type 0
IsLook (Read a) = Unit {0}
IsLook (Find d key) = Unit {0}
IsLook _ = ⊥

-- the row looks and does nothing else, each look has what it needs, and the answer has the property
unfoldable pub Looks : {S A : Type 0} → (A → Type 0) → Row S A → Heap → Type 0
Looks p (Ret a) h = p a
Looks p (Do c k) h = IsLook c × Asks false c h × ((r : Reply c) → Effect false c h r h → Looks p (k r) h)

-- ---- looks at one record

-- its kind
unfoldable pub kind_row : {S : Type 0} → ℕ → Row S Kind
kind_row a = Do (Read a) (λ r. Ret r.kind)

-- how many values it has
unfoldable pub size_row : {S : Type 0} → ℕ → Row S ℕ
size_row a = Do (Read a) (λ r. Ret (length r.values))

-- its value at a place, and Unset where it has none there
unfoldable pub look_row : {S : Type 0} → ℕ → ℕ → Row S Value
look_row a i = Do (Read a) (λ r. Ret (value_at r.values i))

-- its kind, how many values it has, and the first three of them
abbrev pub head_of : Rec → Head
head_of r = record {
  kind = r.kind;
  count = length r.values;
  first = value_at r.values 0;
  second = value_at r.values 1;
  third = value_at r.values 2;
}

-- of a Tuple of two
two_at_once : head_of (new_rec Tuple (Int (pos 7) ∷ Int (pos 8) ∷ []) []) ≡
    record { kind = Tuple; count = 2; first = Int (pos 7); second = Int (pos 8); third = Unset }
two_at_once = refl

-- its bytes
unfoldable pub bytes_row : {S : Type 0} → ℕ → Row S (List ℕ)
bytes_row a = Do (Read a) (λ r. Ret r.bytes)

-- ---- loops

-- of m numbers from i on each in its turn, up to the first whose answer doesn't let go on; `end` where all do
unfoldable pub until_row : {S A : Type 0} → (ℕ → Row S A) → (A → Bool) → A → ℕ → ℕ → Row S A
until_row f goes end i zero = Ret end
until_row f goes end i (suc m) = bind (f i) (λ a. cond (goes a) (until_row f goes end (i + 1) m) (Ret a))

-- the answer so far goes on, and an exception ends it
abbrev pub got_row : {S A B : Type 0} → (A → Row S (Got B)) → Got A → Row S (Got B)
got_row f (Is a) = f a
got_row f (Raise e) = Ret (Raise e)

-- of m numbers from i on each in its turn makes of the answer so far the next one
unfoldable pub each_row : {S A : Type 0} → (ℕ → A → Row S (Got A)) → ℕ → ℕ → A → Row S (Got A)
each_row f i zero a = Ret (Is a)
each_row f i (suc m) a = bind (f i a) (got_row (each_row f (i + 1) m))

-- `Ok` goes on, `Err` is the answer
abbrev pub walk_on : {S A B : Type 0} → (A → Row S B) → Result A B → Row S B
walk_on g (Ok a) = g a
walk_on g (Err b) = Ret b

-- at most so many turns, each of which says where to go on, or ends it; `end` where no turn is left
unfoldable pub walk_row : {S A B : Type 0} → (A → Row S (Result A B)) → B → ℕ → A → Row S B
walk_row f end zero a = Ret end
walk_row f end (suc m) a = bind (f a) (walk_on (walk_row f end m))
