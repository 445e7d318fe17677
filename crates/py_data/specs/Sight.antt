-- What a row means by itself: over a heap and a world, with the bookkeeping of what it looks at, changes, makes and
-- starts.
-- States `docs/HEAP.md`, "Rows".
use Rattle.std.specs.Prelude.{◌≡◌, ℕ, Bool, true, false, ◌||◌, ◌&&◌, eqb, List, [], ◌∷◌, ◌++◌, Some, None}
use Rattle.py_data.specs.declared.change.Change.{Change}
use Rattle.py_data.specs.Changes.{after, Allows}
use Rattle.py_data.specs.Heap.{Heap, Marks, Rec, put_at, is_tracked}
use Rattle.py_data.specs.Shape.{Fits, find}
use Rattle.py_data.specs.World.{World, wrote, IsLine, took}
use Rattle.py_data.specs.Row.{Call, Reply, Row, Read, Find, Edit, Make, Start, Put, Take, MidLine, SetMidLine}
use Rattle.py_data.specs.Sense.{Sense, Run}

-- what one thread sees, and what it has done
pub record Sight (S : Type 0) : Type 0 where
  pub heap : Heap
  pub looked : Marks  -- the tracked records that were looked at or changed
  pub touched : Marks  -- the records that were changed or made
  pub made : List ℕ
  pub started : List S
  pub world : World
  pub used : Bool  -- the world was asked or changed

-- one address more
abbrev pub with_mark : ℕ → Marks → Marks
with_mark a m = λ b. eqb b a || m b

-- after a look at a record: a tracked one is marked
abbrev pub looked_at : {S : Type 0} → ℕ → Rec → Sight S → Sight S
looked_at a r s = record s { looked = λ b. (eqb b a && is_tracked r.kind) || s.looked b }

-- after a change of a record: it counts as a look too
abbrev pub edited : {S : Type 0} → ℕ → Rec → Sight S → Sight S
edited a r s = record s { heap = put_at s.heap a r; looked = with_mark a s.looked; touched = with_mark a s.touched }

-- after a record was made: its name is the last of those given
abbrev pub made_new : {S : Type 0} → ℕ → Rec → Sight S → Sight S
made_new n r s = record s { heap = put_at s.heap n r; touched = with_mark n s.touched; made = s.made ++ n ∷ [] }

-- after a thread was started
abbrev pub started_one : {S : Type 0} → S → Sight S → Sight S
started_one p s = record s { started = s.started ++ p ∷ [] }

-- after a call that asks or changes the world
abbrev pub in_world : {S : Type 0} → World → Sight S → Sight S
in_world w s = record s { world = w; used = true }

-- a change of a record that allows it
abbrev pub Edited : {S : Type 0} → ℕ → Change → Sight S → Sight S → Type 0
Edited a c s t = (r : Rec) × (s.heap a ≡ Some r) × Allows c r × (t ≡ edited a (after c r) s)

-- what each call answers and leaves: the meaning of a row, call by call
abbrev pub Act : {S : Type 0} (c : Call S) → Sight S → Reply c → Sight S → Type 0
Act (Read a) s r t = (s.heap a ≡ Some r) × (t ≡ looked_at a r s)
Act (Find d key) s o t = (r : Rec) × (s.heap d ≡ Some r) × Fits s.heap r key × (o ≡ find s.heap r.values key) ×
    (t ≡ looked_at d r s)
Act (Edit a c) s u t = Edited a c s t
Act (Make r) s n t = (s.heap n ≡ None) × (t ≡ made_new n r s)
Act (Start p) s u t = t ≡ started_one p s
Act (Put on bytes) s u t = t ≡ in_world (wrote on bytes s.world) s
Act (Take most) s l t = IsLine s.world.input most l × (t ≡ in_world (took l s.world) s)
Act MidLine s mid t = (mid ≡ s.world.mid) × (t ≡ in_world s.world s)
Act (SetMidLine mid) s u t = t ≡ in_world (record s.world { mid = mid }) s

-- a sight as a view, which refuses nothing
abbrev pub pure : {S : Type 0} → Sense S (Sight S)
pure = record {
  heap = λ s. s.heap;
  partial = false;
  stopped = λ s. None;
  can_stop = λ e. false;
  does = Act;
  refuses =
      λ c s e t. ⊥;
  seen = λ a s. ⊥;
}

-- from s the row leaves t and answers y
abbrev pub Does : {S A : Type 0} → Row S A → Sight S → A → Sight S → Type 0
Does {S} row s y t = Run {S = S} pure row s y t

-- no address
abbrev pub no_marks : Marks
no_marks b = false

-- an address is in a list
abbrev pub mem : ℕ → List ℕ → Bool
mem a [] = false
mem a (x ∷ xs) = eqb a x || mem a xs

-- the sight with which a step begins
abbrev pub opened : (S : Type 0) → Heap → World → Sight S
opened S h w = record {
  heap = h;
  looked = no_marks;
  touched = no_marks;
  made = [];
  started = [];
  world = w;
  used =
      false;
}
