-- What code and proofs say to each other: nothing public rests on it.
-- A list of addresses with their records, and for each address a place in it. States `docs/HEAP.md`, "The store of
-- maps".
use Rattle.std.specs.Prelude.{◌≡◌, ℕ, cond, eqb, Option, Some, None}
use Rattle.py_data.specs.declared.change.Change.{Change}
use Rattle.py_data.specs.declared.undo.Undo.{Undo}
use Rattle.py_data.specs.Heap.{Rec, Heap}
use Rattle.py_data.specs.Undo.{IsUndo}

-- an address, and its record if it has one still
abbrev pub Slot : Type 0
Slot = ℕ × Option Rec

-- the record of an address, where the list has the address at its place
abbrev pub record_at : ℕ → Option Slot → Option Rec
record_at a None = None
record_at a (Some e) = cond (eqb e.0 a) e.1 None

abbrev pub found_at : ℕ → Option ℕ → (ℕ → Option Slot) → Option Rec
found_at a None l = None
found_at a (Some p) l = record_at a (l p)

-- the records of a list, by address
abbrev pub records_in : (ℕ → Option ℕ) → (ℕ → Option Slot) → Heap
records_in places l = λ a. found_at a (places a) l

-- each record of the list stands at its address's place
pub record IsPlaced (places : ℕ → Option ℕ) (l : ℕ → Option Slot) : Type 0 where
  pub each : (i a : ℕ) (r : Rec) → l i ≡ Some (a, Some r) → places a ≡ Some i

-- the record of a slot was changed, and u takes the change back
pub record IsSlotChanged (c : Change) (u : Undo) (o o1 : Option Rec) : Type 0 where
  pub old : Rec
  pub new : Rec
  pub is : o ≡ Some old
  pub undo : IsUndo c old u new
  pub put : o1 ≡ Some new
