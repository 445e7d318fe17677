-- A journal of the changes of a step, by which they are taken back. States `docs/HEAP.md`, "The plain view" and "The
-- store of maps".
use Rattle.std.specs.Prelude.{◌≡◌, ℕ, List, [], ◌∷◌, Option, Some, None, option_map, cond, eqb}
use Rattle.std.specs.Coded.{×_prop, Unit-prop, le_prop}
use Rattle.py_data.specs.declared.change.Change.{Change}
use Rattle.py_data.specs.declared.undo.Undo.{Undo}
use Rattle.py_data.specs.declared.undo.Undo.TheVariants.{Put, Shorten, Extend, Insert}
use Rattle.py_data.specs.Heap.{Rec, Heap, put_at}
use Rattle.py_data.specs.Undo.{before, CanTakeBack, IsUndo}

-- what stood at an address before: the record before its change, or none where it was made
abbrev pub restored : Option Undo → Option Rec → Option Rec
restored None o = None
restored (Some u) o = option_map (before u) o

-- the heap with an entry taken back
abbrev pub restore_at : Heap → ℕ → Option Undo → Heap
restore_at h a u = λ b. cond (eqb b a) (restored u (h b)) (h b)

-- the heap once the entries are taken back, the last of them first
abbrev pub taken_back : List (ℕ × Option Undo) → Heap → Heap
taken_back [] h = h
taken_back (e ∷ es) h = restore_at (taken_back es h) e.0 e.1

-- an entry can be taken back without memory: the record is there
abbrev pub CanRestore : Option Undo → Option Rec → Type 0
CanRestore u None = ⊥
CanRestore None (Some r) = Unit {0}
CanRestore (Some u) (Some r) = CanTakeBack u r

-- so can all entries, the last of them first
abbrev pub IsUndoable : List (ℕ × Option Undo) → Heap → Type 0
IsUndoable [] h = Unit {0}
IsUndoable (e ∷ es) h = IsUndoable es h × CanRestore e.1 (taken_back es h e.0)

take_back_prop : (u : Undo) (r : Rec) → IsProp (CanTakeBack u r)
take_back_prop (Put i x) r = le_prop
take_back_prop (Shorten n room) r = ×_prop le_prop le_prop
take_back_prop (Extend vs) r = ×_prop le_prop le_prop
take_back_prop (Insert k key x) r = ×_prop le_prop (×_prop le_prop le_prop)

restore_prop : (u : Option Undo) (o : Option Rec) → IsProp (CanRestore u o)
restore_prop u None = λ p q. absurd p
restore_prop None (Some r) = Unit-prop
restore_prop (Some u) (Some r) = take_back_prop u r

-- there is at most one proof of that
pub undoable_prop : (es : List (ℕ × Option Undo)) (h : Heap) → IsProp (IsUndoable es h)
undoable_prop [] h = Unit-prop
undoable_prop (e ∷ es) h = ×_prop (undoable_prop es h) (restore_prop e.1 (taken_back es h e.0))

-- the record at an address was changed, and u takes the change back
pub record IsChanged (a : ℕ) (c : Change) (u : Undo) (h h1 : Heap) : Type 0 where
  pub old : Rec
  pub new : Rec
  pub is : h a ≡ Some old
  pub undo : IsUndo c old u new
  pub put : h1 ≡ put_at h a new
