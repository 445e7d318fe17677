-- Changes of records, one after another. States `docs/HEAP.md`, "Pieces".
use Rattle.std.specs.Prelude.{◌≡◌, ℕ, true, false, List, [], ◌∷◌, Some}
use Rattle.py_data.specs.declared.value.Addr.{Addr}
use Rattle.py_data.specs.declared.change.Change.{Change}
use Rattle.py_data.specs.Heap.{Heap, Rec, Marks, put_at}
use Rattle.py_data.specs.Changes.{after, Allows, Suits, Outgrows}

-- a change of the record at an address, over these records: it is there and locked, it allows the change, and it has
-- room for what that adds
pub record MayChange (locked : Marks) (g : Heap) (a : ℕ) (c : Change) (q : Rec) : Type 0 where
  pub is : g a ≡ Some q
  pub locked_is : locked a ≡ true
  pub allows : Allows c q
  pub suits : Suits false g c q
  pub roomy : Outgrows c q → ⊥

-- each change of the list may be made in its turn, and together they lead from the records g to g1
abbrev pub Replays : Marks → List (Addr × Change) → Heap → Heap → Type 0
Replays locked [] g g1 = g1 ≡ g
Replays locked (e ∷ es) g g1 =
    (q : Rec) × MayChange locked g e.0.0 e.1 q × Replays locked es (put_at g e.0.0 (after e.1 q)) g1
