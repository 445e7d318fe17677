-- What code and proofs say to each other: nothing public rests on it.
-- What the methods of a piece view that change a record share. States `docs/HEAP.md`, "The piece view".
use Rattle.std.specs.Prelude.{◌≡◌, ◌⊎◌, ℕ, ◌+◌, ◌≤◌, true, false, Some, Result, Ok, Err, length}
use Rattle.py_data.specs.declared.stop.Stop.{Stop}
use Rattle.py_data.specs.declared.stop.Stop.TheVariants.{NeedHeap, OutOfMemory}
use Rattle.py_data.specs.declared.change.Change.{Change}
use Rattle.py_data.specs.Changes.{Allows, Suits, Outgrows}
use Rattle.py_data.specs.Heap.{Rec}
use Rattle.py_data.specs.Sense.{IfThere}
use Rattle.stm_pieces.specs.PieceState.{PieceState, Changes, Lacks, growth, with_edit}

-- The record is loaned and locked, it may have the values more and has room for them, and where a part of the records
-- suits the change, they do.
pub record May (d : PieceState) (a : ℕ) (c : Change) : Type 0 where
  pub rec : Rec
  pub is : d.heap a ≡ Some rec
  pub locked : d.locked a ≡ true
  pub short : length rec.values + growth c ≤ d.most a
  pub roomy : Outgrows c rec → ⊥
  pub suits : Suits true d.heap c rec → Suits false d.heap c rec

-- what is asked of a change, if the record is loaned
abbrev pub AsksEdit : PieceState → ℕ → Change → Type 0
AsksEdit d a c = IfThere true (d.heap a) (λ r. Allows c r × Suits true d.heap c r)

-- a record that is there was changed, and that was noted
abbrev pub HasEdited : ℕ → Change → PieceState → PieceState → Type 0
HasEdited a c d e = (q : Rec) × (d.heap a ≡ Some q) × (e ≡ with_edit a c q d)

-- a change was made, or refused for want of the heap or of memory
abbrev pub EditAnswer : PieceState → PieceState → ℕ → Change → Result (Unit {0}) Stop → Type 0
EditAnswer d e a c (Ok u) = Changes a c d e
EditAnswer d e a c (Err s) = (e ≡ record d { stopped = Some s }) ×
    (((s ≡ NeedHeap) × Lacks d a c) ⊎ (s ≡ OutOfMemory))
