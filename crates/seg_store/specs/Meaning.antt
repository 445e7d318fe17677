-- What a store means: a committed image, and what each segment has in hand. States `docs/HEAP.md`, "The store of
-- segments".
use Rattle.std.specs.Prelude.{ℕ, Bool, cond, ◌||◌, eqb, List, [], Option, Some, None}
use Rattle.py_data.specs.Heap.{Rec, Heap, Marks, no_records}
use Rattle.py_data.specs.Sight.{mem, no_marks}

-- What a segment has in hand. The rooms of Lists and Dicts are parts of the records.
pub record Part : Type 0 where
  pub changes : Heap  -- the records that it holds, which are those that it has locked or made, as it sees them
  pub changed : List ℕ  -- the records of the image that it has locked, in the order of the locks
  pub made : List ℕ  -- the records that it made, in order
  pub looked : Marks  -- what it looked at since its transaction began
  pub kept : Heap  -- its changes as its open step began with them
  pub kept_made : List ℕ  -- what it had made when its open step began

-- nothing in hand
abbrev pub no_part : Part
no_part = record { changes = no_records; changed = []; made = []; looked = no_marks; kept = no_records; kept_made = [] }

pub record Meaning : Type 0 where
  pub image : Heap
  pub part : ℕ → Part
  pub segments : ℕ  -- the numbers of segments are those below
  pub limit : ℕ  -- the most words that there can be

-- the first of two records, where there is one
abbrev pub over : Option Rec → Option Rec → Option Rec
over None y = y
over (Some r) y = Some r

-- a heap with changed records laid over it
abbrev pub overlay : Heap → Heap → Heap
overlay image changes = λ a. over (changes a) (image a)

-- what a segment sees: the image, with its own changes laid over it
abbrev pub sees : Meaning → ℕ → Heap
sees m k = overlay m.image (m.part k).changes

-- what it saw when its open step began
abbrev pub saw : Meaning → ℕ → Heap
saw m k = overlay m.image (m.part k).kept

-- a record is held by the segment that has locked or made it
abbrev pub holds : Part → ℕ → Bool
holds p a = mem a p.changed || mem a p.made

-- the same with another part for a segment
abbrev pub with_part : ℕ → Part → Meaning → Meaning
with_part k p m = record m { part = λ j. cond (eqb j k) p (m.part j) }
