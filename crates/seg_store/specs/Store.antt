-- What a store needs for its calls, why it refuses them, and what always holds of it. States `docs/HEAP.md`, "The store
-- of segments".
use Rattle.std.specs.Prelude.{◌≡◌, ◌≢◌, ℕ, ◌+◌, ◌<◌, ◌≤◌, Bool, true, false, ◌||◌, List, [], ◌++◌, length, Option, Some, None, is_some, IfSome}
use Rattle.py_data.specs.declared.record.TheConstants.{LENGTH_LIMIT}
use Rattle.py_base.specs.declared.kind.Kind.{Kind}
use Rattle.py_data.specs.declared.value.Value.{Value}
use Rattle.py_data.specs.declared.change.Change.{Change}
use Rattle.py_data.specs.Changes.{Allows, Suits, Outgrows}
use Rattle.py_data.specs.Heap.{Rec, Heap, Has, has_bytes}
use Rattle.py_data.specs.Shape.{Fits}
use Rattle.py_data.specs.Sense.{IfThere}
use Rattle.py_data.specs.Sight.{mem}
use Rattle.seg_store.specs.declared.store.StoreFault.{StoreFault}
use Rattle.seg_store.specs.declared.store.StoreFault.TheVariants.{Full, OutOfMemory}
use Rattle.seg_store.specs.Meaning.{Meaning, holds}

-- ---- what a call needs of the record at an address, in a heap that a segment sees: as much as a view's call needs

-- the record is there and has this property
abbrev pub Where : Heap → ℕ → (Rec → Type 0) → Type 0
Where h a p = IfThere false (h a) p

-- it has this place
abbrev pub HasPlace : Heap → ℕ → ℕ → Type 0
HasPlace h a i = Where h a (λ r. i < length r.values)

-- it has so many bytes from a place on
abbrev pub HasBytes : Heap → ℕ → ℕ → ℕ → Type 0
HasBytes h a from n = Where h a (λ r. from + n ≤ length r.bytes)

-- it is a dictionary, and the value can be looked for among its keys
abbrev pub CanFind : Heap → ℕ → Value → Type 0
CanFind h d key = Where h d (λ r. Fits h r key)

-- it allows a change that leaves a dictionary one
abbrev pub CanChange : Heap → ℕ → Change → Type 0
CanChange h a c = Where h a (λ r. Allows c r × Suits false h c r)

-- it has no room for what a change adds
abbrev pub IsFull : Heap → ℕ → Change → Type 0
IsFull h a c = Where h a (Outgrows c)

-- ---- locks and names

-- no other segment holds the record
abbrev pub NoOther : Meaning → ℕ → ℕ → Type 0
NoOther m k a = (j : ℕ) → j ≢ k → holds (m.part j) a ≡ false

-- the segment that holds a record, if one does
abbrev pub IsHolder : Meaning → ℕ → Option ℕ → Type 0
IsHolder m a None = (j : ℕ) → holds (m.part j) a ≡ false
IsHolder m a (Some j) = (j < m.segments) × (holds (m.part j) a ≡ true)

-- no record stands at the address, and no segment holds it
pub record IsFree (m : Meaning) (n : ℕ) : Type 0 where
  pub image : m.image n ≡ None
  pub changes : (j : ℕ) → (m.part j).changes n ≡ None
  pub held : (j : ℕ) → holds (m.part j) n ≡ false

-- Why a call that may want words was refused: for want of memory; or the heap is full, where words were wanted and
-- `fills` says that so many, the second number, can't be had while the first is reserved.
abbrev pub Refuses : Type 0 → (ℕ → ℕ → Type 0) → ℕ → ℕ → StoreFault → Type 0
Refuses wants fills reserved limit OutOfMemory = Unit {0}
Refuses wants fills reserved limit (Full r n l) = wants × fills r n × (r ≡ reserved) × (l ≡ limit) × (l < r + n)

-- ---- what always holds

-- no values, or no bytes
abbrev pub NoneOf : Bool → List Value → List ℕ → Type 0
NoneOf true vs bs = vs ≡ []
NoneOf false vs bs = bs ≡ []

-- a record of a kind that has bytes has bytes alone, and one of another kind values alone
abbrev pub OneList : Kind → List Value → List ℕ → Type 0
OneList k vs bs = NoneOf (has_bytes k) vs bs

-- a record of a store
pub record IsStored (r : Rec) : Type 0 where
  pub values : length r.values ≤ LENGTH_LIMIT
  pub bytes : length r.bytes ≤ LENGTH_LIMIT
  pub one : OneList r.kind r.values r.bytes

-- the records of a heap
pub record AreStored (h : Heap) : Type 0 where
  pub each : (a : ℕ) (r : Rec) → h a ≡ Some r → IsStored r

pub record IsStore (reserved : ℕ) (m : Meaning) : Type 0 where
  pub some : 1 ≤ m.segments
  pub few : m.segments ≤ 8
  pub room : reserved ≤ m.limit
  pub changes : (j a : ℕ) → is_some ((m.part j).changes a) ≡ holds (m.part j) a
  pub kept : (j a : ℕ) → is_some ((m.part j).kept a) ≡ (mem a (m.part j).changed || mem a (m.part j).kept_made)
  pub front : (j : ℕ) → (more : List ℕ) × ((m.part j).made ≡ (m.part j).kept_made ++ more)
  pub locked : (j a : ℕ) → mem a (m.part j).changed ≡ true → Has m.image a
  pub unused : (j a : ℕ) → mem a (m.part j).made ≡ true → m.image a ≡ None
  pub apart : (i j a : ℕ) → i ≢ j → holds (m.part i) a ≡ true → holds (m.part j) a ≡ false
  pub stored : AreStored m.image
  pub stored_changes : (j : ℕ) → AreStored (m.part j).changes
  pub stored_kept : (j : ℕ) → AreStored (m.part j).kept

-- no record, and nothing in any segment's hand; where a store tells its extents, none of any class was in use
pub record IsEmpty (m : Meaning) (peaks : Option (ℕ → ℕ)) : Type 0 where
  pub image : (a : ℕ) → m.image a ≡ None
  pub changed : (j : ℕ) → (m.part j).changed ≡ []
  pub made : (j : ℕ) → (m.part j).made ≡ []
  pub none : IfSome peaks (λ f. (c : ℕ) → f c ≡ 0)
