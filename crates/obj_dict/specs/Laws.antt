-- What the operations on dictionaries answer and leave, in words of the place of a key and of the lists of keys and
-- values.
-- States `docs/LANGUAGE.md`, "Dictionaries".
use Rattle.std.specs.Prelude.{◌≡◌, ◌≢◌, ◌≤◌, ◌<◌, ◌+◌, ℕ, true, false, List, [], ◌∷◌, ◌++◌, length, remove, slice_get, slice_set, option_and_then, Option, Some, None}
use Rattle.py_data.specs.declared.value.Value.{Value}
use Rattle.py_data.specs.declared.record.Got.{Got}
use Rattle.py_data.specs.declared.record.Got.TheVariants.{Is, Raise}
use Rattle.py_data.specs.declared.record.TheConstants.{LENGTH_LIMIT}
use Rattle.py_data.specs.Heap.{Heap, Rec}
use Rattle.py_data.specs.Shape.{IsKey, find}
use Rattle.py_data.specs.Row.{Row}
use Rattle.py_data.specs.Fault.{hash_fault, key_fault, memory_fault}
use Rattle.py_data.specs.Sense.{Sense, Run}
use Rattle.obj_dict.specs.Dict.{get_row, set_row, del_row}
use Rattle.obj_dict.specs.Listing.{half}
use Rattle.obj_dict.specs.PairLaws.{ArePaired}

-- the dictionary at an address has these keys and these values now, pair by pair, and is else as it was but for its
-- room;
-- all other records are as they were
pub record Leaves (d : ℕ) (r : Rec) (keys values : List Value) (h h1 : Heap) : Type 0 where
  pub now : Rec
  pub is : h1 d ≡ Some now
  pub same : now ≡ record r { values = now.values; room = now.room }
  pub paired : ArePaired r.values → ArePaired now.values
  pub first : half false now.values ≡ keys
  pub second : half true now.values ≡ values
  pub others : (b : ℕ) → b ≢ d → h1 b ≡ h b

-- the value of the pair of a number
abbrev pub value_of : Rec → ℕ → Option Value
value_of r i = slice_get (half true r.values) i

module _ {S X : Type 0} (u : Sense S X) where
  -- a row raises this, and leaves all records as they were
  abbrev pub Raises : {A : Type 0} → Got A → Got A → X → X → Type 0
  Raises fault res v w = (res ≡ fault) × (u.heap w ≡ u.heap v)

  -- a value that can't be a key raises TypeError
  abbrev pub KeyLaw : {A : Type 0} → (ℕ → Value → Row S (Got A)) → Type 0
  KeyLaw {A} row = (d : ℕ) (key : Value) (v w : X) (res : Got A) → (IsKey (u.heap v) key → ⊥) →
      Run u (row d key) v res w → Raises (Raise hash_fault) res v w

  abbrev pub HashLaw : Type 0
  HashLaw = KeyLaw get_row × ((x : Value) → KeyLaw (λ d key. set_row d key x)) × KeyLaw del_row

  -- the value of the pair that has the key, or none where no pair has it; all records are as they were
  abbrev pub GetLaw : Type 0
  GetLaw =
      (d : ℕ) (key : Value) (r : Rec) (v w : X) (res : Got (Option Value)) → u.heap v d ≡ Some r → IsKey (u.heap v) key
      → Run u (get_row d key) v res w
      → (res ≡ Is (option_and_then (value_of r) (find (u.heap v) r.values key))) × (u.heap w ≡ u.heap v)

  -- a key that is there stays as it was, in its place, and the value of its pair alone is another
  abbrev pub SetLaw : Type 0
  SetLaw =
      (d : ℕ) (key x : Value) (r : Rec) (i : ℕ) (v w : X) (res : Got (Unit {0})) → u.heap v d ≡ Some r →
      IsKey (u.heap v) key → find (u.heap v) r.values key ≡ Some i
      → Run u (set_row d key x) v res w →
      (res ≡ Is tt) × Leaves d r (half false r.values) (slice_set (half true r.values) i x) (u.heap v) (u.heap w)

  -- a new key and its value come last
  abbrev pub NewLaw : Type 0
  NewLaw =
      (d : ℕ) (key x : Value) (r : Rec) (v w : X) (res : Got (Unit {0})) → u.heap v d ≡ Some r → IsKey (u.heap v) key →
      find (u.heap v) r.values key ≡ None
      → ArePaired r.values → length r.values + 1 < LENGTH_LIMIT → Run u (set_row d key x) v res w
      → (res ≡ Is tt) × Leaves d r (half false r.values ++ key ∷ []) (half true r.values ++ x ∷ []) (u.heap v)
      (u.heap w)

  -- and where there is no room for a pair more, MemoryError is raised
  abbrev pub FullLaw : Type 0
  FullLaw =
      (d : ℕ) (key x : Value) (r : Rec) (v w : X) (res : Got (Unit {0})) → u.heap v d ≡ Some r → IsKey (u.heap v) key →
      find (u.heap v) r.values key ≡ None
      → LENGTH_LIMIT ≤ length r.values + 1 → Run u (set_row d key x) v res w → Raises (Raise memory_fault) res v w

  -- the pair that has the key is gone, the others are left in their order, and its value is the answer
  abbrev pub DelLaw : Type 0
  DelLaw =
      (d : ℕ) (key : Value) (r : Rec) (i : ℕ) (v w : X) (res : Got Value) → u.heap v d ≡ Some r → IsKey (u.heap v) key
      → find (u.heap v) r.values key ≡ Some i
      → Run u (del_row d key) v res w
      → (x : Value) × (res ≡ Is x) × (value_of r i ≡ Some x) × Leaves d r (remove (half false r.values) i)
      (remove (half true r.values) i) (u.heap v) (u.heap w)

  -- a key that isn't there raises KeyError with the key
  abbrev pub LackLaw : Type 0
  LackLaw =
      (d : ℕ) (key : Value) (r : Rec) (v w : X) (res : Got Value) → u.heap v d ≡ Some r → IsKey (u.heap v) key →
      find (u.heap v) r.values key ≡ None
      → Run u (del_row d key) v res w → Raises (Raise (key_fault key)) res v w
