-- What the methods of dictionaries answer and leave, in words of the place of a key. States `docs/LANGUAGE.md`,
-- "Methods of dictionaries".
use Rattle.std.specs.Prelude.{◌≡◌, ℕ, is_some, Option, Some, None, option_and_then, remove, true, false, unwrap_or}
use Rattle.py_data.specs.declared.record.Got.{Got}
use Rattle.py_data.specs.declared.record.Got.TheVariants.{Is, Raise}
use Rattle.py_data.specs.declared.value.Value.{Value}
use Rattle.py_data.specs.declared.value.Value.TheVariants.{None as NoneValue, Bool as BoolValue}
use Rattle.py_data.specs.Fault.{key_fault, hash_fault}
use Rattle.py_data.specs.Heap.{Heap, Rec}
use Rattle.py_data.specs.Row.{Row}
use Rattle.py_data.specs.Sense.{Sense, Run}
use Rattle.py_data.specs.Shape.{IsKey, find}
use Rattle.obj_dict.specs.Laws.{Leaves, Raises, value_of}
use Rattle.obj_dict.specs.Listing.{half}
use Rattle.obj_methods.specs.Dicts.{get_with, has_with, pop_with}

-- the value that a dictionary has for a key, if it has the key
abbrev pub held : Heap → Rec → Value → Option Value
held h r key = option_and_then (value_of r) (find h r.values key)

module _ {S X : Type 0} (u : Sense S X) where
  -- `get` answers the value of the key, else what is given, else None; all records are as they were
  abbrev pub GetLaw : Type 0
  GetLaw =
      (d : ℕ) (key : Value) (given : Option Value) (r : Rec) (v w : X) (res : Got Value) → u.heap v d ≡ Some r →
      IsKey (u.heap v) key → Run u (get_with d (Some (key, given))) v res w
      → (res ≡ Is (unwrap_or (held (u.heap v) r key) (unwrap_or given NoneValue))) × (u.heap w ≡ u.heap v)

  -- `has_key` answers whether there is one
  abbrev pub HasLaw : Type 0
  HasLaw =
      (d : ℕ) (key : Value) (r : Rec) (v w : X) (res : Got Value) → u.heap v d ≡ Some r → IsKey (u.heap v) key →
      Run u (has_with d (Some key)) v res w
      → (res ≡ Is (BoolValue (is_some (held (u.heap v) r key)))) × (u.heap w ≡ u.heap v)

  -- the pair that `pop` takes out is gone, the others are left in their order, and its value is the answer
  abbrev pub PopLaw : Type 0
  PopLaw =
      (d : ℕ) (key : Value) (given : Option Value) (r : Rec) (i : ℕ) (v w : X) (res : Got Value) → u.heap v d ≡ Some r
      → IsKey (u.heap v) key → find (u.heap v) r.values key ≡ Some i
      → Run u (pop_with d (Some (key, given))) v res w
      → (x : Value) × (res ≡ Is x) × (value_of r i ≡ Some x) × Leaves d r (remove (half false r.values) i)
      (remove (half true r.values) i) (u.heap v) (u.heap w)

  -- where the key isn't there, `pop` answers what is given, and without it raises KeyError with the key
  abbrev pub PopGivenLaw : Type 0
  PopGivenLaw =
      (d : ℕ) (key x : Value) (r : Rec) (v w : X) (res : Got Value) → u.heap v d ≡ Some r → IsKey (u.heap v) key →
      find (u.heap v) r.values key ≡ None
      → Run u (pop_with d (Some (key, Some x))) v res w → (res ≡ Is x) × (u.heap w ≡ u.heap v)

  abbrev pub PopLackLaw : Type 0
  PopLackLaw =
      (d : ℕ) (key : Value) (r : Rec) (v w : X) (res : Got Value) → u.heap v d ≡ Some r → IsKey (u.heap v) key →
      find (u.heap v) r.values key ≡ None
      → Run u (pop_with d (Some (key, None))) v res w → Raises u (Raise (key_fault key)) res v w

  -- what can't be a key raises TypeError, whatever the dictionary has and whatever is given; all records are as they
  -- were
  abbrev pub KeyLaw : (ℕ → Value → Row S (Got Value)) → Type 0
  KeyLaw row = (d : ℕ) (key : Value) (v w : X) (res : Got Value) → (IsKey (u.heap v) key → ⊥) →
      Run u (row d key) v res w → Raises u (Raise hash_fault) res v w

  abbrev pub HashLaw : Type 0
  HashLaw =
      ((given : Option Value) → KeyLaw (λ d key. get_with d (Some (key, given)))) × KeyLaw
      (λ d key. has_with d (Some key)) × ((given : Option Value) → KeyLaw (λ d key. pop_with d (Some (key, given))))
