-- What code and proofs say to each other: nothing public rests on it.
-- What always holds of the records that one segment of a store of maps holds. States `docs/HEAP.md`, "The store of
-- maps".
use Rattle.std.specs.Prelude.{◌≡◌, ℕ, ◌≤◌, Bool, true, false, ◌||◌, cond, List, [], ◌∷◌, length, take, Some, is_some}
use Rattle.py_data.specs.declared.change.Change.{Change}
use Rattle.py_data.specs.declared.record.TheConstants.{LENGTH_LIMIT}
use Rattle.py_base.specs.declared.kind.Kind.{Kind}
use Rattle.py_data.specs.declared.value.Addr.{Addr}
use Rattle.py_data.specs.declared.value.Value.{Value}
use Rattle.py_data.specs.Changes.{after}
use Rattle.py_data.specs.Collection.{places}
use Rattle.py_data.specs.Heap.{Rec, Heap, has_bytes}
use Rattle.py_data.specs.Sight.{mem}
use Rattle.seg_store.specs.Meaning.{Part}
use Rattle.seg_store.specs.Calls.{changed}

-- a list without elements
abbrev pub is_empty : {T : Type 0} → List T → Bool
is_empty [] = true
is_empty (x ∷ xs) = false

-- a record of a kind that has bytes has bytes alone, and one of another kind values alone
abbrev pub one_list : Kind → List Value → List ℕ → Bool
one_list k vs bs = cond (has_bytes k) (is_empty vs) (is_empty bs)

-- a record of the store: within the limit of length, with one list
pub record IsGood (r : Rec) : Type 0 where
  pub values : length r.values ≤ LENGTH_LIMIT
  pub bytes : length r.bytes ≤ LENGTH_LIMIT
  pub one : one_list r.kind r.values r.bytes ≡ true

-- Of the records h, which were b when the step began: those that stand now are the locked and the made ones, and those
-- that stood then the locked ones and the first so many made ones.
pub record IsHeld (h b : Heap) (changed made : List Addr) (kept : ℕ) : Type 0 where
  pub now : (a : ℕ) → is_some (h a) ≡ (mem a (places changed) || mem a (places made))
  pub before : (a : ℕ) → is_some (b a) ≡ (mem a (places changed) || mem a (places (take kept made)))
  pub front : kept ≤ length made
  pub good : (a : ℕ) (r : Rec) → h a ≡ Some r → IsGood r
  pub good_before : (a : ℕ) (r : Rec) → b a ≡ Some r → IsGood r

-- a record that a segment holds was changed
pub record Changes (a : ℕ) (c : Change) (p q : Part) : Type 0 where
  pub old : Rec
  pub is : p.changes a ≡ Some old
  pub made : q ≡ changed a (after c old) p
