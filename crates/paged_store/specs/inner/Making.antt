-- A record that is made, in extents of its own. What code and proofs say to each other: nothing public rests on it.
use Rattle.std.specs.Prelude.{◌≡◌, ℕ, ◌+◌, ◌*◌, ◌/◌, ◌<◌, ◌≤◌, List, [], ◌∷◌, ◌++◌, length, get_or}
use Rattle.py_data.specs.declared.record.Record.{Record}
use Rattle.py_data.specs.Heap.{length_by, value_at}
use Rattle.paged_store.specs.declared.extent.Extent.{Extent}
use Rattle.paged_store.specs.Words.{Words, size_of}
use Rattle.paged_store.specs.inner.Formed.{FitsValue}
use Rattle.paged_store.specs.inner.Written.{made_class, made_index, made_head}
use Rattle.paged_store.specs.inner.Writing.{Desk, with_words, filled_words}
use Rattle.paged_store.specs.inner.Claiming.{extent_for}
use Rattle.paged_store.specs.inner.Taking.{Takes}

-- the count of what a record is made with
abbrev pub made_length : Record → ℕ
made_length r = length_by r.kind r.values r.bytes

-- the classes of its body and of its index
abbrev pub body_class : Record → ℕ
body_class r = made_class r.kind (made_length r)

abbrev pub index_class : Record → ℕ
index_class r = made_index r.kind (body_class r)

-- the extents of its header, its body and its index
abbrev pub made_extents : Record → ℕ → ℕ → ℕ → List Extent
made_extents r head body index = extent_for 2 head ++ extent_for (body_class r) body ++ extent_for (index_class r) index

-- the words with the record in these places
abbrev pub made_words : Words → ℕ → ℕ → ℕ → Record → Words
made_words w a body index r =
    filled_words w a (made_head r.kind (made_length r)) (made_length r) body index (size_of (index_class r)) r.values
    r.bytes

-- its values and bytes are as the code has them
pub record FitsRecord (r : Record) : Type 0 where
  pub values : (i : ℕ) → i < length r.values → FitsValue (value_at r.values i)
  pub bytes : (i : ℕ) → get_or r.bytes i 0 < 256

-- it fits the body that it is made with
pub record FitsBody (r : Record) : Type 0 where
  pub values : 2 * length r.values ≤ size_of (body_class r)
  pub bytes : (length r.bytes + 7) / 8 ≤ size_of (body_class r)

-- Segment k's words have the record at a, in extents that were taken for it; and the draft has made it.
pub record Places (k a : ℕ) (r : Record) (old new : Desk) : Type 0 where
  pub head : ℕ
  pub body : ℕ
  pub index : ℕ
  pub is : head ≡ 2 * a
  pub some : 1 ≤ a
  pub taken : Desk
  pub takes : Takes k (made_extents r head body index) old taken
  pub head_within : head + 4 ≤ taken.table.reserved
  pub body_within : body + size_of (body_class r) ≤ taken.table.reserved
  pub index_within : index + size_of (index_class r) ≤ taken.table.reserved
  pub puts : new ≡ record {
    table = with_words k (made_words (taken.table.word k) a body index r) taken.table;
    draft = record taken.draft { made = taken.draft.made ++ a ∷ [] };
  }
