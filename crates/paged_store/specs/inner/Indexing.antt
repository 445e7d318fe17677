-- What code reads and writes in the index of a dictionary. What code and proofs say to each other: nothing public rests
-- on it.
use Rattle.std.specs.Prelude.{◌≡◌, ℕ, ◌+◌, ◌-◌, ◌*◌, ◌/◌, ◌<◌, ◌≤◌, Bool, true, false, ◌||◌, [], ◌∷◌}
use Rattle.py_base.specs.declared.kind.Kind.TheVariants.{Dict}
use Rattle.py_data.specs.declared.value.Value.{Value}
use Rattle.py_data.specs.declared.value.Value.TheVariants.{Ref}
use Rattle.py_data.specs.Heap.{value_at}
use Rattle.page_table.specs.Pages.{Table}
use Rattle.dict_index.specs.Keys.{home_of}
use Rattle.dict_index.specs.Index.{IsIndex, FirstEmpty}
use Rattle.dict_index.specs.Leaving.{skip}
use Rattle.paged_store.specs.declared.sight.Seen.TheVariants.{Segment}
use Rattle.paged_store.specs.Words.{Words, in_span, decode, count_by, index_by, index_size, in_head, in_body, in_index}
use Rattle.paged_store.specs.inner.Indexed.{class_by, home_by, index_words, pairs_by}
use Rattle.paged_store.specs.inner.Sight.{Stands, KeysSeen}
use Rattle.paged_store.specs.inner.Written.{put_word, drop_words}
use Rattle.paged_store.specs.inner.Writing.{Desk, Wrote, Refused, CanPut, with_words, pushed_words, push_places, drop_places}

-- the words from a place on
abbrev pub words_from : Words → ℕ → Words
words_from w place s = w (place + s)

-- the slot of a dictionary's index at a place is the first empty one from the home of a key on
pub record FreeSlot (w : Words) (d : ℕ) (key : Value) (place : ℕ) : Type 0 where
  pub slot : ℕ
  pub at : place ≡ index_by w d + slot
  pub first : FirstEmpty (index_size w d) (index_words w d) (home_of (index_size w d) (class_by w key)) slot

-- ---- writing

-- the header and the body of the record at an address have no place in a span
pub record Avoids (w : Words) (place n a : ℕ) : Type 0 where
  pub head : (p : ℕ) → in_span place n p ≡ true → in_head a p ≡ false
  pub body : (p : ℕ) → in_span place n p ≡ true → in_body w a p ≡ false

-- nor have those of the record that a value refers to
abbrev pub KeyAvoids : Words → ℕ → ℕ → Value → Type 0
KeyAvoids w place n (Ref a) = Avoids w place n a.0
KeyAvoids w place n _ = Unit {0}

-- Segment k has a dictionary at d whose index has n words from a place on; what its keys and their homes are is read
-- elsewhere.
pub record HasSlots (k d place n : ℕ) (t : Table) : Type 0 where
  pub segment : k < t.segments
  pub stands : Stands (t.word k) t.reserved d
  pub kind : (decode (t.word k) d).kind ≡ Dict
  pub at : place ≡ index_by (t.word k) d
  pub size : n ≡ index_size (t.word k) d
  pub within : place + n ≤ t.reserved
  pub keys : KeysSeen t (Segment k) (decode (t.word k) d).values
  pub apart : Avoids (t.word k) place n d
  pub keys_apart : (j : ℕ) → KeyAvoids (t.word k) place n (value_at (decode (t.word k) d).values (2 * j))

-- and it may put words there
pub record CanIndex (k d place n : ℕ) (t : Table) : Type 0 where
  pub slots : HasSlots k d place n t
  pub may : CanPut k place n t

-- words of a segment in a span are others, and nothing else changed
pub record Puts (k place n : ℕ) (old new : Table) : Type 0 where
  pub same : new ≡ with_words k (new.word k) old
  pub off : (p : ℕ) → in_span place n p ≡ false → new.word k p ≡ old.word k p

-- ---- changes of a dictionary in place

-- the words of a dictionary with a pair more, whose number is in the slot at a place
abbrev pub paired_words : Words → ℕ → ℕ → Value → Value → Words
paired_words w d slot key v = put_word slot (count_by w d / 2 + 1) (pushed_words w d (key ∷ v ∷ []))

-- the places that are written then
abbrev pub pair_places : Words → ℕ → ℕ → ℕ → Bool
pair_places w d slot p = in_span slot 1 p || push_places w d 2 p

-- a pair is at the end, and its number in the first empty slot from its key's home on
pub record AddsPair (k d : ℕ) (key v : Value) (old new : Desk) : Type 0 where
  pub slot : ℕ
  pub free : FreeSlot (old.table.word k) d key slot
  pub wrote : Wrote k (paired_words (old.table.word k) d slot key v) (pair_places (old.table.word k) d slot) old new

-- it was refused
pub record RefusesPair (k d : ℕ) (key : Value) (old new : Desk) : Type 0 where
  pub slot : ℕ
  pub free : FreeSlot (old.table.word k) d key slot
  pub refused : Refused k (pair_places (old.table.word k) d slot) old new

-- the places that are written where a pair leaves
abbrev pub leave_places : Words → ℕ → ℕ → ℕ → Bool
leave_places w d pair p = in_index w d p || drop_places w d pair p

-- A pair has left the index, whose words are those of w then, and the body.
pub record DropsIndexed (k d pair : ℕ) (old new : Desk) : Type 0 where
  pub words : Words
  pub off : (p : ℕ) → in_index (old.table.word k) d p ≡ false → words p ≡ old.table.word k p
  pub index : IsIndex (λ j. home_by (old.table.word k) d (skip pair j)) (index_size (old.table.word k) d)
      (words_from words (index_by (old.table.word k) d)) (pairs_by (old.table.word k) d - 1)
  pub wrote : Wrote k (drop_words words d pair (count_by (old.table.word k) d - 2))
      (leave_places (old.table.word k) d pair) old new
