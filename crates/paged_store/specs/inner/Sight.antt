-- Whose words are read, and what they are. What code and proofs say to each other: nothing public rests on it.
use Rattle.std.specs.Prelude.{◌≡◌, ◌≢◌, ℕ, ◌+◌, ◌*◌, ◌/◌, ◌^◌, ◌<◌, ◌≤◌, List, length, Some}
use Rattle.py_base.specs.declared.kind.Kind.TheVariants.{Str}
use Rattle.py_data.specs.declared.value.Value.{Value}
use Rattle.py_data.specs.declared.value.Value.TheVariants.{Ref}
use Rattle.py_data.specs.Heap.{Rec, Heap, value_at}
use Rattle.page_table.specs.Pages.{Table}
use Rattle.paged_store.specs.declared.sight.Seen.{Seen}
use Rattle.paged_store.specs.declared.sight.Seen.TheVariants.{Image, Segment}
use Rattle.paged_store.specs.Words.{Words, decode, body_by, body_size}
use Rattle.paged_store.specs.inner.Formed.{Formed}

-- the image's words, or a segment's
abbrev pub words_seen : Table → Seen → Words
words_seen t Image = t.shared
words_seen t (Segment k) = t.word k

-- the record that they stand for at an address
abbrev pub record_seen : Table → Seen → ℕ → Rec
record_seen t seen a = decode (words_seen t seen) a

-- there is such a segment
abbrev pub IsSeen : Table → Seen → Type 0
IsSeen t Image = Unit {0}
IsSeen t (Segment k) = k < t.segments

-- the record at a has its header below what is reserved, and its body where it has one
pub record Stands (w : Words) (reserved a : ℕ) : Type 0 where
  pub head : 2 * a + 4 ≤ reserved
  pub body : 0 < body_size w a → body_by w a + body_size w a ≤ reserved
  pub formed : Formed w a

-- the record at a can be read
pub record CanRead (t : Table) (seen : Seen) (a : ℕ) : Type 0 where
  pub segment : IsSeen t seen
  pub stands : Stands (words_seen t seen) t.reserved a

-- each address has the record that words stand for there
abbrev pub records_in : Words → Heap
records_in w a = Some (decode w a)

-- the records that are seen
abbrev pub heap_seen : Table → Seen → Heap
heap_seen t seen = records_in (words_seen t seen)

-- ---- comparing

-- the first n words from two places on are the same
pub record SameWords (w : Words) (x y n : ℕ) : Type 0 where
  pub same : (j : ℕ) → j < n → w (x + j) ≡ w (y + j)

-- one of them is another
pub record OtherWords (w : Words) (x y n : ℕ) : Type 0 where
  pub at : ℕ
  pub within : at < n
  pub other : w (x + at) ≢ w (y + at)
  pub first : w (x + at) < 2 ^ 64
  pub second : w (y + at) < 2 ^ 64

-- the string at an address has n bytes, from x on
pub record IsText (t : Table) (seen : Seen) (a x n : ℕ) : Type 0 where
  pub there : CanRead t seen a
  pub kind : (record_seen t seen a).kind ≡ Str
  pub body : x ≡ body_by (words_seen t seen) a
  pub count : n ≡ length (record_seen t seen a).bytes
  pub within : 0 < n → x + (n + 7) / 8 ≤ t.reserved

-- ---- keys

-- the record that a key may refer to can be read
abbrev pub IsKeySeen : Table → Seen → Value → Type 0
IsKeySeen t seen (Ref a) = CanRead t seen a.0
IsKeySeen t seen _ = Unit {0}

-- those of all keys of a dictionary's values can be read
pub record KeysSeen (t : Table) (seen : Seen) (values : List Value) : Type 0 where
  pub each : (n : ℕ) → 2 * n + 1 < length values → IsKeySeen t seen (value_at values (2 * n))

-- a heap has at a key's address the record that words stand for there
abbrev pub IsKnown : Heap → Words → Value → Type 0
IsKnown h w (Ref a) = h a.0 ≡ Some (decode w a.0)
IsKnown h w _ = Unit {0}

-- at the address of a key that is looked for, and of each key of a dictionary's values
pub record KnowsKeys (h : Heap) (w : Words) (values : List Value) (key : Value) : Type 0 where
  pub each : (n : ℕ) → 2 * n + 1 < length values → IsKnown h w (value_at values (2 * n))
  pub sought : IsKnown h w key
