-- What segments have marked, and who holds each granule, as bytes say it. States `docs/HEAP.md`, "Markers and locks".
use Rattle.std.specs.Prelude.{◌≡◌, Bool, false, ◌⊎◌, ℕ, zero, suc, ◌+◌, ◌<◌, ◌≤◌, ◌^◌, cond, eqb, List, [], length, get_or, replicate, Option, Some, None}
use Rattle.py_data.specs.Heap.{Marks}

-- a segment's version, and for each granule the version at which it was marked, or 0
pub record Row : Type 0 where
  pub version : ℕ
  pub bytes : List ℕ

-- a row for each segment, and for each granule 0 or the number of the segment that holds it plus 1
pub record Marked : Type 0 where
  pub rows : List Row
  pub locks : List ℕ

-- ---- what bytes say

-- no mark
abbrev pub no_row : Row
no_row = record { version = 1; bytes = [] }

-- only marks of the version count
unfoldable pub row_marks : Row → Marks
row_marks r g = eqb (get_or r.bytes g 0) r.version

-- what each segment has marked
abbrev pub marks_of : Marked → ℕ → Marks
marks_of t k = row_marks (get_or t.rows k no_row)

abbrev pub version_of : Marked → ℕ → ℕ
version_of t k = (get_or t.rows k no_row).version

abbrev pub mark_byte : Marked → ℕ → ℕ → ℕ
mark_byte t k g = get_or (get_or t.rows k no_row).bytes g 0

-- the version that follows
abbrev pub next_version : ℕ → ℕ
next_version v = cond (eqb v 255) 1 (v + 1)

abbrev pub holder_by : ℕ → Option ℕ
holder_by zero = None
holder_by (suc k) = Some k

unfoldable pub holders_at : List ℕ → ℕ → Option ℕ
holders_at locks g = holder_by (get_or locks g 0)

-- the segment that holds each granule
abbrev pub holders_of : Marked → ℕ → Option ℕ
holders_of t = holders_at t.locks

-- ---- sizes

abbrev pub segments : Marked → ℕ
segments t = length t.rows

abbrev pub granules : Marked → ℕ
granules t = length t.locks

pub record HasSizes (k n : ℕ) (t : Marked) : Type 0 where
  pub segments : length t.rows ≡ k
  pub granules : length t.locks ≡ n

pub record SameSizes (t u : Marked) : Type 0 where
  pub segments : length u.rows ≡ length t.rows
  pub granules : length u.locks ≡ length t.locks

-- nothing is marked, and every granule is free
abbrev pub new_marks : ℕ → ℕ → Marked
new_marks segments granules = record {
  rows = replicate segments (record { version = 255; bytes = replicate granules 0 });
  locks = replicate granules 0;
}

-- ---- what always holds

-- no mark is of a later version
pub record IsRow (r : Row) : Type 0 where
  pub least : 1 ≤ r.version
  pub most : r.version ≤ 255
  pub below : (g : ℕ) → get_or r.bytes g 0 ≤ r.version

-- each granule whose byte isn't 0 is among the numbers, from the i-th on
abbrev pub CoversFrom : ℕ → List ℕ → List ℕ → Type 0
CoversFrom i seen bytes = (g : ℕ) → (get_or bytes g 0 ≡ 0)
    ⊎ ((k : ℕ) × (i ≤ k) × (k < length seen) × (get_or seen k 0 ≡ g))

-- unless there was no room for a number, each granule whose byte isn't 0 is among them
pub record KnowsSeen (is_full : Bool) (seen bytes : List ℕ) : Type 0 where
  pub covers : is_full ≡ false → CoversFrom 0 seen bytes

-- a segment's number plus 1 fits in a byte, and a granule's number in 32 bits; each row has a byte for each granule
pub record AreMarks (t : Marked) : Type 0 where
  pub segments : length t.rows ≤ 8
  pub granules : length t.locks < 2 ^ 32
  pub each : (k : ℕ) → k < length t.rows → length (get_or t.rows k no_row).bytes ≡ length t.locks
