-- What is done to a table and to the books of a store where a step is taken back, and where a transaction ends.
-- What code and proofs say to each other: nothing public rests on it.
use Rattle.std.specs.Prelude.{◌≡◌, ℕ, ◌+◌, ◌/◌, ◌<◌, ◌≤◌, Bool, true, false, cond, ◌||◌, List, length, get_or, take, drop, Option, None}
use Rattle.py_data.specs.Sight.{mem}
use Rattle.page_table.specs.Pages.{Table, Lies}
use Rattle.seg_marks.specs.Marks.{Marked, marks_of, holders_of, SameSizes}
use Rattle.paged_store.specs.declared.extent.Span.{Span}
use Rattle.paged_store.specs.declared.extent.Extent.{Extent}
use Rattle.paged_store.specs.declared.extent.Note.{Note}
use Rattle.paged_store.specs.Words.{Words, in_span}
use Rattle.paged_store.specs.inner.Moves.{put, given}
use Rattle.paged_store.specs.Paged.{Drafted, in_extents, extents_at, rewound, spare_at, taken_since}
use Rattle.paged_store.specs.inner.Fine.{of_class}

-- ---- where spans, extents and notes lie

abbrev pub SpansLie : ℕ → List Span → Type 0
SpansLie end xs = (i : ℕ) (x : Span) → i < length xs → (get_or xs i x).place + (get_or xs i x).words ≤ end

abbrev pub ExtentsLie : ℕ → List Extent → Type 0
ExtentsLie end xs = (i : ℕ) (x : Extent) → i < length xs → Lies (get_or xs i x).class (get_or xs i x).place end

abbrev pub HaveClasses : List Extent → Type 0
HaveClasses xs = (i : ℕ) (x : Extent) → i < length xs → (1 ≤ (get_or xs i x).class) × ((get_or xs i x).class ≤ 21)

-- The extents of a list from one number up to another lie side by side: their places are those of so many words from a
-- place on.
pub record LieSideBySide (end : ℕ) (xs : List Extent) (from to place words : ℕ) : Type 0 where
  pub more : from < to
  pub most : to ≤ length xs
  pub within : place + words ≤ end
  pub places : in_extents (take to xs) ≡ (λ p. in_extents (take from xs) p || in_span place words p)

-- in pages of segment k's own
abbrev pub NotesLie : ℕ → Table → List Note → Type 0
NotesLie k t xs = (i : ℕ) (x : Note) → i < length xs →
    ((get_or xs i x).place < t.reserved) × (t.own k ((get_or xs i x).place / 512) ≡ true)

-- ---- words

-- segment k's words in the places of f are the shared ones, and every segment's
abbrev pub pushes : ℕ → (ℕ → Bool) → Table → Table
pushes k f t = record t { shared = given f (t.word k) t.shared; word = λ j. given f (t.word k) (t.word j) }

-- the shared words in the places of f are segment k's
abbrev pub restores : ℕ → (ℕ → Bool) → Table → Table
restores k f t = record t { word = put k (given f t.shared (t.word k)) t.word }

-- segment k has other words
abbrev pub with_words : ℕ → Words → Table → Table
with_words k w t = record t { word = put k w t.word }

-- ---- extents

-- of each class there is room on the shelf for the extents
abbrev pub HaveRoom : List Extent → Table → Type 0
HaveRoom xs t = (c : ℕ) → of_class c xs + length (t.shelf c).spare ≤ (t.shelf c).total

-- the extents were given back
pub record GivenBack (xs : List Extent) (t u : Table) : Type 0 where
  pub others : u ≡ record t { shelf = u.shelf }
  pub total : (c : ℕ) → (u.shelf c).total ≡ (t.shelf c).total
  pub count : (c : ℕ) → length (u.shelf c).spare ≡ length (t.shelf c).spare + of_class c xs
  pub spare : (p : ℕ) → spare_at u p ≡ spare_at t p + extents_at xs p

-- ---- books

abbrev pub among : List ℕ → ℕ → Bool
among xs a = mem a xs

-- nobody holds the addresses of f
abbrev pub free_of : (ℕ → Bool) → (ℕ → Option ℕ) → ℕ → Option ℕ
free_of f h = λ a. cond (f a) None (h a)

-- the addresses of f became free
pub record Released (f : ℕ → Bool) (old new : Marked) : Type 0 where
  pub sizes : SameSizes old new
  pub marks : marks_of new ≡ marks_of old
  pub holders : holders_of new ≡ free_of f (holders_of old)

-- the addresses of f are of records of the image
pub record Shown (f : ℕ → Bool) (old new : List Bool) : Type 0 where
  pub count : length new ≡ length old
  pub each : (a : ℕ) → get_or new a false ≡ (f a || get_or old a false)

-- ---- a draft

-- segment k's words as its open step began with them
abbrev pub rewinds : ℕ → Drafted → Table → Table
rewinds k d t = restores k (in_extents (taken_since d)) (with_words k (rewound d.notes (t.word k)) t)

-- the records that the open step made
abbrev pub made_since : Drafted → List ℕ
made_since d = drop d.made_before d.made
