-- What a paged store means. States `docs/HEAP.md`, "The paged store".
use Rattle.std.specs.Prelude.{◌≡◌, ℕ, ◌^◌, ◌≤◌, length}
use Rattle.py_data.specs.Heap.{no_records}
use Rattle.seg_store.specs.Meaning.{Meaning, no_part}
use Rattle.page_table.specs.Pages.{Table}
use Rattle.paged_store.specs.declared.store.PagedStore.{PagedStore}
use Rattle.paged_store.specs.State.{meaning_in}
use Rattle.paged_store.specs.Paged.{Paged, state_of, paged_by}

-- a store as its fields
abbrev pub paged_of : PagedStore → Paged
paged_of s = paged_by s.pages s.present.items s.marks s.drafts.items

abbrev pub paged_meaning : PagedStore → Meaning
paged_meaning s = meaning_in (state_of (paged_of s))

-- the end of the words taken so far
abbrev pub reserved_of : PagedStore → ℕ
reserved_of s = (paged_of s).table.reserved

-- of each class, how many extents were ever new, which is the most that were in use at once
abbrev pub peaks_of : PagedStore → ℕ → ℕ
peaks_of s c = ((paged_of s).table.shelf c).total

-- what a new store means: no record, and nothing in any segment's hand
abbrev pub new_meaning : ℕ → ℕ → Meaning
new_meaning segments limit = record { image = no_records; part = λ k. no_part; segments = segments; limit = limit }

-- So many words can't be had: they are those of an extent of a class of which one at most was given back. A call wants
-- two of a class at most.
pub record Wanting (t : Table) (n : ℕ) : Type 0 where
  pub class : ℕ
  pub low : 1 ≤ class
  pub high : class ≤ 21
  pub words : n ≡ 2 ^ class
  pub few : length (t.shelf class).spare ≤ 1

-- from a store, a call may come to want n words that can't be had
abbrev pub Fills : PagedStore → ℕ → ℕ → Type 0
Fills s reserved n = Wanting (paged_of s).table n
