-- How many extents of a class are in use, how many were at most, and what the words that were taken come to over a run
-- of calls.
-- States `docs/HEAP.md`, "Pages".
use Rattle.std.specs.Prelude.{◌≡◌, ℕ, ◌+◌, ◌-◌, ◌<◌, ◌≤◌, max, List, [], ◌∷◌, length, Result, Ok}
use Rattle.seg_store.specs.declared.store.StoreFault.{StoreFault}
use Rattle.seg_store.specs.Extents.{words_in}
use Rattle.page_table.specs.Pages.{Table, IsTable, put, new_table}
use Rattle.page_table.specs.Reserving.{Reserves, after_give_back}

-- those that were taken and not given back since
abbrev pub in_use : Table → ℕ → ℕ
in_use t c = (t.shelf c).total - length (t.shelf c).spare

-- a call that takes an extent or is refused one, or one that gives an extent back, or one that does neither
pub data IsCall (t u : Table) : Type 0 where
  Takes : (c : ℕ) (r : Result ℕ StoreFault) → 1 ≤ c → c ≤ 21 → Reserves c t u r → IsCall t u
  Gives : (c p : ℕ) → 0 < in_use t c → u ≡ after_give_back c p t → IsCall t u
  Leaves : u.shelf ≡ t.shelf → u.reserved ≡ t.reserved → IsCall t u

-- calls led from a new table to the last one, through those of the list, the latest first
pub data IsRun (segments pages : ℕ) : List Table → Table → Type 0 where
  Begins : IsRun segments pages [] (new_table segments pages)
  Goes : (before : List Table) (t u : Table) → IsRun segments pages before t → IsCall t u
      → IsRun segments pages (t ∷ before) u

-- the most extents of a class that were in use at once
abbrev pub most_in_use : ℕ → List Table → ℕ
most_in_use c [] = 0
most_in_use c (t ∷ before) = max (most_in_use c before) (in_use t c)

-- the words that were taken are two and, of each class, as many extents as were in use at once at most
abbrev pub CountingLaw : Type 0
CountingLaw = (segments pages : ℕ) (before : List Table) (t : Table) → IsRun segments pages before t
    → t.reserved ≡ 2 + words_in (λ c. most_in_use c (t ∷ before))

-- after a call as many extents of a class were ever new as before it, or as are in use now where these are more
abbrev pub PeakLaw : Type 0
PeakLaw = (t u : Table) (c : ℕ) → IsTable t → IsCall t u → (u.shelf c).total ≡ max (t.shelf c).total (in_use u c)

-- where none can be taken again, as many are in use as were ever new
abbrev pub SpareLaw : Type 0
SpareLaw = (t : Table) (c : ℕ) → (t.shelf c).spare ≡ [] → in_use t c ≡ (t.shelf c).total

-- an extent that is taken is one more in use, and one that is given back is one less
abbrev pub TakeLaw : Type 0
TakeLaw = (c p : ℕ) (t u : Table) → IsTable t → Reserves c t u (Ok p) → in_use u ≡ put c (in_use t c + 1) (in_use t)

abbrev pub GiveLaw : Type 0
GiveLaw = (c p : ℕ) (t : Table) → in_use (after_give_back c p t) ≡ put c (in_use t c - 1) (in_use t)
