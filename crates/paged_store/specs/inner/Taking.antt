-- Extents that a segment's draft takes for a record. What code and proofs say to each other: nothing public rests on
-- it.
use Rattle.std.specs.Prelude.{◌≡◌, ℕ, ◌/◌, Bool, true, List, ◌++◌}
use Rattle.page_table.specs.Pages.{Table}
use Rattle.paged_store.specs.declared.extent.Extent.{Extent}
use Rattle.paged_store.specs.Paged.{in_extents}
use Rattle.paged_store.specs.inner.Claiming.{Claims}
use Rattle.paged_store.specs.inner.Writing.{Desk}

-- segment k's pages of extents are its own
abbrev pub OwnExtents : ℕ → List Extent → Table → Type 0
OwnExtents k xs t = (p : ℕ) → in_extents xs p ≡ true → t.own k (p / 512) ≡ true

-- The extents were taken, and their pages are segment k's own. Other pages may be so besides, and no word changed.
pub record Takes (k : ℕ) (xs : List Extent) (old new : Desk) : Type 0 where
  pub own : ℕ → ℕ → Bool
  pub grows : (j q : ℕ) → old.table.own j q ≡ true → own j q ≡ true
  pub claims : Claims xs (record old.table { own = own }) new.table
  pub draft : new.draft ≡ record old.draft { taken = old.draft.taken ++ xs }
  pub opened : OwnExtents k xs new.table
