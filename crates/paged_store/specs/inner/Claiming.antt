-- Extents that are claimed for a record, and claims that are refused.
-- What code and proofs say to each other: nothing public rests on it.
use Rattle.std.specs.Prelude.{◌≡◌, ℕ, ◌+◌, ◌^◌, ◌<◌, ◌≤◌, Bool, cond, ◌&&◌, eqb, ltb, leb, max, List, [], ◌∷◌, length}
use Rattle.seg_store.specs.declared.store.StoreFault.{StoreFault}
use Rattle.seg_store.specs.declared.store.StoreFault.TheVariants.{Full, OutOfMemory}
use Rattle.page_table.specs.Pages.{Table, limit}
use Rattle.page_table.specs.Counting.{in_use}
use Rattle.paged_store.specs.declared.extent.Extent.{Extent}
use Rattle.paged_store.specs.Paged.{one_if, extents_at, spare_at}
use Rattle.paged_store.specs.inner.Fine.{of_class}
use Rattle.paged_store.specs.inner.Ending.{ExtentsLie, HaveClasses}

-- the extent of a class at a place; none of class 0
abbrev pub extent_for : ℕ → ℕ → List Extent
extent_for class place = cond (eqb class 0) [] (record { place = place; class = class } ∷ [])

-- the place is one of those that were not reserved yet, and are now
abbrev pub newly : Table → Table → ℕ → Bool
newly t u p = leb t.reserved p && ltb p u.reserved

-- The extents were taken: their places had been given back, or were not reserved yet, and so each place is in one at
-- most.
pub record Claims (xs : List Extent) (t u : Table) : Type 0 where
  pub others : u ≡ record t { shelf = u.shelf; reserved = u.reserved }
  pub more : t.reserved ≤ u.reserved
  pub lie : ExtentsLie u.reserved xs
  pub classes : HaveClasses xs
  pub total : (c : ℕ) → (t.shelf c).total ≤ (u.shelf c).total
  -- of each class, as many more are in use
  pub count : (c : ℕ) → of_class c xs + length (u.shelf c).spare + (t.shelf c).total ≡ length (t.shelf c).spare +
      (u.shelf c).total
  -- what is spare now and what was taken is what was spare and what is newly reserved
  pub spare : (p : ℕ) → spare_at u p + extents_at xs p ≡ spare_at t p + one_if (newly t u p)

-- how often a number is in a list
abbrev pub times : ℕ → List ℕ → ℕ
times c [] = 0
times c (x ∷ xs) = one_if (eqb c x) + times c xs

-- Extents of these classes, where 0 is none, are wanted: what was ever new of a class rises at most to what would be in
-- use with them.
abbrev pub RisesBy : List ℕ → Table → Table → Type 0
RisesBy wanted t u = (c : ℕ) → 1 ≤ c → ((t.shelf c).total ≤ (u.shelf c).total)
    × ((u.shelf c).total ≤ max (t.shelf c).total (in_use t c + times c wanted))

-- An extent of a class that was wanted can't be had: fewer were given back than are wanted, fewer were ever new than
-- would be in use with all that are wanted, and there are not so many words behind those that are reserved now.
pub record NoneLeft (wanted : List ℕ) (t u : Table) (r n l : ℕ) : Type 0 where
  pub class : ℕ
  pub low : 1 ≤ class
  pub high : class ≤ 21
  pub few : length (t.shelf class).spare < times class wanted
  pub short : (u.shelf class).total < in_use t class + times class wanted
  pub reserved : r ≡ u.reserved
  pub need : n ≡ 2 ^ class
  pub limit : l ≡ limit t
  pub over : l < r + n

-- why extents of these classes can't be had
abbrev pub Denies : List ℕ → Table → Table → StoreFault → Type 0
Denies wanted t u (Full r n l) = NoneLeft wanted t u r n l
Denies wanted t u OutOfMemory = Unit {0}
