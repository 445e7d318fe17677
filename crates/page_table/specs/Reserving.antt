-- Which extent is taken, when none can be, and what an extent that is given back leaves. States `docs/HEAP.md`,
-- "Pages".
use Rattle.std.specs.Prelude.{◌≡◌, ℕ, zero, suc, ◌+◌, ◌^◌, ◌<◌, ◌≤◌, ◌⊎◌, [], ◌∷◌, ◌++◌, Result, Ok, Err}
use Rattle.seg_store.specs.declared.store.StoreFault.{StoreFault}
use Rattle.seg_store.specs.declared.store.StoreFault.TheVariants.{Full, OutOfMemory}
use Rattle.page_table.specs.Pages.{Table, Shelf, limit, put, IsTable}

-- the shelf of class c is s
abbrev pub with_shelf : ℕ → Shelf → Table → Table
with_shelf c s t = record t { shelf = put c s t.shelf }

-- the extent at p had been given back, as the last of those that are left
pub record TakesAgain (c p : ℕ) (t u : Table) : Type 0 where
  pub spare : (t.shelf c).spare ≡ (u.shelf c).spare ++ p ∷ []
  pub table : u ≡ with_shelf c (record { spare = (u.shelf c).spare; total = (t.shelf c).total }) t

-- none had been given back, and the extent has the next words
pub record TakesNew (c p : ℕ) (t u : Table) : Type 0 where
  pub none_spare : (t.shelf c).spare ≡ []
  pub fits : t.reserved + 2 ^ c ≤ limit t
  pub place : p ≡ t.reserved
  pub table : u ≡ record t {
    reserved = t.reserved + 2 ^ c;
    shelf =
        put c (record { spare = []; total = (t.shelf c).total + 1 }) t.shelf;
  }

-- the words r, n and l are those that were taken, those of an extent, and the most; none had been given back
pub record IsFull (c r n l : ℕ) (t : Table) : Type 0 where
  pub none_spare : (t.shelf c).spare ≡ []
  pub reserved : r ≡ t.reserved
  pub need : n ≡ 2 ^ c
  pub limit : l ≡ limit t
  pub over : l < r + n

-- an extent could have been taken, had there been memory
pub record WantsMemory (c : ℕ) (t : Table) : Type 0 where
  pub none_spare : (t.shelf c).spare ≡ []
  pub fits : t.reserved + 2 ^ c ≤ limit t

-- what a call for an extent of class c answers, and leaves of the table t
abbrev pub Reserves : ℕ → Table → Table → Result ℕ StoreFault → Type 0
Reserves c t u (Ok p) = TakesAgain c p t u ⊎ TakesNew c p t u
Reserves c t u (Err (Full r n l)) = (u ≡ t) × IsFull c r n l t
Reserves c t u (Err OutOfMemory) = (u ≡ t) × WantsMemory c t

-- the extent at p was given back
abbrev pub after_give_back : ℕ → ℕ → Table → Table
after_give_back c p t = with_shelf c (record { spare = (t.shelf c).spare ++ p ∷ []; total = (t.shelf c).total }) t

-- ---- extents that are taken together

-- an extent of class c at p has the next words; none of class 0
abbrev pub TakesNext : ℕ → ℕ → Table → Table → Type 0
TakesNext zero p t u = (p ≡ t.reserved) × (u ≡ t)
TakesNext (suc c) p t u = TakesNew (suc c) p t u

-- Extents of three classes have the next words, one behind the other: they were taken in turn. Between them there were
-- tables too.
pub record TakesThree (a b c p q r : ℕ) (t u : Table) : Type 0 where
  pub one : Table
  pub two : Table
  pub first : TakesNext a p t one
  pub second : TakesNext b q one two
  pub third : TakesNext c r two u
  pub one_is : IsTable one
  pub two_is : IsTable two
