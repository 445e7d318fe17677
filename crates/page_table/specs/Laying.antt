-- How extents lie: no two share a word, whether they are in use or were given back. States `docs/HEAP.md`, "Pages".
use Rattle.std.specs.Prelude.{◌≡◌, ◌≢◌, ℕ, zero, suc, ◌+◌, ◌^◌, ◌<◌, ◌≤◌, cond, eqb, length, get_or, Ok}
use Rattle.page_table.specs.Pages.{put, Table, new_table, Lies, IsTable}
use Rattle.page_table.specs.Reserving.{Reserves, after_give_back}
use Rattle.page_table.specs.Counting.{in_use}

-- by place, the class of the extent that begins there, or 0
abbrev pub Extents : Type 0
Extents = ℕ → ℕ

abbrev pub no_extents : Extents
no_extents p = 0

-- how many extents of a class begin below a place
abbrev pub count_below : ℕ → ℕ → Extents → ℕ
count_below zero c f = 0
count_below (suc n) c f = cond (eqb (f n) c) (suc (count_below n c f)) (count_below n c f)

-- Of a table, all extents that were ever new, and those of them that a caller holds.
pub record IsLaid (all held : Extents) (t : Table) : Type 0 where
  pub lies : (p : ℕ) → all p ≢ 0 → Lies (all p) p t.reserved
  pub apart : (p q : ℕ) → all p ≢ 0 → all q ≢ 0 → p < q → p + 2 ^ all p ≤ q
  pub known : (p : ℕ) → held p ≢ 0 → all p ≡ held p
  -- what was given back has its class, is held by nobody, and is there once
  pub class : (c i : ℕ) → i < length (t.shelf c).spare → all (get_or (t.shelf c).spare i 0) ≡ c
  pub free : (c i : ℕ) → i < length (t.shelf c).spare → held (get_or (t.shelf c).spare i 0) ≡ 0
  pub once : (c i j : ℕ) → i < j → j < length (t.shelf c).spare
      → get_or (t.shelf c).spare i 0 ≢ get_or (t.shelf c).spare j 0
  -- what is in use is held
  pub count : (c : ℕ) → 1 ≤ c → in_use t c ≡ count_below t.reserved c held

-- of a new table nothing is held
abbrev pub NewLaid : Type 0
NewLaid = (segments pages : ℕ) → IsLaid no_extents no_extents (new_table segments pages)

-- an extent that is taken was held by nobody, and then is
abbrev pub TakeLaid : Type 0
TakeLaid = (c p : ℕ) (all held : Extents) (t u : Table) → IsTable t → 1 ≤ c → c ≤ 21 → Reserves c t u (Ok p)
    → IsLaid all held t → (held p ≡ 0) × IsLaid (put p c all) (put p c held) u

-- an extent that is held can be given back
abbrev pub GiveLaid : Type 0
GiveLaid = (c p : ℕ) (all held : Extents) (t : Table) → 1 ≤ c → held p ≡ c → IsLaid all held t
    → Lies c p t.reserved × (0 < in_use t c) × IsLaid all (put p 0 held) (after_give_back c p t)

-- a call that neither takes nor gives back leaves all as it lies
abbrev pub RestLaid : Type 0
RestLaid = (all held : Extents) (t u : Table) → u.shelf ≡ t.shelf → u.reserved ≡ t.reserved → IsLaid all held t
    → IsLaid all held u
