-- Extents that are counted as new, before their words are taken. What code and proofs say to each other; nothing public
-- rests on it.
use Rattle.std.specs.Prelude.{◌≡◌, ℕ, zero, suc, ◌+◌, ◌^◌, Bool, true, false, List, [], ◌∷◌}
use Rattle.page_table.specs.Pages.{Shelf, put}

-- the words of an extent of a class; none of class 0
abbrev pub words_of : ℕ → ℕ
words_of zero = 0
words_of (suc c) = 2 ^ suc c

-- the shelves with an extent more of class c; of class 0 none
abbrev pub one_more : ℕ → (ℕ → Shelf) → ℕ → Shelf
one_more zero f = f
one_more (suc c) f = put (suc c) (record { spare = []; total = (f (suc c)).total + 1 }) f

-- no extent of class c was given back
abbrev pub NoneSpare : ℕ → (ℕ → Shelf) → Type 0
NoneSpare zero f = Unit {0}
NoneSpare (suc c) f = (f (suc c)).spare ≡ []

-- an extent of each class was counted, of which none had been given back; or the shelves are as they were
abbrev pub Counts : Bool → List ℕ → (ℕ → Shelf) → (ℕ → Shelf) → Type 0
Counts false cs f g = g ≡ f
Counts true [] f g = g ≡ f
Counts true (c ∷ cs) f g = NoneSpare c f × Counts true cs (one_more c f) g
