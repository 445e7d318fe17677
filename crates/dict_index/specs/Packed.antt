-- Bytes in words of 8, the lowest first. States `docs/HEAP.md`, "Words".
use Rattle.std.specs.Prelude.{ℕ, ◌+◌, ◌*◌, List, [], ◌∷◌, take, drop}

-- the number that bytes stand for, the lowest first
abbrev pub number_of : List ℕ → ℕ
number_of [] = 0
number_of (b ∷ bs) = b + 256 * number_of bs

-- the words of bytes, 8 in each
unfoldable pub packed : List ℕ → ℕ → ℕ
packed bs j = number_of (take 8 (drop (8 * j) bs))
