-- Parts of a text: where one stands, cutting at it, joining and replacing, as functions on bytes.
-- States `docs/LANGUAGE.md`, "Methods of strings".
use Rattle.std.specs.Prelude.{ℕ, zero, suc, ◌+◌, ◌-◌, Bool, true, false, cond, ◌&&◌, ◌||◌, ◌==◌, leb, List, [], ◌∷◌, ◌++◌, length, drop, filter, map, Option, Some, None, option_map}
use Rattle.std.specs.Char.{to_ascii_uppercase, to_ascii_lowercase}
use Rattle.std.specs.Str.{bytes_eq}

-- ---- where a part stands

-- a text begins with a part
abbrev pub begins : List ℕ → List ℕ → Bool
begins [] bs = true
begins (p ∷ ps) [] = false
begins (p ∷ ps) (b ∷ bs) = (p == b) && begins ps bs

-- it ends with one: as many bytes at its end as the part has are the part
abbrev pub ends : List ℕ → List ℕ → Bool
ends part bs = bytes_eq part (drop (length bs - length part) bs)

-- the least place of a text where a part stands; 0 for an empty part
abbrev pub find : List ℕ → List ℕ → Option ℕ
find [] part = cond (begins part []) (Some 0) None
find (b ∷ bs) part = cond (begins part (b ∷ bs)) (Some 0) (option_map (λ k. k + 1) (find bs part))

-- ---- pieces

-- a byte comes before the first piece
abbrev pub onto : ℕ → List (List ℕ) → List (List ℕ)
onto b [] = (b ∷ []) ∷ []
onto b (p ∷ ps) = (b ∷ p) ∷ ps

-- the pieces between separators, which are taken from the left; the first n bytes belong to the separator before
abbrev pub cut : ℕ → List ℕ → List ℕ → List (List ℕ)
cut n sep [] = [] ∷ []
cut (suc n) sep (b ∷ bs) = cut n sep bs
cut zero sep (b ∷ bs) = cond (begins sep (b ∷ bs)) ([] ∷ cut (length sep - 1) sep bs) (onto b (cut zero sep bs))

-- a text cut at a separator, which isn't empty
abbrev pub split : List ℕ → List ℕ → List (List ℕ)
split sep bs = cut 0 sep bs

-- the pieces with a separator between each two
abbrev pub joined : List ℕ → List (List ℕ) → List ℕ
joined sep [] = []
joined sep (p ∷ []) = p
joined sep (p ∷ q ∷ ps) = p ++ sep ++ joined sep (q ∷ ps)

-- ---- blanks

-- space, and the bytes from tab to carriage return: \t \n \v \f \r
abbrev pub is_blank : ℕ → Bool
is_blank b = b == 32 || (leb 9 b && leb b 13)

-- the pieces between single blanks
abbrev pub cut_blanks : List ℕ → List (List ℕ)
cut_blanks [] = [] ∷ []
cut_blanks (b ∷ bs) = cond (is_blank b) ([] ∷ cut_blanks bs) (onto b (cut_blanks bs))

-- a piece that has bytes
abbrev pub has_bytes : List ℕ → Bool
has_bytes [] = false
has_bytes (b ∷ bs) = true

-- a text cut at its runs of blanks: the pieces between blanks that have bytes
abbrev pub words : List ℕ → List (List ℕ)
words bs = filter has_bytes (cut_blanks bs)

-- without the blanks at the front
abbrev pub without_front : List ℕ → List ℕ
without_front [] = []
without_front (b ∷ bs) = cond (is_blank b) (without_front bs) (b ∷ bs)

-- a byte before what is left of those behind it: a blank is left only where something behind it is
abbrev pub kept : ℕ → List ℕ → List ℕ
kept b [] = cond (is_blank b) [] (b ∷ [])
kept b (x ∷ xs) = b ∷ x ∷ xs

-- without the blanks at the end
abbrev pub without_end : List ℕ → List ℕ
without_end [] = []
without_end (b ∷ bs) = kept b (without_end bs)

-- without the blanks at both ends
abbrev pub strip : List ℕ → List ℕ
strip bs = without_end (without_front bs)

-- ---- letters

-- the letters from `a` to `z` are those from `A` to `Z`, and no other byte changes
abbrev pub upper : List ℕ → List ℕ
upper bs = map to_ascii_uppercase bs

-- and the other way round
abbrev pub lower : List ℕ → List ℕ
lower bs = map to_ascii_lowercase bs

-- ---- replacing

-- a part before each byte, and at the end
abbrev pub between_all : List ℕ → List ℕ → List ℕ
between_all new [] = new
between_all new (b ∷ bs) = new ++ b ∷ between_all new bs

-- each old part, from the left, is the new one; where the old part is empty, the new one stands before each byte and at
-- the end
abbrev pub replaced : List ℕ → List ℕ → List ℕ → List ℕ
replaced [] new bs = between_all new bs
replaced (o ∷ os) new bs = joined new (split (o ∷ os) bs)
