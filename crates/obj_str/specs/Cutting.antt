-- How code cuts a text: a piece from the front at a time; and texts that may be longer than a string.
-- Nothing here is to be believed: nothing public rests on it.
use Rattle.std.specs.Prelude.{ℕ, ◌+◌, Bool, true, false, List, [], ◌∷◌, ◌++◌, length, leb, cond, Option, Some, None}
use Rattle.py_data.specs.declared.value.Value.{Value}
use Rattle.py_data.specs.declared.record.Got.{Got}
use Rattle.py_data.specs.declared.record.Got.TheVariants.{Raise}
use Rattle.py_data.specs.declared.record.TheConstants.{LENGTH_LIMIT}
use Rattle.py_data.specs.Fault.{memory_fault}
use Rattle.py_data.specs.Row.{Row, Ret}
use Rattle.obj_str.specs.Pieces.{is_blank, split, words}
use Rattle.obj_str.specs.Strings.{made_text}

-- the pieces of a text at a separator, or, without one, at its runs of blanks
abbrev pub pieces_of : Option (List ℕ) → List ℕ → List (List ℕ)
pieces_of (Some sep) bs = split sep bs
pieces_of None bs = words bs

-- the piece behind the last separator; behind the last word there is none
abbrev pub last_of : Option (List ℕ) → List ℕ → List (List ℕ)
last_of (Some sep) bs = bs ∷ []
last_of None bs = []

-- how many bytes stand before the first blank
abbrev pub word_length : List ℕ → ℕ
word_length [] = 0
word_length (b ∷ bs) = cond (is_blank b) 0 (word_length bs + 1)

-- a text, where it is no longer than a string may be
abbrev pub fitting : List ℕ → Option (List ℕ)
fitting bs = cond (leb (length bs) LENGTH_LIMIT) (Some bs) None

-- a new string of a text that fits
unfoldable pub fitted_row : {S : Type 0} → Option (List ℕ) → Row S (Got Value)
fitted_row (Some bs) = made_text bs
fitted_row None = Ret (Raise memory_fault)

-- a text that fits with a separator and another text behind it; one that has become too long stays so
abbrev pub more_of : List ℕ → Option (List ℕ) → List ℕ → Option (List ℕ)
more_of sep (Some text) p = fitting (text ++ (sep ++ p))
more_of sep None p = None

-- no piece
abbrev pub has_none : List (List ℕ) → Bool
has_none [] = true
has_none (p ∷ ps) = false
