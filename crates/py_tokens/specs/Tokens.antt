-- What the calls of this crate promise. States `docs/LANGUAGE.md`, "Tokens".
use Rattle.std.specs.Prelude.{◌≡◌, ℕ, List, [], ◌∷◌, ◌++◌, Option, Some, None, Result, Ok, Err}
use Rattle.py_base.specs.declared.refusal.Refusal.{Refusal}
use Rattle.py_tokens.specs.declared.error.TokenError.{TokenError}
use Rattle.py_tokens.specs.declared.error.TokenError.TheVariants.{Refused, OutOfMemory}
use Rattle.py_tokens.specs.declared.layout.Mode.{Mode}
use Rattle.py_tokens.specs.declared.layout.Mode.TheVariants.{Fresh, Held, Within}
use Rattle.py_tokens.specs.declared.token.Place.{Place}
use Rattle.py_tokens.specs.declared.token.Token.{Token}
use Rattle.py_tokens.specs.declared.token.TokenKind.TheVariants as k
use Rattle.py_tokens.specs.declared.word.Word.{Word}
use Rattle.py_tokens.specs.declared.word.Word.TheVariants.{Plain, LineEnd}
use Rattle.py_tokens.specs.Place.{token_at, before_place, before_token}
use Rattle.py_tokens.specs.Layout.{Lines, joined, lines, tokens_in, column_after, first_joint, after_blank, Laid, before, indented, closing, line_laid, lines_laid}

-- The tokens, which `view` gives as a list, are exactly the text's, or the refusal is exactly its one; want of memory
-- is free.
abbrev pub Tokenizes : {X : Type 0} → (X → List Token) → Result X TokenError → Laid → Type 0
Tokenizes view (Ok ts) r = r ≡ Ok (view ts)
Tokenizes view (Err (Refused e)) r = r ≡ Err e
Tokenizes view (Err OutOfMemory) r = Unit {0}

-- ---- inside a text

-- what is still to come of a line whose blanks have led to this column, and then to this joint, if any, and of the
-- lines after it
abbrev pub line_to_come : Place → Option Refusal → ℕ → Option Place → List ℕ → Lines → Laid
line_to_come last stop column joint stack ls =
    line_laid column joint (tokens_in ls.0.words) ls.0.end stack (λ s. lines_laid last stop s ls.1)

-- The tokens still to come from these words: before the first token of a line, at a column that blanks still move, or
-- behind a joint, where they don't any more; or after the first token, inside so many brackets.
abbrev pub to_come : Place → Option Refusal → Mode → List ℕ → List Word → Laid
to_come last stop (Fresh column) stack ws =
    let ls = lines last (joined 0 ws) in
    line_to_come last stop (column_after column ls.0.words) (first_joint ls.0.words) stack ls
to_come last stop (Held column joint) stack ws =
    let ls = lines last (joined 0 ws) in line_to_come last stop column (Some joint) stack ls
to_come last stop (Within depth) stack ws = let ls = lines last (joined depth ws) in
    before (tokens_in ls.0.words ++ token_at k.Newline ls.0.end ∷ []) (lines_laid last stop stack ls.1)

-- what a step on the stack adds to the tokens, whatever comes after it
abbrev pub Moves : Result (Unit {0}) TokenError → (List ℕ → (List ℕ → Laid) → Laid) → List ℕ → List ℕ → List Token →
    List Token → Type 0
Moves (Ok u) f stack stack' old new = (added : List Token) × (new ≡ old ++ added) ×
    ((rest : List ℕ → Laid) → f stack rest ≡ before added (rest stack'))
Moves (Err (Refused e)) f stack stack' old new = (rest : List ℕ → Laid) → f stack rest ≡ Err e
Moves (Err OutOfMemory) f stack stack' old new = Unit {0}

-- the indentation before a line's first token, which stands after this place
abbrev pub begun : Place → Mode → List ℕ → (List ℕ → Laid) → Laid
begun p (Fresh column) stack rest = indented p column stack rest
begun p (Held column joint) stack rest = indented (before_place joint) column stack rest
begun p (Within depth) stack rest = rest stack

abbrev pub took : Token → Mode → List ℕ → (List ℕ → Laid) → Laid
took t m stack rest = begun (before_token t) m stack (λ s. before (t ∷ []) (rest s))

-- a token, inside so many brackets after it
abbrev pub Takes : Result Mode TokenError → ℕ → (List ℕ → (List ℕ → Laid) → Laid) → List ℕ → List ℕ → List Token →
    List Token → Type 0
Takes (Ok m) depth f stack stack' old new = (m ≡ Within depth) × Moves (Ok tt) f stack stack' old new
Takes (Err e) depth f stack stack' old new = Moves (Err e) f stack stack' old new

abbrev pub depth_of : Mode → ℕ
depth_of (Fresh column) = 0
depth_of (Held column joint) = 0
depth_of (Within depth) = depth

-- the mode after a blank, and after a joint
abbrev pub blanked : ℕ → Mode → Mode
blanked b (Fresh column) = Fresh (after_blank column b)
blanked b (Held column joint) = Held column joint
blanked b (Within depth) = Within depth

abbrev pub held : Place → Mode → Mode
held p (Fresh column) = Held column p
held p (Held column joint) = Held column joint
held p (Within depth) = Within depth

-- what one more word adds to the tokens, whatever comes after it
abbrev pub Lays : Result Mode TokenError → Mode → List ℕ → Word → List ℕ → List Token → List Token → Type 0
Lays (Ok m') m stack w stack' old new = (added : List Token) × (new ≡ old ++ added) ×
    ((last : Place) (stop : Option Refusal) (ws : List Word) →
    to_come last stop m stack (w ∷ ws) ≡ before added (to_come last stop m' stack' ws))
Lays (Err (Refused e)) m stack w stack' old new = (last : Place) (stop : Option Refusal) (ws : List Word) →
    to_come last stop m stack (w ∷ ws) ≡ Err e
Lays (Err OutOfMemory) m stack w stack' old new = Unit {0}

-- a line end, which leaves the stack as it is
abbrev pub Ends : Result Mode TokenError → Mode → Place → List Token → List Token → Type 0
Ends (Ok m') m p old new = (added : List Token) × (new ≡ old ++ added) ×
    ((last : Place) (stop : Option Refusal) (stack : List ℕ) (ws : List Word) →
    to_come last stop m stack (LineEnd p ∷ ws) ≡ before added (to_come last stop m' stack ws))
Ends (Err e) m p old new = e ≡ OutOfMemory

-- the column or the depth
abbrev pub reach : Mode → ℕ
reach (Fresh column) = column
reach (Held column joint) = column
reach (Within depth) = depth

abbrev pub Closes : Result (Unit {0}) TokenError → Place → List ℕ → List Token → List Token → Type 0
Closes (Ok u) last stack old new = new ≡ old ++ closing last stack
Closes (Err e) last stack old new = e ≡ OutOfMemory

-- the end of the text
abbrev pub Finishes : {X : Type 0} → (X → List Token) → Result X TokenError → Place → Mode → List ℕ → List Token →
    Type 0
Finishes view (Ok ts) last m stack old = before old (to_come last None m stack []) ≡ Ok (view ts)
Finishes view (Err e) last m stack old = e ≡ OutOfMemory

-- a place where no rule continues, for this reason, if there was memory to find it
abbrev pub Breaks : TokenError → Place → Refusal → Mode → List ℕ → Type 0
Breaks (Refused r) p e m stack = (last : Place) → to_come last (Some e) m stack (Plain (token_at (k.Name []) p) ∷ []) ≡
    Err r
Breaks OutOfMemory p e m stack = Unit {0}

-- the same for any reason why no word was read
abbrev pub Stops : TokenError → Place → TokenError → Mode → List ℕ → Type 0
Stops r p (Refused e) m stack = Breaks r p e m stack
Stops r p OutOfMemory m stack = r ≡ OutOfMemory
