-- The characters of a text, by its first byte.
use Rattle.std.proofs.Common.{◌≡◌, ℕ, suc, ◌+◌, ◌≤◌, Bool, true, false, ◌==◌, ◌&&◌, if◌then◌else◌, List, [], ◌∷◌, ◌++◌, length, drop, refl, sym, ap, ◌∙◌, append_assoc, length-drop, arith}
use Rattle.py_tokens.specs.declared.character.Character.{Character}
use Rattle.py_tokens.specs.Characters.{character, characters, line_end, line_end_size, line_after, has_mark, text_characters}

cases_cons : (p q : Bool) (at line b c : ℕ) (bs : List ℕ) →
    (if p && q then character 10 at (at + 2) line ∷ characters (at + 2) (line + 1) bs else character
    (if p then 10 else b) at (at + 1) line ∷ characters (at + 1) (line_after (if p then 10 else b) line) (c ∷ bs))
    ≡ character (if p then 10 else b) at (at + (if p && q then 2 else 1)) line ∷ characters
    (at + (if p && q then 2 else 1)) (line_after (if p then 10 else b) line)
    (drop (if p && q then 2 else 1) (b ∷ c ∷ bs))
cases_cons true true at line b c bs = refl
cases_cons true false at line b c bs = refl
cases_cons false true at line b c bs = refl
cases_cons false false at line b c bs = refl

characters_cons : (at line b : ℕ) (bs : List ℕ) → characters at line (b ∷ bs) ≡ character (line_end b) at
    (at + line_end_size b bs) line ∷ characters (at + line_end_size b bs) (line_after (line_end b) line)
    (drop (line_end_size b bs) (b ∷ bs))
characters_cons at line b [] = refl
characters_cons at line b (c ∷ bs) = cases_cons (b == 13) (c == 10) at line b c bs

pub characters_step : (all found found' : List Character) (at line b size byte line' : ℕ) (rest more rest' : List ℕ)
    (x : Character) →
    rest ≡ b ∷ more → byte ≡ line_end b → size ≡ line_end_size b more → x ≡ character byte at (at + size) line →
    found' ≡ found ++ x ∷ [] → rest' ≡ drop size rest → line' ≡ line_after byte line →
    all ≡ found ++ characters at line rest → all ≡ found' ++ characters (at + size) line' rest'
characters_step all found found' at line b size byte line' rest more rest' x e1 e2 e3 e4 e5 e6 e7 h =
    rw (e5, e4, e6, e7, e2, e3, e1) (h ∙ ap (λ z. found ++ characters at line z) e1 ∙
    ap (λ z. found ++ z) (characters_cons at line b more) ∙
    sym (append_assoc found (character (line_end b) at (at + line_end_size b more) line ∷ [])
    (characters (at + line_end_size b more) (line_after (line_end b) line)
    (drop (line_end_size b more) (b ∷ more)))))

size_cases : (p : Bool) (n : ℕ) → (1 ≤ (if p then 2 else 1)) × ((if p then 2 else 1) ≤ suc (suc n))
size_cases true n = (omega arith, omega arith)
size_cases false n = (omega arith, omega arith)

pub line_end_size_within : (b : ℕ) (bs : List ℕ) → (1 ≤ line_end_size b bs) × (line_end_size b bs ≤ suc (length bs))
line_end_size_within b [] = (omega arith, omega arith)
line_end_size_within b (c ∷ bs) = size_cases (b == 13 && c == 10) (length bs)

pub line_after_le : (byte line : ℕ) → line_after byte line ≤ line + 1
line_after_le byte line = go (byte == 10)
  where
    go : (p : Bool) → (if p then line + 1 else line) ≤ line + 1
    go true = omega arith
    go false = omega arith

length_cases : (p : Bool) (xs ys : List Character) (n : ℕ) → length xs ≤ suc (suc n) → length ys ≤ suc (suc n) →
    length (if p then xs else ys) ≤ suc (suc n)
length_cases true xs ys n h k = h
length_cases false xs ys n h k = k

length_characters : (at line : ℕ) (bs : List ℕ) → length (characters at line bs) ≤ length bs
length_characters at line [] = omega arith
length_characters at line (b ∷ []) = omega arith
length_characters at line (b ∷ c ∷ bs) =
    let two = length_characters (at + 2) (line + 1) bs in
    let one = length_characters (at + 1) (line_after (line_end b) line) (c ∷ bs) in
    length_cases (b == 13 && c == 10) _ _ (length bs) (omega arith) (omega arith)

pub length_text_characters : (text : List ℕ) → length (text_characters text) ≤ length text
unfolding text_characters
length_text_characters text = go (has_mark text)
  where
    go : (p : Bool) → length (if p then characters 3 1 (drop 3 text) else characters 0 1 text) ≤ length text
    go true = let h = length_characters 3 1 (drop 3 text) in omega (arith, h, length-drop 3 text)
    go false = length_characters 0 1 text
