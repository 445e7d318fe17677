-- The forms of a word, and the words as `clap` takes them.
use Rattle.std.proofs.Common.{◌≡◌, ◌∙◌, ℕ, Bool, true, false, refl, sym, ap, subst, List, [], ◌∷◌, ◌++◌, Option, Some, None, codes, arith}
use Rattle.std.specs.Prelude.{if◌then◌else◌, slice_get}
use Rattle.std.specs.Str.{IsUtf8, bytes_eq, chars, encode_utf8_all}
use Rattle.std.proofs.lemmas.Bool.Decides.{Decides-eqb}
use Rattle.std.proofs.lemmas.Str.{IsCharBoundary-after_ascii, IsUtf8-drop, encodes-chars}
use Rattle.clap.specs.Lexer.{long_of, short_of}
use Rattle.clap.specs.Walk.{Text}
use Rattle.stm_words.specs.Options.{Setting, Use, Place, Value, Word, Positional, Alone, Valued, Rest, NoWord, after_word, is_dash, uses_from, with_use, word_of}
use Rattle.stm_words.proofs.Meaning.{a_dash, doomed_ends, ends, ends_with}

-- ---- a lone `-` as a value

-- `clap` takes a lone `-` for a value too
abbrev pub is_flag : Text → Bool
is_flag [] = false
is_flag (b ∷ []) = false
is_flag (b ∷ c ∷ cs) = is_dash b

abbrev pub loose : List Text → Option Setting → Option (List Use)
loose [] None = Some []
loose [] (Some s) = None
loose (w ∷ ws) None = after_word (word_of w) (loose ws) ws
loose (w ∷ ws) (Some s) = if is_flag w then None else with_use (Value s w) (loose ws None)

abbrev SameEnds : List Text → Type 0
SameEnds ws = (waiting : Option Setting) (us : List Use) → ends us (uses_from ws waiting) ≡ ends us (loose ws waiting)

one_use : (ws : List Text) → SameEnds ws → (u : Use) (us : List Use)
    → ends us (with_use u (uses_from ws None)) ≡ ends us (with_use u (loose ws None))
one_use ws same u us = ends_with us u (uses_from ws None) ∙ same None (us ++ u ∷ [])
    ∙ sym (ends_with us u (loose ws None))

same_word : (ws : List Text) → SameEnds ws → (word : Word) (us : List Use)
    → ends us (after_word word (uses_from ws) ws) ≡ ends us (after_word word (loose ws) ws)
same_word ws same (Positional v) us = one_use ws same (Place v) us
same_word ws same (Alone s) us = same (Some s) us
same_word ws same (Valued s v) us = one_use ws same (Value s v) us
same_word ws same Rest us = refl
same_word ws same NoWord us = refl

lone : (b : ℕ) → is_dash b ≡ true → b ∷ [] ≡ codes "-"
lone b e = ap (λ c. c ∷ []) ((Decides-eqb b 45).0 e)

same_value : (ws : List Text) → SameEnds ws → (s : Setting) (w : Text) (us : List Use)
    → ends us (uses_from (w ∷ ws) (Some s)) ≡ ends us (loose (w ∷ ws) (Some s))
same_value ws same s [] us = one_use ws same (Value s []) us
same_value ws same s (b ∷ []) us = go (is_dash b) refl
  where
    go : (x : Bool) → is_dash b ≡ x
        → ends us (if is_dash b then None else with_use (Value s (b ∷ []))
        (uses_from ws None)) ≡ ends us (with_use (Value s (b ∷ [])) (loose ws None))
    go false e = ap (λ x. ends us (if x then None else with_use (Value s (b ∷ [])) (uses_from ws None))) e
        ∙ one_use ws same (Value s (b ∷ [])) us
    go true e = ap (λ x. ends us (if x then None else with_use (Value s (b ∷ [])) (uses_from ws None))) e
        ∙ sym (ends_with us (Value s (b ∷ [])) (loose ws None)
        ∙ ap (λ w. ends (us ++ Value s w ∷ []) (loose ws None)) (lone b e)
        ∙ doomed_ends (us ++ Value s (codes "-") ∷ []) (loose ws None) (a_dash us s))
same_value ws same s (b ∷ c ∷ cs) us = go (is_dash b)
  where
    go : (x : Bool) → ends us (if x then None else with_use (Value s (b ∷ c ∷ cs))
        (uses_from ws None)) ≡ ends us (if x then None else with_use (Value s (b ∷ c ∷ cs)) (loose ws None))
    go true = refl
    go false = one_use ws same (Value s (b ∷ c ∷ cs)) us

pub same_ends : (ws : List Text) → SameEnds ws
same_ends [] None us = refl
same_ends [] (Some s) us = refl
same_ends (w ∷ ws) None us = same_word ws (same_ends ws) (word_of w) us
same_ends (w ∷ ws) (Some s) us = same_value ws (same_ends ws) s w us

-- ---- the forms of a word

-- no option, and not `--`
pub record IsPlain (w : Text) : Type 0 where
  pub not_dashes : bytes_eq w (45 ∷ 45 ∷ []) ≡ false
  pub no_long : long_of w ≡ None
  pub no_short : short_of w ≡ None
  pub word : word_of w ≡ Positional w
  pub no_flag : is_flag w ≡ false

pub data Form : Text → Type 0 where
  plain : (w : Text) → IsPlain w → Form w
  short : (x : ℕ) (xs : Text) → is_dash x ≡ false → Form (45 ∷ x ∷ xs)
  dashes : Form (45 ∷ 45 ∷ [])
  long : (x : ℕ) (xs : Text) → Form (45 ∷ 45 ∷ x ∷ xs)

form_behind_two : (bs : Text) → Form (45 ∷ 45 ∷ bs)
form_behind_two [] = dashes
form_behind_two (x ∷ xs) = long x xs

form_behind_one : (bs : Text) → Form (45 ∷ bs)
form_behind_one [] = plain _ (record {
  not_dashes = refl;
  no_long = refl;
  no_short = refl;
  word = refl;
  no_flag =
      refl;
})
form_behind_one (c ∷ cs) = go (is_dash c) refl
  where
    go : (x : Bool) → is_dash c ≡ x → Form (45 ∷ c ∷ cs)
    go false e = short c cs e
    go true e = subst (λ y. Form (45 ∷ y ∷ cs)) (sym ((Decides-eqb c 45).0 e)) (form_behind_two cs)

plain_flag : (b : ℕ) (bs : Text) → is_dash b ≡ false → is_flag (b ∷ bs) ≡ false
plain_flag b [] e = refl
plain_flag b (c ∷ cs) e = e

plain_begin : (b : ℕ) (bs : Text) → is_dash b ≡ false → IsPlain (b ∷ bs)
plain_begin b bs e = record {
  not_dashes = rw e refl;
  no_long = rw e refl;
  no_short = rw e refl;
  word = rw e refl;
  no_flag = plain_flag b bs e;
}

pub form : (w : Text) → Form w
form [] = plain _ (record { not_dashes = refl; no_long = refl; no_short = refl; word = refl; no_flag = refl })
form (b ∷ bs) = go (is_dash b) refl
  where
    go : (x : Bool) → is_dash b ≡ x → Form (b ∷ bs)
    go false e = plain _ (plain_begin b bs e)
    go true e = subst (λ y. Form (y ∷ bs)) (sym ((Decides-eqb b 45).0 e)) (form_behind_one bs)

-- ---- characters

-- a text of characters that isn't empty has a first one
first_char : (cs : List ℕ) (x : ℕ) (xs : Text) → encode_utf8_all cs ≡ x ∷ xs → (c : ℕ) × (slice_get cs 0 ≡ Some c)
first_char [] x xs e = absurd (cc)
first_char (c ∷ cs) x xs e = (c, refl)

pub first_of_flags : (x : ℕ) (xs : Text) → IsUtf8 (45 ∷ x ∷ xs) → (c : ℕ) × (slice_get (chars (x ∷ xs)) 0 ≡ Some c)
first_of_flags x xs utf8 =
    let behind : IsUtf8 (x ∷ xs) = IsUtf8-drop (45 ∷ x ∷ xs) 1 utf8
    (IsCharBoundary-after_ascii (45 ∷ x ∷ xs) 0 utf8 (omega arith) (omega arith)) in
    first_char (chars (x ∷ xs)) x xs (encodes-chars (x ∷ xs) behind)
