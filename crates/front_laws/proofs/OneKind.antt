-- Characters that spell a token spell no other: they tell of which sort it is, and within its sort they spell one.
use Rattle.std.proofs.Common.{◌≡◌, ℕ, pos, Bool, true, false, ◌==◌, ◌&&◌, not, if◌then◌else◌, List, [], ◌∷◌, ◌++◌, length, map, Option, Some, None, ◌⊎◌, inl, inr, ⊎_elim, refl, sym, ap, ◌∙◌, subst, eqb-true, arith}
use Rattle.std.specs.Str.{bytes_eq}
use Rattle.std.proofs.lemmas.Bool.{cond-true, cond-false, and_parts, not-true, or_from, or_left, false_from_ne_true}
use Rattle.std.proofs.lemmas.List.{append-nil}
use Rattle.std.proofs.lemmas.Option.{same_Some}
use Rattle.std.proofs.lemmas.Slice.Eq.{bytes_eq-Decides}
use Rattle.py_text.specs.Escape.{unescaped}
use Rattle.py_tokens.specs.declared.character.Character.{Character}
use Rattle.py_tokens.specs.declared.class.Class.TheVariants.{Letter, NameStart, Name, Quote}
use Rattle.py_tokens.specs.declared.literal.Prefix.{Prefix}
use Rattle.py_tokens.specs.declared.token.Other.TheVariants as other
use Rattle.py_tokens.specs.declared.token.TokenKind.{TokenKind}
use Rattle.py_tokens.specs.declared.token.TokenKind.TheVariants as k
use Rattle.py_tokens.specs.Characters.{byte_of}
use Rattle.py_tokens.specs.Classes.{holds, is_name_start, next_is, after}
use Rattle.py_tokens.specs.Numbers.{ten}
use Rattle.py_tokens.specs.Tables.{keywords, operators}
use Rattle.front_laws.specs.Spells as s
use Rattle.front_laws.specs.Spells.{Is, Each, Whole, Literal, Lists, Spells}
use Rattle.front_laws.proofs.Runs.{after_each, after_none}
use Rattle.front_laws.proofs.Reading.{starts_number}
use Rattle.front_laws.proofs.Tables.{Table, never, every, of_every}
use Rattle.front_laws.proofs.NameFronts.{name_of_start}
use Rattle.front_laws.proofs.NumberFronts.{whole_starts, float_starts}
use Rattle.front_laws.proofs.TokenFronts.{number_no_name, number_no_quote, is_operator_word, operator_words, OperatorStart, operator_start, is_name_word, keyword_words, all_name}
use Rattle.front_laws.proofs.OneString.{one_literal, literal_starts, literal_first}
use Rattle.front_laws.proofs.OneNumber.{one_value, is_float, has_long, float_is, float_alone, imaginary_is_float, whole_no_float, long_no_float, long_has, whole_no_long}

-- ---- a table has a word once

-- no word is one of those behind it
abbrev distinct : Table → Bool
distinct [] = true
distinct (w ∷ ws) = every (λ v. not (bytes_eq w.0 v)) ws && distinct ws

keywords_distinct : distinct keywords ≡ true
keywords_distinct = refl

operators_distinct : distinct operators ≡ true
operators_distinct = refl

not_behind : (w : List ℕ × ℕ) (ws : Table) (word : List ℕ) (n : ℕ) → every (λ v. not (bytes_eq w.0 v)) ws ≡ true →
    w.0 ≡ word → Lists ws word n → ⊥
not_behind w ws word n e same h =
    never (bytes_eq w.0 word) (not-true (bytes_eq w.0 word) (of_every (λ v. not (bytes_eq w.0 v)) ws word n e h))
    ((bytes_eq-Decides w.0 word).1 same)

one_number : (ws : Table) (word : List ℕ) (n m : ℕ) → distinct ws ≡ true → Lists ws word n → Lists ws word m → n ≡ m
one_number [] word n m e h g = absurd h
one_number (w ∷ ws) word n m e (inl h) (inl g) = sym h.1 ∙ g.1
one_number (w ∷ ws) word n m e (inl h) (inr g) = absurd (not_behind w ws word m (and_parts _ (distinct ws) e).0 h.0 g)
one_number (w ∷ ws) word n m e (inr h) (inl g) = absurd (not_behind w ws word n (and_parts _ (distinct ws) e).0 g.0 h)
one_number (w ∷ ws) word n m e (inr h) (inr g) = one_number ws word n m (and_parts _ (distinct ws) e).1 h g

-- ---- sorts of tokens

data Sort : Type 0 where
  word : Sort
  text : Sort
  whole : Sort
  long : Sort
  float : Sort
  sign : Sort

number_sort : List Character → Sort
number_sort cs = if is_float cs then float else (if has_long cs then long else whole)

other_sort : List Character → Sort
other_sort cs = if next_is Quote (after Name cs) then text else (if next_is NameStart cs then word else sign)

-- the sort that characters are of, if they spell a token
sort_of : List Character → Sort
sort_of cs = if starts_number cs then number_sort cs else other_sort cs

module _ (cs : List Character) where
  as_float : starts_number cs ≡ true → is_float cs ≡ true → sort_of cs ≡ float
  unfolding sort_of number_sort
  as_float e f = cond-true _ _ _ e ∙ cond-true _ _ _ f

  as_long : starts_number cs ≡ true → is_float cs ≡ false → has_long cs ≡ true → sort_of cs ≡ long
  unfolding sort_of number_sort
  as_long e f g = cond-true _ _ _ e ∙ cond-false _ _ _ f ∙ cond-true _ _ _ g

  as_whole : starts_number cs ≡ true → is_float cs ≡ false → has_long cs ≡ false → sort_of cs ≡ whole
  unfolding sort_of number_sort
  as_whole e f g = cond-true _ _ _ e ∙ cond-false _ _ _ f ∙ cond-false _ _ _ g

  as_text : starts_number cs ≡ false → next_is Quote (after Name cs) ≡ true → sort_of cs ≡ text
  unfolding sort_of other_sort
  as_text e f = cond-false _ _ _ e ∙ cond-true _ _ _ f

  as_word : starts_number cs ≡ false → next_is Quote (after Name cs) ≡ false → next_is NameStart cs ≡ true →
      sort_of cs ≡ word
  unfolding sort_of other_sort
  as_word e f g = cond-false _ _ _ e ∙ cond-false _ _ _ f ∙ cond-true _ _ _ g

  as_sign : starts_number cs ≡ false → next_is Quote (after Name cs) ≡ false → next_is NameStart cs ≡ false →
      sort_of cs ≡ sign
  unfolding sort_of other_sort
  as_sign e f g = cond-false _ _ _ e ∙ cond-false _ _ _ f ∙ cond-false _ _ _ g

-- ---- tokens of a sort

abbrev str_of : Option (List ℕ) → Option TokenKind
str_of (Some bs) = Some (k.Str bs)
str_of None = None

-- the token of a literal
abbrev text_kind : Prefix → List Character → Option TokenKind
text_kind p body = if p.unicode then Some (k.Other other.Unicode) else str_of (unescaped p.raw (map byte_of body))

abbrev IsWord : List ℕ → TokenKind → Type 0
IsWord bytes a =
    ((n : ℕ) × Lists keywords bytes n × (a ≡ k.Keyword n)) ⊎
    ((a ≡ k.Name bytes) × ((n : ℕ) → Lists keywords bytes n → ⊥))

-- characters spell this token of this sort
abbrev Sorted : Sort → List Character → TokenKind → Type 0
Sorted word cs a = IsWord (map byte_of cs) a
Sorted text cs a = (body : List Character) × (p : Prefix) × Literal cs p body × (text_kind p body ≡ Some a)
Sorted whole cs a = (n : ℕ) × Whole cs n × (a ≡ k.Int (pos n))
Sorted long cs a = a ≡ k.Other other.Long
Sorted float cs a = a ≡ k.Other other.Float
Sorted sign cs a = (n : ℕ) × Lists operators (map byte_of cs) n × (a ≡ k.Op n)

one_word : (bytes : List ℕ) (a b : TokenKind) → IsWord bytes a → IsWord bytes b → a ≡ b
one_word bytes a b (inl h) (inl g) = h.2 ∙ ap k.Keyword (one_number keywords bytes h.0 g.0 keywords_distinct h.1 g.1) ∙
    sym g.2
one_word bytes a b (inl h) (inr g) = absurd (g.1 h.0 h.1)
one_word bytes a b (inr h) (inl g) = absurd (h.1 g.0 g.1)
one_word bytes a b (inr h) (inr g) = h.0 ∙ sym g.0

one_sorted : (x : Sort) (cs : List Character) (a b : TokenKind) → Sorted x cs a → Sorted x cs b → a ≡ b
one_sorted word cs a b h g = one_word (map byte_of cs) a b h g
one_sorted text cs a b h g =
    let same = one_literal cs h.0 g.0 h.1 g.1 h.2 g.2 in
    same_Some a b (sym h.3 ∙ ap (λ p. text_kind p h.0) same.0 ∙ ap (text_kind g.1) same.1 ∙ g.3)
one_sorted whole cs a b h g = h.2 ∙ ap (λ n. k.Int (pos n)) (one_value cs h.0 g.0 h.1 g.1) ∙ sym g.2
one_sorted long cs a b h g = h ∙ sym g
one_sorted float cs a b h g = h ∙ sym g
one_sorted sign cs a b h g = h.2 ∙ ap k.Op (one_number operators (map byte_of cs) h.0 g.0 operators_distinct h.1 g.1) ∙
    sym g.2

-- ---- each form is of its sort

sorted_as : (x : Sort) (cs : List Character) (a : TokenKind) → sort_of cs ≡ x → Sorted x cs a → Sorted (sort_of cs) cs a
sorted_as x cs a e h = subst (λ y. Sorted y cs a) (sym e) h

name_no_number : (cs : List Character) → next_is NameStart cs ≡ true → starts_number cs ≡ false
name_no_number cs e = false_from_ne_true _ (λ f. never _ (number_no_name cs f) e)

quote_no_number : (cs : List Character) → next_is Quote cs ≡ true → starts_number cs ≡ false
quote_no_number cs e = false_from_ne_true _ (λ f. never _ (number_no_quote cs f) e)

-- names and keywords
name_sort : (c : Character) (cs : List Character) → Is NameStart c → Each Name cs → sort_of (c ∷ cs) ≡ word
name_sort c cs first each =
    let none : after Name (c ∷ cs) ≡ [] = ap (after Name) (sym (append-nil (c ∷ cs))) ∙
    after_each Name (c ∷ cs) [] (name_of_start c first, each) in
    as_word (c ∷ cs) (name_no_number (c ∷ cs) first) (ap (next_is Quote) none) first

keyword_sort : (cs : List Character) → is_name_word (map byte_of cs) ≡ true → sort_of cs ≡ word
keyword_sort [] e = never false refl e
keyword_sort (c ∷ cs) e = let both = and_parts (is_name_start c.byte) _ e in name_sort c cs both.0 (all_name cs both.1)

literal_sort : (cs body : List Character) (p : Prefix) → Literal cs p body → sort_of cs ≡ text
literal_sort cs body p h =
    as_text cs (⊎_elim (λ e. name_no_number cs e) (λ e. quote_no_number cs e) (literal_first cs body p h))
    (literal_starts cs body p h)

-- An operator's first character is of no other sort, but that a point may begin a number where a digit follows.
start_sort : (c : Character) (cs : List Character) → OperatorStart c cs → sort_of (c ∷ cs) ≡ sign
start_sort c cs start =
    let no_name = or_from (is_name_start c.byte) _ start.name start.digit in
    let no_point = false_from_ne_true _ (λ e. let both = and_parts (c.byte == 46) (next_is ten cs) e in
    point cs start.alone both.0 both.1) in
    as_sign (c ∷ cs) (or_from (holds ten c.byte) (c.byte == 46 && next_is ten cs) start.digit no_point)
    (ap (next_is Quote) (after_none Name (c ∷ cs) no_name) ∙ start.quote) start.name
  where
    point : (ds : List Character) → (c.byte ≡ 46 → length ds ≡ 0) → (c.byte == 46) ≡ true → next_is ten ds ≡ true → ⊥
    point [] alone e f = never false refl f
    point (d ∷ ds) alone e f = let none : length (d ∷ ds) ≡ 0 = alone (eqb-true c.byte 46 e) in omega (arith, none)

operator_sort : (cs : List Character) → is_operator_word (map byte_of cs) ≡ true → sort_of cs ≡ sign
operator_sort [] e = never false refl e
operator_sort (c ∷ cs) e = start_sort c cs (operator_start c cs e)

-- numbers
starts_alone : (cs : List Character) → starts_number (cs ++ []) ≡ true → starts_number cs ≡ true
starts_alone cs e = subst (λ xs. starts_number xs ≡ true) (append-nil cs) e

whole_sort : (n : ℕ) (cs : List Character) → Whole cs n → sort_of cs ≡ whole
whole_sort n cs w = as_whole cs (starts_alone cs (whole_starts n cs [] w)) (whole_no_float n cs w)
    (whole_no_long n cs w)

long_sort : (n : ℕ) (cs : List Character) (l : Character) → Whole cs n → Is (Letter 108) l →
    sort_of (cs ++ l ∷ []) ≡ long
long_sort n cs l w h = as_long (cs ++ l ∷ []) (whole_starts n cs (l ∷ []) w) (long_no_float n cs l w h)
    (long_has cs l h)

sorted : (cs : List Character) (a : TokenKind) → Spells cs a → Sorted (sort_of cs) cs a
sorted cs a (s.keyword n h) =
    sorted_as word cs a (keyword_sort cs (of_every is_name_word keywords (map byte_of cs) n keyword_words h))
    (inl (n, h, refl))
sorted cs a (s.name c ds first each none) = sorted_as word cs a (name_sort c ds first each) (inr (refl, none))
sorted cs a (s.operator n h) =
    sorted_as sign cs a (operator_sort cs (of_every is_operator_word operators (map byte_of cs) n operator_words h))
    (n, h, refl)
sorted cs a (s.int {n = n} w small) = sorted_as whole cs a (whole_sort n cs w) (n, w, refl)
sorted cs a (s.long {cs = ds} {n = n} l w h) = sorted_as long (ds ++ l ∷ []) a (long_sort n ds l w h) refl
sorted cs a (s.float f) = sorted_as float cs a
    (as_float cs (starts_alone cs (float_starts cs [] f)) (float_alone cs f)) refl
sorted cs a (s.imaginary {cs = ds} j f h) =
    sorted_as float (ds ++ j ∷ []) a (as_float (ds ++ j ∷ []) (float_starts ds (j ∷ []) f) (float_is ds (j ∷ []) f))
    refl
sorted cs a (s.imaginary_whole d ds j each h) =
    sorted_as float ((d ∷ ds) ++ j ∷ []) a
    (as_float ((d ∷ ds) ++ j ∷ []) (or_left (holds ten d.byte) _ each.0) (imaginary_is_float (d ∷ ds) j each h)) refl
sorted cs a (s.string {body = body} {p = p} {bs = bs} l plain e) =
    sorted_as text cs a (literal_sort cs body p l) (body, p, l, cond-false _ _ _ plain ∙ ap str_of e)
sorted cs a (s.unicode_string {body = body} {p = p} l e) =
    sorted_as text cs a (literal_sort cs body p l) (body, p, l, cond-true _ _ _ e)

-- characters that spell a token spell no other
pub one_kind : (cs : List Character) (a b : TokenKind) → Spells cs a → Spells cs b → a ≡ b
one_kind cs a b h g = one_sorted (sort_of cs) cs a b (sorted cs a h) (sorted cs b g)
