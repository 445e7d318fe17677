-- The token at the front of a text: it is spelled by the front that is taken, it reaches as far as any front that is
-- spelled, and a bad character comes where none is, or where a number is none.
use Rattle.std.proofs.Common.{◌≡◌, ℕ, ◌+◌, ◌-◌, ◌≤◌, ◌==◌, nat_le, Bool, true, false, ◌&&◌, ◌||◌, not, if◌then◌else◌, List, [], ◌∷◌, ◌++◌, length, map, take, drop, Option, Some, None, Ok, Err, ◌⊎◌, inl, inr, refl, sym, ap, ◌∙◌, subst, append_assoc, arith}
use Rattle.std.specs.Char.{digit_value}
use Rattle.std.proofs.lemmas.Bool.{and_parts, not-true, false_from_ne_true, eqb-true, eq-eqb, leb-true, ltb-true, or_cases}
use Rattle.std.proofs.lemmas.List.{length-append, length-drop, length-map, take-append-drop}
use Rattle.std.proofs.lemmas.Str.Parse.{digit_from_value}
use Rattle.py_base.specs.declared.refusal.Refusal.TheVariants.{BadCharacter}
use Rattle.py_tokens.specs.declared.character.Character.{Character}
use Rattle.py_tokens.specs.declared.class.Class.TheVariants.{NameStart, Name, Quote}
use Rattle.py_tokens.specs.declared.literal.Prefix.{Prefix}
use Rattle.py_tokens.specs.declared.literal.Quoting.{Quoting}
use Rattle.py_tokens.specs.declared.token.TokenKind.{TokenKind}
use Rattle.py_tokens.specs.declared.token.TokenKind.TheVariants as k
use Rattle.py_tokens.specs.Characters.{byte_of}
use Rattle.py_tokens.specs.Classes.{holds, is_name_start, next_is}
use Rattle.py_tokens.specs.Numbers.{Read, ten, number_at}
use Rattle.py_tokens.specs.Strings.{prefix, prefix_of, string_at}
use Rattle.py_tokens.specs.Names.{name_at, operator_at}
use Rattle.py_tokens.specs.Tables.{keywords, operators}
use Rattle.front_laws.specs.Spells as s
use Rattle.front_laws.specs.Spells.{Is, Each, Prefixes, IsMark, Quotes, Closed, Literal, Lists, Spells}
use Rattle.front_laws.specs.Fronts.{BadNumber}
use Rattle.front_laws.proofs.Reading.{starts_number, Spelled, Within, Found, Caused, read_cases}
use Rattle.front_laws.proofs.Tables.{never, every, of_every, falling, begins_is, begins_front, FoundLong, long_found, IsFound, is_found}
use Rattle.front_laws.proofs.NameFronts.{name_of_start, within_more, name_spelled, name_caused, name_within, prefixed_within, quotes_quote}
use Rattle.front_laws.proofs.StringFronts.{string_spelled, string_caused, string_within, prefix_is, prefix_first}
use Rattle.front_laws.proofs.NumberFronts.{number_spelled, number_caused, whole_within, long_within, float_found, imaginary_found, imaginary_whole_found, whole_starts, float_starts}

-- ---- what is read

abbrev pub operator_read : ℕ → List Character → Option (ℕ × ℕ) → Read
operator_read line cs None = Err (BadCharacter line)
operator_read line cs (Some o) = Ok (k.Op o.0, drop o.1 cs)

abbrev pub line_of : List Character → ℕ
line_of [] = 0
line_of (c ∷ cs) = c.line

abbrev number_or : List Character → Read
number_or cs = if starts_number cs then number_at (line_of cs) cs else operator_read (line_of cs) cs
    (operator_at operators cs)

abbrev string_or : List Character → Read
string_or cs = if next_is Quote cs then string_at (line_of cs) (prefix false false) cs else number_or cs

-- the kind of the token at the front and what follows it, or why there is none
abbrev pub read_of : List Character → Read
read_of cs = if next_is NameStart cs then name_at (line_of cs) cs else string_or cs

if_true : (b : Bool) (r s : Read) → b ≡ true → (if b then r else s) ≡ r
if_true true r s e = refl
if_true false r s e = never false refl e

if_false : (b : Bool) (r s : Read) → b ≡ false → (if b then r else s) ≡ s
if_false false r s e = refl
if_false true r s e = never true e refl

pub as_name : (cs : List Character) → next_is NameStart cs ≡ true → read_of cs ≡ name_at (line_of cs) cs
as_name cs e = if_true (next_is NameStart cs) _ (string_or cs) e

pub as_string : (cs : List Character) → next_is NameStart cs ≡ false → next_is Quote cs ≡ true →
    read_of cs ≡ string_at (line_of cs) (prefix false false) cs
as_string cs e f = if_false (next_is NameStart cs) _ (string_or cs) e ∙ if_true (next_is Quote cs) _ (number_or cs) f

pub as_number : (cs : List Character) → next_is NameStart cs ≡ false → next_is Quote cs ≡ false →
    starts_number cs ≡ true →
    read_of cs ≡ number_at (line_of cs) cs
as_number cs e f g =
    if_false (next_is NameStart cs) _ (string_or cs) e ∙ if_false (next_is Quote cs) _ (number_or cs) f ∙
    if_true (starts_number cs) _ _ g

pub as_operator : (cs : List Character) → next_is NameStart cs ≡ false → next_is Quote cs ≡ false →
    starts_number cs ≡ false →
    read_of cs ≡ operator_read (line_of cs) cs (operator_at operators cs)
as_operator cs e f g =
    if_false (next_is NameStart cs) _ (string_or cs) e ∙ if_false (next_is Quote cs) _ (number_or cs) f ∙
    if_false (starts_number cs) _ _ g

-- ---- which first characters exclude each other

digit_range : (b : ℕ) → holds ten b ≡ true → (48 ≤ b) × (b ≤ 57)
digit_range b e = digit_from_value b (ltb-true (digit_value b) 10 e)

name_low : (b : ℕ) → is_name_start b ≡ true → 65 ≤ b
name_low b e = go (or_cases (nat_le 65 b && nat_le b 90 || nat_le 97 b && nat_le b 122) (b == 95) e)
  where
    more : (x : (nat_le 65 b && nat_le b 90) ≡ true ⊎ (nat_le 97 b && nat_le b 122) ≡ true) → 65 ≤ b
    more (inl f) = leb-true 65 b (and_parts (nat_le 65 b) (nat_le b 90) f).0
    more (inr f) = let h : 97 ≤ b = leb-true 97 b (and_parts (nat_le 97 b) (nat_le b 122) f).0 in omega (arith, h)

    go : (x : (nat_le 65 b && nat_le b 90 || nat_le 97 b && nat_le b 122) ≡ true ⊎ (b == 95) ≡ true) → 65 ≤ b
    go (inl f) = more (or_cases (nat_le 65 b && nat_le b 90) (nat_le 97 b && nat_le b 122) f)
    go (inr f) = let h : b ≡ 95 = eqb-true b 95 f in omega (arith, h)

quote_low : (b : ℕ) → holds Quote b ≡ true → b ≤ 39
quote_low b e = go (or_cases (b == 39) (b == 34) e)
  where
    go : (x : (b == 39) ≡ true ⊎ (b == 34) ≡ true) → b ≤ 39
    go (inl f) = let h : b ≡ 39 = eqb-true b 39 f in omega (arith, h)
    go (inr f) = let h : b ≡ 34 = eqb-true b 34 f in omega (arith, h)

low_no_name : (b : ℕ) → b ≤ 57 → is_name_start b ≡ false
low_no_name b h = false_from_ne_true (is_name_start b) (λ e. let f : 65 ≤ b = name_low b e in omega (arith, h, f))

high_no_quote : (b : ℕ) → 40 ≤ b → holds Quote b ≡ false
high_no_quote b h = false_from_ne_true (holds Quote b) (λ e. let f : b ≤ 39 = quote_low b e in omega (arith, h, f))

-- the first character of a number, its digit or point, is between these
number_range : (c : Character) (cs : List Character) → starts_number (c ∷ cs) ≡ true → (40 ≤ c.byte) × (c.byte ≤ 57)
number_range c cs e = go (or_cases (holds ten c.byte) (c.byte == 46 && next_is ten cs) e)
  where
    go : (x : holds ten c.byte ≡ true ⊎ (c.byte == 46 && next_is ten cs) ≡ true) → (40 ≤ c.byte) × (c.byte ≤ 57)
    go (inl f) = let r = digit_range c.byte f in let low : 48 ≤ c.byte = r.0 in (omega (arith, low), r.1)
    go (inr f) = let h : c.byte ≡ 46 = eqb-true c.byte 46 (and_parts (c.byte == 46) (next_is ten cs) f).0 in
        (omega (arith, h), omega (arith, h))

pub number_no_name : (cs : List Character) → starts_number cs ≡ true → next_is NameStart cs ≡ false
number_no_name [] e = refl
number_no_name (c ∷ cs) e = low_no_name c.byte (number_range c cs e).1

pub number_no_quote : (cs : List Character) → starts_number cs ≡ true → next_is Quote cs ≡ false
number_no_quote [] e = refl
number_no_quote (c ∷ cs) e = high_no_quote c.byte (number_range c cs e).0

quote_no_name : (cs : List Character) → next_is Quote cs ≡ true → next_is NameStart cs ≡ false
quote_no_name [] e = refl
quote_no_name (c ∷ cs) e = let f : c.byte ≤ 39 = quote_low c.byte e in low_no_name c.byte (omega (arith, f))

number_is : (cs : List Character) → starts_number cs ≡ true → read_of cs ≡ number_at (line_of cs) cs
number_is cs e = as_number cs (number_no_name cs e) (number_no_quote cs e) e

string_is : (cs : List Character) → next_is Quote cs ≡ true → read_of cs ≡ string_at (line_of cs) (prefix false false)
    cs
string_is cs e = as_string cs (quote_no_name cs e) e

-- ---- operators

-- no operator begins as a name, a string or a number, but that a point is one by itself
abbrev pub is_operator_word : List ℕ → Bool
is_operator_word [] = false
is_operator_word (b ∷ bs) = not (is_name_start b) &&
    (not (holds Quote b) && (not (holds ten b) && (not (b == 46) || length bs == 0)))

pub operator_words : every is_operator_word operators ≡ true
operator_words = refl

operators_fall : falling operators ≡ true
operators_fall = refl

-- ---- it reaches as far as any front that is spelled

-- no more than so many characters are left, or the text begins as a number that is none
abbrev pub Reached : ℕ → List Character → Read → Type 0
Reached n cs (Ok p) = length p.1 ≤ n
Reached n cs (Err (BadCharacter l)) = BadNumber cs
Reached n cs (Err _) = Unit {0}

reached : (n line : ℕ) (cs : List Character) (r : Read) → Within n r → Caused line cs r → Reached n cs r
reached n line cs (Ok p) within caused = within
reached n line cs (Err (BadCharacter l)) within caused = caused.1
reached n line cs (Err _) within caused = tt

found_within : (n : ℕ) (r : Read) → Found n r → Within n r
found_within n (Ok p) h = h
found_within n (Err e) h = absurd h

reached_name : (n : ℕ) (cs : List Character) → next_is NameStart cs ≡ true → Within n (name_at (line_of cs) cs) →
    Reached n cs (read_of cs)
reached_name n cs e h =
    subst (Reached n cs) (sym (as_name cs e))
    (reached n (line_of cs) cs (name_at (line_of cs) cs) h (name_caused (line_of cs) cs cs))

reached_string : (n : ℕ) (cs : List Character) → next_is Quote cs ≡ true →
    Within n (string_at (line_of cs) (prefix false false) cs) →
    Reached n cs (read_of cs)
reached_string n cs e h =
    subst (Reached n cs) (sym (string_is cs e))
    (reached n (line_of cs) cs _ h (string_caused (line_of cs) (prefix false false) cs cs))

reached_number : (n : ℕ) (cs : List Character) → starts_number cs ≡ true → Within n (number_at (line_of cs) cs) →
    Reached n cs (read_of cs)
reached_number n cs e h =
    subst (Reached n cs) (sym (number_is cs e))
    (reached n (line_of cs) cs (number_at (line_of cs) cs) h (number_caused (line_of cs) cs e))

-- ---- operators reach

operator_reads : (line n : ℕ) (cs rest : List Character) (o : Option (ℕ × ℕ)) → n ≡ length cs → FoundLong o n →
    Within (length rest) (operator_read line (cs ++ rest) o)
operator_reads line n cs rest None e h = absurd h
operator_reads line n cs rest (Some o) e h =
    let l : length (drop o.1 (cs ++ rest)) ≡ length (cs ++ rest) - o.1 = length-drop o.1 (cs ++ rest) in
    let m : length (cs ++ rest) ≡ length cs + length rest = length-append cs rest in
    let g : n ≤ o.1 = h in
    omega (arith, l, m, e, g)

operator_found : (line n : ℕ) (cs rest : List Character) → Lists operators (map byte_of cs) n →
    Within (length rest) (operator_read line (cs ++ rest) (operator_at operators (cs ++ rest)))
operator_found line n cs rest h =
    operator_reads line (length (map byte_of cs)) cs rest (operator_at operators (cs ++ rest)) (length-map cs byte_of)
    (long_found operators (map byte_of cs) n (cs ++ rest) operators_fall h (begins_front cs rest))

operator_within : (n m line : ℕ) (cs : List Character) (o : Option (ℕ × ℕ)) → FoundLong o m →
    Within n (operator_read line cs o) →
    Reached n cs (operator_read line cs o)
operator_within n m line cs None h w = absurd h
operator_within n m line cs (Some o) h w = w

-- a point before a digit begins a float
point_reaches : (c : Character) (rest : List Character) → c.byte ≡ 46 → next_is ten rest ≡ true →
    Reached (length rest) (c ∷ rest) (read_of (c ∷ rest))
point_reaches c [] p e = never false refl e
point_reaches c (d ∷ more) p e =
    let found = float_found c.line (c ∷ d ∷ []) more (s.pointed (s.behind c d [] p (e, tt))) in
    let near : length more ≤ length (d ∷ more) = omega arith in
    reached_number (length (d ∷ more)) (c ∷ d ∷ more) (ap (λ x. holds ten x || (x == 46 && holds ten d.byte)) p
    ∙ e) (within_more (length more) (length (d ∷ more)) _ near (found_within (length more) _ found))

-- what is known of an operator's characters
pub record OperatorStart (c : Character) (cs : List Character) : Type 0 where
  pub name : is_name_start c.byte ≡ false
  pub quote : holds Quote c.byte ≡ false
  pub digit : holds ten c.byte ≡ false
  pub alone : c.byte ≡ 46 → length cs ≡ 0

pub operator_start : (c : Character) (cs : List Character) → is_operator_word (map byte_of (c ∷ cs)) ≡ true →
    OperatorStart c cs
operator_start c cs e =
    let a = and_parts (not (is_name_start c.byte)) _ e in
    let b = and_parts (not (holds Quote c.byte)) _ a.1 in
    let d = and_parts (not (holds ten c.byte)) _ b.1 in
    record {
      name = not-true (is_name_start c.byte) a.0;
      quote = not-true (holds Quote c.byte) b.0;
      digit = not-true (holds ten c.byte) d.0;
      alone = λ p. go p (or_cases (not (c.byte == 46)) (length (map byte_of cs) == 0) d.1);
    }
  where
    go : (p : c.byte ≡ 46) (x : not (c.byte == 46) ≡ true ⊎ (length (map byte_of cs) == 0) ≡ true) → length cs ≡ 0
    go p (inl f) = never (c.byte == 46) (not-true (c.byte == 46) f) (eq-eqb c.byte 46 p)
    go p (inr f) = sym (length-map cs byte_of) ∙ eqb-true (length (map byte_of cs)) 0 f

number_cases : (c : Character) (cs rest : List Character) → OperatorStart c cs →
    starts_number (c ∷ (cs ++ rest)) ≡ true →
    Reached (length rest) (c ∷ (cs ++ rest)) (read_of (c ∷ (cs ++ rest)))
number_cases c [] rest start e = go (or_cases (holds ten c.byte) (c.byte == 46 && next_is ten rest) e)
  where
    go : (x : holds ten c.byte ≡ true ⊎ (c.byte == 46 && next_is ten rest) ≡ true) →
        Reached (length rest) (c ∷ rest) (read_of (c ∷ rest))
    go (inl f) = never (holds ten c.byte) start.digit f
    go (inr f) = let both = and_parts (c.byte == 46) (next_is ten rest) f in
        point_reaches c rest (eqb-true c.byte 46 both.0) both.1
number_cases c (d ∷ ds) rest start e = go
    (or_cases (holds ten c.byte) (c.byte == 46 && next_is ten ((d ∷ ds) ++ rest)) e)
  where
    go : (x : holds ten c.byte ≡ true ⊎ (c.byte == 46 && next_is ten ((d ∷ ds) ++ rest)) ≡ true) →
        Reached (length rest) (c ∷ (d ∷ ds) ++ rest) (read_of (c ∷ (d ∷ ds) ++ rest))
    go (inl f) = never (holds ten c.byte) start.digit f
    go (inr f) =
        let e : length (d ∷ ds) ≡ 0 = start.alone (eqb-true c.byte 46 (and_parts (c.byte == 46)
        (next_is ten ((d ∷ ds) ++ rest)) f).0) in absurd (omega (arith, e))

operator_cases : (c : Character) (cs rest : List Character) (n : ℕ) (b : Bool) → starts_number (c ∷ (cs ++ rest)) ≡ b →
    OperatorStart c cs →
    Lists operators (map byte_of (c ∷ cs)) n →
    Reached (length rest) (c ∷ (cs ++ rest)) (read_of (c ∷ (cs ++ rest)))
operator_cases c cs rest n true e start h = number_cases c cs rest start e
operator_cases c cs rest n false e start h =
    subst (Reached (length rest) (c ∷ (cs ++ rest))) (sym (as_operator (c ∷ (cs ++ rest)) start.name start.quote e))
    (operator_within (length rest) _ c.line (c ∷ (cs ++ rest)) (operator_at operators (c ∷ (cs ++ rest)))
    (long_found operators _ n (c ∷ (cs ++ rest)) operators_fall h (begins_front (c ∷ cs) rest))
    (operator_found c.line n (c ∷ cs) rest h))

reached_operator : (cs rest : List Character) (n : ℕ) → Lists operators (map byte_of cs) n →
    Reached (length rest) (cs ++ rest) (read_of (cs ++ rest))
reached_operator [] rest n h = never false refl (of_every is_operator_word operators [] n operator_words h)
reached_operator (c ∷ cs) rest n h =
    operator_cases c cs rest n (starts_number (c ∷ (cs ++ rest))) refl
    (operator_start c cs (of_every is_operator_word operators (map byte_of (c ∷ cs)) n operator_words h)) h

-- ---- names reach

pub each_name : List ℕ → Bool
each_name [] = true
each_name (b ∷ bs) = holds Name b && each_name bs

abbrev pub is_name_word : List ℕ → Bool
is_name_word [] = false
is_name_word (b ∷ bs) = is_name_start b && each_name bs

pub keyword_words : every is_name_word keywords ≡ true
unfolding each_name
keyword_words = refl

pub all_name : (cs : List Character) → each_name (map byte_of cs) ≡ true → Each Name cs
unfolding each_name
all_name [] e = tt
all_name (c ∷ cs) e = let both = and_parts (holds Name c.byte) (each_name (map byte_of cs)) e in
    (both.0, all_name cs both.1)

reached_word : (c : Character) (cs rest : List Character) → Is NameStart c → Each Name cs →
    Reached (length rest) ((c ∷ cs) ++ rest) (read_of ((c ∷ cs) ++ rest))
reached_word c cs rest first each =
    reached_name (length rest) ((c ∷ cs) ++ rest) first (name_within c.line (c ∷ cs) rest (name_of_start c first, each))

reached_keyword : (cs rest : List Character) → is_name_word (map byte_of cs) ≡ true →
    Reached (length rest) (cs ++ rest) (read_of (cs ++ rest))
reached_keyword [] rest e = never false refl e
reached_keyword (c ∷ cs) rest e =
    let both = and_parts (is_name_start c.byte) (each_name (map byte_of cs)) e in
    reached_word c cs rest both.0 (all_name cs both.1)

-- ---- strings reach

reached_prefixed : (q : Quoting) (p : Prefix) (c : Character) (ps qs body cs rest : List Character) →
    (((c ∷ ps) ≡ []) ⊎ (prefix_of (c ∷ ps) ≡ Some p)) → Prefixes (c ∷ ps) p → IsMark q.mark → Quotes q qs →
    Closed q body cs →
    Reached (length rest) ((c ∷ ps) ++ ((qs ++ cs) ++ rest)) (read_of ((c ∷ ps) ++ ((qs ++ cs) ++ rest)))
reached_prefixed q p c ps qs body cs rest (inl e) is mark opens closes = let f : length (c ∷ ps) ≡ 0 = ap length e in
    absurd (omega (arith, f))
reached_prefixed q p c ps qs body cs rest (inr e) is mark opens closes =
    reached_name (length rest) ((c ∷ ps) ++ ((qs ++ cs) ++ rest)) (prefix_first c ps p is)
    (prefixed_within c.line q p (c ∷ ps) qs body cs rest is e mark opens closes)

reached_quoted : (q : Quoting) (p : Prefix) (ps qs body cs rest : List Character) → Prefixes ps p → IsMark q.mark →
    Quotes q qs → Closed q body cs →
    Reached (length rest) (ps ++ ((qs ++ cs) ++ rest)) (read_of (ps ++ ((qs ++ cs) ++ rest)))
reached_quoted q p ps qs body cs rest s.none mark opens closes =
    reached_string (length rest) ((qs ++ cs) ++ rest) (quotes_quote q qs cs rest mark opens)
    (string_within _ q (prefix false false) qs body cs rest mark opens closes)
reached_quoted q p ps qs body cs rest (s.raw c e) mark opens closes =
    reached_prefixed q p c [] qs body cs rest (prefix_is ps p (s.raw c e)) (s.raw c e) mark opens closes
reached_quoted q p ps qs body cs rest (s.bytes c e) mark opens closes =
    reached_prefixed q p c [] qs body cs rest (prefix_is ps p (s.bytes c e)) (s.bytes c e) mark opens closes
reached_quoted q p ps qs body cs rest (s.unicode c e) mark opens closes =
    reached_prefixed q p c [] qs body cs rest (prefix_is ps p (s.unicode c e)) (s.unicode c e) mark opens closes
reached_quoted q p ps qs body cs rest (s.raw_bytes c d e f) mark opens closes =
    reached_prefixed q p c (d ∷ []) qs body cs rest (prefix_is ps p (s.raw_bytes c d e f)) (s.raw_bytes c d e f) mark
    opens closes
reached_quoted q p ps qs body cs rest (s.raw_unicode c d e f) mark opens closes =
    reached_prefixed q p c (d ∷ []) qs body cs rest (prefix_is ps p (s.raw_unicode c d e f)) (s.raw_unicode c d e f)
    mark opens closes

reached_literal : (cs rest body : List Character) (p : Prefix) → Literal cs p body →
    Reached (length rest) (cs ++ rest) (read_of (cs ++ rest))
reached_literal cs rest body p (s.literal q {ps = ps} {qs = qs} {body = b} {cs = ds} {p = x} is mark opens closes) =
    let same : (ps ++ qs ++ ds) ++ rest ≡ ps ++ ((qs ++ ds) ++ rest) = simp append_assoc in
    subst (λ xs. Reached (length rest) xs (read_of xs)) (sym same)
    (reached_quoted q x ps qs b ds rest is mark opens closes)

-- ---- whatever front is spelled

pub front_reached : (cs rest : List Character) (kind : TokenKind) → Spells cs kind →
    Reached (length rest) (cs ++ rest) (read_of (cs ++ rest))
front_reached cs rest kind (s.keyword n h) =
    reached_keyword cs rest (of_every is_name_word keywords (map byte_of cs) n keyword_words h)
front_reached cs rest kind (s.name c ds first each none) = reached_word c ds rest first each
front_reached cs rest kind (s.operator n h) = reached_operator cs rest n h
front_reached cs rest kind (s.int {n = n} whole small) =
    reached_number (length rest) (cs ++ rest) (whole_starts n cs rest whole) (whole_within _ n cs rest whole)
front_reached cs rest kind (s.long {cs = ds} {n = n} l whole e) =
    reached_number (length rest) ((ds ++ l ∷ []) ++ rest)
    (subst (λ xs. starts_number xs ≡ true) (sym (append_assoc ds (l ∷ []) rest))
    (whole_starts n ds (l ∷ rest) whole)) (long_within _ n l ds rest whole e)
front_reached cs rest kind (s.float f) =
    reached_number (length rest) (cs ++ rest) (float_starts cs rest f)
    (found_within (length rest) _ (float_found _ cs rest f))
front_reached cs rest kind (s.imaginary {cs = ds} j f e) =
    reached_number (length rest) ((ds ++ j ∷ []) ++ rest)
    (subst (λ xs. starts_number xs ≡ true) (sym (append_assoc ds (j ∷ []) rest))
    (float_starts ds (j ∷ rest) f)) (found_within (length rest) _ (imaginary_found _ j ds rest f e))
front_reached cs rest kind (s.imaginary_whole d ds j each e) =
    reached_number (length rest) (((d ∷ ds) ++ j ∷ []) ++ rest)
    (ap (λ b. b || (d.byte == 46 && next_is ten ((ds ++ j ∷ []) ++ rest))) each.0)
    (found_within (length rest) _ (imaginary_whole_found _ d ds j rest each e))
front_reached cs rest kind (s.string {body = body} {p = p} l raw e) = reached_literal cs rest body p l
front_reached cs rest kind (s.unicode_string {body = body} {p = p} l e) = reached_literal cs rest body p l

-- ---- what is read is spelled

operator_spelled : (line : ℕ) (cs : List Character) (o : Option (ℕ × ℕ)) → IsFound operators cs o →
    Spelled cs (operator_read line cs o)
operator_spelled line cs None h = tt
operator_spelled line cs (Some o) h =
    let word : map byte_of (take o.1 cs) ≡ h.0 = ap (λ n. map byte_of (take n cs)) h.2 ∙ begins_is h.0 cs h.3 in
    (take o.1 cs, sym (take-append-drop o.1 cs), s.operator o.0 (subst (λ w. Lists operators w o.0) (sym word) h.1))

pub read_spelled : (c : Character) (cs : List Character) → Spelled (c ∷ cs) (read_of (c ∷ cs))
read_spelled c cs =
    let all = c ∷ cs in
    read_cases (Spelled all) (next_is NameStart all) _ _ (λ e. name_spelled c.line c cs e)
    (λ e. read_cases (Spelled all) (next_is Quote all) _ _
    (λ f. string_spelled c.line [] all (prefix false false) s.none f)
    (λ f. read_cases (Spelled all) (starts_number all) _ _ (λ g. number_spelled c.line all g)
    (λ g. operator_spelled c.line all (operator_at operators all) (is_found operators all))))
