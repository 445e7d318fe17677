-- No part of a text is left out: each word takes a character.
use Rattle.std.proofs.Common.{◌≡◌, ℕ, zero, suc, ◌+◌, ◌<◌, ◌≤◌, Bool, true, false, cond, ◌==◌, nat_lt, ◌&&◌, ◌||◌, if◌then◌else◌, List, [], ◌∷◌, length, map, take, drop, Option, Some, None, Ok, Err, refl, sym, ap, ◌∙◌, subst, length-append, length-drop, arith}
use Rattle.std.proofs.lemmas.Bool.{eqb-false, ltb-true}
use Rattle.std.proofs.lemmas.List.{take-append-drop}
use Rattle.std.specs.Char.{digit_value}
use Rattle.std.specs.Str.Parse.{digits_value}
use Rattle.py_text.specs.Escape.{unescaped}
use Rattle.py_tokens.specs.declared.character.Character.{Character}
use Rattle.py_tokens.specs.declared.class.Base.{Base}
use Rattle.py_tokens.specs.declared.class.Base.TheVariants.{Two, Eight, Ten, Sixteen}
use Rattle.py_tokens.specs.declared.class.Class.{Class}
use Rattle.py_tokens.specs.declared.class.Class.TheVariants as class
use Rattle.py_tokens.specs.declared.literal.Prefix.{Prefix}
use Rattle.py_tokens.specs.declared.literal.Quoting.{Quoting}
use Rattle.py_tokens.specs.Characters.{byte_of}
use Rattle.py_tokens.specs.Classes.{base_of, holds, next_is, run_len, run, after}
use Rattle.py_tokens.specs.Numbers.{Read, ten, suffixed, prefixed, after_point, after_exponent, float, whole, unprefixed, number_at}
use Rattle.py_tokens.specs.Strings.{prefix, prefix_of, quotes, quotes_len, quotes_at, body_len, escape_fault, text_of, literal, string_at}
use Rattle.py_tokens.specs.Names.{named, name_at, begins, operator_at}
use Rattle.py_tokens.specs.Tables.{operators}
use Rattle.py_tokens.specs.Words.{Piece, token_word, operator_word, word_at, with_word, cut_more, cut, IsWhole}

-- ---- lengths

drop_le : (n : ℕ) (cs : List Character) → length (drop n cs) ≤ length cs
drop_le n cs = omega (arith, length-drop n cs)

-- what comes after a character that was tested
next_shorter : (k : Class) (cs : List Character) → next_is k cs ≡ true → length (drop 1 cs) < length cs
next_shorter k [] e = absurd (cc)
next_shorter k (c ∷ cs) e = omega arith

split_length : (n : ℕ) (cs : List Character) → length (take n cs) + length (drop n cs) ≡ length cs
split_length n cs = sym (length-append (take n cs) (drop n cs)) ∙ ap length (take-append-drop n cs)

-- ---- what is read at the front

-- fewer characters than this are left
abbrev Below : ℕ → Read → Type 0
Below n (Ok p) = length p.1 < n
Below n (Err e) = Unit {0}

below_if : (b : Bool) (n : ℕ) (r s : Read) → (b ≡ true → Below n r) → (b ≡ false → Below n s) →
    Below n (if b then r else s)
below_if true n r s p q = p refl
below_if false n r s p q = q refl

below_suffixed : (n line : ℕ) (base : Base) (digits rest : List Character) → length rest < n →
    Below n (suffixed line base digits rest)
below_suffixed n line base digits rest h =
    let one = drop_le 1 rest in
    below_if (next_is (class.Letter 108) rest) n _ _ (λ e. omega arith)
    (λ e. below_if (nat_lt (digits_value (base_of base) (map byte_of digits)) 9223372036854775808) n _ _ (λ f. h)
    (λ f. tt))

below_prefixed : (n line : ℕ) (base : Base) (cs : List Character) → length cs < n → Below n (prefixed line base cs)
below_prefixed n line base cs h =
    let rest = drop_le (run_len (class.Digit base) cs) cs in
    below_if (next_is (class.Digit base) cs) n _ _
    (λ e. below_suffixed n line base (run (class.Digit base) cs) (after (class.Digit base) cs) (omega arith))
    (λ e. tt)

float_cases : (b : Bool) (n : ℕ) (cs : List Character) → length cs < n → length (if b then drop 1 cs else cs) < n
float_cases true n cs h = let one = drop_le 1 cs in omega arith
float_cases false n cs h = h

below_float : (n : ℕ) (cs : List Character) → length cs < n → Below n (float cs)
below_float n cs h = float_cases (next_is (class.Letter 106) cs) n cs h

below_imaginary : (n : ℕ) (cs : List Character) → length cs ≤ n → next_is (class.Letter 106) cs ≡ true →
    Below n (float cs)
below_imaginary n cs h e =
    let one = next_shorter (class.Letter 106) cs e in
    let small : length (drop 1 cs) < n = omega arith in
    subst (λ b. length (if b then drop 1 cs else cs) < n) (sym e) small

below_whole : (n line : ℕ) (digits rest : List Character) → length digits + length rest ≡ n →
    Below n (whole line digits rest)
below_whole n line digits rest h =
    below_if (length digits == 0) n _ _ (λ e. tt) (λ e.
    let some : length digits ≡ 0 → ⊥ = eqb-false (length digits) 0 e in
    let left : length rest < n = omega arith in
    below_if (next_is (class.Byte 48) digits && nat_lt 1 (length digits)) n _ _
    (λ f. below_if (run_len (class.Digit Eight) digits == length digits) n _ _
    (λ g. below_suffixed n line Eight digits rest left) (λ g. tt))
    (λ f. below_suffixed n line Ten digits rest left))

below_unprefixed : (line : ℕ) (cs : List Character) → Below (length cs) (unprefixed line cs)
below_unprefixed line cs =
    let n = length cs in
    let rest = after ten cs in
    let more = after_exponent (after_point rest) in
    let split = split_length (run_len ten cs) cs in
    let fewer = drop_le (run_len ten cs) cs in
    below_if (nat_lt (length more) (length rest)) n _ _
    (λ e. let less = ltb-true (length more) (length rest) e in below_float n more (omega arith))
    (λ e. below_if (next_is (class.Letter 106) rest) n _ _ (λ f. below_imaginary n rest fewer f)
    (λ f. below_whole n line (run ten cs) rest split))

below_number : (line : ℕ) (cs : List Character) → Below (length cs) (number_at line cs)
unfolding number_at
below_number line cs =
    let n = length cs in
    let one = drop 1 cs in
    let fewer = drop_le 1 cs in
    below_if (next_is (class.Byte 48) cs) n _ _
    (λ e. below_if (next_is (class.Letter 120) one) n _ _ (λ f. let h = next_shorter (class.Letter 120) one f in
    below_prefixed n line Sixteen (drop 1 one) (omega arith))
    (λ f. below_if (next_is (class.Letter 98) one) n _ _ (λ g. let h = next_shorter (class.Letter 98) one g in
    below_prefixed n line Two (drop 1 one) (omega arith))
    (λ g. below_if (next_is (class.Letter 111) one) n _ _ (λ i. let h = next_shorter (class.Letter 111) one i in
    below_prefixed n line Eight (drop 1 one) (omega arith))
    (λ i. below_unprefixed line cs))))
    (λ e. below_unprefixed line cs)

below_text : (n line : ℕ) (o : Option (List ℕ)) (rest : List Character) → length rest < n →
    Below n (text_of line o rest)
below_text n line (Some bs) rest h = h
below_text n line None rest h = tt

below_literal : (n line : ℕ) (p : Prefix) (q : Quoting) (body rest : List Character) (fault : Option ℕ) →
    length rest < n → Below n (literal line p q body rest fault)
below_literal n line p q body rest (Some bad) h = tt
below_literal n line p q body rest None h =
    let fewer = drop_le (quotes_len q) rest in
    let left : length (drop (quotes_len q) rest) < n = omega arith in
    below_if (quotes q rest) n _ _ (λ e.
    below_if p.unicode n _ _ (λ f. left)
    (λ f. below_text n line (unescaped p.raw (map byte_of body)) (drop (quotes_len q) rest) left)) (λ e. tt)

below_string : (n line : ℕ) (p : Prefix) (cs : List Character) → length (drop (quotes_len (quotes_at cs)) cs) < n →
    Below n (string_at line p cs)
unfolding string_at
below_string n line p cs h =
    let q = quotes_at cs in
    let inner = drop (quotes_len q) cs in
    let len = body_len q false inner in
    let fewer = drop_le len inner in
    below_literal n line p q (take len inner) (drop len inner) (escape_fault p (take len inner)) (omega arith)

some_quotes : (q : Quoting) → 1 ≤ quotes_len q
some_quotes q = go q.triple
  where
    go : (b : Bool) → 1 ≤ (if b then 3 else 1)
    go true = omega arith
    go false = omega arith

below_named : (n line : ℕ) (name rest : List Character) (o : Option Prefix) → length rest < n →
    Below n (named line name rest o)
below_named n line name rest (Some p) h = let fewer = drop_le (quotes_len (quotes_at rest)) rest in
    below_string n line p rest (omega arith)
below_named n line name rest None h = h

some_name : (c : Character) (cs : List Character) → holds class.NameStart c.byte ≡ true →
    length (after class.Name (c ∷ cs)) < length (c ∷ cs)
some_name c cs e =
    let n = run_len class.Name cs in
    let one : run_len class.Name (c ∷ cs) ≡ 1 + n = ap (λ b. cond (b || nat_lt (digit_value c.byte) 10) (1 + n) 0) e in
    let left = length-drop (run_len class.Name (c ∷ cs)) (c ∷ cs) in
    omega arith

below_name : (line : ℕ) (c : Character) (cs : List Character) → holds class.NameStart c.byte ≡ true →
    Below (length (c ∷ cs)) (name_at line (c ∷ cs))
unfolding name_at
below_name line c cs e =
    let all = c ∷ cs in
    let rest = after class.Name all in
    below_named (length all) line (run class.Name all) rest
    (if next_is class.Quote rest then prefix_of (run class.Name all) else None) (some_name c cs e)

-- ---- words

abbrev PieceBelow : ℕ → Piece → Type 0
PieceBelow n (Ok p) = length p.1 < n
PieceBelow n (Err e) = Unit {0}

piece_if : (b : Bool) (n : ℕ) (r s : Piece) → (b ≡ true → PieceBelow n r) → (b ≡ false → PieceBelow n s) →
    PieceBelow n (if b then r else s)
piece_if true n r s p q = p refl
piece_if false n r s p q = q refl

below_token : (n size : ℕ) (c : Character) (r : Read) → Below n r → PieceBelow n (token_word size c r)
below_token n size c (Ok r) h = h
below_token n size c (Err e) h = h

-- each operator has a byte
abbrev TakesSome : Option (ℕ × ℕ) → Type 0
TakesSome None = Unit {0}
TakesSome (Some o) = 1 ≤ o.1

abbrev all_some : List (List ℕ × ℕ) → Bool
all_some [] = true
all_some (o ∷ os) = nat_lt 0 (length o.0) && all_some os

some_operator : (table : List (List ℕ × ℕ)) (cs : List Character) → all_some table ≡ true →
    TakesSome (operator_at table cs)
some_operator [] cs e = tt
some_operator (o ∷ os) cs e = go (begins o.0 cs) (nat_lt 0 (length o.0)) refl e (some_operator os cs)
  where
    go : (b p : Bool) → nat_lt 0 (length o.0) ≡ p → (p && all_some os) ≡ true →
        (all_some os ≡ true → TakesSome (operator_at os cs)) →
        TakesSome (if b then Some (o.1, length o.0) else operator_at os cs)
    go true true f h more = let some = ltb-true 0 (length o.0) f in omega arith
    go false true f h more = more h
    go b false f h more = absurd (cc)

below_operator : (size : ℕ) (c d : Character) (cs : List Character) (o : Option (ℕ × ℕ)) → TakesSome o →
    PieceBelow (length (d ∷ cs)) (operator_word size c (d ∷ cs) o)
below_operator size c d cs None h = tt
below_operator size c d cs (Some o) h = omega (arith, length-drop o.1 (d ∷ cs))

word_below : (size : ℕ) (c : Character) (cs : List Character) → PieceBelow (length (c ∷ cs)) (word_at size (c ∷ cs))
unfolding word_at
word_below size c cs =
    let all = c ∷ cs in
    let n = length all in
    let line = drop_le (run_len class.InLine cs) cs in
    let one = drop_le 1 cs in
    let none = prefix false false in
    let q = quotes_at all in
    piece_if (c.byte == 10) n _ _ (λ e. omega arith)
    (λ e. piece_if (holds class.Blank c.byte) n _ _ (λ e. omega arith)
    (λ e. piece_if (c.byte == 35) n _ _ (λ e. omega arith)
    (λ e. piece_if (c.byte == 92) n _ _ (λ e. piece_if (next_is (class.Byte 10) cs) n _ _ (λ e. omega arith) (λ e. tt))
    (λ e. piece_if (holds class.NameStart c.byte) n _ _
    (λ e. below_token n size c (name_at c.line all) (below_name c.line c cs e))
    (λ e. piece_if (holds class.Quote c.byte) n _ _
    (λ e. below_token n size c (string_at c.line none all)
    (below_string n c.line none all (omega (arith, length-drop (quotes_len q) all, some_quotes q))))
    (λ e. piece_if (holds ten c.byte || (c.byte == 46 && next_is ten cs)) n _ _
    (λ e. below_token n size c (number_at c.line all) (below_number c.line all))
    (λ e. below_operator size c c cs (operator_at operators all) (some_operator operators all refl))))))))

-- ---- the cut

cut_enough : (n m size : ℕ) (cs : List Character) → length cs ≤ n → length cs ≤ m → cut n size cs ≡ cut m size cs
unfolding cut
cut_enough zero zero size [] h k = refl
cut_enough zero (suc m) size [] h k = refl
cut_enough (suc n) zero size [] h k = refl
cut_enough (suc n) (suc m) size [] h k = refl
cut_enough zero m size (c ∷ cs) h k = absurd (omega arith)
cut_enough (suc n) zero size (c ∷ cs) h k = absurd (omega arith)
cut_enough (suc n) (suc m) size (c ∷ cs) h k =
    go (word_at size (c ∷ cs)) (word_below size c cs) (λ rest p q. cut_enough n m size rest p q)
  where
    go : (r : Piece) → PieceBelow (length (c ∷ cs)) r →
        ((rest : List Character) → length rest ≤ n → length rest ≤ m → cut n size rest ≡ cut m size rest) →
        cut_more c (cut n size) r ≡ cut_more c (cut m size) r
    go (Ok w) below more = ap (with_word w.0) (more w.1 (omega arith) (omega arith))
    go (Err e) below more = refl

pub cut_whole : (size : ℕ) (cs : List Character) → IsWhole size cs
cut_whole size cs n = cut_enough (length cs + n) (length cs) size cs (omega arith) (omega arith)
