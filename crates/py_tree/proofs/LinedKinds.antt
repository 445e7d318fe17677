-- What is read at the front of a text is a token as texts have them, and what follows it stands on lines that don't
-- fall.
use Rattle.std.proofs.Common.{◌≡◌, ℕ, zero, suc, ◌+◌, ◌%◌, ◌<◌, ◌≤◌, Bool, true, false, ◌==◌, nat_lt, ◌&&◌, ◌||◌, if◌then◌else◌, List, [], ◌∷◌, ◌++◌, length, map, take, drop, option_map, Option, Some, None, Ok, Err, refl, sym, ap, subst, eq-eqb, cond, arith}
use Rattle.std.specs.Char.{digit_value}
use Rattle.std.specs.List.{All, list_all}
use Rattle.std.specs.Str.{bytes_eq}
use Rattle.std.specs.Str.Parse.{digits_value}
use Rattle.std.proofs.lemmas.Bool.{ltb-true, and_from}
use Rattle.std.proofs.lemmas.List.Elements.{All-nil, All-cons, All-head, All-tail, All-append}
use Rattle.py_text.specs.Escape.{line_ends, sign, is_octal, is_hex, octal_digits, hex, signed, escape_at, written, then_spelled, spelled, unescaped}
use Rattle.py_text.specs.declared.literal.Escape.{Escape}
use Rattle.py_tokens.specs.declared.character.Character.{Character}
use Rattle.py_tokens.specs.declared.class.Base.{Base}
use Rattle.py_tokens.specs.declared.class.Base.TheVariants.{Two, Eight, Ten, Sixteen}
use Rattle.py_tokens.specs.declared.class.Class.TheVariants as class
use Rattle.py_tokens.specs.declared.literal.Prefix.{Prefix}
use Rattle.py_tokens.specs.declared.literal.Quoting.{Quoting}
use Rattle.py_tokens.specs.Characters.{byte_of, line_after}
use Rattle.py_tokens.specs.Classes.{base_of, holds, next_is, run_len, run, after}
use Rattle.py_tokens.specs.Numbers.{Read, ten, int_of, suffixed, prefixed, after_point, after_exponent, float, whole, unprefixed, number_at}
use Rattle.py_tokens.specs.Strings.{prefix_of, quotes, quotes_len, quotes_at, body_len, escape_fault, text_of, literal, string_at}
use Rattle.py_tokens.specs.Names.{word_number, name_kind, named, name_at, operator_at, begins}
use Rattle.py_tokens.specs.Tables.{keywords}
use Rattle.py_tokens.proofs.InOrder.{IsInLine}
use Rattle.py_tree.specs.inner.Laid.{is_name, has_number}
use Rattle.py_tree.proofs.Lined.{IsKept}

abbrev pub Bytes : List ℕ → Type 0
Bytes bs = All (λ b. b < 256) bs

or_first : (p q : Bool) → p ≡ true → (p || q) ≡ true
or_first true q e = refl
or_first false q e = absurd (cc)

or_second : (p q : Bool) → q ≡ true → (p || q) ≡ true
or_second true q e = refl
or_second false q e = e

-- ---- characters

pub line_after_more : (byte line : ℕ) → line ≤ line_after byte line
line_after_more byte line = go (byte == 10)
  where
    go : (p : Bool) → line ≤ (if p then line + 1 else line)
    go true = omega arith
    go false = omega arith

-- Characters on lines that don't fall and rise after a line end, up to the last one: the first from line a on, and the
-- last line not before b.
abbrev pub Chars : ℕ → ℕ → ℕ → List Character → Type 0
Chars last a b [] = b ≤ last
Chars last a b (c ∷ cs) = (a ≤ c.line) × (b ≤ c.line) × (c.byte < 256) × Chars last (line_after c.byte c.line) c.line cs

pub chars_le : (last a b c d : ℕ) (cs : List Character) → c ≤ a → d ≤ b → Chars last a b cs → Chars last c d cs
chars_le last a b c d [] h g p = let q : b ≤ last = p in omega arith
chars_le last a b c d (x ∷ cs) h g p = let q : a ≤ x.line = p.0 in let r : b ≤ x.line = p.1 in
    (omega arith, omega arith, p.2, p.3)

pub chars_drop : (last a b n : ℕ) (cs : List Character) → Chars last a b cs → Chars last a b (drop n cs)
chars_drop last a b zero [] p = p
chars_drop last a b (suc n) [] p = p
chars_drop last a b zero (c ∷ cs) p = p
chars_drop last a b (suc n) (c ∷ cs) p =
    let q : a ≤ c.line = p.0 in
    let r : b ≤ c.line = p.1 in
    let s : c.line ≤ line_after c.byte c.line = line_after_more c.byte c.line in
    let g : a ≤ line_after c.byte c.line = omega arith in
    chars_le last (line_after c.byte c.line) c.line a b (drop n cs) g r
    (chars_drop last (line_after c.byte c.line) c.line n cs p.3)

pub chars_end : (last a b : ℕ) (cs : List Character) → Chars last a b cs → b ≤ last
chars_end last a b [] p = p
chars_end last a b (c ∷ cs) p =
    let r : b ≤ c.line = p.1 in
    let s : c.line ≤ last = chars_end last (line_after c.byte c.line) c.line cs p.3 in
    omega arith

bytes_take : (last a b n : ℕ) (cs : List Character) → Chars last a b cs → Bytes (map byte_of (take n cs))
bytes_take last a b zero [] p = All-nil (λ x. x < 256)
bytes_take last a b (suc n) [] p = All-nil (λ x. x < 256)
bytes_take last a b zero (c ∷ cs) p = All-nil (λ x. x < 256)
bytes_take last a b (suc n) (c ∷ cs) p = All-cons (λ x. x < 256) c.byte (map byte_of (take n cs)) p.2
    (bytes_take last (line_after c.byte c.line) c.line n cs p.3)

-- ---- bytes of strings

abbrev MaybeByte : Option ℕ → Type 0
MaybeByte None = Unit {0}
MaybeByte (Some b) = b < 256

abbrev MaybeBytes : Option (List ℕ) → Type 0
MaybeBytes None = Unit {0}
MaybeBytes (Some bs) = Bytes bs

abbrev EscapeByte : Option Escape → Type 0
EscapeByte None = Unit {0}
EscapeByte (Some e) = MaybeByte e.byte

byte_if : (p : Bool) (r s : Option ℕ) → MaybeByte r → MaybeByte s → MaybeByte (if p then r else s)
byte_if true r s h g = h
byte_if false r s h g = g

escape_if : (p : Bool) (r s : Option Escape) → (p ≡ true → EscapeByte r) → EscapeByte s →
    EscapeByte (if p then r else s)
escape_if true r s h g = h refl
escape_if false r s h g = g

sign_byte : (b : ℕ) → b < 256 → MaybeByte (sign b)
sign_byte b h =
    byte_if (b == 92 || (b == 39 || b == 34)) _ _ h
    (byte_if (b == 97) _ _ (omega arith)
    (byte_if (b == 98) _ _ (omega arith) (byte_if (b == 102) _ _ (omega arith) (byte_if (b == 110) _ _ (omega arith)
    (byte_if (b == 114) _ _ (omega arith)
    (byte_if (b == 116) _ _ (omega arith) (byte_if (b == 118) _ _ (omega arith) tt)))))))

signed_byte : (o : Option ℕ) → MaybeByte o → MaybeByte (signed o).byte
signed_byte None h = omega arith
signed_byte (Some b) h = h

and_both : (p q : Bool) → (p && q) ≡ true → (p ≡ true) × (q ≡ true)
and_both true true e = (refl, refl)
and_both true false e = absurd (cc)
and_both false q e = absurd (cc)

hex_byte : (bs : List ℕ) → EscapeByte (hex bs)
hex_byte [] = tt
hex_byte (a ∷ []) = tt
hex_byte (a ∷ b ∷ bs) =
    escape_if (is_hex a && is_hex b) _ _
    (λ e. let two = and_both (is_hex a) (is_hex b) e in
    let x : digit_value a < 16 = ltb-true (digit_value a) 16 two.0 in
    let y : digit_value b < 16 = ltb-true (digit_value b) 16 two.1 in
    omega arith) tt

rest_byte : (n : ℕ) → n % 256 < 256
rest_byte n = omega arith

escape_byte : (bs : List ℕ) → Bytes bs → EscapeByte (escape_at bs)
escape_byte [] h = tt
escape_byte (b ∷ bs) h =
    escape_if (b == 10) _ _ (λ e. tt)
    (escape_if (b == 120) _ _ (λ e. hex_byte bs)
    (escape_if (is_octal b) _ _ (λ e. rest_byte (digits_value 8 (octal_digits (b ∷ bs))))
    (signed_byte (sign b) (sign_byte b (All-head (λ x. x < 256) b bs h)))))

written_bytes : (o : Option ℕ) → MaybeByte o → Bytes (written o)
written_bytes None h = All-nil (λ x. x < 256)
written_bytes (Some b) h = All-cons (λ x. x < 256) b [] h (All-nil (λ x. x < 256))

front_bytes : (xs : List ℕ) (o : Option (List ℕ)) → Bytes xs → MaybeBytes o → MaybeBytes (option_map (λ t. xs ++ t) o)
front_bytes xs None h g = tt
front_bytes xs (Some ys) h g = All-append (λ x. x < 256) xs ys h g

cons_bytes : (x : ℕ) (o : Option (List ℕ)) → x < 256 → MaybeBytes o → MaybeBytes (option_map (λ t. x ∷ t) o)
cons_bytes x None h g = tt
cons_bytes x (Some ys) h g = All-cons (λ x. x < 256) x ys h g

then_bytes : (o : Option Escape) (rest : ℕ → Option (List ℕ)) → EscapeByte o → ((n : ℕ) → MaybeBytes (rest n)) →
    MaybeBytes (then_spelled o rest)
then_bytes None rest h g = tt
then_bytes (Some e) rest h g = front_bytes (written e.byte) (rest e.size) (written_bytes e.byte h) (g e.size)

bytes_if : (p : Bool) (r s : Option (List ℕ)) → MaybeBytes r → MaybeBytes s → MaybeBytes (if p then r else s)
bytes_if true r s h g = h
bytes_if false r s h g = g

spelled_bytes : (n : ℕ) (bs : List ℕ) → Bytes bs → MaybeBytes (spelled n bs)
spelled_bytes zero [] h = All-nil (λ x. x < 256)
spelled_bytes (suc n) [] h = All-nil (λ x. x < 256)
spelled_bytes (suc n) (b ∷ bs) h = spelled_bytes n bs (All-tail (λ x. x < 256) b bs h)
spelled_bytes zero (b ∷ bs) h =
    let t = All-tail (λ x. x < 256) b bs h in
    bytes_if (b == 92) _ _ (then_bytes (escape_at bs) (λ n. spelled n bs) (escape_byte bs t)
    (λ n. spelled_bytes n bs t)) (cons_bytes b (spelled 0 bs) (All-head (λ x. x < 256) b bs h)
    (spelled_bytes 0 bs t))

list_if : (p : Bool) (xs ys : List ℕ) → Bytes xs → Bytes ys → Bytes (if p then xs else ys)
list_if true xs ys h g = h
list_if false xs ys h g = g

byte_or : (p : Bool) (b : ℕ) → b < 256 → (if p then 10 else b) < 256
byte_or true b h = omega arith
byte_or false b h = h

line_ends_bytes : (bs : List ℕ) → Bytes bs → Bytes (line_ends bs)
line_ends_bytes [] h = h
line_ends_bytes (b ∷ []) h = All-cons (λ x. x < 256) (if b == 13 then 10 else b) []
    (byte_or (b == 13) b (All-head (λ x. x < 256) b [] h)) (All-nil (λ x. x < 256))
line_ends_bytes (b ∷ c ∷ bs) h =
    let t = All-tail (λ x. x < 256) b (c ∷ bs) h in
    let u = All-tail (λ x. x < 256) c bs t in
    let small : 10 < 256 = omega arith in
    list_if (b == 13) _ _
    (list_if (c == 10) _ _ (All-cons (λ x. x < 256) 10 (line_ends bs) small (line_ends_bytes bs u))
    (All-cons (λ x. x < 256) 10 (line_ends (c ∷ bs)) small (line_ends_bytes (c ∷ bs) t)))
    (All-cons (λ x. x < 256) b (line_ends (c ∷ bs)) (All-head (λ x. x < 256) b (c ∷ bs) h) (line_ends_bytes (c ∷ bs) t))

unescaped_bytes : (raw : Bool) (bs : List ℕ) → Bytes bs → MaybeBytes (unescaped raw bs)
unescaped_bytes raw bs h = bytes_if raw _ _ (line_ends_bytes bs h)
    (spelled_bytes 0 (line_ends bs) (line_ends_bytes bs h))

-- ---- what is read at the front

-- what was read is a token of a line as texts have it, and what follows stands on lines
abbrev pub ReadGood : ℕ → ℕ → ℕ → Read → Type 0
ReadGood last a b (Ok p) = IsInLine p.0 × IsKept p.0 × Chars last a b p.1
ReadGood last a b (Err e) = Unit {0}

read_if : (p : Bool) (last a b : ℕ) (r s : Read) → ReadGood last a b r → ReadGood last a b s →
    ReadGood last a b (if p then r else s)
read_if true last a b r s h g = h
read_if false last a b r s h g = g

chars_if : (p : Bool) (last a b : ℕ) (xs ys : List Character) → Chars last a b xs → Chars last a b ys →
    Chars last a b (if p then xs else ys)
chars_if true last a b xs ys h g = h
chars_if false last a b xs ys h g = g

read_when : (p : Bool) (last a b : ℕ) (r s : Read) → (p ≡ true → ReadGood last a b r) → ReadGood last a b s →
    ReadGood last a b (if p then r else s)
read_when true last a b r s h g = h refl
read_when false last a b r s h g = g

module _ (last a b : ℕ) where
  good_int : (line v : ℕ) (rest : List Character) → Chars last a b rest → ReadGood last a b (int_of line v rest)
  good_int line v rest h = read_when (nat_lt v 9223372036854775808) last a b _ _
      (λ e. (tt, (v, refl, ltb-true v 9223372036854775808 e), h)) tt

  good_suffixed : (line : ℕ) (base : Base) (digits rest : List Character) → Chars last a b rest →
      ReadGood last a b (suffixed line base digits rest)
  good_suffixed line base digits rest h =
      read_if (next_is (class.Letter 108) rest) last a b _ _ (tt, tt, chars_drop last a b 1 rest h)
      (good_int line (digits_value (base_of base) (map byte_of digits)) rest h)

  good_prefixed : (line : ℕ) (base : Base) (cs : List Character) → Chars last a b cs →
      ReadGood last a b (prefixed line base cs)
  good_prefixed line base cs h =
      read_if (next_is (class.Digit base) cs) last a b _ _
      (good_suffixed line base (run (class.Digit base) cs) (after (class.Digit base) cs)
      (chars_drop last a b (run_len (class.Digit base) cs) cs h)) tt

  good_float : (cs : List Character) → Chars last a b cs → ReadGood last a b (float cs)
  good_float cs h = (
    tt,
    tt,
    chars_if (next_is (class.Letter 106) cs) last a b (drop 1 cs) cs
        (chars_drop last a b 1 cs h) h,
  )

  chars_after : (cs : List Character) → Chars last a b cs → Chars last a b (after ten cs)
  chars_after cs h = chars_drop last a b (run_len ten cs) cs h

  chars_point : (cs : List Character) → Chars last a b cs → Chars last a b (after_point cs)
  chars_point cs h = chars_if (next_is (class.Byte 46) cs) last a b _ _
      (chars_after (drop 1 cs) (chars_drop last a b 1 cs h)) h

  chars_exponent : (cs : List Character) → Chars last a b cs → Chars last a b (after_exponent cs)
  chars_exponent cs h =
      let one = chars_drop last a b 1 cs h in
      let two = chars_drop last a b 1 (drop 1 cs) one in
      chars_if (next_is (class.Letter 101) cs) last a b _ _
      (chars_if (next_is ten (drop 1 cs)) last a b _ _ (chars_after (drop 1 cs) one)
      (chars_if (next_is class.Sign (drop 1 cs) && next_is ten (drop 1 (drop 1 cs))) last a b _ _
      (chars_after (drop 1 (drop 1 cs)) two) h))
      h

  good_whole : (line : ℕ) (digits rest : List Character) → Chars last a b rest →
      ReadGood last a b (whole line digits rest)
  good_whole line digits rest h =
      read_if (length digits == 0) last a b _ _ tt
      (read_if (next_is (class.Byte 48) digits && nat_lt 1 (length digits)) last a b _ _
      (read_if (run_len (class.Digit Eight) digits == length digits) last a b _ _
      (good_suffixed line Eight digits rest h) tt)
      (good_suffixed line Ten digits rest h))

  good_unprefixed : (line : ℕ) (cs : List Character) → Chars last a b cs → ReadGood last a b (unprefixed line cs)
  good_unprefixed line cs h =
      let rest = after ten cs in
      let g = chars_after cs h in
      let more = after_exponent (after_point rest) in
      read_if (nat_lt (length more) (length rest)) last a b _ _
      (good_float more (chars_exponent (after_point rest) (chars_point rest g)))
      (read_if (next_is (class.Letter 106) rest) last a b _ _ (good_float rest g) (good_whole line (run ten cs) rest g))

  pub good_number : (line : ℕ) (cs : List Character) → Chars last a b cs → ReadGood last a b (number_at line cs)
  unfolding number_at
  good_number line cs h =
      let one = drop 1 cs in
      let two = drop 1 one in
      let g = chars_drop last a b 1 one (chars_drop last a b 1 cs h) in
      read_if (next_is (class.Byte 48) cs) last a b _ _
      (read_if (next_is (class.Letter 120) one) last a b _ _ (good_prefixed line Sixteen two g)
      (read_if (next_is (class.Letter 98) one) last a b _ _ (good_prefixed line Two two g)
      (read_if (next_is (class.Letter 111) one) last a b _ _ (good_prefixed line Eight two g)
      (good_unprefixed line cs h))))
      (good_unprefixed line cs h)

  good_text : (line : ℕ) (o : Option (List ℕ)) (rest : List Character) → MaybeBytes o → Chars last a b rest →
      ReadGood last a b (text_of line o rest)
  good_text line (Some bs) rest m h = (tt, m, h)
  good_text line None rest m h = tt

  good_literal : (line : ℕ) (p : Prefix) (q : Quoting) (body rest : List Character) (fault : Option ℕ) →
      Bytes (map byte_of body) → Chars last a b rest → ReadGood last a b (literal line p q body rest fault)
  good_literal line p q body rest (Some bad) m h = tt
  good_literal line p q body rest None m h =
      let inner = drop (quotes_len q) rest in
      let g = chars_drop last a b (quotes_len q) rest h in
      read_if (quotes q rest) last a b _ _
      (read_if p.unicode last a b _ _ (tt, tt, g)
      (good_text line (unescaped p.raw (map byte_of body)) inner (unescaped_bytes p.raw (map byte_of body) m) g)) tt

  pub good_string : (line : ℕ) (p : Prefix) (cs : List Character) → Chars last a b cs →
      ReadGood last a b (string_at line p cs)
  unfolding string_at
  good_string line p cs h =
      let q = quotes_at cs in
      let inner = drop (quotes_len q) cs in
      let g = chars_drop last a b (quotes_len q) cs h in
      let n = body_len q false inner in
      good_literal line p q (take n inner) (drop n inner) (escape_fault p (take n inner))
      (bytes_take last a b n inner g) (chars_drop last a b n inner g)

-- ---- names

number_or : (p : Bool) (w : List ℕ × ℕ) (table : List (List ℕ × ℕ)) (r : Option ℕ) (n : ℕ) →
    (r ≡ Some n → has_number table n ≡ true) → (if p then Some w.1 else r) ≡ Some n → has_number (w ∷ table) n ≡ true
number_or true w table r n f e = let same : w.1 ≡ n = cc in or_first (w.1 == n) (has_number table n) (eq-eqb w.1 n same)
number_or false w table r n f e = or_second (w.1 == n) (has_number table n) (f e)

word_number_has : (table : List (List ℕ × ℕ)) (name : List ℕ) (n : ℕ) → word_number table name ≡ Some n →
    has_number table n ≡ true
word_number_has [] name n e = absurd (cc)
word_number_has (w ∷ ws) name n e = number_or (bytes_eq w.0 name) w ws (word_number ws name) n
    (word_number_has ws name n) e

operator_or : (p : Bool) (w : List ℕ × ℕ) (table : List (List ℕ × ℕ)) (r : Option (ℕ × ℕ)) (o : ℕ × ℕ) →
    (r ≡ Some o → has_number table o.0 ≡ true) → (if p then Some (w.1, length w.0) else r) ≡ Some o →
    has_number (w ∷ table) o.0 ≡ true
operator_or true w table r o f e = let pair : (w.1, length w.0) ≡ o = cc in
    or_first (w.1 == o.0) (has_number table o.0) (eq-eqb w.1 o.0 (ap (λ z. z.0) pair))
operator_or false w table r o f e = or_second (w.1 == o.0) (has_number table o.0) (f e)

pub operator_at_has : (table : List (List ℕ × ℕ)) (cs : List Character) (o : ℕ × ℕ) → operator_at table cs ≡ Some o →
    has_number table o.0 ≡ true
operator_at_has [] cs o e = absurd (cc)
operator_at_has (w ∷ ws) cs o e = operator_or (begins w.0 cs) w ws (operator_at ws cs) o (operator_at_has ws cs o) e

take_if : (p : Bool) (n : ℕ) (c : Character) (cs : List Character) → p ≡ true →
    take (cond p (1 + n) 0) (c ∷ cs) ≡ c ∷ take n cs
take_if true n c cs e = let h : 1 + n ≡ suc n = omega arith in ap (λ m. take m (c ∷ cs)) h
take_if false n c cs e = absurd (cc)

take_none : (p : Bool) (n : ℕ) (c : Character) (cs : List Character) → p ≡ false → take (cond p (1 + n) 0) (c ∷ cs) ≡ []
take_none true n c cs e = absurd (cc)
take_none false n c cs e = refl

-- the run of a name's bytes at the front has only such
abbrev AreName : List Character → Type 0
AreName cs = list_all (holds class.Name) (map byte_of cs) ≡ true

name_all : (cs : List Character) → AreName (run class.Name cs)
name_all [] = refl
name_all (c ∷ cs) = go (holds class.Name c.byte) refl (name_all cs)
  where
    go : (p : Bool) → holds class.Name c.byte ≡ p → AreName (run class.Name cs) → AreName (run class.Name (c ∷ cs))
    go true e more = subst (λ z. list_all (holds class.Name) (map byte_of z) ≡ true)
        (sym (take_if (holds class.Name c.byte) (run_len class.Name cs) c cs e))
        (and_from (holds class.Name c.byte) _ e more)
    go false e more = subst (λ z. list_all (holds class.Name) (map byte_of z) ≡ true)
        (sym (take_none (holds class.Name c.byte) (run_len class.Name cs) c cs e)) refl

name_is : (c : Character) (cs : List Character) → holds class.NameStart c.byte ≡ true →
    is_name (map byte_of (run class.Name (c ∷ cs))) ≡ true
name_is c cs e =
    let more : holds class.Name c.byte ≡ true = or_first (holds class.NameStart c.byte) _ e in
    subst (λ z. is_name (map byte_of z) ≡ true)
    (sym (take_if (holds class.Name c.byte) (run_len class.Name cs) c cs more))
    (and_from (holds class.NameStart c.byte) _ e (name_all cs))

name_in_line : (o : Option ℕ) (name : List ℕ) → IsInLine (name_kind o name)
name_in_line (Some n) name = tt
name_in_line None name = tt

name_kept : (o : Option ℕ) (name : List ℕ) → word_number keywords name ≡ o → is_name name ≡ true →
    IsKept (name_kind o name)
name_kept (Some n) name e h = word_number_has keywords name n e
name_kept None name e h = (h, e)

good_named : (last a b line : ℕ) (name rest : List Character) (o : Option Prefix) → is_name (map byte_of name) ≡ true →
    Chars last a b rest → ReadGood last a b (named line name rest o)
good_named last a b line name rest (Some p) e h = good_string last a b line p rest h
good_named last a b line name rest None e h = (
  name_in_line (word_number keywords (map byte_of name)) (map byte_of name),
  name_kept (word_number keywords (map byte_of name)) (map byte_of name) refl e,
  h,
)

pub good_name : (last a b line : ℕ) (c : Character) (cs : List Character) → holds class.NameStart c.byte ≡ true →
    Chars last a b (c ∷ cs) → ReadGood last a b (name_at line (c ∷ cs))
unfolding name_at
good_name last a b line c cs e h =
    let all = c ∷ cs in
    let rest = after class.Name all in
    good_named last a b line (run class.Name all) rest
    (if next_is class.Quote rest then prefix_of (run class.Name all) else None) (name_is c cs e)
    (chars_drop last a b (run_len class.Name all) all h)
