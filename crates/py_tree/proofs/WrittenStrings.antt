-- A string's text in `repr` is read as that string.
use Rattle.std.proofs.Common.{◌≡◌, ℕ, zero, suc, ◌+◌, ◌-◌, ◌/◌, ◌%◌, ◌<◌, ◌≤◌, Bool, true, false, ◌==◌, ◌&&◌, ◌||◌, nat_lt, ltb, not, if◌then◌else◌, inl, inr, List, [], ◌∷◌, ◌++◌, length, get_or, take, drop, Fits, w8, All, Some, None, Ok, refl, sym, ap, ◌∙◌, subst, append_assoc, arith}
use Rattle.std.proofs.lemmas.Bool.{ne_eqb, eqb-true, eq-eqb, ltb-false, lt-ltb}
use Rattle.std.proofs.lemmas.List.{length-append}
use Rattle.std.proofs.lemmas.Str.{digit_value-digit_char}
use Rattle.std.proofs.Math.Seq.{take-append_seam, drop-append_seam}
use Rattle.std.specs.Char.{digit_value, digit_char}
use Rattle.std.specs.List.{flat_map, list_any}
use Rattle.py_text.specs.Escape.{unescaped}
use Rattle.py_text.specs.Repr.{quote_of, shown, repr_body, repr_of, between_quotes}
use Rattle.py_text.proofs.Quoted.{IsQuote, AllBytes, reads_back}
use Rattle.py_tokens.specs.declared.character.Character.{Character}
use Rattle.py_tokens.specs.declared.class.Class.TheVariants.{Byte, NameStart, Quote}
use Rattle.py_tokens.specs.declared.literal.Prefix.{Prefix}
use Rattle.py_tokens.specs.declared.literal.Quoting.{Quoting}
use Rattle.py_tokens.specs.declared.token.TokenKind.TheVariants as k
use Rattle.py_tokens.specs.Characters.{character}
use Rattle.py_tokens.specs.Classes.{holds, next_is}
use Rattle.py_tokens.specs.Strings.{prefix, quotes, quotes_len, body_len, bad_line, escape_fault, text_of, literal, quoted, string_at}
use Rattle.py_tokens.specs.Words.{token_word}
use Rattle.py_tree.proofs.WrittenRows.{row, ahead, is_quiet, quiet, Spelt, entry}
use Rattle.py_tree.proofs.WrittenFronts.{other, skip, hit, front_string, bytes_row}

-- ---- one byte

-- a byte that is itself in a string of such quotes
abbrev Calm : ℕ → ℕ → Type 0
Calm q b = ((b == q) ≡ false) × ((b == 92) ≡ false) × ((b == 10) ≡ false) × (is_quiet b ≡ true)

quote_apart : (f : ℕ → Bool) (q b : ℕ) → IsQuote q → f b ≡ true → f 39 ≡ false → f 34 ≡ false → (b == q) ≡ false
quote_apart f q b (inl e) h h1 h2 = subst (λ z. (b == z) ≡ false) (sym e) (other f b 39 h h1)
quote_apart f q b (inr e) h h1 h2 = subst (λ z. (b == z) ≡ false) (sym e) (other f b 34 h h2)

quiet_from : (b : ℕ) → (b == 10) ≡ false → (b == 13) ≡ false → (b == 239) ≡ false → is_quiet b ≡ true
quiet_from b e f g = rw (e, f, g) refl

abbrev hexadecimal : ℕ → Bool
hexadecimal b = nat_lt (digit_value b) 16

hex_digit : (d : ℕ) → d < 16 → hexadecimal (digit_char d) ≡ true
hex_digit d h = rw (digit_value-digit_char d (omega arith)) (lt-ltb d 16 h)

calm_digit : (q d : ℕ) → IsQuote q → d < 16 → Calm q (digit_char d)
calm_digit q d iq h =
    let hex = hex_digit d h in
    let c : ℕ = digit_char d in (
      quote_apart hexadecimal q c iq hex refl refl,
      other hexadecimal c 92 hex refl,
      other hexadecimal c 10 hex refl,
      quiet_from c (other hexadecimal c 10 hex refl) (other hexadecimal c 13 hex refl)
          (other hexadecimal c 239 hex refl),
    )

quote_fact : (P : ℕ → Type 0) (q : ℕ) → IsQuote q → P 39 → P 34 → P q
quote_fact P q (inl e) x y = subst P (sym e) x
quote_fact P q (inr e) x y = subst P (sym e) y

-- What a byte is shown as: a backslash and a sign, a backslash with `x` and two hexadecimal digits, or the byte.
module _ (P : List ℕ → Type 0) (q b : ℕ) (iq : IsQuote q) (small : b < 256)
    (escaped : (x : ℕ) → is_quiet x ≡ true → (x == 120) ≡ false → P (92 ∷ x ∷ []))
    (hex : (h l : ℕ) → Calm q h → Calm q l → hexadecimal h ≡ true → hexadecimal l ≡ true → P (92 ∷ 120 ∷ h ∷ l ∷ []))
    (bare : Calm q b → P (b ∷ [])) where
  by_hex : P (92 ∷ 120 ∷ digit_char (b / 16) ∷ digit_char (b % 16) ∷ [])
  by_hex =
      let high : b / 16 < 16 = omega arith in
      let low : b % 16 < 16 = omega arith in
      hex (digit_char (b / 16)) (digit_char (b % 16)) (calm_digit q (b / 16) iq high) (calm_digit q (b % 16) iq low)
      (hex_digit (b / 16) high) (hex_digit (b % 16) low)

  by_cases : (p1 p2 p3 p4 p5 p6 p7 : Bool) → (b == 92) ≡ p1 → (b == q) ≡ p2 → (b == 9) ≡ p3 → (b == 10) ≡ p4 →
      (b == 13) ≡ p5 → ltb b 32 ≡ p6 → ltb 126 b ≡ p7 →
      P (if p1 || p2 then 92 ∷ b ∷ [] else
      (if p3 then 92 ∷ 116 ∷ [] else
      (if p4 then 92 ∷ 110 ∷ [] else
      (if p5 then 92 ∷ 114 ∷ [] else
      (if p6 || p7 then 92 ∷ 120 ∷ digit_char (b / 16) ∷ digit_char (b % 16) ∷ [] else b ∷ [])))))
  by_cases true p2 p3 p4 p5 p6 p7 e1 e2 e3 e4 e5 e6 e7 = let e = sym (eqb-true b 92 e1) in
      escaped b (subst (λ z. is_quiet z ≡ true) e refl) (subst (λ z. (z == 120) ≡ false) e refl)
  by_cases false true p3 p4 p5 p6 p7 e1 e2 e3 e4 e5 e6 e7 =
      let e = sym (eqb-true b q e2) in
      escaped b (subst (λ z. is_quiet z ≡ true) e (quote_fact (λ z. is_quiet z ≡ true) q iq refl refl))
      (subst (λ z. (z == 120) ≡ false) e (quote_fact (λ z. (z == 120) ≡ false) q iq refl refl))
  by_cases false false true p4 p5 p6 p7 e1 e2 e3 e4 e5 e6 e7 = escaped 116 refl refl
  by_cases false false false true p5 p6 p7 e1 e2 e3 e4 e5 e6 e7 = escaped 110 refl refl
  by_cases false false false false true p6 p7 e1 e2 e3 e4 e5 e6 e7 = escaped 114 refl refl
  by_cases false false false false false true p7 e1 e2 e3 e4 e5 e6 e7 = by_hex
  by_cases false false false false false false true e1 e2 e3 e4 e5 e6 e7 = by_hex
  by_cases false false false false false false false e1 e2 e3 e4 e5 e6 e7 =
      let low : b ≤ 126 = ltb-false 126 b e7 in
      bare (e2, e1, e4, quiet_from b e4 e5 (ne_eqb b 239 (λ e. omega arith)))

  shown_cases : P (shown q b)
  shown_cases = by_cases (b == 92) (b == q) (b == 9) (b == 10) (b == 13) (ltb b 32) (ltb 126 b) refl refl refl refl
      refl refl refl

-- ---- bodies

abbrev body : ℕ → List ℕ → List ℕ
body q bs = flat_map (shown q) bs

calm_quiet : (q b : ℕ) (more : List ℕ) → Calm q b → quiet more ≡ true → quiet (b ∷ more) ≡ true
calm_quiet q b more c h = rw c.3 h

quiet_body : (q : ℕ) (bs more : List ℕ) → IsQuote q → AllBytes bs → quiet more ≡ true → quiet (body q bs ++ more) ≡ true
quiet_body q [] more iq h m = m
quiet_body q (b ∷ bs) more iq h m =
    rw append_assoc
    (shown_cases (λ cs. (rest : List ℕ) → quiet rest ≡ true → quiet (cs ++ rest) ≡ true) q b iq h.0
    (λ x e f rest r. rw e r)
    (λ x y c d e f rest r. calm_quiet q x (y ∷ rest) c (calm_quiet q y rest d r))
    (λ c rest r. calm_quiet q b rest c r)
    (body q bs ++ more) (quiet_body q bs more iq h.1 m))

abbrev single : ℕ → Quoting
single q = record { mark = q; triple = false }

len_calm : (q : ℕ) (c : Character) (cs : List Character) → Calm q c.byte →
    body_len (single q) false (c ∷ cs) ≡ suc (body_len (single q) false cs)
len_calm q c cs h = let e = h.0 in let f = h.2 in let g = h.1 in λ i.
    if (e i && true) || f i then 0 else suc (body_len (single q) (g i) cs)

len_escaped : (q at to line : ℕ) (d : Character) (cs : List Character) → IsQuote q →
    body_len (single q) false (character 92 at to line ∷ d ∷ cs) ≡ suc (suc (body_len (single q) false cs))
len_escaped q at to line d cs iq = let e = quote_fact (λ z. (92 == z) ≡ false) q iq refl refl in λ i.
    if (e i && true) || false then 0 else suc (suc (body_len (single q) false cs))

-- a body of this text, before these characters
abbrev HasLength : ℕ → ℕ → List Character → List ℕ → Type 0
HasLength q line tail bs = (at : ℕ) → body_len (single q) false (row at line bs ++ tail) ≡ length (row at line bs)

len_body : (q line : ℕ) (tail : List Character) (bs : List ℕ) → IsQuote q → AllBytes bs →
    body_len (single q) false tail ≡ 0 → HasLength q line tail (body q bs)
len_body q line tail [] iq h z = λ at. z
len_body q line tail (b ∷ bs) iq h z =
    shown_cases (λ cs. (rest : List ℕ) → HasLength q line tail rest → HasLength q line tail (cs ++ rest)) q b iq h.0
    (λ x e f rest r at. len_escaped q at (at + 1) line (character x (at + 1) (at + 1 + 1) line)
    (row (at + 1 + 1) line rest ++ tail) iq ∙ ap (λ n. suc (suc n)) (r (at + 1 + 1)))
    (λ x y c d e f rest r at.
    len_escaped q at (at + 1) line (character 120 (at + 1) (at + 1 + 1) line)
    (row (at + 1 + 1) line (x ∷ y ∷ rest) ++ tail) iq
    ∙ ap (λ n. suc (suc n)) (len_calm q (character x (at + 1 + 1) (at + 1 + 1 + 1) line)
    (row (at + 1 + 1 + 1) line (y ∷ rest) ++ tail) c
    ∙ ap suc (len_calm q (character y (at + 1 + 1 + 1) (at + 1 + 1 + 1 + 1) line)
    (row (at + 1 + 1 + 1 + 1) line rest ++ tail) d ∙ ap suc (r (at + 1 + 1 + 1 + 1)))))
    (λ c rest r at. len_calm q (character b at (at + 1) line) (row (at + 1) line rest ++ tail) c ∙ ap suc (r (at + 1)))
    (body q bs) (len_body q line tail bs iq h.1 z)

bad_calm : (c : Character) (cs : List Character) → (c.byte == 92) ≡ false → bad_line cs ≡ None →
    bad_line (c ∷ cs) ≡ None
bad_calm c [] e h = refl
bad_calm c (d ∷ cs) e h = skip (c.byte == 92) _ _ e ∙ h

abbrev HasNoFault : ℕ → List ℕ → Type 0
HasNoFault line bs = (at : ℕ) → bad_line (row at line bs) ≡ None

no_fault : (q line : ℕ) (bs : List ℕ) → IsQuote q → AllBytes bs → HasNoFault line (body q bs)
no_fault q line [] iq h = λ at. refl
no_fault q line (b ∷ bs) iq h =
    shown_cases (λ cs. (rest : List ℕ) → HasNoFault line rest → HasNoFault line (cs ++ rest)) q b iq h.0
    (λ x e f rest r at. rw f (r (at + 1 + 1)))
    (λ x y c d e f rest r at. rw (e, f) (bad_calm (character x (at + 1 + 1) (at + 1 + 1 + 1) line)
    (row (at + 1 + 1 + 1) line (y ∷ rest)) c.1
    (bad_calm (character y (at + 1 + 1 + 1) (at + 1 + 1 + 1 + 1) line) (row (at + 1 + 1 + 1 + 1) line rest) d.1
    (r (at + 1 + 1 + 1 + 1)))))
    (λ c rest r at. bad_calm (character b at (at + 1) line) (row (at + 1) line rest) c.1 (r (at + 1)))
    (body q bs) (no_fault q line bs iq h.1)

-- a shown byte doesn't begin with the quote
first_shown : (q b : ℕ) → IsQuote q → b < 256 → (at line : ℕ) (rest : List ℕ) (tail : List Character) →
    next_is (Byte q) (row at line (shown q b ++ rest) ++ tail) ≡ false
first_shown q b iq h =
    shown_cases (λ cs. (at line : ℕ) (rest : List ℕ) (tail : List Character) →
    next_is (Byte q) (row at line (cs ++ rest) ++ tail) ≡ false) q b iq h
    (λ x e f at line rest tail. quote_fact (λ z. (92 == z) ≡ false) q iq refl refl)
    (λ x y c d e f at line rest tail. quote_fact (λ z. (92 == z) ≡ false) q iq refl refl)
    (λ c at line rest tail. c.0)

and_false : (p r : Bool) → r ≡ false → (p && r) ≡ false
and_false true r e = e
and_false false r e = refl

not_triple : (q at line from to later : ℕ) (bs : List ℕ) (d : Character) (rest : List Character) → IsQuote q →
    AllBytes bs →
    (next_is (Byte q) (row at line (body q bs) ++ d ∷ character 32 from to later ∷ rest) && next_is (Byte q)
    (drop 1 (row at line (body q bs) ++ d ∷ character 32 from to later ∷ rest))) ≡ false
not_triple q at line from to later [] d rest iq h =
    and_false (d.byte == q) (32 == q) (quote_fact (λ z. (32 == z) ≡ false) q iq refl refl)
not_triple q at line from to later (b ∷ bs) d rest iq h =
    ap (λ z. z && next_is (Byte q) (drop 1 (row at line (body q (b ∷ bs)) ++ d ∷ character 32 from to later ∷ rest)))
    (first_shown q b iq h.0 at line (body q bs) (d ∷ character 32 from to later ∷ rest))

-- ---- what a body stands for

all_bytes : (bs : List ℕ) → All (λ b. b < 256) bs → AllBytes bs
all_bytes [] h = tt
all_bytes (b ∷ bs) h = (h 0 b (omega arith), all_bytes bs (λ i d l. h (suc i) d (omega arith)))

each_fits : (bs : List ℕ) → AllBytes bs → (i : ℕ) → Fits w8 (get_or bs i 0)
each_fits [] h i = omega arith
each_fits (b ∷ bs) h zero = let l : b < 256 = h.0 in omega arith
each_fits (b ∷ bs) h (suc i) = each_fits bs h.1 i

is_quote : (bs : List ℕ) → IsQuote (quote_of bs)
is_quote bs = pick (list_any (λ b. b == 39) bs && not (list_any (λ b. b == 34) bs))
  where
    pick : (p : Bool) → IsQuote (if p then 34 else 39)
    pick true = inr refl
    pick false = inl refl

inside : (q : ℕ) (cs : List ℕ) → between_quotes (q ∷ cs ++ q ∷ []) ≡ cs
inside q cs =
    let n : length (q ∷ cs ++ q ∷ []) - 1 ≡ length (q ∷ cs) = simp length-append (omega arith) in
    ap (λ k. drop 1 (take k (q ∷ cs ++ q ∷ []))) n ∙ ap (drop 1) (take-append_seam (q ∷ cs) (q ∷ []))

meaning : (bs : List ℕ) → AllBytes bs → unescaped false (repr_body bs) ≡ Some bs
meaning bs h = sym (ap (unescaped false) (inside (quote_of bs) (repr_body bs))) ∙
    reads_back {E = ℕ} (Ok (repr_of bs)) bs (each_fits bs h) refl

-- ---- literals

row_append : (at line : ℕ) (xs ys : List ℕ) (more : List Character) →
    row at line (xs ++ ys) ++ more ≡ row at line xs ++ (row (ahead at xs) line ys ++ more)
row_append at line [] ys more = refl
row_append at line (x ∷ xs) ys more = ap (λ z. character x at (at + 1) line ∷ z) (row_append (at + 1) line xs ys more)

abbrev bare : Prefix
bare = prefix false false

closing_row : (line' q at line : ℕ) (bs cs : List ℕ) (d : Character) (rest : List Character) → d.byte ≡ q →
    unescaped false cs ≡ Some bs → bad_line (row at line cs) ≡ None →
    body_len (single q) false (row at line cs ++ d ∷ rest) ≡ length (row at line cs) →
    quoted line' bare (single q) (row at line cs ++ d ∷ rest) ≡ Ok (k.Str bs, rest)
closing_row line' q at line bs cs d rest is means good n =
    let inner : List Character = row at line cs in
    let tail : List Character = d ∷ rest in
    let front = ap (λ z. take z (inner ++ tail)) n ∙ take-append_seam inner tail in
    let behind = ap (λ z. drop z (inner ++ tail)) n ∙ drop-append_seam inner tail in
    (λ i. literal line' bare (single q) (front i) (behind i) (escape_fault bare (front i)))
    ∙ (ap (literal line' bare (single q) inner tail) good
    ∙ (hit (quotes (single q) tail) _ _ (rw (eq-eqb d.byte q is) refl)
    ∙ ap (λ z. text_of line' z rest) (ap (unescaped false) (bytes_row at line cs) ∙ means)))

string_row : (line' q at line from to later : ℕ) (bs text : List ℕ) (c d : Character) (rest : List Character) →
    IsQuote q → AllBytes bs → c.byte ≡ q → d.byte ≡ q → unescaped false (body q bs) ≡ Some text →
    string_at line' bare (c ∷ row at line (body q bs) ++ d ∷ character 32 from to later ∷ rest) ≡ Ok
    (k.Str text, character 32 from to later ∷ rest)
unfolding string_at
string_row line' q at line from to later bs text c d rest iq h e f means =
    let tail : List Character = d ∷ character 32 from to later ∷ rest in
    let inner : List Character = row at line (body q bs) ++ tail in
    let t = not_triple q at line from to later bs d rest iq h in
    let n = len_body q line tail bs iq h (closes q d (character 32 from to later ∷ rest) f) at in
    ap (λ z. let w : Quoting = record { mark = z; triple = next_is (Byte z) inner && next_is (Byte z) (drop 1 inner) }
    in quoted line' bare w (drop (quotes_len w) (c ∷ inner))) e
    ∙ ((λ i. quoted line' bare (record { mark = q; triple = t i })
    (drop (quotes_len (record { mark = q; triple = t i })) (c ∷ inner)))
    ∙ closing_row line' q at line text (body q bs) d (character 32 from to later ∷ rest) f means
    (no_fault q line bs iq h at) n)
  where
    closes : (q : ℕ) (d : Character) (ds : List Character) → d.byte ≡ q → body_len (single q) false (d ∷ ds) ≡ 0
    closes q d ds f = rw (eq-eqb d.byte q f) refl

spelt_quoted : (q : ℕ) (bs : List ℕ) → IsQuote q → AllBytes bs → unescaped false (body q bs) ≡ Some bs →
    Spelt (k.Str bs) (q ∷ body q bs ++ q ∷ [])
spelt_quoted q bs iq h means =
    entry (k.Str bs) q (body q bs ++ q ∷ [])
    (rw (quote_fact (λ z. is_quiet z ≡ true) q iq refl refl)
    (quiet_body q bs (q ∷ []) iq h (quote_fact (λ z. quiet (z ∷ []) ≡ true) q iq refl refl)))
    (λ size at line from to later rest.
    let c : Character = character q at (at + 1) line in
    let blank : Character = character 32 from to later in
    let place = ahead (at + 1) (body q bs) in
    let d : Character = character q place (place + 1) line in
    front_string size c (row (at + 1) line (body q bs ++ q ∷ []) ++ blank ∷ rest)
    (quote_fact (λ z. holds NameStart z ≡ false) q iq refl refl)
    (quote_fact (λ z. holds Quote z ≡ true) q iq refl refl)
    ∙ ap (token_word size c) (ap (λ z. string_at line bare (c ∷ z))
    (row_append (at + 1) line (body q bs) (q ∷ []) (blank ∷ rest)) ∙
    string_row line q (at + 1) line from to later bs bs c d rest iq h refl refl means))

pub spelt_string : (bs : List ℕ) → All (λ b. b < 256) bs → Spelt (k.Str bs) (repr_of bs)
spelt_string bs h = spelt_quoted (quote_of bs) bs (is_quote bs) (all_bytes bs h) (meaning bs (all_bytes bs h))
