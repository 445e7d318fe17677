-- The body of a string's text stands for the string.
use Rattle.std.proofs.Common.{◌≡◌, ℕ, suc, ◌+◌, ◌-◌, ◌*◌, ◌/◌, ◌%◌, ◌<◌, Bool, true, false, ◌==◌, ◌&&◌, ◌||◌, ltb, not, if◌then◌else◌, ◌⊎◌, inl, inr, List, [], ◌∷◌, ◌++◌, length, get_or, take, drop, Fits, w8, IfOk, Result, Ok, Err, option_map, Some, refl, sym, ap, ◌∙◌, subst, arith}
use Rattle.std.proofs.lemmas.Bool.{ne_eqb, eqb-true, eqb-false, lt-ltb}
use Rattle.std.proofs.lemmas.List.{length-append}
use Rattle.std.proofs.Math.Seq.{take-append_seam}
use Rattle.std.proofs.lemmas.Str.{digit_value-digit_char}
use Rattle.std.specs.Char.{digit_value, digit_char}
use Rattle.std.specs.List.{flat_map, list_any, AllByRecursion}
use Rattle.py_text.specs.Escape.{line_ends, spelled, hex, is_hex, then_spelled, unescaped}
use Rattle.py_text.specs.Repr.{quote_of, shown, repr_body, repr_of, between_quotes}
use Rattle.py_text.proofs.Spelling.{spelled_plain}

abbrev pub IsQuote : ℕ → Type 0
IsQuote q = (q ≡ 39) ⊎ (q ≡ 34)

-- ---- one byte

-- these bytes stand for b
abbrev Stands : List ℕ → ℕ → Type 0
Stands cs b = (rest : List ℕ) → spelled 0 (cs ++ rest) ≡ option_map (λ t. b ∷ t) (spelled 0 rest)

is_hex_digit_char : (d : ℕ) → d < 16 → is_hex (digit_char d) ≡ true
is_hex_digit_char d h = rw (digit_value-digit_char d (omega arith)) (lt-ltb d 16 h)

hex_is : (a b x y : ℕ) (rest : List ℕ) → is_hex a ≡ true → is_hex b ≡ true → digit_value a ≡ x → digit_value b ≡ y →
    hex (a ∷ b ∷ rest) ≡ Some (record { byte = Some (x * 16 + y); size = 3 })
hex_is a b x y rest p q e f = rw (p, q, e, f) refl

stands_hex : (b : ℕ) → b < 256 → Stands (92 ∷ 120 ∷ digit_char (b / 16) ∷ digit_char (b % 16) ∷ []) b
stands_hex b h rest =
    let high : b / 16 < 16 = omega arith in
    let low : b % 16 < 16 = omega arith in
    let whole : b / 16 * 16 + b % 16 ≡ b = omega arith in
    ap (λ z. then_spelled z (λ n. spelled n (120 ∷ digit_char (b / 16) ∷ digit_char (b % 16) ∷ rest)))
    (hex_is (digit_char (b / 16)) (digit_char (b % 16)) (b / 16) (b % 16) rest (is_hex_digit_char (b / 16) high)
    (is_hex_digit_char (b % 16) low) (digit_value-digit_char (b / 16) (omega arith))
    (digit_value-digit_char (b % 16) (omega arith)))
    ∙ ap (λ z. option_map (λ t. z ∷ t) (spelled 0 rest)) whole

stands_quote : (q : ℕ) → IsQuote q → Stands (92 ∷ q ∷ []) q
stands_quote q (inl e) rest = subst (λ z. spelled 0 (92 ∷ z ∷ rest) ≡ option_map (λ t. z ∷ t) (spelled 0 rest)) (sym e)
    refl
stands_quote q (inr e) rest = subst (λ z. spelled 0 (92 ∷ z ∷ rest) ≡ option_map (λ t. z ∷ t) (spelled 0 rest)) (sym e)
    refl

stands_cases : (q b : ℕ) (p1 p2 p3 p4 p5 p6 p7 : Bool) → IsQuote q → b < 256 → (b == 92) ≡ p1 → (b == q) ≡ p2 →
    (b == 9) ≡ p3 → (b == 10) ≡ p4 → (b == 13) ≡ p5 →
    Stands (if p1 || p2 then 92 ∷ b ∷ [] else
    (if p3 then 92 ∷ 116 ∷ [] else (if p4 then 92 ∷ 110 ∷ [] else
    (if p5 then 92 ∷ 114 ∷ [] else (if p6 || p7 then 92 ∷ 120 ∷ digit_char (b / 16) ∷ digit_char (b % 16) ∷ [] else
    b ∷ []))))) b
stands_cases q b true p2 p3 p4 p5 p6 p7 iq h e1 e2 e3 e4 e5 rest =
    subst (λ z. spelled 0 (92 ∷ z ∷ rest) ≡ option_map (λ t. z ∷ t) (spelled 0 rest)) (sym (eqb-true b 92 e1)) refl
stands_cases q b false true p3 p4 p5 p6 p7 iq h e1 e2 e3 e4 e5 rest =
    subst (λ z. Stands (92 ∷ z ∷ []) z) (sym (eqb-true b q e2)) (stands_quote q iq) rest
stands_cases q b false false true p4 p5 p6 p7 iq h e1 e2 e3 e4 e5 rest =
    subst (λ z. spelled 0 (92 ∷ 116 ∷ rest) ≡ option_map (λ t. z ∷ t) (spelled 0 rest)) (sym (eqb-true b 9 e3)) refl
stands_cases q b false false false true p5 p6 p7 iq h e1 e2 e3 e4 e5 rest =
    subst (λ z. spelled 0 (92 ∷ 110 ∷ rest) ≡ option_map (λ t. z ∷ t) (spelled 0 rest)) (sym (eqb-true b 10 e4)) refl
stands_cases q b false false false false true p6 p7 iq h e1 e2 e3 e4 e5 rest =
    subst (λ z. spelled 0 (92 ∷ 114 ∷ rest) ≡ option_map (λ t. z ∷ t) (spelled 0 rest)) (sym (eqb-true b 13 e5)) refl
stands_cases q b false false false false false true p7 iq h e1 e2 e3 e4 e5 rest = stands_hex b h rest
stands_cases q b false false false false false false true iq h e1 e2 e3 e4 e5 rest = stands_hex b h rest
stands_cases q b false false false false false false false iq h e1 e2 e3 e4 e5 rest =
    spelled_plain b rest (eqb-false b 92 e1)

stands_shown : (q b : ℕ) → IsQuote q → b < 256 → Stands (shown q b) b
stands_shown q b iq h = stands_cases q b (b == 92) (b == q) (b == 9) (b == 10) (b == 13) (ltb b 32) (ltb 126 b) iq h
    refl refl refl refl refl

-- ---- all bytes

abbrev pub AllBytes : List ℕ → Type 0
AllBytes bs = AllByRecursion (λ b. b < 256) bs

all_bytes : (bs : List ℕ) → ((i : ℕ) → Fits w8 (get_or bs i 0)) → AllBytes bs
all_bytes [] h = tt
all_bytes (b ∷ bs) h = (
  let first : Fits w8 b = h 0 in omega arith,
  all_bytes bs (λ i. let next : Fits w8 (get_or bs i 0) = h (suc i) in next),
)

spelled_shown : (q : ℕ) (bs : List ℕ) → IsQuote q → AllBytes bs → spelled 0 (flat_map (shown q) bs) ≡ Some bs
spelled_shown q [] iq h = refl
spelled_shown q (b ∷ bs) iq h = stands_shown q b iq h.0 (flat_map (shown q) bs) ∙
    ap (λ z. option_map (λ t. b ∷ t) z) (spelled_shown q bs iq h.1)

-- no line end but LF
abbrev NoReturn : List ℕ → Type 0
NoReturn bs = AllByRecursion (λ b. (b == 13) ≡ false) bs

line_ends_same : (bs : List ℕ) → NoReturn bs → line_ends bs ≡ bs
line_ends_same [] h = refl
line_ends_same (b ∷ []) h = rw (h.0) refl
line_ends_same (b ∷ c ∷ bs) h = rw (h.0) (ap (λ z. b ∷ z) (line_ends_same (c ∷ bs) h.1))

no_return_append : (xs ys : List ℕ) → NoReturn xs → NoReturn ys → NoReturn (xs ++ ys)
no_return_append [] ys p q = q
no_return_append (x ∷ xs) ys p q = (p.0, no_return_append xs ys p.1 q)

no_return_digit : (d : ℕ) → d < 16 → (digit_char d == 13) ≡ false
no_return_digit d h = ne_eqb (digit_char d) 13 (λ e. absurd (differ (ap digit_value e ∙ refl)))
  where
    differ : digit_value (digit_char d) ≡ 36 → ⊥
    differ e = let f : digit_value (digit_char d) ≡ d = digit_value-digit_char d (omega arith) in omega arith

no_return_cases : (q b : ℕ) (p1 p2 p3 p4 p5 p6 p7 : Bool) → IsQuote q → b < 256 → (b == 92) ≡ p1 → (b == q) ≡ p2 →
    (b == 13) ≡ p5 →
    NoReturn (if p1 || p2 then 92 ∷ b ∷ [] else
    (if p3 then 92 ∷ 116 ∷ [] else (if p4 then 92 ∷ 110 ∷ [] else
    (if p5 then 92 ∷ 114 ∷ [] else (if p6 || p7 then 92 ∷ 120 ∷ digit_char (b / 16) ∷ digit_char (b % 16) ∷ [] else
    b ∷ [])))))
no_return_cases q b true p2 p3 p4 p5 p6 p7 iq h e1 e2 e5 =
    (refl, (subst (λ z. (z == 13) ≡ false) (sym (eqb-true b 92 e1)) refl, tt))
no_return_cases q b false true p3 p4 p5 p6 p7 iq h e1 e2 e5 =
    (refl, (subst (λ z. (z == 13) ≡ false) (sym (eqb-true b q e2)) (quote iq), tt))
  where
    quote : IsQuote q → (q == 13) ≡ false
    quote (inl e) = subst (λ z. (z == 13) ≡ false) (sym e) refl
    quote (inr e) = subst (λ z. (z == 13) ≡ false) (sym e) refl
no_return_cases q b false false true p4 p5 p6 p7 iq h e1 e2 e5 = (refl, (refl, tt))
no_return_cases q b false false false true p5 p6 p7 iq h e1 e2 e5 = (refl, (refl, tt))
no_return_cases q b false false false false true p6 p7 iq h e1 e2 e5 = (refl, (refl, tt))
no_return_cases q b false false false false false true p7 iq h e1 e2 e5 =
    (refl, (refl, (no_return_digit (b / 16) (omega arith), (no_return_digit (b % 16) (omega arith), tt))))
no_return_cases q b false false false false false false true iq h e1 e2 e5 =
    (refl, (refl, (no_return_digit (b / 16) (omega arith), (no_return_digit (b % 16) (omega arith), tt))))
no_return_cases q b false false false false false false false iq h e1 e2 e5 = (e5, tt)

no_return_shown : (q : ℕ) (bs : List ℕ) → IsQuote q → AllBytes bs → NoReturn (flat_map (shown q) bs)
no_return_shown q [] iq h = tt
no_return_shown q (b ∷ bs) iq h = no_return_append (shown q b) (flat_map (shown q) bs)
    (no_return_cases q b (b == 92) (b == q) (b == 9) (b == 10) (b == 13) (ltb b 32) (ltb 126 b) iq h.0 refl refl refl)
    (no_return_shown q bs iq h.1)

-- ---- between the quotes

is_quote : (bs : List ℕ) → IsQuote (quote_of bs)
is_quote bs = pick (list_any (λ b. b == 39) bs && not (list_any (λ b. b == 34) bs))
  where
    pick : (p : Bool) → IsQuote (if p then 34 else 39)
    pick true = inr refl
    pick false = inl refl

between_quotes_body : (q : ℕ) (body : List ℕ) → between_quotes (q ∷ body ++ q ∷ []) ≡ body
between_quotes_body q body =
    let n : length (q ∷ body ++ q ∷ []) - 1 ≡ length (q ∷ body) = simp length-append (omega arith) in
    ap (λ k. drop 1 (take k (q ∷ body ++ q ∷ []))) n ∙ ap (drop 1) (take-append_seam (q ∷ body) (q ∷ []))

stands_between : (bs text : List ℕ) → AllBytes bs → text ≡ repr_of bs → unescaped false (between_quotes text) ≡ Some bs
stands_between bs text h e =
    ap (λ z. spelled 0 (line_ends (between_quotes z))) e
    ∙ ap (λ z. spelled 0 (line_ends z)) (between_quotes_body (quote_of bs) (repr_body bs))
    ∙ ap (spelled 0) (line_ends_same (repr_body bs) (no_return_shown (quote_of bs) bs (is_quote bs) h))
    ∙ spelled_shown (quote_of bs) bs (is_quote bs) h

pub reads_back : {E : Type 0} (r : Result (List ℕ) E) (bs : List ℕ) → ((i : ℕ) → Fits w8 (get_or bs i 0)) →
    IfOk r (λ t. t ≡ repr_of bs) → IfOk r (λ t. unescaped false (between_quotes t) ≡ Some bs)
reads_back (Ok t) bs h e = stands_between bs t (all_bytes bs h) e
reads_back (Err x) bs h e = tt
