-- The string at the front of a text: what is read as one is spelled as one, and reaches as far as any front that is
-- spelled as a literal.
use Rattle.std.proofs.Common.{◌≡◌, ◌≢◌, ℕ, suc, ◌+◌, ◌-◌, ◌≤◌, Bool, true, false, not, ◌==◌, ◌&&◌, ◌||◌, if◌then◌else◌, List, [], ◌∷◌, ◌++◌, length, map, take, drop, Option, Some, None, ◌⊎◌, inl, inr, ⊎_elim, refl, sym, ap, ap₂, ◌∙◌, subst, true≢false, arith, eq-eqb, ne_eqb, eqb-true}
use Rattle.std.proofs.lemmas.Bool.{eqb-false, not-false, cond_both, and_parts, and_left, and_from, or_parts, or_from, or_cases, both_ways}
use Rattle.std.proofs.lemmas.List.{append_assoc, take-append-drop, length-append, length-drop}
use Rattle.py_text.specs.Escape.{unescaped}
use Rattle.py_tokens.specs.declared.character.Character.{Character}
use Rattle.py_tokens.specs.declared.class.Class.{Class}
use Rattle.py_tokens.specs.declared.class.Class.TheVariants.{Byte, Letter, NameStart, Name, Quote}
use Rattle.py_tokens.specs.declared.literal.Prefix.{Prefix}
use Rattle.py_tokens.specs.declared.literal.Quoting.{Quoting}
use Rattle.py_tokens.specs.Characters.{byte_of}
use Rattle.py_tokens.specs.Classes.{holds, next_is}
use Rattle.py_tokens.specs.Numbers.{Read}
use Rattle.py_tokens.specs.Strings as s
use Rattle.py_tokens.specs.Strings.{prefix, prefix_of, quotes, quotes_len, quotes_at, ends, body_len, string_at}
use Rattle.front_laws.specs.Spells.{Is, Each, Prefixes, none, raw, bytes, unicode, raw_bytes, raw_unicode, IsMark, Quotes, one, three, Closed, end, more, kept, Literal, literal, string, unicode_string}
use Rattle.front_laws.proofs.Reading.{Spelled, Within, Caused, read_cases}

-- ---- letters

-- a letter in either case
letter_byte : (x : ℕ) (c : Character) → Is (Letter x) c → (c.byte ≡ x) ⊎ (c.byte + 32 ≡ x)
letter_byte x c e = ⊎_elim (λ h. inl (eqb-true c.byte x h)) (λ h. inr (eqb-true (c.byte + 32) x h))
    (or_cases (c.byte == x) (c.byte + 32 == x) e)

-- what a function answers at both of a letter's bytes, it answers at the letter
letter_value : {A : Type 0} (f : ℕ → A) (v : A) (upper : ℕ) (c : Character) → Is (Letter (upper + 32)) c →
    f (upper + 32) ≡ v → f upper ≡ v →
    f c.byte ≡ v
letter_value f v upper c e lo up =
    ⊎_elim (λ h. ap f h ∙ lo) (λ h. let same : c.byte ≡ upper = omega (arith, h) in ap f same ∙ up)
    (letter_byte (upper + 32) c e)

letter_is : (k : Class) (upper : ℕ) (c : Character) → Is (Letter (upper + 32)) c → holds k (upper + 32) ≡ true →
    holds k upper ≡ true → Is k c
letter_is k upper c e lo up = letter_value (holds k) true upper c e lo up

-- ---- prefixes

-- the prefix that one letter is
one_letter : ℕ → Option Prefix
one_letter b =
    if holds (Letter 114) b then Some (prefix true false) else
    (if holds (Letter 98) b then Some (prefix false false) else
    (if holds (Letter 117) b then Some (prefix false true) else None))

-- the prefix that a letter before `r` is
before_r : ℕ → Option Prefix
before_r b = if holds (Letter 98) b then Some (prefix true false) else
    (if holds (Letter 117) b then Some (prefix true true) else None)

letter_prefix : (c : Character) (p : Prefix) (upper : ℕ) → Is (Letter (upper + 32)) c →
    one_letter (upper + 32) ≡ Some p → one_letter upper ≡ Some p →
    prefix_of (c ∷ []) ≡ Some p
unfolding one_letter
letter_prefix c p upper e lo up = letter_value one_letter (Some p) upper c e lo up

pair_prefix : (c d : Character) (p : Prefix) (upper : ℕ) → Is (Letter (upper + 32)) c → Is (Letter 114) d →
    before_r (upper + 32) ≡ Some p →
    before_r upper ≡ Some p → prefix_of (c ∷ d ∷ []) ≡ Some p
unfolding before_r
pair_prefix c d p upper e r lo up = ap (λ b. if not b then None else before_r c.byte) r ∙
    letter_value before_r (Some p) upper c e lo up

pub prefix_is : (ps : List Character) (p : Prefix) → Prefixes ps p → (ps ≡ []) ⊎ (prefix_of ps ≡ Some p)
unfolding one_letter before_r
prefix_is ps p none = inl refl
prefix_is ps p (raw c e) = inr (letter_prefix c p 82 e refl refl)
prefix_is ps p (bytes c e) = inr (letter_prefix c p 66 e refl refl)
prefix_is ps p (unicode c e) = inr (letter_prefix c p 85 e refl refl)
prefix_is ps p (raw_bytes c d e r) = inr (pair_prefix c d p 66 e r refl refl)
prefix_is ps p (raw_unicode c d e r) = inr (pair_prefix c d p 85 e r refl refl)

-- a prefix that was found is one
abbrev FoundPrefix : List Character → Option Prefix → Type 0
FoundPrefix ps (Some p) = Prefixes ps p
FoundPrefix ps None = Unit {0}

found_cases : (ps : List Character) (b : Bool) (x y : Option Prefix) → (b ≡ true → FoundPrefix ps x) →
    (b ≡ false → FoundPrefix ps y) →
    FoundPrefix ps (if b then x else y)
found_cases ps b x y f g = cond_both b x y (FoundPrefix ps) f g

found_letter : (c : Character) → FoundPrefix (c ∷ []) (prefix_of (c ∷ []))
found_letter c =
    found_cases (c ∷ []) (holds (Letter 114) c.byte) _ _ (λ e. raw c e) (λ _.
    found_cases (c ∷ []) (holds (Letter 98) c.byte) _ _ (λ e. bytes c e) (λ _.
    found_cases (c ∷ []) (holds (Letter 117) c.byte) _ _ (λ e. unicode c e) (λ _. tt)))

found_pair : (c d : Character) → FoundPrefix (c ∷ d ∷ []) (prefix_of (c ∷ d ∷ []))
found_pair c d =
    found_cases (c ∷ d ∷ []) (not (holds (Letter 114) d.byte)) _ _ (λ _. tt) (λ n.
    let r : Is (Letter 114) d = not-false (holds (Letter 114) d.byte) n in
    found_cases (c ∷ d ∷ []) (holds (Letter 98) c.byte) _ _ (λ e. raw_bytes c d e r) (λ _.
    found_cases (c ∷ d ∷ []) (holds (Letter 117) c.byte) _ _ (λ e. raw_unicode c d e r) (λ _. tt)))

found_prefix : (ps : List Character) → FoundPrefix ps (prefix_of ps)
found_prefix [] = tt
found_prefix (c ∷ []) = found_letter c
found_prefix (c ∷ d ∷ []) = found_pair c d
found_prefix (c ∷ d ∷ e ∷ ps) = tt

pub prefix_spelled : (ps : List Character) (p : Prefix) → prefix_of ps ≡ Some p → Prefixes ps p
prefix_spelled ps p e = subst (FoundPrefix ps) e (found_prefix ps)

pub prefix_name : (ps : List Character) (p : Prefix) → Prefixes ps p → Each Name ps
prefix_name ps p none = tt
prefix_name ps p (raw c e) = (letter_is Name 82 c e refl refl, tt)
prefix_name ps p (bytes c e) = (letter_is Name 66 c e refl refl, tt)
prefix_name ps p (unicode c e) = (letter_is Name 85 c e refl refl, tt)
prefix_name ps p (raw_bytes c d e r) = (letter_is Name 66 c e refl refl, (letter_is Name 82 d r refl refl, tt))
prefix_name ps p (raw_unicode c d e r) = (letter_is Name 85 c e refl refl, (letter_is Name 82 d r refl refl, tt))

pub prefix_first : (c : Character) (ps : List Character) (p : Prefix) → Prefixes (c ∷ ps) p → Is NameStart c
prefix_first c ps p (raw _ e) = letter_is NameStart 82 c e refl refl
prefix_first c ps p (bytes _ e) = letter_is NameStart 66 c e refl refl
prefix_first c ps p (unicode _ e) = letter_is NameStart 85 c e refl refl
prefix_first c ps p (raw_bytes _ d e r) = letter_is NameStart 66 c e refl refl
prefix_first c ps p (raw_unicode _ d e r) = letter_is NameStart 85 c e refl refl

-- ---- quotes

-- such a mark, once or three times
abbrev marked : ℕ → Bool → Quoting
marked m triple = record { mark = m; triple = triple }

mark_quote : (m : ℕ) → IsMark m → holds Quote m ≡ true
mark_quote m (inl e) = ap (holds Quote) e
mark_quote m (inr e) = ap (holds Quote) e

pub quote_mark : (m : ℕ) → holds Quote m ≡ true → IsMark m
quote_mark m e = ⊎_elim (λ h. inl (eqb-true m 39 h)) (λ h. inr (eqb-true m 34 h)) (or_cases (m == 39) (m == 34) e)

pub quotes_start : (q : Quoting) (qs rest : List Character) → IsMark q.mark → Quotes q qs →
    next_is Quote (qs ++ rest) ≡ true
quotes_start q qs rest k (one m c e) = ap (holds Quote) e ∙ mark_quote m k
quotes_start q qs rest k (three m c d f e g h) = ap (holds Quote) e ∙ mark_quote m k

quotes_size : (q : Quoting) (qs : List Character) → Quotes q qs → length qs ≡ quotes_len q
quotes_size q qs (one m c e) = refl
quotes_size q qs (three m c d f e g h) = refl

-- quotes that are at the front are such quotes
pub quotes_taken : (m : ℕ) (triple : Bool) (cs : List Character) → quotes (marked m triple) cs ≡ true →
    Quotes (marked m triple) (take (quotes_len (marked m triple)) cs)
quotes_taken m triple [] e = absurd (true≢false (sym e))
quotes_taken m false (c ∷ cs) e = one m c (eqb-true c.byte m (and_parts (c.byte == m) true e).0)
quotes_taken m true (c ∷ []) e = absurd (true≢false (sym (and_parts (c.byte == m) false e).1))
quotes_taken m true (c ∷ d ∷ []) e = absurd
    (true≢false (sym (and_parts (d.byte == m) false (and_parts (c.byte == m) (d.byte == m && false) e).1).1))
quotes_taken m true (c ∷ d ∷ f ∷ cs) e =
    let h = and_parts (c.byte == m) (d.byte == m && f.byte == m) e in
    let g = and_parts (d.byte == m) (f.byte == m) h.1 in
    three m c d f (eqb-true c.byte m h.0) (eqb-true d.byte m g.0) (eqb-true f.byte m g.1)

-- whether quotes are at the front shows within their length
pub quotes_same : (m : ℕ) (triple : Bool) (c : Character) (cs rest : List Character) →
    quotes_len (marked m triple) ≤ length cs →
    quotes (marked m triple) (c ∷ (cs ++ rest)) ≡ quotes (marked m triple) (c ∷ cs)
quotes_same m false c cs rest h = refl
quotes_same m true c [] rest h = absurd (omega (arith, h))
quotes_same m true c (d ∷ []) rest h = absurd (omega (arith, h))
quotes_same m true c (d ∷ f ∷ cs) rest h = refl

self_or : (b : Bool) → (not b || b) ≡ true
self_or true = refl
self_or false = refl

-- the quotes that are found are at the front
pub quotes_found : (c : Character) (cs : List Character) → quotes (quotes_at (c ∷ cs)) (c ∷ cs) ≡ true
quotes_found c cs =
    and_from (c.byte == c.byte) _ (eq-eqb c.byte c.byte refl)
    (self_or (next_is (Byte c.byte) cs && next_is (Byte c.byte) (drop 1 cs)))

-- ---- bodies

-- a character that is neither kept nor a backslash, and ends nothing
pub body_more : (q : Quoting) (c : Character) (cs : List Character) → ends q (c ∷ cs) ≡ false → (c.byte == 92) ≡ false →
    body_len q false (c ∷ cs) ≡ suc (body_len q false cs)
body_more q c cs e h = ap (λ b. if b then 0 else suc (body_len q (c.byte == 92) cs)) e ∙
    ap (λ b. suc (body_len q b cs)) h

-- a backslash and the character that it keeps
pub body_kept : (q : Quoting) (c d : Character) (cs : List Character) → ends q (c ∷ d ∷ cs) ≡ false →
    (c.byte == 92) ≡ true →
    body_len q false (c ∷ d ∷ cs) ≡ suc (suc (body_len q false cs))
body_kept q c d cs e h = ap (λ b. if b then 0 else suc (body_len q (c.byte == 92) (d ∷ cs))) e ∙
    ap (λ b. suc (body_len q b (d ∷ cs))) h

pub body_end : (q : Quoting) (c : Character) (cs : List Character) → ends q (c ∷ cs) ≡ true →
    body_len q false (c ∷ cs) ≡ 0
body_end q c cs e = ap (λ b. if b then 0 else suc (body_len q (c.byte == 92) cs)) e

pub no_line_end : (triple : Bool) (b : ℕ) → (triple ≡ false → b ≢ 10) → (not triple && b == 10) ≡ false
no_line_end true b h = refl
no_line_end false b h = ne_eqb b 10 (h refl)

-- a backslash is no mark
mark_slash : (m b : ℕ) → IsMark m → b ≡ 92 → b ≢ m
mark_slash m b (inl k) e h = omega (arith, k, e, h)
mark_slash m b (inr k) e h = omega (arith, k, e, h)

pub slash_goes_on : (q : Quoting) (c : Character) (cs : List Character) → IsMark q.mark → c.byte ≡ 92 →
    ends q (c ∷ cs) ≡ false
slash_goes_on q c cs k e =
    or_from (quotes q (c ∷ cs)) _ (and_left (c.byte == q.mark) _ (ne_eqb c.byte q.mark (mark_slash q.mark c.byte k e)))
    (no_line_end q.triple c.byte (λ _ h. omega (arith, e, h)))

-- a body that is closed ends with its quotes
pub closed_long : (q : Quoting) (body cs : List Character) → Closed q body cs → quotes_len q ≤ length cs
closed_long q body cs (end w) = let e : length cs ≡ quotes_len q = quotes_size q cs w in omega (arith, e)
closed_long q body cs (more c {body = bs} {cs = ds} n e l h) = let g : quotes_len q ≤ length ds =
    closed_long q bs ds h in omega (arith, g)
closed_long q body cs (kept c d {body = bs} {cs = ds} e h) = let g : quotes_len q ≤ length ds =
    closed_long q bs ds h in omega (arith, g)

-- ---- what is read reaches as far as any literal

-- the body that is read, with its quotes, is at least as long as a body that is closed
body_reaches : (q : Quoting) (body cs rest : List Character) → IsMark q.mark → Closed q body cs →
    length cs ≤ body_len q false (cs ++ rest) + quotes_len q
body_reaches q body cs rest k (end w) = let e : length cs ≡ quotes_len q = quotes_size q cs w in omega (arith, e)
body_reaches q body cs rest k (more c {body = bs} {cs = ds} n e l h) =
    let on : quotes q (c ∷ (ds ++ rest)) ≡ false = quotes_same q.mark q.triple c ds rest (closed_long q bs ds h) ∙ e in
    let stays : ends q (c ∷ (ds ++ rest)) ≡ false =
    or_from (quotes q (c ∷ (ds ++ rest))) _ on (no_line_end q.triple c.byte l) in
    let one_on : body_len q false (c ∷ (ds ++ rest)) ≡ suc (body_len q false (ds ++ rest)) =
    body_more q c (ds ++ rest) stays (ne_eqb c.byte 92 n) in
    let g : length ds ≤ body_len q false (ds ++ rest) + quotes_len q = body_reaches q bs ds rest k h in
    omega (arith, one_on, g)
body_reaches q body cs rest k (kept c d {body = bs} {cs = ds} e h) =
    let stays : ends q (c ∷ d ∷ (ds ++ rest)) ≡ false = slash_goes_on q c (d ∷ (ds ++ rest)) k e in
    let two_on : body_len q false (c ∷ d ∷ (ds ++ rest)) ≡ suc (suc (body_len q false (ds ++ rest))) =
    body_kept q c d (ds ++ rest) stays (eq-eqb c.byte 92 e) in
    let g : length ds ≤ body_len q false (ds ++ rest) + quotes_len q = body_reaches q bs ds rest k h in
    omega (arith, two_on, g)

-- A mark right behind the one that opens a body closes it.
first_ends : (m : ℕ) (body cs rest : List Character) → IsMark m → Closed (marked m false) body cs →
    next_is (Byte m) (cs ++ rest) ≡ true →
    length cs ≡ 1
first_ends m body cs rest k (end w) e = quotes_size (marked m false) cs w
first_ends m body cs rest k (more c {cs = ds} n g l h) e =
    absurd (both_ways (quotes (marked m false) (c ∷ ds)) g (and_from (c.byte == m) true e refl))
first_ends m body cs rest k (kept c d g h) e = absurd (mark_slash m c.byte k g (eqb-true c.byte m e))

within_text : (n line : ℕ) (o : Option (List ℕ)) (rest : List Character) → length rest ≤ n →
    Within n (s.text_of line o rest)
within_text n line (Some bs) rest h = h
within_text n line None rest h = tt

within_literal : (n line : ℕ) (p : Prefix) (q : Quoting) (body rest : List Character) (fault : Option ℕ) →
    length (drop (quotes_len q) rest) ≤ n →
    Within n (s.literal line p q body rest fault)
within_literal n line p q body rest (Some bad) h = tt
within_literal n line p q body rest None h =
    let left = drop (quotes_len q) rest in
    read_cases (Within n) (quotes q rest) _ _
    (λ _. read_cases (Within n) p.unicode _ _ (λ _. h)
    (λ _. within_text n line (unescaped p.raw (map byte_of body)) left h))
    (λ _. tt)

within_quoted : (n line : ℕ) (p : Prefix) (q : Quoting) (inner : List Character) →
    length inner - body_len q false inner - quotes_len q ≤ n →
    Within n (s.quoted line p q inner)
within_quoted n line p q inner h =
    let k = body_len q false inner in
    let a : length (drop k inner) ≡ length inner - k = length-drop k inner in
    let b : length (drop (quotes_len q) (drop k inner)) ≡ length (drop k inner) - quotes_len q =
    length-drop (quotes_len q) (drop k inner) in
    let le : length (drop (quotes_len q) (drop k inner)) ≤ n = omega (arith, a, b, h) in
    within_literal n line p q (take k inner) (drop k inner) (s.escape_fault p (take k inner)) le

-- behind the quotes that open a literal
within_body : (line : ℕ) (q : Quoting) (p : Prefix) (body cs rest : List Character) → IsMark q.mark → Closed q body cs →
    Within (length rest) (s.quoted line p q (cs ++ rest))
within_body line q p body cs rest k h =
    let a : length (cs ++ rest) ≡ length cs + length rest = length-append cs rest in
    let b : length cs ≤ body_len q false (cs ++ rest) + quotes_len q = body_reaches q body cs rest k h in
    within_quoted (length rest) line p q (cs ++ rest) (omega (arith, a, b))

-- Two quotes that a third follows open a string in triple quotes.
within_triple : (line m : ℕ) (p : Prefix) (c : Character) (cs rest : List Character) → length cs ≡ 1 →
    Within (length rest) (s.quoted line p (marked m true) (drop 3 (c ∷ (cs ++ rest))))
within_triple line m p c cs rest e =
    let inner = drop 3 (c ∷ (cs ++ rest)) in
    let a : length (cs ++ rest) ≡ length cs + length rest = length-append cs rest in
    let b : length inner ≡ suc (length (cs ++ rest)) - 3 = length-drop 3 (c ∷ (cs ++ rest)) in
    within_quoted (length rest) line p (marked m true) inner (omega (arith, a, b, e))

within_one : (line m : ℕ) (p : Prefix) (c : Character) (body cs rest : List Character) (triple : Bool) → IsMark m →
    Closed (marked m false) body cs →
    (next_is (Byte m) (cs ++ rest) && next_is (Byte m) (drop 1 (cs ++ rest))) ≡ triple →
    Within (length rest) (s.quoted line p (marked m triple) (drop (quotes_len (marked m triple)) (c ∷ (cs ++ rest))))
within_one line m p c body cs rest true k h e =
    within_triple line m p c cs rest (first_ends m body cs rest k h (and_parts (next_is (Byte m) (cs ++ rest)) _ e).0)
within_one line m p c body cs rest false k h e = within_body line (marked m false) p body cs rest k h

-- the reading of a string, where it is known how it is quoted
quoted_as : List Character → ℕ → Prefix → Quoting → Read
quoted_as all line p q = s.quoted line p q (drop (quotes_len q) all)

-- whatever front is spelled as a literal, the reading takes at least as much
pub string_within : (line : ℕ) (q : Quoting) (p : Prefix) (qs body cs rest : List Character) → IsMark q.mark →
    Quotes q qs → Closed q body cs →
    Within (length rest) (string_at line p ((qs ++ cs) ++ rest))
unfolding string_at quoted_as
string_within line q p qs body cs rest k (one m c e) h =
    let all = c ∷ (cs ++ rest) in
    let triple : ℕ → Bool = λ b. next_is (Byte b) (cs ++ rest) && next_is (Byte b) (drop 1 (cs ++ rest)) in
    subst (λ b. Within (length rest) (quoted_as all line p (marked b (triple b)))) (sym e)
    (within_one line m p c body cs rest (triple m) k h refl)
string_within line q p qs body cs rest k (three m c d f e g i) h =
    let all = c ∷ d ∷ f ∷ (cs ++ rest) in
    let triple : (d.byte == c.byte && f.byte == c.byte) ≡ true =
    and_from (d.byte == c.byte) (f.byte == c.byte) (eq-eqb d.byte c.byte (g ∙ sym e))
    (eq-eqb f.byte c.byte (i ∙ sym e)) in
    let same : quotes_at all ≡ marked m true = ap₂ marked e triple in
    subst (λ q. Within (length rest) (quoted_as all line p q)) (sym same)
    (within_body line (marked m true) p body cs rest k h)

-- ---- a string is refused as no bad character

caused_text : (line l : ℕ) (text : List Character) (o : Option (List ℕ)) (rest : List Character) →
    Caused line text (s.text_of l o rest)
caused_text line l text (Some bs) rest = tt
caused_text line l text None rest = tt

caused_literal : (line l : ℕ) (text : List Character) (p : Prefix) (q : Quoting) (body rest : List Character)
    (fault : Option ℕ) →
    Caused line text (s.literal l p q body rest fault)
caused_literal line l text p q body rest (Some bad) = tt
caused_literal line l text p q body rest None =
    read_cases (Caused line text) (quotes q rest) _ _
    (λ _. read_cases (Caused line text) p.unicode _ _ (λ _. tt)
    (λ _. caused_text line l text (unescaped p.raw (map byte_of body)) (drop (quotes_len q) rest)))
    (λ _. tt)

-- a string is never refused as a bad character
pub string_caused : (line : ℕ) (p : Prefix) (cs text : List Character) → Caused line text (string_at line p cs)
unfolding string_at
string_caused line p cs text =
    let q = quotes_at cs in
    let inner = drop (quotes_len q) cs in
    let n = body_len q false inner in
    caused_literal line line text p q (take n inner) (drop n inner) (s.escape_fault p (take n inner))

-- ---- what is read as a string is spelled as one

-- where quotes follow the first n characters, those are a body, closed by these quotes
abbrev BodyAt : Quoting → List Character → ℕ → Type 0
BodyAt q cs n = quotes q (drop n cs) ≡ true → Closed q (take n cs) (take n cs ++ take (quotes_len q) (drop n cs))

no_quotes : (q : Quoting) → quotes q [] ≡ true → ⊥
no_quotes q e = true≢false (sym e)

-- what follows a body and its quotes
pub behind_body : (k n : ℕ) (cs : List Character) → (take n cs ++ take k (drop n cs)) ++ drop k (drop n cs) ≡ cs
behind_body k n cs =
    append_assoc (take n cs) (take k (drop n cs)) (drop k (drop n cs)) ∙
    ap (λ ds. take n cs ++ ds) (take-append-drop k (drop n cs))
    ∙ take-append-drop n cs

body_at_end : (q : Quoting) (c : Character) (cs : List Character) → ends q (c ∷ cs) ≡ true →
    BodyAt q (c ∷ cs) (body_len q false (c ∷ cs))
body_at_end q c cs e = subst (BodyAt q (c ∷ cs)) (sym (body_end q c cs e))
    (λ h. end (quotes_taken q.mark q.triple (c ∷ cs) h))

-- in single quotes a line end ends a body
pub line_end_ends : (triple : Bool) (b : ℕ) → (not triple && b == 10) ≡ false → triple ≡ false → b ≢ 10
line_end_ends true b h e = absurd (true≢false e)
line_end_ends false b h e = eqb-false b 10 h

-- quotes that are not at the front of a text are at the front of no part of it that has as many characters
quotes_before : (q : Quoting) (c : Character) (part rest cs : List Character) → part ++ rest ≡ cs →
    quotes_len q ≤ length part →
    quotes q (c ∷ cs) ≡ false → quotes q (c ∷ part) ≡ false
quotes_before q c part rest cs same long e = sym (quotes_same q.mark q.triple c part rest long) ∙
    ap (λ ds. quotes q (c ∷ ds)) same ∙ e

one_before : (q : Quoting) (c : Character) (cs : List Character) (n : ℕ) → ends q (c ∷ cs) ≡ false →
    (c.byte == 92) ≡ false → BodyAt q cs n →
    BodyAt q (c ∷ cs) (suc n)
one_before q c cs n e slash ih h =
    let here = or_parts (quotes q (c ∷ cs)) _ e in
    let part = take n cs ++ take (quotes_len q) (drop n cs) in
    let left = drop (quotes_len q) (drop n cs) in
    let shut = ih h in
    let opens = quotes_before q c part left cs (behind_body (quotes_len q) n cs) (closed_long q (take n cs) part shut)
    here.0 in
    more c (eqb-false c.byte 92 slash) opens (line_end_ends q.triple c.byte here.1) shut

body_at_more : (q : Quoting) (c : Character) (cs : List Character) → ends q (c ∷ cs) ≡ false → (c.byte == 92) ≡ false →
    BodyAt q cs (body_len q false cs) → BodyAt q (c ∷ cs) (body_len q false (c ∷ cs))
body_at_more q c cs e slash ih = subst (BodyAt q (c ∷ cs)) (sym (body_more q c cs e slash))
    (one_before q c cs (body_len q false cs) e slash ih)

body_at_kept : (q : Quoting) (c d : Character) (cs : List Character) → ends q (c ∷ d ∷ cs) ≡ false →
    (c.byte == 92) ≡ true →
    BodyAt q cs (body_len q false cs) → BodyAt q (c ∷ d ∷ cs) (body_len q false (c ∷ d ∷ cs))
body_at_kept q c d cs e slash ih = subst (BodyAt q (c ∷ d ∷ cs)) (sym (body_kept q c d cs e slash))
    (λ h. kept c d (eqb-true c.byte 92 slash) (ih h))

-- a backslash that is the last character
body_at_last : (q : Quoting) (c : Character) → ends q (c ∷ []) ≡ false → BodyAt q (c ∷ []) (body_len q false (c ∷ []))
body_at_last q c e = subst (BodyAt q (c ∷ [])) (sym (ap (λ b. if b then 0 else 1) e)) (λ h. absurd (no_quotes q h))

one_body : (q : Quoting) (c : Character) (a b : Bool) → ends q (c ∷ []) ≡ a → (c.byte == 92) ≡ b → BodyAt q [] 0 →
    BodyAt q (c ∷ []) (body_len q false (c ∷ []))
one_body q c true b e slash ih = body_at_end q c [] e
one_body q c false false e slash ih = body_at_more q c [] e slash ih
one_body q c false true e slash ih = body_at_last q c e

two_body : (q : Quoting) (c d : Character) (cs : List Character) (a b : Bool) → ends q (c ∷ d ∷ cs) ≡ a →
    (c.byte == 92) ≡ b →
    BodyAt q (d ∷ cs) (body_len q false (d ∷ cs)) → BodyAt q cs (body_len q false cs) →
    BodyAt q (c ∷ d ∷ cs) (body_len q false (c ∷ d ∷ cs))
two_body q c d cs true b e slash ih after = body_at_end q c (d ∷ cs) e
two_body q c d cs false false e slash ih after = body_at_more q c (d ∷ cs) e slash ih
two_body q c d cs false true e slash ih after = body_at_kept q c d cs e slash after

-- the body that is read is closed by the quotes behind it
pub body_closed : (q : Quoting) (cs : List Character) → BodyAt q cs (body_len q false cs)
body_closed q [] = λ h. absurd (no_quotes q h)
body_closed q (c ∷ []) = one_body q c (ends q (c ∷ [])) (c.byte == 92) refl refl (λ h. absurd (no_quotes q h))
body_closed q (c ∷ d ∷ cs) = two_body q c d cs (ends q (c ∷ d ∷ cs)) (c.byte == 92) refl refl (body_closed q (d ∷ cs))
    (body_closed q cs)

spelled_text : (line : ℕ) (p : Prefix) (body front rest all : List Character) (o : Option (List ℕ)) →
    all ≡ front ++ rest → Literal front p body →
    p.unicode ≡ false → unescaped p.raw (map byte_of body) ≡ o → Spelled all (s.text_of line o rest)
spelled_text line p body front rest all (Some bs) same w e h = (front, same, string w e h)
spelled_text line p body front rest all None same w e h = tt

spelled_closed : (line : ℕ) (p : Prefix) (body front rest all : List Character) → all ≡ front ++ rest →
    Literal front p body →
    Spelled all (s.closed line p body rest)
spelled_closed line p body front rest all same w =
    read_cases (Spelled all) p.unicode _ _ (λ e. (front, same, unicode_string w e))
    (λ e. spelled_text line p body front rest all (unescaped p.raw (map byte_of body)) same w e refl)

-- a prefix, quotes and what follows them
spelled_literal : (line : ℕ) (ps qs inner : List Character) (p : Prefix) (q : Quoting) (n : ℕ) (fault : Option ℕ) →
    Prefixes ps p → IsMark q.mark →
    Quotes q qs → BodyAt q inner n → Spelled (ps ++ (qs ++ inner))
    (s.literal line p q (take n inner) (drop n inner) fault)
spelled_literal line ps qs inner p q n (Some bad) w k o b = tt
spelled_literal line ps qs inner p q n None w k o b =
    let part = take n inner ++ take (quotes_len q) (drop n inner) in
    let left = drop (quotes_len q) (drop n inner) in
    let same : ps ++ (qs ++ inner) ≡ ((ps ++ qs) ++ part) ++ left =
    sym (append_assoc ps qs inner) ∙ ap (λ ds. (ps ++ qs) ++ ds) (sym (behind_body (quotes_len q) n inner))
    ∙ sym (append_assoc (ps ++ qs) part left) in
    read_cases (Spelled (ps ++ (qs ++ inner))) (quotes q (drop n inner)) _ _
    (λ e. spelled_closed line p (take n inner) ((ps ++ qs) ++ part) left (ps ++ (qs ++ inner)) same
    (literal q w k o (b e)))
    (λ _. tt)

-- what the code's definition reads as a string, behind a prefix, is spelled by the front that it takes
pub string_spelled : (line : ℕ) (ps cs : List Character) (p : Prefix) → Prefixes ps p → next_is Quote cs ≡ true →
    Spelled (ps ++ cs) (string_at line p cs)
unfolding string_at
string_spelled line ps [] p w e = absurd (true≢false (sym e))
string_spelled line ps (c ∷ cs) p w e =
    let all = c ∷ cs in
    let q = quotes_at all in
    let inner = drop (quotes_len q) all in
    let n = body_len q false inner in
    let o : Quotes q (take (quotes_len q) all) = quotes_taken q.mark q.triple all (quotes_found c cs) in
    subst (λ ds. Spelled (ps ++ ds) (s.literal line p q (take n inner) (drop n inner)
    (s.escape_fault p (take n inner))))
    (take-append-drop (quotes_len q) all)
    (spelled_literal line ps (take (quotes_len q) all) inner p q n (s.escape_fault p (take n inner)) w
    (quote_mark c.byte e) o (body_closed q inner))
