-- Why a string is refused: no quotes close it, an `\x` in it has no two hexadecimal digits, or an escape in it has no
-- meaning.
use Rattle.std.proofs.Common.{◌≡◌, ◌≢◌, ℕ, suc, Bool, true, false, not, ◌==◌, ◌&&◌, ◌||◌, if◌then◌else◌, List, [], ◌∷◌, ◌++◌, map, take, drop, Option, Some, None, Ok, Err, inl, inr, refl, sym, ap, ◌∙◌, subst, true≢false, eq-eqb, ne_eqb, eqb-true, zero}
use Rattle.std.proofs.lemmas.Bool.{eqb-false, not-true, false_from_ne_true, and_parts, and_left, and_right, and_from, or_parts, or_from, or_left, both_ways}
use Rattle.std.proofs.lemmas.List.{append_assoc, take-append-drop}
use Rattle.std.proofs.lemmas.Option.{none-some, same_Some}
use Rattle.py_base.specs.declared.refusal.Refusal.TheVariants.{OpenString, BadEscape}
use Rattle.py_text.specs.Escape.{unescaped}
use Rattle.py_tokens.specs.declared.character.Character.{Character}
use Rattle.py_tokens.specs.declared.class.Base.TheVariants.{Sixteen}
use Rattle.py_tokens.specs.declared.class.Class.TheVariants.{Digit, Quote}
use Rattle.py_tokens.specs.declared.literal.Prefix.{Prefix}
use Rattle.py_tokens.specs.declared.literal.Quoting.{Quoting}
use Rattle.py_tokens.specs.Characters.{byte_of}
use Rattle.py_tokens.specs.Classes.{holds, next_is}
use Rattle.py_tokens.specs.Numbers.{Read}
use Rattle.py_tokens.specs.Strings as s
use Rattle.py_tokens.specs.Strings.{quotes, quotes_len, quotes_at, ends, body_len, two_hex, bad_line, escape_fault, string_at}
use Rattle.front_laws.specs.Spells.{Is, Prefixes, IsMark, Quotes, one, three, Closed, end, more, kept}
use Rattle.front_laws.specs.Pieces as p
use Rattle.front_laws.specs.Pieces.{Opens, BeginsString, IsOpen, Goes, HasBadEscape}
use Rattle.front_laws.proofs.Reading.{read_cases}
use Rattle.front_laws.proofs.Tables.{never}
use Rattle.front_laws.proofs.StringFronts.{quote_mark, quotes_taken, quotes_found, quotes_same, body_more, body_kept, body_end, no_line_end, line_end_ends, slash_goes_on, closed_long, behind_body, body_closed}

-- why the reading of a string on this line refuses it, in this text
abbrev pub StringCause : ℕ → List Character → Read → Type 0
StringCause line text (Ok r) = Unit {0}
StringCause line text (Err (OpenString l)) = (l ≡ line) × IsOpen text
StringCause line text (Err (BadEscape l)) = HasBadEscape line l text
StringCause line text (Err _) = ⊥

-- ---- the quotes at the front

-- where the first mark stands alone, there are no three of it
alone : (c : Character) (cs : List Character) → (quotes_at (c ∷ cs)).triple ≡ false →
    quotes (record { mark = c.byte; triple = true }) (c ∷ cs) ≡ false
alone c cs e = and_right (c.byte == c.byte) _ e

quotes_open : (ps cs : List Character) (x : Prefix) → Prefixes ps x → next_is Quote cs ≡ true →
    Opens (quotes_at cs) x (drop (quotes_len (quotes_at cs)) cs) (ps ++ cs)
quotes_open ps [] x is e = absurd (true≢false (sym e))
quotes_open ps (c ∷ cs) x is e =
    let all = c ∷ cs in
    let q = quotes_at all in
    let same : take (quotes_len q) all ++ drop (quotes_len q) all ≡ all = take-append-drop (quotes_len q) all in
    record {
      prefix = ps;
      marks = take (quotes_len q) all;
      splits = ap (λ ds. ps ++ ds) (sym same) ∙
          sym (append_assoc ps (take (quotes_len q) all) (drop (quotes_len q) all));
      prefixes = is;
      mark = quote_mark c.byte e;
      opens = quotes_taken q.mark q.triple all (quotes_found c cs);
      most = λ f. ap (quotes (record { mark = c.byte; triple = true })) same ∙ alone c cs f;
    }

-- quotes at the front begin a string
pub begins_string : (ps cs : List Character) (p : Prefix) → Prefixes ps p → next_is Quote cs ≡ true →
    BeginsString (ps ++ cs)
begins_string ps cs x is e = (quotes_at cs, x, drop (quotes_len (quotes_at cs)) cs, quotes_open ps cs x is e)

-- ---- where a body is closed, quotes stand behind what is read of it

quotes_front : (q : Quoting) (qs rest : List Character) → Quotes q qs → quotes q (qs ++ rest) ≡ true
quotes_front q qs rest (one m c e) = and_from (c.byte == m) true (eq-eqb c.byte m e) refl
quotes_front q qs rest (three m c d f e g h) =
    and_from (c.byte == m) (d.byte == m && f.byte == m) (eq-eqb c.byte m e)
    (and_from (d.byte == m) (f.byte == m) (eq-eqb d.byte m g) (eq-eqb f.byte m h))

-- behind the body that is read there are quotes
abbrev EndsWell : Quoting → List Character → Type 0
EndsWell q cs = quotes q (drop (body_len q false cs) cs) ≡ true

well_at : (q : Quoting) (cs : List Character) (n : ℕ) → body_len q false cs ≡ n → quotes q (drop n cs) ≡ true →
    EndsWell q cs
well_at q cs n e h = ap (λ k. quotes q (drop k cs)) e ∙ h

well_here : (q : Quoting) (cs : List Character) → quotes q cs ≡ true → EndsWell q cs
well_here q [] h = h
well_here q (c ∷ cs) h = well_at q (c ∷ cs) 0 (body_end q c cs (or_left (quotes q (c ∷ cs)) _ h)) h

ends_well : (q : Quoting) (body cs rest : List Character) → IsMark q.mark → Closed q body cs → EndsWell q (cs ++ rest)
ends_well q body cs rest k (end w) = well_here q (cs ++ rest) (quotes_front q cs rest w)
ends_well q body cs rest k (more c {body = bs} {cs = ds} n e l h) =
    let on : quotes q (c ∷ (ds ++ rest)) ≡ false = quotes_same q.mark q.triple c ds rest (closed_long q bs ds h) ∙ e in
    let stays : ends q (c ∷ (ds ++ rest)) ≡ false =
    or_from (quotes q (c ∷ (ds ++ rest))) _ on (no_line_end q.triple c.byte l) in
    well_at q (c ∷ (ds ++ rest)) (suc (body_len q false (ds ++ rest)))
    (body_more q c (ds ++ rest) stays (ne_eqb c.byte 92 n))
    (ends_well q bs ds rest k h)
ends_well q body cs rest k (kept c d {body = bs} {cs = ds} e h) =
    let stays : ends q (c ∷ d ∷ (ds ++ rest)) ≡ false = slash_goes_on q c (d ∷ (ds ++ rest)) k e in
    well_at q (c ∷ d ∷ (ds ++ rest)) (suc (suc (body_len q false (ds ++ rest))))
    (body_kept q c d (ds ++ rest) stays (eq-eqb c.byte 92 e))
    (ends_well q bs ds rest k h)

is_open : (q : Quoting) (x : Prefix) (inner text : List Character) → Opens q x inner text →
    quotes q (drop (body_len q false inner) inner) ≡ false → IsOpen text
is_open q x inner text o e = record {
  quoting = q;
  prefix = x;
  inner = inner;
  opens = o;
  none_closes = λ body closed rest same h.
      both_ways (quotes q (drop (body_len q false inner) inner)) e
      (subst (EndsWell q) (sym same) (ends_well q body closed rest o.mark h));
}

-- ---- hexadecimal digits are of the body

no_hex : (b x : ℕ) → holds (Digit Sixteen) b ≡ true → holds (Digit Sixteen) x ≡ false → b ≢ x
no_hex b x e n same = true≢false (sym e ∙ ap (holds (Digit Sixteen)) same ∙ n)

mark_no_hex : (m : ℕ) → IsMark m → holds (Digit Sixteen) m ≡ false
mark_no_hex m (inl e) = ap (holds (Digit Sixteen)) e
mark_no_hex m (inr e) = ap (holds (Digit Sixteen)) e

hex_goes_on : (q : Quoting) (c : Character) (cs : List Character) → IsMark q.mark → Is (Digit Sixteen) c →
    body_len q false (c ∷ cs) ≡ suc (body_len q false cs)
hex_goes_on q c cs k e =
    let no_quotes : quotes q (c ∷ cs) ≡ false =
    and_left (c.byte == q.mark) _ (ne_eqb c.byte q.mark (no_hex c.byte q.mark e (mark_no_hex q.mark k))) in
    let stays : ends q (c ∷ cs) ≡ false =
    or_from (quotes q (c ∷ cs)) _ no_quotes (no_line_end q.triple c.byte (λ _. no_hex c.byte 10 e refl)) in
    body_more q c cs stays (ne_eqb c.byte 92 (no_hex c.byte 92 e refl))

hex_kept : (q : Quoting) (cs : List Character) → IsMark q.mark → two_hex cs ≡ true →
    two_hex (take (body_len q false cs) cs) ≡ true
hex_kept q [] k e = absurd (true≢false (sym e))
hex_kept q (c ∷ []) k e = absurd (true≢false (sym (and_parts (holds (Digit Sixteen) c.byte) false e).1))
hex_kept q (c ∷ d ∷ cs) k e =
    let h = and_parts (holds (Digit Sixteen) c.byte) (holds (Digit Sixteen) d.byte) e in
    let two_on : body_len q false (c ∷ d ∷ cs) ≡ suc (suc (body_len q false cs)) =
    hex_goes_on q c (d ∷ cs) k h.0 ∙ ap suc (hex_goes_on q d cs k h.1) in
    subst (λ n. two_hex (take n (c ∷ d ∷ cs)) ≡ true) (sym two_on) e

no_two_hex : (q : Quoting) (cs : List Character) → IsMark q.mark → two_hex (take (body_len q false cs) cs) ≡ false →
    two_hex cs ≡ false
no_two_hex q cs k e = false_from_ne_true (two_hex cs)
    (λ h. both_ways (two_hex (take (body_len q false cs) cs)) e (hex_kept q cs k h))

-- ---- the first `\x` without two hexadecimal digits

-- a body goes on up to an `\x` without two hexadecimal digits, whose backslash is on this line
record BadAt (q : Quoting) (line : ℕ) (inner : List Character) : Type 0 where
  before : List Character
  slash : Character
  x : Character
  after : List Character
  goes : Goes q before inner
  splits : inner ≡ before ++ (slash ∷ x ∷ after)
  is_slash : slash.byte ≡ 92
  is_x : x.byte ≡ 120
  no_digits : two_hex after ≡ false
  on_line : line ≡ slash.line

-- what is found in the first n characters is there
abbrev BadFrom : Quoting → List Character → ℕ → Type 0
BadFrom q cs n = (l : ℕ) → bad_line (take n cs) ≡ Some l → BadAt q l cs

bad_behind : (c : Character) (cs : List Character) → (c.byte == 92) ≡ false → bad_line (c ∷ cs) ≡ bad_line cs
bad_behind c [] e = refl
bad_behind c (d ∷ cs) e =
    ap (λ b. if b then (if d.byte == 120 && not (two_hex cs) then Some c.line else bad_line cs) else bad_line (d ∷ cs))
    e

bad_at_end : (q : Quoting) (c : Character) (cs : List Character) → ends q (c ∷ cs) ≡ true →
    BadFrom q (c ∷ cs) (body_len q false (c ∷ cs))
bad_at_end q c cs e = subst (BadFrom q (c ∷ cs)) (sym (body_end q c cs e)) (λ l h. absurd (none-some l h))

bad_past : (q : Quoting) (c : Character) (cs : List Character) (l : ℕ) → ends q (c ∷ cs) ≡ false →
    (c.byte == 92) ≡ false → BadAt q l cs →
    BadAt q l (c ∷ cs)
bad_past q c cs l e slash b =
    let here = or_parts (quotes q (c ∷ cs)) _ e in
    record {
      before = c ∷ b.before;
      slash = b.slash;
      x = b.x;
      after = b.after;
      goes = p.more c (eqb-false c.byte 92 slash) here.0 (line_end_ends q.triple c.byte here.1) b.goes;
      splits = ap (λ ds. c ∷ ds) b.splits;
      is_slash = b.is_slash;
      is_x = b.is_x;
      no_digits = b.no_digits;
      on_line = b.on_line;
    }

bad_at_more : (q : Quoting) (c : Character) (cs : List Character) → ends q (c ∷ cs) ≡ false → (c.byte == 92) ≡ false →
    BadFrom q cs (body_len q false cs) → BadFrom q (c ∷ cs) (body_len q false (c ∷ cs))
bad_at_more q c cs e slash ih =
    subst (BadFrom q (c ∷ cs)) (sym (body_more q c cs e slash))
    (λ l h. bad_past q c cs l e slash (ih l (sym (bad_behind c (take (body_len q false cs) cs) slash) ∙ h)))

bad_past_pair : (q : Quoting) (c d : Character) (cs : List Character) (l : ℕ) → c.byte ≡ 92 →
    (d.byte ≡ 120 → two_hex cs ≡ true) → BadAt q l cs →
    BadAt q l (c ∷ d ∷ cs)
bad_past_pair q c d cs l slash hex b = record {
  before = c ∷ d ∷ b.before;
  slash = b.slash;
  x = b.x;
  after = b.after;
  goes = p.kept c d slash hex b.goes;
  splits = ap (λ ds. c ∷ d ∷ ds) b.splits;
  is_slash = b.is_slash;
  is_x = b.is_x;
  no_digits = b.no_digits;
  on_line = b.on_line;
}

-- no bad `\x`, and yet an `x`: it has its digits
hex_there : (x : ℕ) (hex : Bool) → x ≡ 120 → (x == 120 && not hex) ≡ false → hex ≡ true
hex_there x true e h = refl
hex_there x false e h = never (x == 120 && true) h (and_from (x == 120) true (eq-eqb x 120 e) refl)

two_hex_more : (n : ℕ) (cs : List Character) → two_hex (take n cs) ≡ true → two_hex cs ≡ true
two_hex_more zero cs e = never false refl e
two_hex_more (suc n) [] e = e
two_hex_more (suc zero) (c ∷ cs) e = never false refl (and_parts (holds (Digit Sixteen) c.byte) false e).1
two_hex_more (suc (suc n)) (c ∷ []) e = e
two_hex_more (suc (suc n)) (c ∷ d ∷ cs) e = e

-- a backslash and what it keeps, where `b` says whether these are such an `\x`
bad_pair : (q : Quoting) (c d : Character) (cs body : List Character) (l : ℕ) (b : Bool) → c.byte ≡ 92 →
    (two_hex body ≡ false → two_hex cs ≡ false) → (two_hex body ≡ true → two_hex cs ≡ true) →
    (bad_line body ≡ Some l → BadAt q l cs) →
    (d.byte == 120 && not (two_hex body)) ≡ b →
    (if b then Some c.line else bad_line body) ≡ Some l → BadAt q l (c ∷ d ∷ cs)
bad_pair q c d cs body l true slash cut keep ih e h =
    let both = and_parts (d.byte == 120) (not (two_hex body)) e in
    record {
      before = [];
      slash = c;
      x = d;
      after = cs;
      goes = p.here;
      splits = refl;
      is_slash = slash;
      is_x = eqb-true d.byte 120 both.0;
      no_digits = cut (not-true (two_hex body) both.1);
      on_line = same_Some l c.line (sym h);
    }
bad_pair q c d cs body l false slash cut keep ih e h =
    bad_past_pair q c d cs l slash (λ x. keep (hex_there d.byte (two_hex body) x e)) (ih h)

bad_at_kept : (q : Quoting) (c d : Character) (cs : List Character) → IsMark q.mark → ends q (c ∷ d ∷ cs) ≡ false →
    (c.byte == 92) ≡ true →
    BadFrom q cs (body_len q false cs) → BadFrom q (c ∷ d ∷ cs) (body_len q false (c ∷ d ∷ cs))
bad_at_kept q c d cs k e slash ih =
    let body = take (body_len q false cs) cs in
    let test = d.byte == 120 && not (two_hex body) in
    let same : bad_line (c ∷ d ∷ body) ≡ (if test then Some c.line else bad_line body) =
    ap (λ b. if b then (if test then Some c.line else bad_line body) else bad_line (d ∷ body)) slash in
    subst (BadFrom q (c ∷ d ∷ cs)) (sym (body_kept q c d cs e slash))
    (λ l h. bad_pair q c d cs body l test (eqb-true c.byte 92 slash) (no_two_hex q cs k)
    (two_hex_more (body_len q false cs) cs)
    (ih l) refl (sym same ∙ h))

-- no character alone is such an `\x`
no_pair : (c : Character) (b : Bool) (l : ℕ) → bad_line (take (if b then 0 else 1) (c ∷ [])) ≡ Some l → ⊥
no_pair c true l h = none-some l h
no_pair c false l h = none-some l h

two_bad : (q : Quoting) (c d : Character) (cs : List Character) (a b : Bool) → IsMark q.mark → ends q (c ∷ d ∷ cs) ≡ a
    → (c.byte == 92) ≡ b →
    BadFrom q (d ∷ cs) (body_len q false (d ∷ cs)) → BadFrom q cs (body_len q false cs) →
    BadFrom q (c ∷ d ∷ cs) (body_len q false (c ∷ d ∷ cs))
two_bad q c d cs true b k e slash ih behind = bad_at_end q c (d ∷ cs) e
two_bad q c d cs false false k e slash ih behind = bad_at_more q c (d ∷ cs) e slash ih
two_bad q c d cs false true k e slash ih behind = bad_at_kept q c d cs k e slash behind

bad_found : (q : Quoting) (cs : List Character) → IsMark q.mark → BadFrom q cs (body_len q false cs)
bad_found q [] k = λ l h. absurd (none-some l h)
bad_found q (c ∷ []) k = λ l h. absurd (no_pair c (ends q (c ∷ [])) l h)
bad_found q (c ∷ d ∷ cs) k =
    two_bad q c d cs (ends q (c ∷ d ∷ cs)) (c.byte == 92) k refl refl (bad_found q (d ∷ cs) k) (bad_found q cs k)

-- ---- the causes

-- a fault is one of a string that is neither raw nor unicode
fault_parts : (raw unicode : Bool) (found : Option ℕ) (l : ℕ) → (if raw || unicode then None else found) ≡ Some l →
    (raw ≡ false) × (unicode ≡ false) × (found ≡ Some l)
fault_parts true unicode found l h = absurd (none-some l h)
fault_parts false true found l h = absurd (none-some l h)
fault_parts false false found l h = (refl, refl, h)

fault_cause : (line l : ℕ) (text inner : List Character) (x : Prefix) (q : Quoting) → Opens q x inner text →
    escape_fault x (take (body_len q false inner) inner) ≡ Some l → HasBadEscape line l text
fault_cause line l text inner x q o h =
    let body = take (body_len q false inner) inner in
    let parts = fault_parts x.raw x.unicode (bad_line body) l h in
    let b = bad_found q inner o.mark l parts.2 in
    p.no_digits q x inner b.before b.slash b.x b.after o parts.0 parts.1 b.goes b.splits b.is_slash b.is_x b.no_digits
    b.on_line

text_cause : (line : ℕ) (text inner body closed rest left : List Character) (x : Prefix) (q : Quoting)
    (bs : Option (List ℕ)) →
    Opens q x inner text → x.unicode ≡ false → inner ≡ closed ++ rest → Closed q body closed →
    unescaped x.raw (map byte_of body) ≡ bs →
    StringCause line text (s.text_of line bs left)
text_cause line text inner body closed rest left x q (Some bs) o plain same h e = tt
text_cause line text inner body closed rest left x q None o plain same h e =
    p.no_meaning q x inner body closed rest o plain same h e refl

literal_cause : (line : ℕ) (text inner : List Character) (x : Prefix) (q : Quoting) (fault : Option ℕ) →
    Opens q x inner text →
    escape_fault x (take (body_len q false inner) inner) ≡ fault →
    StringCause line text (s.literal line x q (take (body_len q false inner) inner)
    (drop (body_len q false inner) inner) fault)
literal_cause line text inner x q (Some l) o h = fault_cause line l text inner x q o h
literal_cause line text inner x q None o h =
    let n = body_len q false inner in
    let body = take n inner in
    let k = quotes_len q in
    let shut = body ++ take k (drop n inner) in
    let left = drop k (drop n inner) in
    let same : inner ≡ shut ++ left = sym (behind_body k n inner) in
    read_cases (StringCause line text) (quotes q (drop n inner)) _ _
    (λ e. read_cases (StringCause line text) x.unicode _ _ (λ f. tt)
    (λ f. text_cause line text inner body shut left left x q (unescaped x.raw (map byte_of body)) o f same
    (body_closed q inner e) refl))
    (λ e. (refl, is_open q x inner text o e))

-- why a string behind a prefix is refused
pub string_cause : (line : ℕ) (ps cs : List Character) (p : Prefix) → Prefixes ps p → next_is Quote cs ≡ true →
    StringCause line (ps ++ cs) (string_at line p cs)
unfolding string_at
string_cause line ps cs x is e =
    let q = quotes_at cs in
    let inner = drop (quotes_len q) cs in
    literal_cause line (ps ++ cs) inner x q (escape_fault x (take (body_len q false inner) inner))
    (quotes_open ps cs x is e) refl
