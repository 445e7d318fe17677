-- A text is cut into its longest pieces, or as far as there is one.
use Rattle.std.proofs.Common.{◌≡◌, ℕ, zero, suc, ◌+◌, ◌≤◌, ◌==◌, Bool, true, false, ◌&&◌, ◌||◌, not, if◌then◌else◌, List, [], ◌∷◌, ◌++◌, length, map, drop, Option, Some, None, Ok, Err, refl, sym, ap, ◌∙◌, subst, arith}
use Rattle.std.proofs.lemmas.Bool.{and_parts, not-true, eqb-true, eq-eqb}
use Rattle.std.proofs.lemmas.List.{length-append}
use Rattle.std.proofs.lemmas.Option.{none-some}
use Rattle.py_base.specs.declared.refusal.Refusal.{Refusal}
use Rattle.py_base.specs.declared.refusal.Refusal.TheVariants.{BadCharacter, NumberWide, OpenString, BadEscape}
use Rattle.py_tokens.specs.declared.character.Character.{Character}
use Rattle.py_tokens.specs.declared.class.Class.TheVariants.{Byte, NameStart, Name, Quote, InLine}
use Rattle.py_tokens.specs.declared.class.Class.TheVariants as class
use Rattle.py_tokens.specs.declared.literal.Prefix.{Prefix}
use Rattle.py_tokens.specs.declared.literal.Quoting.{Quoting}
use Rattle.py_tokens.specs.declared.token.Token.{Token}
use Rattle.py_tokens.specs.declared.token.TokenKind.{TokenKind}
use Rattle.py_tokens.specs.declared.token.TokenKind.TheVariants as k
use Rattle.py_tokens.specs.declared.word.Word.{Word}
use Rattle.py_tokens.specs.declared.word.Word.TheVariants as w
use Rattle.py_tokens.specs.Characters.{byte_of}
use Rattle.py_tokens.specs.Classes.{holds, is_name_start, next_is, run, after}
use Rattle.py_tokens.specs.Numbers.{Read, ten, number_at}
use Rattle.py_tokens.specs.Strings.{prefix, prefix_of, string_at}
use Rattle.py_tokens.specs.Names.{named, name_at, begins, operator_at}
use Rattle.py_tokens.specs.Tables.{keywords, operators}
use Rattle.py_tokens.specs.Place.{token_at}
use Rattle.py_tokens.specs.Words.{Piece, place_before, token_word, is_opening, is_closing, bracketed, operator_word, joint, token_front, word_at, Cut, cut_more, cut}
use Rattle.py_tokens.specs.Layout.{tokens_in}
use Rattle.front_laws.specs.Spells as s
use Rattle.front_laws.specs.Spells.{Is, Each, Whole, Exponent, Pointed, Float, Quotes, Literal, Lists, Spells}
use Rattle.front_laws.specs.Fronts.{IsLongest, BadNumber}
use Rattle.front_laws.specs.Pieces as p
use Rattle.front_laws.specs.Pieces.{begin, IsNoSpace, Cause, Pieces, is_layout, in_line}
use Rattle.front_laws.proofs.Runs.{after_shorter, run_splits, each_run, after_stops}
use Rattle.front_laws.proofs.Reading.{starts_number, Spelled, read_cases}
use Rattle.front_laws.proofs.Tables.{never, every, of_every, IsFound, is_found}
use Rattle.front_laws.proofs.NumberRefusals.{NumberRefused, number_refused}
use Rattle.front_laws.proofs.StringCauses.{StringCause, string_cause}
use Rattle.front_laws.proofs.NumberWide.{too_wide}
use Rattle.front_laws.proofs.StringFronts.{prefix_spelled}
use Rattle.front_laws.proofs.TokenFronts.{operator_read, read_of, as_name, as_string, as_number, as_operator, Reached, front_reached, read_spelled}

-- ---- a token has a character

-- at least one
abbrev Some_in : List Character → Type 0
Some_in cs = 1 ≤ length cs

some_left : (xs ys : List Character) → Some_in xs → Some_in (xs ++ ys)
some_left xs ys h = let l : length (xs ++ ys) ≡ length xs + length ys = length-append xs ys in omega (arith, l, h)

some_whole : (n : ℕ) (cs : List Character) → Whole cs n → Some_in cs
some_whole n cs (s.zero_digit c e) = omega arith
some_whole n cs (s.decimal c ds e each) = omega arith
some_whole n cs (s.octal c d ds e each) = omega arith
some_whole n cs (s.in_base base letter is c x d ds e f each) = omega arith

some_pointed : (cs : List Character) → Pointed cs → Some_in cs
some_pointed cs (s.behind q f fs e each) = omega arith
some_pointed cs (s.before d ds q fs each e rest) = some_left (d ∷ ds) (q ∷ fs) (omega arith)

some_float : (cs : List Character) → Float cs → Some_in cs
some_float cs (s.pointed h) = some_pointed cs h
some_float cs (s.raised {cs = ds} {es = es} h e) = some_left ds es (some_pointed ds h)
some_float cs (s.power d ds {es = es} each e) = some_left (d ∷ ds) es (omega arith)

is_some_word : List ℕ → Bool
is_some_word [] = false
is_some_word (b ∷ bs) = true

some_keyword : every is_some_word keywords ≡ true
unfolding is_some_word
some_keyword = refl

some_operator : every is_some_word operators ≡ true
unfolding is_some_word
some_operator = refl

some_word : (cs : List Character) → is_some_word (map byte_of cs) ≡ true → Some_in cs
unfolding is_some_word
some_word [] e = never false refl e
some_word (c ∷ cs) e = omega arith

some_quotes : (q : Quoting) (qs : List Character) → Quotes q qs → Some_in qs
some_quotes q qs (s.one m c e) = omega arith
some_quotes q qs (s.three m c d x e f g) = omega arith

some_literal : (cs body : List Character) (p : Prefix) → Literal cs p body → Some_in cs
some_literal cs body p (s.literal q {ps = ps} {qs = qs} {cs = ds} is mark opens closes) =
    let n : 1 ≤ length qs = some_quotes q qs opens in
    let a : length (ps ++ qs) ≡ length ps + length qs = length-append ps qs in
    some_left (ps ++ qs) ds (omega (arith, a, n))

some_spelled : (cs : List Character) (kind : TokenKind) → Spells cs kind → Some_in cs
some_spelled cs kind (s.keyword n h) = some_word cs (of_every is_some_word keywords (map byte_of cs) n some_keyword h)
some_spelled cs kind (s.name c ds first each none) = omega arith
some_spelled cs kind (s.operator n h) = some_word cs
    (of_every is_some_word operators (map byte_of cs) n some_operator h)
some_spelled cs kind (s.int {n = n} whole small) = some_whole n cs whole
some_spelled cs kind (s.long {cs = ds} {n = n} l whole e) = some_left ds (l ∷ []) (some_whole n ds whole)
some_spelled cs kind (s.float f) = some_float cs f
some_spelled cs kind (s.imaginary {cs = ds} j f e) = some_left ds (j ∷ []) (some_float ds f)
some_spelled cs kind (s.imaginary_whole d ds j each e) = some_left (d ∷ ds) (j ∷ []) (omega arith)
some_spelled cs kind (s.string {body = body} {p = p} l raw e) = some_literal cs body p l
some_spelled cs kind (s.unicode_string {body = body} {p = p} l e) = some_literal cs body p l

-- ---- what is read is the longest

read_reached : (n : ℕ) (cs : List Character) (r : Read) → read_of cs ≡ r → Reached n cs (read_of cs) → Reached n cs r
read_reached n cs r e h = subst (Reached n cs) e h

front_longest : (cs front rest : List Character) (kind : TokenKind) → cs ≡ front ++ rest → read_of cs ≡ Ok (kind, rest)
    → Spells front kind →
    IsLongest front rest kind
front_longest cs front rest kind splits read spelled = record {
  spelled = spelled;
  longest = λ more later some e h.
      let left : length rest ≤ length later = read_reached (length later) cs (Ok (kind, rest)) read
      (subst (λ xs. Reached (length later) xs (read_of xs)) (sym e ∙ sym splits) (front_reached more later some h)) in
      let same : length (front ++ rest) ≡ length (more ++ later) = ap length e in
      let a : length (front ++ rest) ≡ length front + length rest = length-append front rest in
      let b : length (more ++ later) ≡ length more + length later = length-append more later in
      omega (arith, left, same, a, b);
}

-- of a bad character: any front that is spelled is that of a number that is none
fronts_bad : (cs : List Character) (l : ℕ) → read_of cs ≡ Err (BadCharacter l) →
    (front rest : List Character) (kind : TokenKind) →
    cs ≡ front ++ rest → Spells front kind → BadNumber cs
fronts_bad cs l read front rest kind e h =
    read_reached (length rest) cs (Err (BadCharacter l)) read
    (subst (λ xs. Reached (length rest) xs (read_of xs)) (sym e)
    (front_reached front rest kind h))

-- ---- why nothing is read

-- the cause of a refusal, but for the fronts of a bad character
abbrev Told : Character → List Character → Refusal → Type 0
Told c cs (BadCharacter l) = l ≡ c.line
Told c cs (NumberWide l) = (l ≡ c.line) × p.TooWide (c ∷ cs)
Told c cs (OpenString l) = (l ≡ c.line) × p.IsOpen (c ∷ cs)
Told c cs (BadEscape l) = p.HasBadEscape c.line l (c ∷ cs)
Told c cs _ = ⊥

abbrev ReadTold : Character → List Character → Read → Type 0
ReadTold c cs (Ok r) = Unit {0}
ReadTold c cs (Err e) = Told c cs e

number_told : (c : Character) (cs : List Character) (r : Read) → starts_number (c ∷ cs) ≡ true →
    number_at c.line (c ∷ cs) ≡ r →
    NumberRefused c.line r → ReadTold c cs r
number_told c cs (Ok r) starts e refused = tt
number_told c cs (Err (BadCharacter l)) starts e refused = refused
number_told c cs (Err (NumberWide l)) starts e refused = (refused, too_wide c.line l (c ∷ cs) starts e)
number_told c cs (Err _) starts e refused = absurd refused

string_told : (c : Character) (cs : List Character) (r : Read) → StringCause c.line (c ∷ cs) r → ReadTold c cs r
string_told c cs (Ok r) cause = tt
string_told c cs (Err (OpenString l)) cause = cause
string_told c cs (Err (BadEscape l)) cause = cause
string_told c cs (Err _) cause = absurd cause

named_told : (c : Character) (cs : List Character) (o : Option Prefix) → prefix_of (run Name (c ∷ cs)) ≡ o →
    next_is Quote (after Name (c ∷ cs)) ≡ true →
    ReadTold c cs (named c.line (run Name (c ∷ cs)) (after Name (c ∷ cs)) o)
named_told c cs None e quote = tt
named_told c cs (Some x) e quote =
    let ps = run Name (c ∷ cs) in
    let rest = after Name (c ∷ cs) in
    string_told c cs _
    (subst (λ xs. StringCause c.line xs (string_at c.line x rest)) (run_splits Name (c ∷ cs))
    (string_cause c.line ps rest x (prefix_spelled ps x e) quote))

name_cases : (c : Character) (cs : List Character) (b : Bool) → next_is Quote (after Name (c ∷ cs)) ≡ b →
    ReadTold c cs (named c.line (run Name (c ∷ cs)) (after Name (c ∷ cs))
    (if b then prefix_of (run Name (c ∷ cs)) else None))
name_cases c cs true e = named_told c cs (prefix_of (run Name (c ∷ cs))) refl e
name_cases c cs false e = tt

name_told : (c : Character) (cs : List Character) → ReadTold c cs (name_at c.line (c ∷ cs))
unfolding name_at
name_told c cs = name_cases c cs (next_is Quote (after Name (c ∷ cs))) refl

operator_told : (c : Character) (cs : List Character) (o : Option (ℕ × ℕ)) →
    ReadTold c cs (operator_read c.line (c ∷ cs) o)
operator_told c cs None = refl
operator_told c cs (Some o) = tt

read_told : (c : Character) (cs : List Character) → ReadTold c cs (read_of (c ∷ cs))
read_told c cs =
    let all = c ∷ cs in
    let P = ReadTold c cs in
    read_cases P (next_is NameStart all) _ _ (λ e. name_told c cs)
    (λ e. read_cases P (next_is Quote all) _ _
    (λ f. string_told c cs _ (string_cause c.line [] all (prefix false false) s.none f))
    (λ f. read_cases P (starts_number all) _ _
    (λ g. number_told c cs (number_at c.line all) g refl (number_refused c.line all))
    (λ g. operator_told c cs (operator_at operators all))))

cause_of : (c : Character) (cs : List Character) (e : Refusal) → read_of (c ∷ cs) ≡ Err e → Told c cs e → Cause c cs e
cause_of c cs (BadCharacter l) read told = (told, fronts_bad (c ∷ cs) l read)
cause_of c cs (NumberWide l) read told = told
cause_of c cs (OpenString l) read told = told
cause_of c cs (BadEscape l) read told = told
cause_of c cs _ read told = absurd told

read_cause : (c : Character) (cs : List Character) (e : Refusal) → read_of (c ∷ cs) ≡ Err e → Cause c cs e
read_cause c cs e read = cause_of c cs e read (subst (ReadTold c cs) read (read_told c cs))

-- ---- words

-- a word and what follows it, before any pieces of the rest; or why there is none
abbrev PieceIs : ℕ → Character → List Character → Piece → Type 0
PieceIs size c cs (Ok r) =
    (length r.1 ≤ length cs) × ((ts : List Token) (e : Option Refusal) → Pieces size r.1 ts e →
    Pieces size (c ∷ cs) (tokens_in (r.0 ∷ []) ++ ts) e)
PieceIs size c cs (Err e) = Pieces size (c ∷ cs) [] (Some e)

piece_cases : (size : ℕ) (c : Character) (cs : List Character) (b : Bool) (r s : Piece) →
    (b ≡ true → PieceIs size c cs r) →
    (b ≡ false → PieceIs size c cs s) → PieceIs size c cs (if b then r else s)
piece_cases size c cs true r s f g = f refl
piece_cases size c cs false r s f g = g refl

-- the first character, if there is one
unfoldable pub first_or : Character → List Character → Character
first_or d [] = d
first_or d (c ∷ cs) = c

placed : (size : ℕ) (c : Character) (rest : List Character) (kind : TokenKind) →
    token_at kind (place_before size c rest) ≡ record {
      kind = kind;
      from = c.from;
      to = begin size rest;
      line =
          c.line;
    }
placed size c [] kind = refl
placed size c (d ∷ ds) kind = refl

taken : (size : ℕ) (c : Character) (cs front rest : List Character) (kind : TokenKind) → c ∷ cs ≡ front ++ rest →
    Some_in front →
    IsLongest front rest kind →
    (length rest ≤ length cs) × ((ts : List Token) (e : Option Refusal) → Pieces size rest ts e → Pieces size (c ∷ cs)
    (token_at kind (place_before size c rest) ∷ ts) e)
unfolding first_or
taken size c cs [] rest kind e some longest = absurd (omega (arith, some))
taken size c cs (d ∷ ds) rest kind e some longest =
    let same : c ≡ d = ap (first_or c) e in
    let lengths : length (c ∷ cs) ≡ length ((d ∷ ds) ++ rest) = ap length e in
    let a : length ((d ∷ ds) ++ rest) ≡ length (d ∷ ds) + length rest = length-append (d ∷ ds) rest in (
      omega (arith, lengths, a),
      λ ts x h.
          subst (λ t. Pieces size (c ∷ cs) (t ∷ ts) x) (sym (placed size c rest kind))
          (subst (λ z. Pieces size (c ∷ cs)
          (record { kind = kind; from = z.from; to = begin size rest; line = z.line } ∷ ts) x) (sym same)
          (subst (λ xs. Pieces size xs (record { kind = kind; from = d.from; to = begin size rest; line = d.line } ∷
          ts) x) (sym e)
          (p.token d ds kind longest h))),
    )

-- ---- the token at the front

bracketed_token : (n : ℕ) (t : Token) → tokens_in (bracketed n t ∷ []) ≡ t ∷ []
bracketed_token n t = go (is_opening n) (is_closing n)
  where
    go : (x y : Bool) → tokens_in ((if x then w.Opens t else (if y then w.Closes t else w.Plain t)) ∷ []) ≡ t ∷ []
    go true y = refl
    go false true = refl
    go false false = refl

-- what is read is the word, and so are its pieces
read_piece : (size : ℕ) (c : Character) (cs : List Character) (r : Read) → IsNoSpace c cs → read_of (c ∷ cs) ≡ r →
    PieceIs size c cs (token_word size c r)
read_piece size c cs (Ok (kind, rest)) space read =
    let spelled = subst (Spelled (c ∷ cs)) read (read_spelled c cs) in
    taken size c cs spelled.0 rest kind spelled.1 (some_spelled spelled.0 kind spelled.2)
    (front_longest (c ∷ cs) spelled.0 rest kind spelled.1 read spelled.2)
read_piece size c cs (Err e) space read = p.none c e space (read_cause c cs e read)

operator_piece : (size : ℕ) (c : Character) (cs : List Character) (o : Option (ℕ × ℕ)) →
    PieceIs size c cs (token_word size c (operator_read c.line (c ∷ cs) o)) →
    PieceIs size c cs (operator_word size c (c ∷ cs) o)
operator_piece size c cs None h = h
operator_piece size c cs (Some o) h =
    let t = token_at (k.Op o.0) (place_before size c (drop o.1 (c ∷ cs))) in
    (h.0, λ ts e more. subst (λ us. Pieces size (c ∷ cs) (us ++ ts) e) (sym (bracketed_token o.0 t)) (h.1 ts e more))

front_piece : (size : ℕ) (c : Character) (cs : List Character) → IsNoSpace c cs →
    PieceIs size c cs (token_front size c cs (c ∷ cs))
front_piece size c cs space =
    let all = c ∷ cs in
    piece_cases size c cs (next_is NameStart all) _ _
    (λ e. read_piece size c cs (name_at c.line all) space (as_name all e))
    (λ e. piece_cases size c cs (next_is Quote all) _ _
    (λ f. read_piece size c cs (string_at c.line (prefix false false) all) space
    (as_string all e f))
    (λ f. piece_cases size c cs (starts_number all) _ _
    (λ g. read_piece size c cs (number_at c.line all) space (as_number all e f g))
    (λ g. operator_piece size c cs (operator_at operators all)
    (read_piece size c cs (operator_read c.line all (operator_at operators all)) space (as_operator all e f g)))))

-- ---- a backslash begins no token

is_no_slash : List ℕ → Bool
is_no_slash [] = false
is_no_slash (b ∷ bs) = not (b == 92)

no_slash : every is_no_slash operators ≡ true
unfolding is_no_slash
no_slash = refl

slash_word : (word : List ℕ) (c : Character) (cs : List Character) → c.byte ≡ 92 → is_no_slash word ≡ true →
    begins word (c ∷ cs) ≡ true → ⊥
unfolding is_no_slash
slash_word [] c cs e h f = never false refl h
slash_word (b ∷ bs) c cs e h f =
    let same : c.byte ≡ b = eqb-true c.byte b (and_parts (c.byte == b) (begins bs cs) f).0 in
    never (b == 92) (not-true (b == 92) h) (eq-eqb b 92 (sym same ∙ e))

slash_operator : (c : Character) (cs : List Character) (o : Option (ℕ × ℕ)) → c.byte ≡ 92 →
    IsFound operators (c ∷ cs) o → o ≡ None
slash_operator c cs None e h = refl
slash_operator c cs (Some o) e h = absurd
    (slash_word h.0 c cs e (of_every is_no_slash operators h.0 o.0 no_slash h.1) h.3)

slash_read : (c : Character) (cs : List Character) → c.byte ≡ 92 → read_of (c ∷ cs) ≡ Err (BadCharacter c.line)
slash_read c cs e =
    let all = c ∷ cs in
    as_operator all (ap is_name_start e) (ap (holds Quote) e) (ap (λ b. holds ten b || (b == 46 && next_is ten cs)) e)
    ∙ ap (operator_read c.line all) (slash_operator c cs (operator_at operators all) e (is_found operators all))

joint_piece : (size : ℕ) (c : Character) (cs : List Character) → (Is class.Blank c → ⊥) → (c.byte ≡ 10 → ⊥) →
    (c.byte ≡ 35 → ⊥) → c.byte ≡ 92 →
    PieceIs size c cs (joint c cs)
joint_piece size c [] blank end comment e =
    p.none c (BadCharacter c.line) (record { blank = blank; line_end = end; comment = comment; joint = λ x. refl })
    (read_cause c [] (BadCharacter c.line) (slash_read c [] e))
joint_piece size c (d ∷ ds) blank end comment e =
    piece_cases size c (d ∷ ds) (d.byte == 10) _ _
    (λ f. (omega arith, λ ts x more. p.joint c d e (eqb-true d.byte 10 f) more))
    (λ f. p.none c (BadCharacter c.line) (record { blank = blank; line_end = end; comment = comment; joint = λ x. f })
    (read_cause c (d ∷ ds) (BadCharacter c.line) (slash_read c (d ∷ ds) e)))

-- ---- the word at the front

word_piece : (size : ℕ) (c : Character) (cs : List Character) → PieceIs size c cs (word_at size (c ∷ cs))
unfolding word_at
word_piece size c cs =
    piece_cases size c cs (c.byte == 10) _ _ (λ e. (omega arith, λ ts x more. p.line_end c (eqb-true c.byte 10 e) more))
    (λ e. piece_cases size c cs (holds class.Blank c.byte) _ _ (λ f. (omega arith, λ ts x more. p.blank c f more))
    (λ f. piece_cases size c cs (c.byte == 35) _ _
    (λ g. (
      after_shorter InLine cs,
      λ ts x more. subst (λ ds. Pieces size (c ∷ ds) ts x) (run_splits InLine cs)
          (p.comment c (run InLine cs) (eqb-true c.byte 35 g) (each_run InLine cs) (after_stops InLine cs) more),
    ))
    (λ g. piece_cases size c cs (c.byte == 92) _ _
    (λ h. joint_piece size c cs (λ x. never (holds class.Blank c.byte) f x)
    (λ x. never (c.byte == 10) e (eq-eqb c.byte 10 x))
    (λ x. never (c.byte == 35) g (eq-eqb c.byte 35 x)) (eqb-true c.byte 92 h))
    (λ h. front_piece size c cs (record {
      blank = λ x. never (holds class.Blank c.byte) f x;
      line_end = λ x. never (c.byte == 10) e (eq-eqb c.byte 10 x);
      comment = λ x. never (c.byte == 35) g (eq-eqb c.byte 35 x);
      joint = λ x. never (c.byte == 92) h (eq-eqb c.byte 92 x);
    })))))

-- ---- the cut

-- the tokens of these words, where the text was cut to its end
abbrev pub CutIs : ℕ → List Character → Cut → Type 0
CutIs size cs c = (ts : List Token) × Pieces size cs ts c.stop × (c.stop ≡ None → tokens_in c.words ≡ ts)

word_tokens : (x : Word) (xs : List Word) → tokens_in (x ∷ xs) ≡ tokens_in (x ∷ []) ++ tokens_in xs
word_tokens (w.Blank b) xs = refl
word_tokens w.Comment xs = refl
word_tokens (w.Joint q) xs = refl
word_tokens (w.LineEnd q) xs = refl
word_tokens (w.Opens t) xs = refl
word_tokens (w.Closes t) xs = refl
word_tokens (w.Plain t) xs = refl

more_cut : (size n : ℕ) (c : Character) (cs : List Character) (r : Piece) → length cs ≤ n →
    ((rest : List Character) → length rest ≤ n → CutIs size rest (cut n size rest)) → PieceIs size c cs r →
    CutIs size (c ∷ cs) (cut_more c (cut n size) r)
more_cut size n c cs (Ok r) most more piece =
    let short : length r.1 ≤ length cs = piece.0 in
    let rest = more r.1 (omega (arith, short, most)) in (
      tokens_in (r.0 ∷ []) ++ rest.0,
      piece.1 rest.0 (cut n size r.1).stop rest.1,
      λ e. word_tokens r.0 (cut n size r.1).words
          ∙ ap (λ us. tokens_in (r.0 ∷ []) ++ us) (rest.2 e),
    )
more_cut size n c cs (Err e) most more piece = ([], piece, λ f. absurd (none-some e (sym f)))

pub cut_is : (size n : ℕ) (cs : List Character) → length cs ≤ n → CutIs size cs (cut n size cs)
unfolding cut
cut_is size zero [] h = ([], p.end, λ e. refl)
cut_is size (suc n) [] h = ([], p.end, λ e. refl)
cut_is size zero (c ∷ cs) h = absurd (omega (arith, h))
cut_is size (suc n) (c ∷ cs) h =
    more_cut size n c cs (word_at size (c ∷ cs)) (omega (arith, h)) (λ rest g. cut_is size n rest g)
    (word_piece size c cs)
