-- Names, keywords and strings with a prefix at the front of a text: what is read is spelled, and reaches as far as any
-- front that is.
use Rattle.std.proofs.Common.{◌≡◌, ℕ, ◌-◌, ◌≤◌, nat_lt, Bool, true, false, ◌||◌, if◌then◌else◌, List, ◌∷◌, ◌++◌, length, map, take, drop, Option, Some, None, Ok, Err, inl, inr, refl, sym, ap, ◌∙◌, subst, arith}
use Rattle.std.specs.Char.{digit_value}
use Rattle.std.proofs.lemmas.List.{length-drop}
use Rattle.py_tokens.specs.declared.character.Character.{Character}
use Rattle.py_tokens.specs.declared.class.Class.TheVariants.{Name, NameStart, Quote}
use Rattle.py_tokens.specs.declared.literal.Prefix.{Prefix}
use Rattle.py_tokens.specs.declared.literal.Quoting.{Quoting}
use Rattle.py_tokens.specs.Characters.{byte_of}
use Rattle.py_tokens.specs.Classes.{holds, next_is, run, after}
use Rattle.py_tokens.specs.Numbers.{Read}
use Rattle.py_tokens.specs.Strings.{prefix_of, quotes, quotes_len, quotes_at, body_len, escape_fault, text_of, literal, string_at}
use Rattle.py_tokens.specs.Names.{word_number, name_kind, named, name_at}
use Rattle.py_tokens.specs.Tables.{keywords}
use Rattle.py_text.specs.Escape.{unescaped}
use Rattle.front_laws.specs.Spells as s
use Rattle.front_laws.specs.Spells.{Is, Each, Prefixes, IsMark, Quotes, Closed, Spells}
use Rattle.front_laws.proofs.Runs.{after_more, after_none, after_each, after_shorter, run_more, run_each, run_splits, each_run}
use Rattle.front_laws.proofs.Reading.{Spelled, Within, Caused, read_cases}
use Rattle.front_laws.proofs.Tables.{listed, unlisted}
use Rattle.front_laws.proofs.StringFronts.{string_spelled, string_caused, string_within, prefix_spelled, prefix_name}

pub name_of_start : (c : Character) → Is NameStart c → Is Name c
name_of_start c e = ap (λ b. b || nat_lt (digit_value c.byte) 10) e

-- ---- what is read is spelled

kind_cases : (c : Character) (cs : List Character) (o : Option ℕ) → word_number keywords (map byte_of (c ∷ cs)) ≡ o →
    Is NameStart c → Each Name cs →
    Spells (c ∷ cs) (name_kind o (map byte_of (c ∷ cs)))
kind_cases c cs (Some n) e first each = s.keyword n (listed keywords (map byte_of (c ∷ cs)) n e)
kind_cases c cs None e first each = s.name c cs first each (λ n. unlisted keywords (map byte_of (c ∷ cs)) n e)

plain_spelled : (line : ℕ) (c : Character) (cs : List Character) → Is NameStart c →
    Spelled (c ∷ cs) (named line (run Name (c ∷ cs)) (after Name (c ∷ cs)) None)
plain_spelled line c cs first =
    let more = name_of_start c first in
    let front = c ∷ run Name cs in
    let splits : c ∷ cs ≡ front ++ after Name (c ∷ cs) = ap (λ xs. c ∷ xs) (sym (run_splits Name cs))
    ∙ ap (λ xs. front ++ xs) (sym (after_more Name c cs more)) in
    subst (λ xs. Spelled (c ∷ cs) (named line xs (after Name (c ∷ cs)) None)) (sym (run_more Name c cs more))
    (front, splits, kind_cases c (run Name cs) (word_number keywords (map byte_of front)) refl first (each_run Name cs))

prefix_cases : (line : ℕ) (c : Character) (cs : List Character) (o : Option Prefix) → prefix_of (run Name (c ∷ cs)) ≡ o
    → Is NameStart c →
    next_is Quote (after Name (c ∷ cs)) ≡ true →
    Spelled (c ∷ cs) (named line (run Name (c ∷ cs)) (after Name (c ∷ cs)) o)
prefix_cases line c cs (Some p) e first quote =
    subst (λ xs. Spelled xs (string_at line p (after Name (c ∷ cs)))) (run_splits Name (c ∷ cs))
    (string_spelled line (run Name (c ∷ cs)) (after Name (c ∷ cs)) p (prefix_spelled _ p e) quote)
prefix_cases line c cs None e first quote = plain_spelled line c cs first

quote_cases : (line : ℕ) (c : Character) (cs : List Character) (b : Bool) → next_is Quote (after Name (c ∷ cs)) ≡ b →
    Is NameStart c →
    Spelled (c ∷ cs) (named line (run Name (c ∷ cs)) (after Name (c ∷ cs))
    (if b then prefix_of (run Name (c ∷ cs)) else None))
quote_cases line c cs true e first = prefix_cases line c cs (prefix_of (run Name (c ∷ cs))) refl first e
quote_cases line c cs false e first = plain_spelled line c cs first

pub name_spelled : (line : ℕ) (c : Character) (cs : List Character) → Is NameStart c →
    Spelled (c ∷ cs) (name_at line (c ∷ cs))
unfolding name_at
name_spelled line c cs first = quote_cases line c cs (next_is Quote (after Name (c ∷ cs))) refl first

-- ---- it is no bad character

named_caused : (line : ℕ) (xs rest text : List Character) (o : Option Prefix) → Caused line text (named line xs rest o)
named_caused line xs rest text (Some p) = string_caused line p rest text
named_caused line xs rest text None = tt

pub name_caused : (line : ℕ) (cs text : List Character) → Caused line text (name_at line cs)
unfolding name_at
name_caused line cs text = named_caused line (run Name cs) (after Name cs) text _

-- ---- it reaches as far as any front that is spelled

shorter_drop : (n m : ℕ) (cs : List Character) → length cs ≤ m → length (drop n cs) ≤ m
shorter_drop n m cs h = let e : length (drop n cs) ≡ length cs - n = length-drop n cs in omega (arith, e, h)

text_short : (line m : ℕ) (o : Option (List ℕ)) (rest : List Character) → length rest ≤ m →
    Within m (text_of line o rest)
text_short line m (Some bs) rest h = h
text_short line m None rest h = tt

literal_short : (line m : ℕ) (p : Prefix) (q : Quoting) (body rest : List Character) (fault : Option ℕ) →
    length rest ≤ m →
    Within m (literal line p q body rest fault)
literal_short line m p q body rest (Some bad) h = tt
literal_short line m p q body rest None h =
    let inner = drop (quotes_len q) rest in
    let short = shorter_drop (quotes_len q) m rest h in
    read_cases (Within m) (quotes q rest) _ _ (λ e. read_cases (Within m) p.unicode _ _ (λ f. short)
    (λ f. text_short line m (unescaped p.raw (map byte_of body)) inner short)) (λ e. tt)

pub string_short : (line : ℕ) (p : Prefix) (cs : List Character) → Within (length cs) (string_at line p cs)
unfolding string_at
string_short line p cs =
    let q = quotes_at cs in
    let inner = drop (quotes_len q) cs in
    let n = body_len q false inner in
    literal_short line (length cs) p q (take n inner) (drop n inner) (escape_fault p (take n inner))
    (shorter_drop n (length cs) inner (shorter_drop (quotes_len q) (length cs) cs (omega arith)))

pub within_more : (m n : ℕ) (r : Read) → m ≤ n → Within m r → Within n r
within_more m n (Ok p) h w = omega (arith, w, h)
within_more m n (Err e) h w = tt

named_within : (line m : ℕ) (xs rest : List Character) (o : Option Prefix) → length rest ≤ m →
    Within m (named line xs rest o)
named_within line m xs rest (Some p) h = within_more (length rest) m _ h (string_short line p rest)
named_within line m xs rest None h = h

pub name_within : (line : ℕ) (cs rest : List Character) → Each Name cs →
    Within (length rest) (name_at line (cs ++ rest))
unfolding name_at
name_within line cs rest each =
    named_within line (length rest) (run Name (cs ++ rest))
    (after Name (cs ++ rest)) _ (subst (λ xs. length xs ≤ length rest) (sym (after_each Name cs rest each))
    (after_shorter Name rest))

-- quotes are in no name, and begin a string
mark_name : (m : ℕ) → IsMark m → holds Name m ≡ false
mark_name m (inl e) = ap (holds Name) e
mark_name m (inr e) = ap (holds Name) e

mark_quote : (m : ℕ) → IsMark m → holds Quote m ≡ true
mark_quote m (inl e) = ap (holds Quote) e
mark_quote m (inr e) = ap (holds Quote) e

pub quotes_no_name : (q : Quoting) (qs cs rest : List Character) → IsMark q.mark → Quotes q qs →
    next_is Name ((qs ++ cs) ++ rest) ≡ false
quotes_no_name q qs cs rest mark (s.one m c e) = ap (holds Name) e ∙ mark_name m mark
quotes_no_name q qs cs rest mark (s.three m c d f e g h) = ap (holds Name) e ∙ mark_name m mark

pub quotes_quote : (q : Quoting) (qs cs rest : List Character) → IsMark q.mark → Quotes q qs →
    next_is Quote ((qs ++ cs) ++ rest) ≡ true
quotes_quote q qs cs rest mark (s.one m c e) = ap (holds Quote) e ∙ mark_quote m mark
quotes_quote q qs cs rest mark (s.three m c d f e g h) = ap (holds Quote) e ∙ mark_quote m mark

pub prefixed_within : (line : ℕ) (q : Quoting) (p : Prefix) (ps qs body cs rest : List Character) → Prefixes ps p →
    prefix_of ps ≡ Some p →
    IsMark q.mark → Quotes q qs → Closed q body cs →
    Within (length rest) (name_at line (ps ++ ((qs ++ cs) ++ rest)))
unfolding name_at
prefixed_within line q p ps qs body cs rest is e mark opens closes =
    let tail = (qs ++ cs) ++ rest in
    let each = prefix_name ps p is in
    let stops = quotes_no_name q qs cs rest mark opens in
    let read = λ (xs ys : List Character). named line xs ys (if next_is Quote ys then prefix_of xs else None) in
    subst (λ xs. Within (length rest) (read xs (after Name (ps ++ tail)))) (sym (run_each Name ps tail each stops))
    (subst (λ ys. Within (length rest) (read ps ys)) (sym (after_each Name ps tail each ∙ after_none Name tail stops))
    (subst (λ (b : Bool). Within (length rest) (named line ps tail (if b then prefix_of ps else None)))
    (sym (quotes_quote q qs cs rest mark opens))
    (subst (λ o. Within (length rest) (named line ps tail o)) (sym e)
    (string_within line q p qs body cs rest mark opens closes))))
