-- The characters and the words of a text are slices of it, in order.
use Rattle.std.proofs.Common.{ℕ, zero, suc, ◌+◌, ◌≤◌, Bool, true, false, ◌==◌, nat_lt, ◌&&◌, ◌||◌, if◌then◌else◌, List, [], ◌∷◌, length, map, take, drop, Option, Some, None, Ok, Err, arith}
use Rattle.std.specs.Str.Parse.{digits_value}
use Rattle.py_text.specs.Escape.{unescaped}
use Rattle.py_tokens.specs.declared.character.Character.{Character}
use Rattle.py_tokens.specs.declared.class.Base.{Base}
use Rattle.py_tokens.specs.declared.class.Base.TheVariants.{Two, Eight, Ten, Sixteen}
use Rattle.py_tokens.specs.declared.class.Class.TheVariants as class
use Rattle.py_tokens.specs.declared.literal.Prefix.{Prefix}
use Rattle.py_tokens.specs.declared.literal.Quoting.{Quoting}
use Rattle.py_tokens.specs.declared.token.Token.{Token}
use Rattle.py_tokens.specs.declared.token.TokenKind.{TokenKind}
use Rattle.py_tokens.specs.declared.token.TokenKind.TheVariants as k
use Rattle.py_tokens.specs.declared.word.Word.{Word}
use Rattle.py_tokens.specs.declared.word.Word.TheVariants.{Blank, Comment, Joint, LineEnd, Opens, Closes, Plain}
use Rattle.py_tokens.specs.Place.{token_at}
use Rattle.py_tokens.specs.Characters.{byte_of, line_end, line_after, characters}
use Rattle.py_tokens.specs.Classes.{base_of, holds, next_is, run_len, run, after}
use Rattle.py_tokens.specs.Numbers.{Read, ten, suffixed, prefixed, after_point, after_exponent, float, whole, unprefixed, number_at}
use Rattle.py_tokens.specs.Strings.{prefix, prefix_of, quotes, quotes_len, quotes_at, body_len, escape_fault, text_of, literal, string_at}
use Rattle.py_tokens.specs.Names.{word_number, name_kind, named, name_at, operator_at}
use Rattle.py_tokens.specs.Tables.{keywords, operators}
use Rattle.py_tokens.specs.Words.{Piece, place_before, token_word, is_opening, is_closing, bracketed, operator_word, word_at, cut_more, cut}

-- a token of a line, and not of the layout
abbrev pub IsInLine : TokenKind → Type 0
IsInLine k.Newline = ⊥
IsInLine k.Indent = ⊥
IsInLine k.Dedent = ⊥
IsInLine k.End = ⊥
IsInLine (k.Name bs) = Unit {0}
IsInLine (k.Keyword n) = Unit {0}
IsInLine (k.Int n) = Unit {0}
IsInLine (k.Str bs) = Unit {0}
IsInLine (k.Op n) = Unit {0}
IsInLine (k.Other o) = Unit {0}

-- ---- characters

-- characters in order, from this place on
abbrev pub Placed : ℕ → ℕ → List Character → Type 0
Placed size at [] = at ≤ size
Placed size at (c ∷ cs) = (at ≤ c.from) × (c.from ≤ c.to) × Placed size c.to cs

pub placed_le : (size a b : ℕ) (cs : List Character) → a ≤ b → Placed size b cs → Placed size a cs
placed_le size a b [] h p = let q : b ≤ size = p in omega arith
placed_le size a b (c ∷ cs) h p = let q : b ≤ c.from = p.0 in (omega arith, p.1, p.2)

placed_drop : (size at n : ℕ) (cs : List Character) → Placed size at cs → Placed size at (drop n cs)
placed_drop size at zero [] p = p
placed_drop size at (suc n) [] p = p
placed_drop size at zero (c ∷ cs) p = p
placed_drop size at (suc n) (c ∷ cs) p = let q : at ≤ c.from = p.0 in let r : c.from ≤ c.to = p.1 in
    placed_le size at c.to (drop n cs) (omega arith) (placed_drop size c.to n cs p.2)

pub placed_cases : (p : Bool) (size at : ℕ) (xs ys : List Character) → Placed size at xs → Placed size at ys →
    Placed size at (if p then xs else ys)
placed_cases true size at xs ys p q = p
placed_cases false size at xs ys p q = q

pub placed_characters : (size at line : ℕ) (bs : List ℕ) → at + length bs ≤ size →
    Placed size at (characters at line bs)
placed_characters size at line [] h = omega arith
placed_characters size at line (b ∷ []) h = (omega arith, omega arith, omega arith)
placed_characters size at line (b ∷ c ∷ bs) h =
    placed_cases (b == 13 && c == 10) size at _ _
    (omega arith, omega arith, placed_characters size (at + 2) (line + 1) bs (omega arith))
    (omega arith, omega arith, placed_characters size (at + 1) (line_after (line_end b) line) (c ∷ bs) (omega arith))

-- ---- what is read at the front

-- the second list is a rest of the first
abbrev Keeps : List Character → List Character → Type 0
Keeps cs ds = (size at : ℕ) → Placed size at cs → Placed size at ds

keeps_all : (cs : List Character) → Keeps cs cs
keeps_all cs size at p = p

keeps_drop : (n : ℕ) (cs ds : List Character) → Keeps cs ds → Keeps cs (drop n ds)
keeps_drop n cs ds h size at p = placed_drop size at n ds (h size at p)

keeps_if : (b : Bool) (cs xs ys : List Character) → Keeps cs xs → Keeps cs ys → Keeps cs (if b then xs else ys)
keeps_if true cs xs ys p q = p
keeps_if false cs xs ys p q = q

-- what was read is a token of a line, and what follows it is a rest
abbrev ReadKeeps : List Character → Read → Type 0
ReadKeeps cs (Ok p) = IsInLine p.0 × Keeps cs p.1
ReadKeeps cs (Err e) = Unit {0}

read_if : (b : Bool) (cs : List Character) (r s : Read) → ReadKeeps cs r → ReadKeeps cs s →
    ReadKeeps cs (if b then r else s)
read_if true cs r s p q = p
read_if false cs r s p q = q

keeps_suffixed : (line : ℕ) (base : Base) (digits cs rest : List Character) → Keeps cs rest →
    ReadKeeps cs (suffixed line base digits rest)
keeps_suffixed line base digits cs rest h =
    read_if (next_is (class.Letter 108) rest) cs _ _ (tt, keeps_drop 1 cs rest h)
    (read_if (nat_lt (digits_value (base_of base) (map byte_of digits)) 9223372036854775808) cs _ _ (tt, h) tt)

keeps_prefixed : (line : ℕ) (base : Base) (all cs : List Character) → Keeps all cs →
    ReadKeeps all (prefixed line base cs)
keeps_prefixed line base all cs h = read_if (next_is (class.Digit base) cs) all _ _
    (keeps_suffixed line base (run (class.Digit base) cs) all (after (class.Digit base) cs)
    (keeps_drop (run_len (class.Digit base) cs) all cs h)) tt

keeps_float : (all cs : List Character) → Keeps all cs → ReadKeeps all (float cs)
keeps_float all cs h = (tt, keeps_if (next_is (class.Letter 106) cs) all (drop 1 cs) cs (keeps_drop 1 all cs h) h)

keeps_after : (all cs : List Character) → Keeps all cs → Keeps all (after ten cs)
keeps_after all cs h = keeps_drop (run_len ten cs) all cs h

keeps_point : (all cs : List Character) → Keeps all cs → Keeps all (after_point cs)
keeps_point all cs h = keeps_if (next_is (class.Byte 46) cs) all _ _
    (keeps_after all (drop 1 cs) (keeps_drop 1 all cs h)) h

keeps_exponent : (all cs : List Character) → Keeps all cs → Keeps all (after_exponent cs)
keeps_exponent all cs h =
    keeps_if (next_is (class.Letter 101) cs) all _ _
    (keeps_if (next_is ten (drop 1 cs)) all _ _ (keeps_after all (drop 1 cs) (keeps_drop 1 all cs h))
    (keeps_if (next_is class.Sign (drop 1 cs) && next_is ten (drop 1 (drop 1 cs))) all _ _
    (keeps_after all (drop 1 (drop 1 cs)) (keeps_drop 1 all (drop 1 cs) (keeps_drop 1 all cs h))) h))
    h

keeps_whole : (line : ℕ) (digits all rest : List Character) → Keeps all rest → ReadKeeps all (whole line digits rest)
keeps_whole line digits all rest h =
    read_if (length digits == 0) all _ _ tt
    (read_if (next_is (class.Byte 48) digits && nat_lt 1 (length digits)) all _ _
    (read_if (run_len (class.Digit Eight) digits == length digits) all _ _
    (keeps_suffixed line Eight digits all rest h) tt)
    (keeps_suffixed line Ten digits all rest h))

keeps_unprefixed : (line : ℕ) (cs : List Character) → ReadKeeps cs (unprefixed line cs)
keeps_unprefixed line cs =
    let rest = after ten cs in
    let h = keeps_after cs cs (keeps_all cs) in
    let more = after_exponent (after_point rest) in
    read_if (nat_lt (length more) (length rest)) cs _ _
    (keeps_float cs more (keeps_exponent cs (after_point rest) (keeps_point cs rest h)))
    (read_if (next_is (class.Letter 106) rest) cs _ _ (keeps_float cs rest h) (keeps_whole line (run ten cs) cs rest h))

keeps_number : (line : ℕ) (cs : List Character) → ReadKeeps cs (number_at line cs)
unfolding number_at
keeps_number line cs =
    let one = drop 1 cs in
    let two = drop 1 one in
    let h = keeps_drop 1 cs one (keeps_drop 1 cs cs (keeps_all cs)) in
    read_if (next_is (class.Byte 48) cs) cs _ _
    (read_if (next_is (class.Letter 120) one) cs _ _ (keeps_prefixed line Sixteen cs two h)
    (read_if (next_is (class.Letter 98) one) cs _ _ (keeps_prefixed line Two cs two h)
    (read_if (next_is (class.Letter 111) one) cs _ _ (keeps_prefixed line Eight cs two h) (keeps_unprefixed line cs))))
    (keeps_unprefixed line cs)

keeps_text : (line : ℕ) (o : Option (List ℕ)) (all rest : List Character) → Keeps all rest →
    ReadKeeps all (text_of line o rest)
keeps_text line (Some bs) all rest h = (tt, h)
keeps_text line None all rest h = tt

keeps_literal : (line : ℕ) (p : Prefix) (q : Quoting) (body all rest : List Character) (fault : Option ℕ) →
    Keeps all rest → ReadKeeps all (literal line p q body rest fault)
keeps_literal line p q body all rest (Some bad) h = tt
keeps_literal line p q body all rest None h =
    let inner = drop (quotes_len q) rest in
    let g = keeps_drop (quotes_len q) all rest h in
    read_if (quotes q rest) all _ _ (read_if p.unicode all _ _ (tt, g)
    (keeps_text line (unescaped p.raw (map byte_of body)) all inner g)) tt

keeps_string : (line : ℕ) (p : Prefix) (all cs : List Character) → Keeps all cs → ReadKeeps all (string_at line p cs)
unfolding string_at
keeps_string line p all cs h =
    let q = quotes_at cs in
    let inner = drop (quotes_len q) cs in
    let n = body_len q false inner in
    keeps_literal line p q (take n inner) all (drop n inner) (escape_fault p (take n inner))
    (keeps_drop n all inner (keeps_drop (quotes_len q) all cs h))

name_in_line : (o : Option ℕ) (name : List ℕ) → IsInLine (name_kind o name)
name_in_line (Some n) name = tt
name_in_line None name = tt

keeps_named : (line : ℕ) (name all rest : List Character) (o : Option Prefix) → Keeps all rest →
    ReadKeeps all (named line name rest o)
keeps_named line name all rest (Some p) h = keeps_string line p all rest h
keeps_named line name all rest None h = (name_in_line (word_number keywords (map byte_of name)) (map byte_of name), h)

keeps_name : (line : ℕ) (cs : List Character) → ReadKeeps cs (name_at line cs)
unfolding name_at
keeps_name line cs =
    let rest = after class.Name cs in
    keeps_named line (run class.Name cs) cs rest
    (if next_is class.Quote rest then prefix_of (run class.Name cs) else None)
    (keeps_drop (run_len class.Name cs) cs cs (keeps_all cs))

-- ---- words

-- words in order, from this place on
abbrev pub WordsPlaced : ℕ → ℕ → List Word → Type 0
WordsPlaced size at [] = at ≤ size
WordsPlaced size at (Blank b ∷ ws) = WordsPlaced size at ws
WordsPlaced size at (Comment ∷ ws) = WordsPlaced size at ws
WordsPlaced size at (Joint p ∷ ws) = (at ≤ p.from) × (p.from ≤ p.to) × WordsPlaced size p.to ws
WordsPlaced size at (LineEnd p ∷ ws) = (at ≤ p.from) × (p.from ≤ p.to) × WordsPlaced size p.to ws
WordsPlaced size at (Opens t ∷ ws) = (at ≤ t.from) × (t.from ≤ t.to) × IsInLine t.kind × WordsPlaced size t.to ws
WordsPlaced size at (Closes t ∷ ws) = (at ≤ t.from) × (t.from ≤ t.to) × IsInLine t.kind × WordsPlaced size t.to ws
WordsPlaced size at (Plain t ∷ ws) = (at ≤ t.from) × (t.from ≤ t.to) × IsInLine t.kind × WordsPlaced size t.to ws

pub words_placed_le : (size a b : ℕ) (ws : List Word) → a ≤ b → WordsPlaced size b ws → WordsPlaced size a ws
words_placed_le size a b [] h p = let q : b ≤ size = p in omega arith
words_placed_le size a b (Blank x ∷ ws) h p = words_placed_le size a b ws h p
words_placed_le size a b (Comment ∷ ws) h p = words_placed_le size a b ws h p
words_placed_le size a b (Joint e ∷ ws) h p = let q : b ≤ e.from = p.0 in (omega arith, p.1, p.2)
words_placed_le size a b (LineEnd e ∷ ws) h p = let q : b ≤ e.from = p.0 in (omega arith, p.1, p.2)
words_placed_le size a b (Opens t ∷ ws) h p = let q : b ≤ t.from = p.0 in (omega arith, p.1, p.2, p.3)
words_placed_le size a b (Closes t ∷ ws) h p = let q : b ≤ t.from = p.0 in (omega arith, p.1, p.2, p.3)
words_placed_le size a b (Plain t ∷ ws) h p = let q : b ≤ t.from = p.0 in (omega arith, p.1, p.2, p.3)

-- a word, before any words that are in order after it
abbrev PieceGood : ℕ → ℕ → Piece → Type 0
PieceGood size at (Ok p) = (ws : List Word) → ((b : ℕ) → Placed size b p.1 → WordsPlaced size b ws) →
    WordsPlaced size at (p.0 ∷ ws)
PieceGood size at (Err e) = Unit {0}

piece_if : (b : Bool) (size at : ℕ) (r s : Piece) → PieceGood size at r → PieceGood size at s →
    PieceGood size at (if b then r else s)
piece_if true size at r s p q = p
piece_if false size at r s p q = q

-- a token from c up to the rest
place_before_in_order : (size : ℕ) (c : Character) (rest : List Character) → Placed size c.from rest →
    (c.from ≤ (place_before size c rest).to) × Placed size (place_before size c rest).to rest
place_before_in_order size c [] p = (p, omega arith)
place_before_in_order size c (d ∷ ds) p = (p.0, (omega arith, p.1, p.2))

good_plain : (size at : ℕ) (c : Character) (kind : TokenKind) (rest : List Character) → IsInLine kind → at ≤ c.from →
    Placed size c.from rest → PieceGood size at (Ok (Plain (token_at kind (place_before size c rest)), rest))
good_plain size at c kind [] l h p ws go = let o = place_before_in_order size c [] p in (h, o.0, l, go _ o.1)
good_plain size at c kind (d ∷ ds) l h p ws go = let o = place_before_in_order size c (d ∷ ds) p in
    (h, o.0, l, go _ o.1)

good_token : (size at : ℕ) (c : Character) (all : List Character) (r : Read) → at ≤ c.from → Placed size c.from all →
    ReadKeeps all r → PieceGood size at (token_word size c r)
good_token size at c all (Ok r) h p keeps = good_plain size at c r.0 r.1 keeps.0 h (keeps.1 size c.from p)
good_token size at c all (Err e) h p keeps = tt

good_bracketed : (size at n : ℕ) (t : Token) (rest : List Character) → PieceGood size at (Ok (Plain t, rest)) →
    PieceGood size at (Ok (bracketed n t, rest))
good_bracketed size at n t rest h = go (is_opening n) (is_closing n)
  where
    go : (p q : Bool) → PieceGood size at (Ok ((if p then Opens t else (if q then Closes t else Plain t)), rest))
    go true q = h
    go false true = h
    go false false = h

good_operator : (size at : ℕ) (c : Character) (all : List Character) (o : Option (ℕ × ℕ)) → at ≤ c.from →
    Placed size c.from all → PieceGood size at (operator_word size c all o)
good_operator size at c all None h p = tt
good_operator size at c all (Some o) h p = let rest = drop o.1 all in
    good_bracketed size at o.0 (token_at (k.Op o.0) (place_before size c rest)) rest
    (good_plain size at c (k.Op o.0) rest tt h (placed_drop size c.from o.1 all p))

good_word : (size at : ℕ) (c : Character) (cs : List Character) → Placed size at (c ∷ cs) →
    PieceGood size at (word_at size (c ∷ cs))
unfolding word_at
good_word size at c cs p =
    let all = c ∷ cs in
    let first : at ≤ c.from = p.0 in
    let wide : c.from ≤ c.to = p.1 in
    let here : Placed size c.from (c ∷ cs) = (omega arith, p.1, p.2) in
    let later : Placed size at cs = placed_le size at c.to cs (omega arith) p.2 in
    piece_if (c.byte == 10) size at _ _ (λ ws go. (p.0, p.1, go c.to p.2))
    (piece_if (holds class.Blank c.byte) size at _ _ (λ ws go. go at later)
    (piece_if (c.byte == 35) size at _ _ (λ ws go. go at (placed_drop size at (run_len class.InLine cs) cs later))
    (piece_if (c.byte == 92) size at _ _
    (piece_if (next_is (class.Byte 10) cs) size at _ _ (λ ws go. (p.0, p.1, go c.to (placed_drop size c.to 1 cs p.2)))
    tt)
    (piece_if (holds class.NameStart c.byte) size at _ _
    (good_token size at c all (name_at c.line all) p.0 here (keeps_name c.line all))
    (piece_if (holds class.Quote c.byte) size at _ _
    (good_token size at c all (string_at c.line (prefix false false) all) p.0 here
    (keeps_string c.line (prefix false false) all all (keeps_all all)))
    (piece_if (holds ten c.byte || (c.byte == 46 && next_is ten cs)) size at _ _
    (good_token size at c all (number_at c.line all) p.0 here (keeps_number c.line all))
    (good_operator size at c all (operator_at operators all) p.0 here)))))))

placed_end : (size at : ℕ) (cs : List Character) → Placed size at cs → at ≤ size
placed_end size at [] p = p
placed_end size at (c ∷ cs) p =
    let first : at ≤ c.from = p.0 in
    let wide : c.from ≤ c.to = p.1 in
    let last : c.to ≤ size = placed_end size c.to cs p.2 in
    omega arith

pub cut_placed : (n size at : ℕ) (cs : List Character) → Placed size at cs → WordsPlaced size at (cut n size cs).words
unfolding cut
cut_placed zero size at cs p = placed_end size at cs p
cut_placed (suc n) size at [] p = p
cut_placed (suc n) size at (c ∷ cs) p = go (word_at size (c ∷ cs)) (good_word size at c cs p)
    (λ rest b q. cut_placed n size b rest q)
  where
    go : (r : Piece) → PieceGood size at r →
        ((rest : List Character) (b : ℕ) → Placed size b rest → WordsPlaced size b (cut n size rest).words) →
        WordsPlaced size at (cut_more c (cut n size) r).words
    go (Ok w) good more = good (cut n size w.1).words (more w.1)
    go (Err e) good more = (p.0, p.1, tt, placed_end size c.to cs p.2)
