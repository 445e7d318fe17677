-- The tokens of a text of bytes stand on lines, and those of a line are as texts have them.
use Rattle.std.proofs.Common.{◌≡◌, ℕ, zero, suc, ◌+◌, ◌-◌, ◌<◌, ◌≤◌, Bool, true, false, ◌==◌, nat_lt, ◌&&◌, ◌||◌, if◌then◌else◌, List, [], ◌∷◌, ◌++◌, length, drop, Option, Some, None, Ok, Err, refl, sym, subst, arith}
use Rattle.std.proofs.lemmas.List.Elements.{All-head, All-tail, All-drop}
use Rattle.py_base.specs.declared.refusal.Refusal.{Refusal}
use Rattle.py_tokens.specs.declared.character.Character.{Character}
use Rattle.py_tokens.specs.declared.class.Class.TheVariants as class
use Rattle.py_tokens.specs.declared.layout.Mode.{Mode}
use Rattle.py_tokens.specs.declared.layout.Mode.TheVariants.{Fresh, Held, Within}
use Rattle.py_tokens.specs.declared.token.Place.{Place}
use Rattle.py_tokens.specs.declared.token.Token.{Token}
use Rattle.py_tokens.specs.declared.token.TokenKind.{TokenKind}
use Rattle.py_tokens.specs.declared.token.TokenKind.TheVariants as k
use Rattle.py_tokens.specs.declared.word.Word.{Word}
use Rattle.py_tokens.specs.declared.word.Word.TheVariants.{Blank, Comment, Joint, LineEnd, Opens, Closes, Plain}
use Rattle.py_tokens.specs.Place.{place, token_at}
use Rattle.py_tokens.specs.Characters.{characters, line_end, line_after, has_mark, text_characters, last_line}
use Rattle.py_tokens.specs.Classes.{holds, next_is, run_len}
use Rattle.py_tokens.specs.Numbers.{Read, ten, number_at}
use Rattle.py_tokens.specs.Strings.{prefix, string_at}
use Rattle.py_tokens.specs.Names.{name_at, operator_at}
use Rattle.py_tokens.specs.Tables.{operators}
use Rattle.py_tokens.specs.Words.{Piece, place_before, token_word, is_opening, is_closing, bracketed, operator_word, word_at, cut_more, cut}
use Rattle.py_tokens.specs.Layout.{lines, lines_laid, tokens_in, joined, after_blank, Laid, before, popped, indented, closing, ending, laid, lexed, tokens_of_text}
use Rattle.py_tokens.specs.Tokens.{to_come, took, depth_of}
use Rattle.py_tokens.proofs.InOrder.{IsInLine}
use Rattle.py_tokens.proofs.Laying.{follows_opens, follows_closes, follows_plain}
use Rattle.py_tree.proofs.Lined.{lined_kind, IsLined, lined_le, IsKept, AllKept}
use Rattle.py_tree.proofs.LinedKinds.{Bytes, Chars, chars_le, chars_drop, chars_end, line_after_more, ReadGood, good_name, good_number, good_string, operator_at_has}

-- ---- words

-- Words on lines, as `Chars` has them; the tokens are as texts have them, where the text isn't refused.
abbrev pub WordsLined : ℕ → Option Refusal → ℕ → ℕ → List Word → Type 0
WordsLined last stop a b [] = b ≤ last
WordsLined last stop a b (Blank x ∷ ws) = WordsLined last stop a b ws
WordsLined last stop a b (Comment ∷ ws) = WordsLined last stop a b ws
WordsLined last stop a b (Joint q ∷ ws) = WordsLined last stop a b ws
WordsLined last stop a b (LineEnd p ∷ ws) = (a ≤ p.line) × (b ≤ p.line) × WordsLined last stop (p.line + 1) p.line ws
WordsLined last stop a b (Opens t ∷ ws) = (a ≤ t.line) × (b ≤ t.line) × IsInLine t.kind × (stop ≡ None → IsKept t.kind)
    × WordsLined last stop t.line t.line ws
WordsLined last stop a b (Closes t ∷ ws) =
    (a ≤ t.line) × (b ≤ t.line) × IsInLine t.kind × (stop ≡ None → IsKept t.kind) × WordsLined last stop t.line t.line
    ws
WordsLined last stop a b (Plain t ∷ ws) = (a ≤ t.line) × (b ≤ t.line) × IsInLine t.kind × (stop ≡ None → IsKept t.kind)
    × WordsLined last stop t.line t.line ws

words_le : (last : ℕ) (stop : Option Refusal) (a b c d : ℕ) (ws : List Word) → c ≤ a → d ≤ b →
    WordsLined last stop a b ws → WordsLined last stop c d ws
words_le last stop a b c d [] h g p = let q : b ≤ last = p in omega arith
words_le last stop a b c d (Blank x ∷ ws) h g p = words_le last stop a b c d ws h g p
words_le last stop a b c d (Comment ∷ ws) h g p = words_le last stop a b c d ws h g p
words_le last stop a b c d (Joint e ∷ ws) h g p = words_le last stop a b c d ws h g p
words_le last stop a b c d (LineEnd e ∷ ws) h g p = let q : a ≤ e.line = p.0 in let r : b ≤ e.line = p.1 in
    (omega arith, omega arith, p.2)
words_le last stop a b c d (Opens t ∷ ws) h g p = let q : a ≤ t.line = p.0 in let r : b ≤ t.line = p.1 in
    (omega arith, omega arith, p.2, p.3, p.4)
words_le last stop a b c d (Closes t ∷ ws) h g p = let q : a ≤ t.line = p.0 in let r : b ≤ t.line = p.1 in
    (omega arith, omega arith, p.2, p.3, p.4)
words_le last stop a b c d (Plain t ∷ ws) h g p = let q : a ≤ t.line = p.0 in let r : b ≤ t.line = p.1 in
    (omega arith, omega arith, p.2, p.3, p.4)

-- a word, before any words on lines after it
abbrev PieceGood : ℕ → ℕ → ℕ → Piece → Type 0
PieceGood last a b (Ok p) = (stop : Option Refusal) (ws : List Word) →
    ((c d : ℕ) → Chars last c d p.1 → WordsLined last stop c d ws) → WordsLined last stop a b (p.0 ∷ ws)
PieceGood last a b (Err e) = Unit {0}

piece_when : (p : Bool) (last a b : ℕ) (r s : Piece) → (p ≡ true → PieceGood last a b r) →
    (p ≡ false → PieceGood last a b s) → PieceGood last a b (if p then r else s)
piece_when true last a b r s h g = h refl
piece_when false last a b r s h g = g refl

good_plain : (last a b size : ℕ) (c : Character) (kind : TokenKind) (rest : List Character) → a ≤ c.line → b ≤ c.line →
    IsInLine kind → IsKept kind → Chars last c.line c.line rest →
    PieceGood last a b (Ok (Plain (token_at kind (place_before size c rest)), rest))
good_plain last a b size c kind [] h g l m p = λ stop ws go. (h, g, l, λ e. m, go c.line c.line p)
good_plain last a b size c kind (d ∷ ds) h g l m p = λ stop ws go. (h, g, l, λ e. m, go c.line c.line p)

good_token : (last a b size : ℕ) (c : Character) (r : Read) → a ≤ c.line → b ≤ c.line → ReadGood last c.line c.line r →
    PieceGood last a b (token_word size c r)
good_token last a b size c (Ok r) h g p = good_plain last a b size c r.0 r.1 h g p.0 p.1 p.2
good_token last a b size c (Err e) h g p = tt

good_bracketed : (last a b n : ℕ) (t : Token) (rest : List Character) → PieceGood last a b (Ok (Plain t, rest)) →
    PieceGood last a b (Ok (bracketed n t, rest))
good_bracketed last a b n t rest h = go (is_opening n) (is_closing n)
  where
    go : (p q : Bool) → PieceGood last a b (Ok ((if p then Opens t else (if q then Closes t else Plain t)), rest))
    go true q = h
    go false true = h
    go false false = h

good_operator : (last a b size : ℕ) (c : Character) (all : List Character) (o : Option (ℕ × ℕ)) →
    operator_at operators all ≡ o → a ≤ c.line → b ≤ c.line → Chars last c.line c.line all →
    PieceGood last a b (operator_word size c all o)
good_operator last a b size c all None e h g p = tt
good_operator last a b size c all (Some o) e h g p =
    let rest = drop o.1 all in
    good_bracketed last a b o.0 (token_at (k.Op o.0) (place_before size c rest)) rest
    (good_plain last a b size c (k.Op o.0) rest h g tt (operator_at_has operators all o e)
    (chars_drop last c.line c.line o.1 all p))

good_word : (last a b size : ℕ) (c : Character) (cs : List Character) → Chars last a b (c ∷ cs) →
    PieceGood last a b (word_at size (c ∷ cs))
unfolding word_at
good_word last a b size c cs p =
    let all = c ∷ cs in
    let first : a ≤ c.line = p.0 in
    let second : b ≤ c.line = p.1 in
    let more : c.line ≤ line_after c.byte c.line = line_after_more c.byte c.line in
    let same : c.line ≤ c.line = omega arith in
    let up : a ≤ line_after c.byte c.line = omega arith in
    let here : Chars last c.line c.line (c ∷ cs) = (same, same, p.2, p.3) in
    let later : Chars last a b cs = chars_le last (line_after c.byte c.line) c.line a b cs up second p.3 in
    piece_when (c.byte == 10) last a b _ _
    (λ e stop ws go. (
      first,
      second,
      go (c.line + 1) c.line
          (subst (λ z. Chars last (if z then c.line + 1 else c.line) c.line cs) e p.3),
    ))
    (λ e1. piece_when (holds class.Blank c.byte) last a b _ _ (λ e stop ws go. go a b later)
    (λ e2. piece_when (c.byte == 35) last a b _ _
    (λ e stop ws go. go a b (chars_drop last a b (run_len class.InLine cs) cs later))
    (λ e3. piece_when (c.byte == 92) last a b _ _
    (λ e. piece_when (next_is (class.Byte 10) cs) last a b _ _
    (λ f stop ws go. go a b (chars_drop last a b 1 cs later)) (λ f. tt))
    (λ e4. piece_when (holds class.NameStart c.byte) last a b _ _
    (λ e. good_token last a b size c (name_at c.line all) first second
    (good_name last c.line c.line c.line c cs e here))
    (λ e5. piece_when (holds class.Quote c.byte) last a b _ _
    (λ e. good_token last a b size c (string_at c.line (prefix false false) all) first second
    (good_string last c.line c.line c.line (prefix false false) all here))
    (λ e6. piece_when (holds ten c.byte || (c.byte == 46 && next_is ten cs)) last a b _ _
    (λ e. good_token last a b size c (number_at c.line all) first second
    (good_number last c.line c.line c.line all here))
    (λ e7. good_operator last a b size c all (operator_at operators all) refl first second here)))))))

pub cut_lined : (last n size a b : ℕ) (cs : List Character) → Chars last a b cs →
    WordsLined last (cut n size cs).stop a b (cut n size cs).words
unfolding cut
cut_lined last zero size a b cs p = chars_end last a b cs p
cut_lined last (suc n) size a b [] p = p
cut_lined last (suc n) size a b (c ∷ cs) p = go (word_at size (c ∷ cs)) (good_word last a b size c cs p)
    (λ rest d e q. cut_lined last n size d e rest q)
  where
    go : (r : Piece) → PieceGood last a b r →
        ((rest : List Character) (d e : ℕ) → Chars last d e rest →
        WordsLined last (cut n size rest).stop d e (cut n size rest).words) →
        WordsLined last (cut_more c (cut n size) r).stop a b (cut_more c (cut n size) r).words
    go (Ok w) good more = good (cut n size w.1).stop (cut n size w.1).words (more w.1)
    go (Err e) good more = (p.0, p.1, tt, (λ e. absurd (cc)), chars_end last (line_after c.byte c.line) c.line cs p.3)

-- ---- what is laid

-- The tokens, if there are any, are of a text that isn't refused, on lines from this one on.
abbrev Good : Option Refusal → ℕ → Laid → Type 0
Good stop a (Ok ts) = (stop ≡ None) × IsLined a ts × AllKept ts
Good stop a (Err e) = Unit {0}

in_line : (kind : TokenKind) (at a : ℕ) (rest : ℕ → Type 0) → IsInLine kind → a ≤ at → rest at →
    lined_kind kind at a rest
in_line k.Newline at a rest l h g = absurd l
in_line k.Indent at a rest l h g = absurd l
in_line k.Dedent at a rest l h g = absurd l
in_line k.End at a rest l h g = absurd l
in_line (k.Name bs) at a rest l h g = (h, g)
in_line (k.Keyword n) at a rest l h g = (h, g)
in_line (k.Int n) at a rest l h g = (h, g)
in_line (k.Str bs) at a rest l h g = (h, g)
in_line (k.Op n) at a rest l h g = (h, g)
in_line (k.Other o) at a rest l h g = (h, g)

good_in_line : (stop : Option Refusal) (a : ℕ) (t : Token) (r : Laid) → IsInLine t.kind → (stop ≡ None → IsKept t.kind)
    → a ≤ t.line → Good stop t.line r → Good stop a (before (t ∷ []) r)
good_in_line stop a t (Ok ts) l m h g = (g.0, in_line t.kind t.line a (λ n. IsLined n ts) l h g.1, (m g.0, g.2))
good_in_line stop a t (Err e) l m h g = tt

good_newline : (stop : Option Refusal) (a : ℕ) (p : Place) (r : Laid) → a ≤ p.line → Good stop (p.line + 1) r →
    Good stop a (before (token_at k.Newline p ∷ []) r)
good_newline stop a p (Ok ts) h g = (g.0, (h, g.1), (tt, g.2))
good_newline stop a p (Err e) h g = tt

good_indent : (stop : Option Refusal) (a : ℕ) (p : Place) (r : Laid) → Good stop a r →
    Good stop a (before (token_at k.Indent p ∷ []) r)
good_indent stop a p (Ok ts) g = (g.0, g.1, (tt, g.2))
good_indent stop a p (Err e) g = tt

good_dedent : (stop : Option Refusal) (a : ℕ) (p : Place) (r : Laid) → Good stop a r →
    Good stop a (before (token_at k.Dedent p ∷ []) r)
good_dedent stop a p (Ok ts) g = (g.0, g.1, (tt, g.2))
good_dedent stop a p (Err e) g = tt

laid_if : (p : Bool) (stop : Option Refusal) (a : ℕ) (r s : Laid) → Good stop a r → Good stop a s →
    Good stop a (if p then r else s)
laid_if true stop a r s h g = h
laid_if false stop a r s h g = g

good_le : (stop : Option Refusal) (a b : ℕ) (r : Laid) → a ≤ b → Good stop b r → Good stop a r
good_le stop a b (Ok ts) h g = (g.0, lined_le ts a b h g.1, g.2)
good_le stop a b (Err e) h g = tt

good_popped : (stop : Option Refusal) (a : ℕ) (p : Place) (column : ℕ) (stack : List ℕ) (rest : List ℕ → Laid) →
    ((s : List ℕ) → Good stop a (rest s)) → Good stop a (popped p column stack rest)
good_popped stop a p column [] rest g = tt
good_popped stop a p column (e ∷ stack) rest g =
    laid_if (column == e) stop a _ _ (g (e ∷ stack))
    (laid_if (nat_lt e column) stop a _ _ tt
    (good_dedent stop a p (popped p column stack rest) (good_popped stop a p column stack rest g)))

good_indented : (stop : Option Refusal) (a : ℕ) (p : Place) (column : ℕ) (stack : List ℕ) (rest : List ℕ → Laid) →
    ((s : List ℕ) → Good stop a (rest s)) → Good stop a (indented p column stack rest)
good_indented stop a p column [] rest g = tt
good_indented stop a p column (e ∷ stack) rest g =
    laid_if (nat_lt e column) stop a _ _ (good_indent stop a p (rest (column ∷ e ∷ stack)) (g (column ∷ e ∷ stack)))
    (good_popped stop a p column (e ∷ stack) rest g)

good_took : (stop : Option Refusal) (a : ℕ) (t : Token) (m : Mode) (stack : List ℕ) (rest : List ℕ → Laid) →
    IsInLine t.kind → (stop ≡ None → IsKept t.kind) → a ≤ t.line → ((s : List ℕ) → Good stop t.line (rest s)) →
    Good stop a (took t m stack rest)
good_took stop a t (Fresh column) stack rest l m h g = good_indented stop a (place t.from t.from t.line) column stack _
    (λ s. good_in_line stop a t (rest s) l m h (g s))
good_took stop a t (Held column q) stack rest l m h g =
    good_indented stop a (place q.from q.from q.line) column stack _ (λ s. good_in_line stop a t (rest s) l m h (g s))
good_took stop a t (Within depth) stack rest l m h g = good_in_line stop a t (rest stack) l m h (g stack)

closing_lined : (a : ℕ) (p : Place) (stack : List ℕ) → IsLined a (closing p stack)
closing_lined a p [] = tt
closing_lined a p (e ∷ []) = tt
closing_lined a p (e ∷ f ∷ stack) = closing_lined a p (f ∷ stack)

closing_kept : (p : Place) (stack : List ℕ) → AllKept (closing p stack)
closing_kept p [] = (tt, tt)
closing_kept p (e ∷ []) = (tt, tt)
closing_kept p (e ∷ f ∷ stack) = (tt, closing_kept p (f ∷ stack))

good_ending : (stop : Option Refusal) (a : ℕ) (p : Place) (stack : List ℕ) → Good stop a (ending p stop stack)
good_ending None a p stack = (refl, closing_lined a p stack, closing_kept p stack)
good_ending (Some e) a p stack = tt

-- ---- the words of a text

-- within a line, its last line isn't before the line of the word before
abbrev Fits : Mode → ℕ → ℕ → Type 0
Fits (Fresh c) a b = Unit {0}
Fits (Held c q) a b = Unit {0}
Fits (Within d) a b = a ≤ b

-- a line end inside brackets, or not
within_cases : (q : Bool) (last : Place) (stop : Option Refusal) (depth : ℕ) (stack : List ℕ) (p : Place)
    (ws : List Word) (a : ℕ) →
    Good stop a (before (token_at k.Newline p ∷ []) (to_come last stop (Fresh 0) stack ws)) →
    Good stop a (to_come last stop (Within depth) stack ws) →
    Good stop a (let ls = lines last (if q then LineEnd p ∷ joined 0 ws else joined depth ws) in
    before (tokens_in ls.0.words ++ token_at k.Newline ls.0.end ∷ []) (lines_laid last stop stack ls.1))
within_cases true last stop depth stack p ws a one more = one
within_cases false last stop depth stack p ws a one more = more

good_to_come : (size last : ℕ) (stop : Option Refusal) (m : Mode) (stack : List ℕ) (a b : ℕ) (ws : List Word) →
    Fits m a b → WordsLined last stop a b ws → Good stop a (to_come (place size size last) stop m stack ws)
good_to_come size last stop (Fresh c) stack a b [] f p = good_ending stop a (place size size last) stack
good_to_come size last stop (Held c q) stack a b [] f p = good_ending stop a (place size size last) stack
good_to_come size last stop (Within d) stack a b [] f p = let q : a ≤ b = f in let r : b ≤ last = p in
    let s : a ≤ last = omega arith in good_newline stop a (place size size last) _ s
    (good_ending stop (last + 1) (place size size last) stack)
good_to_come size last stop (Fresh c) stack a b (Blank x ∷ ws) f p =
    good_to_come size last stop (Fresh (after_blank c x)) stack a b ws tt p
good_to_come size last stop (Held c q) stack a b (Blank x ∷ ws) f p =
    good_to_come size last stop (Held c q) stack a b ws tt p
good_to_come size last stop (Within d) stack a b (Blank x ∷ ws) f p =
    good_to_come size last stop (Within d) stack a b ws f p
good_to_come size last stop (Fresh c) stack a b (Comment ∷ ws) f p =
    good_to_come size last stop (Fresh c) stack a b ws tt p
good_to_come size last stop (Held c q) stack a b (Comment ∷ ws) f p =
    good_to_come size last stop (Held c q) stack a b ws tt p
good_to_come size last stop (Within d) stack a b (Comment ∷ ws) f p =
    good_to_come size last stop (Within d) stack a b ws f p
good_to_come size last stop (Fresh c) stack a b (Joint q ∷ ws) f p =
    good_to_come size last stop (Held c q) stack a b ws tt p
good_to_come size last stop (Held c q) stack a b (Joint e ∷ ws) f p =
    good_to_come size last stop (Held c q) stack a b ws tt p
good_to_come size last stop (Within d) stack a b (Joint q ∷ ws) f p =
    good_to_come size last stop (Within d) stack a b ws f p
good_to_come size last stop (Fresh c) stack a b (LineEnd e ∷ ws) f p = let h : a ≤ e.line = p.0 in
    let g : a ≤ e.line + 1 = omega arith in
    good_le stop a (e.line + 1) _ g (good_to_come size last stop (Fresh 0) stack (e.line + 1) e.line ws tt p.2)
good_to_come size last stop (Held c q) stack a b (LineEnd e ∷ ws) f p =
    let h : a ≤ e.line = p.0 in
    let g : a ≤ e.line + 1 = omega arith in
    good_le stop a (e.line + 1) _ g (good_to_come size last stop (Fresh 0) stack (e.line + 1) e.line ws tt p.2)
good_to_come size last stop (Within d) stack a b (LineEnd e ∷ ws) f p =
    let h : a ≤ e.line = p.0 in
    let g : e.line ≤ e.line + 1 = omega arith in
    let s : e.line ≤ e.line = omega arith in
    within_cases (d == 0) (place size size last) stop d stack e ws a
    (good_newline stop a e _ h (good_to_come size last stop (Fresh 0) stack (e.line + 1) e.line ws tt p.2))
    (good_le stop a e.line _ h (good_to_come size last stop (Within d) stack e.line e.line ws s
    (words_le last stop (e.line + 1) e.line e.line e.line ws g s p.2)))
good_to_come size last stop m stack a b (Opens t ∷ ws) f p = let s : t.line ≤ t.line = omega arith in
    subst (Good stop a) (sym (follows_opens m t (place size size last) stop ws stack))
    (good_took stop a t m stack _ p.2 p.3 p.0
    (λ st. good_to_come size last stop (Within (depth_of m + 1)) st t.line t.line ws s p.4))
good_to_come size last stop m stack a b (Closes t ∷ ws) f p = let s : t.line ≤ t.line = omega arith in
    subst (Good stop a) (sym (follows_closes m t (place size size last) stop ws stack))
    (good_took stop a t m stack _ p.2 p.3 p.0
    (λ st. good_to_come size last stop (Within (depth_of m - 1)) st t.line t.line ws s p.4))
good_to_come size last stop m stack a b (Plain t ∷ ws) f p = let s : t.line ≤ t.line = omega arith in
    subst (Good stop a) (sym (follows_plain m t (place size size last) stop ws stack))
    (good_took stop a t m stack _ p.2 p.3 p.0
    (λ st. good_to_come size last stop (Within (depth_of m)) st t.line t.line ws s p.4))

-- ---- characters of a text

byte_line_end : (b : ℕ) → b < 256 → line_end b < 256
byte_line_end b h = go (b == 13)
  where
    go : (p : Bool) → (if p then 10 else b) < 256
    go true = omega arith
    go false = h

chars_cases : (p : Bool) (last a b : ℕ) (xs ys : List Character) → (last ≡ last_line b xs → Chars last a b xs) →
    (last ≡ last_line b ys → Chars last a b ys) → last ≡ last_line b (if p then xs else ys) →
    Chars last a b (if p then xs else ys)
chars_cases true last a b xs ys f g e = f e
chars_cases false last a b xs ys f g e = g e

chars_characters : (last at line b : ℕ) (bs : List ℕ) → b ≤ line → Bytes bs →
    last ≡ last_line b (characters at line bs) → Chars last line b (characters at line bs)
chars_characters last at line b [] h m e = omega arith
chars_characters last at line b (x ∷ []) h m e = let s : line ≤ line = omega arith in let q : line ≤ last =
    omega arith in (s, h, byte_line_end x (All-head (λ z. z < 256) x [] m), q)
chars_characters last at line b (x ∷ y ∷ bs) h m e =
    let s : line ≤ line = omega arith in
    let small : 10 < 256 = omega arith in
    let more : line ≤ line + 1 = omega arith in
    let t = All-tail (λ z. z < 256) x (y ∷ bs) m in
    chars_cases (x == 13 && y == 10) last line b _ _
    (λ f. (s, h, small, chars_characters last (at + 2) (line + 1) line bs more (All-tail (λ z. z < 256) y bs t) f))
    (λ f. (
      s,
      h,
      byte_line_end x (All-head (λ z. z < 256) x (y ∷ bs) m),
      chars_characters last (at + 1) (line_after (line_end x) line) line (y ∷ bs) (line_after_more (line_end x) line)
          t f,
    ))
    e

bytes_cases : (p : Bool) (text : List ℕ) → Bytes text →
    (let cs = if p then characters 3 1 (drop 3 text) else characters 0 1 text in Chars (last_line 1 cs) 1 1 cs)
bytes_cases true text m = let s : 1 ≤ 1 = omega arith in chars_characters (last_line 1 (characters 3 1 (drop 3 text)))
    3 1 1 (drop 3 text) s (All-drop (λ z. z < 256) 3 text m) refl
bytes_cases false text m = let s : 1 ≤ 1 = omega arith in chars_characters (last_line 1 (characters 0 1 text)) 0 1 1
    text s m refl

chars_text : (text : List ℕ) → Bytes text → Chars (last_line 1 (text_characters text)) 1 1 (text_characters text)
unfolding text_characters
chars_text text m = bytes_cases (has_mark text) text m

good_lexed : (size : ℕ) (cs : List Character) → Chars (last_line 1 cs) 1 1 cs →
    Good (cut (length cs) size cs).stop 1 (lexed size cs)
unfolding lexed laid
good_lexed size cs p = let c = cut (length cs) size cs in good_to_come size (last_line 1 cs) c.stop (Fresh 0) (0 ∷ [])
    1 1 c.words tt (cut_lined (last_line 1 cs) (length cs) size 1 1 cs p)

good_text : (text : List ℕ) → Bytes text →
    Good (cut (length (text_characters text)) (length text) (text_characters text)).stop 1 (tokens_of_text text)
unfolding tokens_of_text
good_text text m = good_lexed (length text) (text_characters text) (chars_text text m)

-- the tokens of a text stand on lines from 1, which don't fall and rise at a Newline
pub lined_text : (text : List ℕ) (ts : List Token) → Bytes text → tokens_of_text text ≡ Ok ts → IsLined 1 ts
lined_text text ts m e = let g = subst (Good
    (cut (length (text_characters text)) (length text) (text_characters text)).stop 1) e (good_text text m) in g.1

-- and are as texts have them
pub kept_text : (text : List ℕ) (ts : List Token) → Bytes text → tokens_of_text text ≡ Ok ts → AllKept ts
kept_text text ts m e = let g = subst (Good
    (cut (length (text_characters text)) (length text) (text_characters text)).stop 1) e (good_text text m) in g.2
