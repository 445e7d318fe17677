-- The text that is written of lexemes that are laid out well has tokens, which are these lexemes.
use Rattle.std.proofs.Common.{◌≡◌, ℕ, zero, suc, ◌+◌, ◌-◌, Bool, true, false, ◌==◌, not, ◌&&◌, List, [], ◌∷◌, ◌++◌, length, map, replicate, Ok, refl, sym, ap, ◌∙◌, subst, arith}
use Rattle.std.specs.List.{list_all}
use Rattle.py_tokens.specs.declared.character.Character.{Character}
use Rattle.py_tokens.specs.declared.layout.Mode.TheVariants as mode
use Rattle.py_tokens.specs.declared.token.Token.{Token}
use Rattle.py_tokens.specs.declared.token.TokenKind.{TokenKind}
use Rattle.py_tokens.specs.declared.token.TokenKind.TheVariants as k
use Rattle.py_tokens.specs.Characters.{character, characters, has_mark, line_after, last_line, text_characters}
use Rattle.py_tokens.specs.Layout.{laid, lexed, tokens_of_text}
use Rattle.py_tokens.specs.Place.{place}
use Rattle.py_tokens.specs.Tokens.{to_come}
use Rattle.py_tree.specs.inner.Laid.{Stand, IsWord, brackets, after_word, Stands, IsLaid}
use Rattle.py_tree.specs.inner.Laid.Stand.{Start, Within}
use Rattle.py_tree.specs.Lexeme.{Lexeme, lexeme, lexeme_of}
use Rattle.py_tree.specs.Writing.{spelling, Pen, pen, joints, gap, worded, written, first_pen}
use Rattle.py_tree.proofs.WrittenRows.{plain, is_quiet, quiet, both, quiet_byte}
use Rattle.py_tree.proofs.WrittenFronts.{skip}
use Rattle.py_tree.proofs.WrittenWords.{spelt}
use Rattle.py_tree.proofs.WrittenSteps.{Comes}
use Rattle.py_tree.proofs.WrittenAgain.{again}

-- ---- bytes

-- a byte that is no carriage return and begins no byte order mark
abbrev is_plain : ℕ → Bool
is_plain b = not (b == 13) && not (b == 239)

abbrev all_plain : List ℕ → Bool
all_plain bs = list_all is_plain bs

plain_append : (xs ys : List ℕ) → all_plain xs ≡ true → all_plain ys ≡ true → all_plain (xs ++ ys) ≡ true
plain_append [] ys p q = q
plain_append (x ∷ xs) ys p q = let each = both (is_plain x) (all_plain xs) p in rw each.0 (plain_append xs ys each.1 q)

quiet_plain : (bs : List ℕ) → quiet bs ≡ true → all_plain bs ≡ true
quiet_plain [] h = refl
quiet_plain (b ∷ bs) h =
    let each = both (is_quiet b) (quiet bs) h in
    let e = quiet_byte (b == 10) (b == 13) (b == 239) each.0 in
    rw (e.1, e.2) (quiet_plain bs each.1)

plain_replicate : (n b : ℕ) → is_plain b ≡ true → all_plain (replicate n b) ≡ true
plain_replicate zero b h = refl
plain_replicate (suc n) b h = rw h (plain_replicate n b h)

plain_joints : (n : ℕ) → all_plain (joints n) ≡ true
plain_joints zero = refl
plain_joints (suc n) = plain_joints n

plain_gap : (fresh : Bool) (line depth to : ℕ) → all_plain (gap (pen line depth fresh) to) ≡ true
plain_gap true line depth to = plain_append (replicate (to - line) 10) (replicate depth 32)
    (plain_replicate (to - line) 10 refl) (plain_replicate depth 32 refl)
plain_gap false line depth to = plain_joints (to - line)

plain_worded : (p : Pen) (to : ℕ) (kind : TokenKind) → IsWord kind → all_plain (worded p to (spelling kind)) ≡ true
plain_worded p to kind w = plain_append (gap p to ++ spelling kind) (32 ∷ [])
    (plain_append (gap p to) (spelling kind) (plain_gap p.fresh p.line p.depth to)
    (quiet_plain (spelling kind) (spelt kind w).quiet)) refl

-- what is written of such lexemes, by any pen, has plain bytes
abbrev Plainly : List Lexeme → Type 0
Plainly ls = (p : Pen) (line m : ℕ) (s : Stand) → IsLaid line m s ls → all_plain (written p ls) ≡ true

plainly_word : (p : Pen) (to line m : ℕ) (s : Stand) (kind : TokenKind) (ls : List Lexeme) → IsWord kind →
    IsLaid line m s ls → Plainly ls → all_plain (worded p to (spelling kind) ++ written (pen to p.depth false) ls) ≡
    true
plainly_word p to line m s kind ls w laid more =
    plain_append (worded p to (spelling kind)) (written (pen to p.depth false) ls) (plain_worded p to kind w)
    (more (pen to p.depth false) line m s laid)

plainly_one : (kind : TokenKind) (p : Pen) (at line m : ℕ) (s : Stand) (ls : List Lexeme) →
    Stands kind at line m s (λ x d t. IsLaid x d t ls) (ls ≡ []) → Plainly ls →
    all_plain (written p (lexeme kind at ∷ ls)) ≡ true
plainly_one k.Newline p at line m s ls h more = more (pen (p.line + 1) p.depth true) _ _ _ h.1
plainly_one k.Indent p at line m s ls h more = more (pen p.line (p.depth + 1) p.fresh) _ _ _ h.1
plainly_one k.Dedent p at line m s ls h more = more (pen p.line (p.depth - 1) p.fresh) _ _ _ h.2
plainly_one k.End p at line m s ls h more = subst (λ z. all_plain (written p z) ≡ true) (sym h.2) refl
plainly_one (k.Name bs) p at line m s ls h more = plainly_word p at at m (Within (brackets s)) (k.Name bs) ls h.1 h.2
    more
plainly_one (k.Keyword x) p at line m s ls h more = plainly_word p at at m (Within (brackets s)) (k.Keyword x) ls h.1
    h.2 more
plainly_one (k.Int x) p at line m s ls h more = plainly_word p at at m (Within (brackets s)) (k.Int x) ls h.1 h.2 more
plainly_one (k.Str bs) p at line m s ls h more = plainly_word p at at m (Within (brackets s)) (k.Str bs) ls h.1 h.2 more
plainly_one (k.Op x) p at line m s ls h more = plainly_word p at at m (Within (after_word (k.Op x) (brackets s)))
    (k.Op x) ls h.1 h.2 more
plainly_one (k.Other x) p at line m s ls h more = absurd h

plainly : (ls : List Lexeme) → Plainly ls
plainly [] p line m s h = absurd h
plainly (l ∷ ls) p line m s h = plainly_one l.kind p l.line line m s ls h (plainly ls)

-- ---- characters

plain_byte : (p q : Bool) → (not p && not q) ≡ true → (p ≡ false) × (q ≡ false)
plain_byte false false e = (refl, refl)
plain_byte false true e = absurd (cc)
plain_byte true q e = absurd (cc)

characters_plain : (at line : ℕ) (bs : List ℕ) → all_plain bs ≡ true → characters at line bs ≡ plain at line bs
characters_plain at line [] h = refl
characters_plain at line (b ∷ []) h = let e = plain_byte (b == 13) (b == 239) (both (is_plain b) true h).0 in
    rw (e.0) refl
characters_plain at line (b ∷ c ∷ bs) h =
    let each = both (is_plain b) (all_plain (c ∷ bs)) h in
    let e = plain_byte (b == 13) (b == 239) each.0 in
    rw (e.0) (ap (λ z. character b at (at + 1) line ∷ z)
    (characters_plain (at + 1) (line_after b line) (c ∷ bs) each.1))

no_mark : (bs : List ℕ) → all_plain bs ≡ true → has_mark bs ≡ false
no_mark [] h = refl
no_mark (a ∷ []) h = refl
no_mark (a ∷ b ∷ []) h = refl
no_mark (a ∷ b ∷ c ∷ bs) h = let e = plain_byte (a == 13) (a == 239) (both (is_plain a) (all_plain (b ∷ c ∷ bs)) h).0
    in rw (e.1) refl

text_plain : (bs : List ℕ) → all_plain bs ≡ true → text_characters bs ≡ plain 0 1 bs
unfolding text_characters
text_plain bs h = skip (has_mark bs) _ _ (no_mark bs h) ∙ characters_plain 0 1 bs h

-- ---- texts

lexed_comes : (size : ℕ) (cs : List Character) (ts : List Token) →
    Comes size (place size size (last_line 1 cs)) (mode.Fresh 0) (0 ∷ []) cs ts → lexed size cs ≡ Ok ts
unfolding lexed laid
lexed_comes size cs ts h =
    let last = place size size (last_line 1 cs) in
    ap (λ c. to_come last c.stop (mode.Fresh 0) (0 ∷ []) c.words) (h.cuts (length cs) (omega arith)) ∙ h.come

-- Lexemes that are laid out well are read again from what is written of them.
pub reads_again : (ls : List Lexeme) → IsLaid 1 0 Start ls →
    (ts : List Token) × (tokens_of_text (written first_pen ls) ≡ Ok ts) × (map lexeme_of ts ≡ ls)
unfolding tokens_of_text
reads_again ls h =
    let text = written first_pen ls in
    let size = length text in
    let cs = plain 0 1 text in
    let found = again size (place size size (last_line 1 cs)) ls 1 0 0 Start [] h (refl, refl) 0 in (
      found.0,
      ap (lexed size) (text_plain text (plainly ls first_pen 1 0 Start h)) ∙
          lexed_comes size cs found.0 found.1,
      found.2,
    )
