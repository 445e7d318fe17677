-- The tokens of a text are a stream: slices in order, Indents and Dedents that match, and one End.
use Rattle.std.proofs.Common.{refl, ◌≡◌, ◌<◌, ℕ, suc, ◌+◌, ◌-◌, ◌≤◌, Bool, true, false, ◌==◌, nat_lt, ◌&&◌, if◌then◌else◌, List, [], ◌∷◌, ◌++◌, length, Option, Some, None, Result, Ok, Err, IfOk, sym, subst, arith}
use Rattle.py_base.specs.declared.refusal.Refusal.{Refusal}
use Rattle.py_tokens.specs.declared.character.Character.{Character}
use Rattle.py_tokens.specs.declared.error.TokenError.{TokenError}
use Rattle.py_tokens.specs.declared.layout.Mode.{Mode}
use Rattle.py_tokens.specs.declared.layout.Mode.TheVariants.{Fresh, Held, Within}
use Rattle.py_tokens.specs.declared.token.Place.{Place}
use Rattle.py_tokens.specs.declared.token.Token.{Token}
use Rattle.py_tokens.specs.declared.token.TokenKind.{TokenKind}
use Rattle.py_tokens.specs.declared.token.TokenKind.TheVariants as k
use Rattle.py_tokens.specs.declared.word.Word.{Word}
use Rattle.py_tokens.specs.declared.word.Word.TheVariants.{Blank, Comment, Joint, LineEnd, Opens, Closes, Plain}
use Rattle.py_tokens.specs.Place.{place, token_at}
use Rattle.py_tokens.specs.Characters.{characters, text_characters, last_line}
use Rattle.py_tokens.specs.Words.{cut}
use Rattle.py_tokens.specs.Layout.{lines, lines_laid, tokens_in, joined, after_blank, Laid, before, popped, indented, closing, ending, laid, lexed, tokens_of_text}
use Rattle.py_tokens.specs.Stream.{after_kind, IsStream}
use Rattle.py_tokens.specs.Tokens.{to_come, took, depth_of, Tokenizes}
use Rattle.py_tokens.proofs.Laying.{follows_opens, follows_closes, follows_plain}
use Rattle.py_tokens.proofs.InOrder.{IsInLine, Placed, placed_le, placed_cases, placed_characters, WordsPlaced, words_placed_le, cut_placed}

-- ---- streams

after_in_line : (kind : TokenKind) (depth : ℕ) (rest : ℕ → Type 0) (last : Type 0) → IsInLine kind → rest depth →
    after_kind kind depth rest last
after_in_line k.Newline depth rest last l h = absurd l
after_in_line k.Indent depth rest last l h = absurd l
after_in_line k.Dedent depth rest last l h = absurd l
after_in_line k.End depth rest last l h = absurd l
after_in_line (k.Name bs) depth rest last l h = h
after_in_line (k.Keyword n) depth rest last l h = h
after_in_line (k.Int n) depth rest last l h = h
after_in_line (k.Str bs) depth rest last l h = h
after_in_line (k.Op n) depth rest last l h = h
after_in_line (k.Other o) depth rest last l h = h

-- the tokens, if there are any, are a stream from this place on, inside so many blocks
abbrev Good : ℕ → ℕ → ℕ → Laid → Type 0
Good size at depth (Ok ts) = IsStream size at depth ts
Good size at depth (Err e) = Unit {0}

stream_end : (size at depth : ℕ) (ts : List Token) → IsStream size at depth ts → at ≤ size
stream_end size at depth [] p = absurd p
stream_end size at depth (t ∷ ts) p =
    let first : at ≤ t.from = p.0 in
    let wide : t.from ≤ t.to = p.1 in
    let last : t.to ≤ size = p.2 in
    omega arith

good_in_line : (size at depth : ℕ) (t : Token) (r : Laid) → IsInLine t.kind → at ≤ t.from → t.from ≤ t.to →
    Good size t.to depth r → Good size at depth (before (t ∷ []) r)
good_in_line size at depth t (Ok ts) l h w g =
    (h, w, stream_end size t.to depth ts g, after_in_line t.kind depth _ _ l g)
good_in_line size at depth t (Err e) l h w g = tt

good_newline : (size at depth : ℕ) (p : Place) (r : Laid) → at ≤ p.from → p.from ≤ p.to → Good size p.to depth r →
    Good size at depth (before (token_at k.Newline p ∷ []) r)
good_newline size at depth p (Ok ts) h w g = (h, w, stream_end size p.to depth ts g, g)
good_newline size at depth p (Err e) h w g = tt

good_indent : (size at b line depth : ℕ) (r : Laid) → at ≤ b → Good size b (depth + 1) r →
    Good size at depth (before (token_at k.Indent (place b b line) ∷ []) r)
good_indent size at b line depth (Ok ts) h g = (h, omega arith, stream_end size b (depth + 1) ts g, g)
good_indent size at b line depth (Err e) h g = tt

good_dedent : (size at b line depth : ℕ) (r : Laid) → at ≤ b → 0 < depth → Good size b (depth - 1) r →
    Good size at depth (before (token_at k.Dedent (place b b line) ∷ []) r)
good_dedent size at b line depth (Ok ts) h o g = (h, omega arith, stream_end size b (depth - 1) ts g, (o, g))
good_dedent size at b line depth (Err e) h o g = tt

laid_if : (b : Bool) (size at depth : ℕ) (r s : Laid) → Good size at depth r → Good size at depth s →
    Good size at depth (if b then r else s)
laid_if true size at depth r s p q = p
laid_if false size at depth r s p q = q

good_le : (size a b depth : ℕ) (r : Laid) → a ≤ b → Good size b depth r → Good size a depth r
good_le size a b depth (Ok []) h p = absurd p
good_le size a b depth (Ok (t ∷ ts)) h p = let q : b ≤ t.from = p.0 in (omega arith, p.1, p.2, p.3)
good_le size a b depth (Err e) h p = tt

-- ---- the stack

-- how many blocks are open
abbrev open_blocks : List ℕ → ℕ
open_blocks [] = 0
open_blocks (e ∷ stack) = length stack

one_less : (n : ℕ) → suc n - 1 ≡ n
one_less n = omega arith

one_more : (n : ℕ) → suc n ≡ n + 1
one_more n = omega arith

-- an empty place at b, from which on the rest is good
good_popped : (size at b line column : ℕ) (stack : List ℕ) (rest : List ℕ → Laid) → at ≤ b →
    ((s : List ℕ) → Good size b (open_blocks s) (rest s)) →
    Good size at (open_blocks stack) (popped (place b b line) column stack rest)
good_popped size at b line column [] rest h g = tt
good_popped size at b line column (e ∷ []) rest h g =
    laid_if (column == e) size at 0 _ _ (good_le size at b 0 (rest (e ∷ [])) h (g (e ∷ [])))
    (laid_if (nat_lt e column) size at 0 _ _ tt tt)
good_popped size at b line column (e ∷ f ∷ stack) rest h g =
    let depth = length (f ∷ stack) in
    laid_if (column == e) size at depth _ _ (good_le size at b depth (rest (e ∷ f ∷ stack)) h (g (e ∷ f ∷ stack)))
    (laid_if (nat_lt e column) size at depth _ _ tt
    (good_dedent size at b line depth _ h (omega arith)
    (subst (λ n. Good size b n (popped (place b b line) column (f ∷ stack) rest)) (sym (one_less (length stack)))
    (good_popped size b b line column (f ∷ stack) rest (omega arith) g))))

good_indented : (size at b line column : ℕ) (stack : List ℕ) (rest : List ℕ → Laid) → at ≤ b →
    ((s : List ℕ) → Good size b (open_blocks s) (rest s)) →
    Good size at (open_blocks stack) (indented (place b b line) column stack rest)
good_indented size at b line column [] rest h g = tt
good_indented size at b line column (e ∷ stack) rest h g =
    laid_if (nat_lt e column) size at (length stack) _ _
    (good_indent size at b line (length stack) _ h
    (subst (λ n. Good size b n (rest (column ∷ e ∷ stack))) (one_more (length stack)) (g (column ∷ e ∷ stack))))
    (good_popped size at b line column (e ∷ stack) rest h g)

-- what is asked from this place on, or behind a joint from the joint's
abbrev From : ℕ → Mode → (ℕ → Type 0) → Type 0
From at (Fresh column) f = f at
From at (Held column p) f = (at ≤ p.from) × f p.from
From at (Within depth) f = f at

good_took : (size at : ℕ) (t : Token) (m : Mode) (stack : List ℕ) (rest : List ℕ → Laid) → IsInLine t.kind →
    From at m (λ b. b ≤ t.from) → t.from ≤ t.to →
    ((s : List ℕ) → Good size t.to (open_blocks s) (rest s)) → Good size at (open_blocks stack) (took t m stack rest)
good_took size at t (Fresh column) stack rest l h w g =
    good_indented size at t.from t.line column stack _ h
    (λ s. good_in_line size t.from (open_blocks s) t (rest s) l (omega arith) w (g s))
good_took size at t (Held column p) stack rest l h w g =
    good_indented size at p.from p.line column stack _ h.0
    (λ s. good_in_line size p.from (open_blocks s) t (rest s) l h.1 w (g s))
good_took size at t (Within depth) stack rest l h w g = good_in_line size at (open_blocks stack) t (rest stack) l h w
    (g stack)

good_closing : (size at line : ℕ) (stack : List ℕ) → at ≤ size →
    IsStream size at (open_blocks stack) (closing (place size size line) stack)
good_closing size at line [] h = (h, omega arith, omega arith, (refl, refl))
good_closing size at line (e ∷ []) h = (h, omega arith, omega arith, (refl, refl))
good_closing size at line (e ∷ f ∷ stack) h = (
  h,
  omega arith,
  omega arith,
  (
    omega arith,
    subst (λ n. IsStream size size n (closing (place size size line) (f ∷ stack))) (sym (one_less (length stack)))
        (good_closing size size line (f ∷ stack) (omega arith)),
  ),
)

good_ending : (size at line : ℕ) (stop : Option Refusal) (stack : List ℕ) → at ≤ size →
    Good size at (open_blocks stack) (ending (place size size line) stop stack)
good_ending size at line None stack h = good_closing size at line stack h
good_ending size at line (Some e) stack h = tt

-- ---- the words of a text

-- a line end inside brackets, or not
within_cases : (b : Bool) (last : Place) (stop : Option Refusal) (depth : ℕ) (stack : List ℕ) (p : Place)
    (ws : List Word) (size at : ℕ) →
    Good size at (open_blocks stack) (before (token_at k.Newline p ∷ []) (to_come last stop (Fresh 0) stack ws)) →
    Good size at (open_blocks stack) (to_come last stop (Within depth) stack ws) →
    Good size at (open_blocks stack) (let ls = lines last (if b then LineEnd p ∷ joined 0 ws else joined depth ws) in
    before (tokens_in ls.0.words ++ token_at k.Newline ls.0.end ∷ []) (lines_laid last stop stack ls.1))
within_cases true last stop depth stack p ws size at one more = one
within_cases false last stop depth stack p ws size at one more = more

-- a token in front of words that are in order
at_token : (size at : ℕ) (m : Mode) (t : Token) (ws : List Word) →
    From at m (λ b. (b ≤ t.from) × (t.from ≤ t.to) × IsInLine t.kind × WordsPlaced size t.to ws) →
    From at m (λ b. b ≤ t.from) × (t.from ≤ t.to) × IsInLine t.kind × WordsPlaced size t.to ws
at_token size at (Fresh c) t ws p = p
at_token size at (Held c q) t ws p = ((p.0, p.1.0), p.1.1, p.1.2, p.1.3)
at_token size at (Within d) t ws p = p

good_to_come : (size at line : ℕ) (stop : Option Refusal) (m : Mode) (stack : List ℕ) (ws : List Word) →
    From at m (λ b. WordsPlaced size b ws) →
    Good size at (open_blocks stack) (to_come (place size size line) stop m stack ws)
good_to_come size at line stop (Fresh c) stack [] p = good_ending size at line stop stack p
good_to_come size at line stop (Held c q) stack [] p =
    let h : at ≤ q.from = p.0 in let g : q.from ≤ size = p.1 in good_ending size at line stop stack (omega arith)
good_to_come size at line stop (Within d) stack [] p = good_newline size at (open_blocks stack) (place size size line)
    _ p (omega arith) (good_ending size size line stop stack (omega arith))
good_to_come size at line stop (Fresh c) stack (Blank b ∷ ws) p =
    good_to_come size at line stop (Fresh (after_blank c b)) stack ws p
good_to_come size at line stop (Held c q) stack (Blank b ∷ ws) p = good_to_come size at line stop (Held c q) stack ws p
good_to_come size at line stop (Within d) stack (Blank b ∷ ws) p = good_to_come size at line stop (Within d) stack ws p
good_to_come size at line stop (Fresh c) stack (Comment ∷ ws) p = good_to_come size at line stop (Fresh c) stack ws p
good_to_come size at line stop (Held c q) stack (Comment ∷ ws) p = good_to_come size at line stop (Held c q) stack ws p
good_to_come size at line stop (Within d) stack (Comment ∷ ws) p = good_to_come size at line stop (Within d) stack ws p
good_to_come size at line stop (Fresh c) stack (Joint q ∷ ws) p =
    good_to_come size at line stop (Held c q) stack ws (p.0, words_placed_le size q.from q.to ws p.1 p.2)
good_to_come size at line stop (Held c q) stack (Joint r ∷ ws) p =
    let h : q.from ≤ r.from = p.1.0 in
    let w : r.from ≤ r.to = p.1.1 in
    good_to_come size at line stop (Held c q) stack ws (p.0, words_placed_le size q.from r.to ws (omega arith) p.1.2)
good_to_come size at line stop (Within d) stack (Joint q ∷ ws) p =
    let h : at ≤ q.from = p.0 in
    let w : q.from ≤ q.to = p.1 in
    good_to_come size at line stop (Within d) stack ws (words_placed_le size at q.to ws (omega arith) p.2)
good_to_come size at line stop (Fresh c) stack (LineEnd e ∷ ws) p = let h : at ≤ e.from = p.0 in
    let w : e.from ≤ e.to = p.1 in good_le size at e.to (open_blocks stack) _ (omega arith)
    (good_to_come size e.to line stop (Fresh 0) stack ws p.2)
good_to_come size at line stop (Held c q) stack (LineEnd e ∷ ws) p =
    let g : at ≤ q.from = p.0 in
    let h : q.from ≤ e.from = p.1.0 in
    let w : e.from ≤ e.to = p.1.1 in
    good_le size at e.to (open_blocks stack) _ (omega arith) (good_to_come size e.to line stop (Fresh 0) stack ws p.1.2)
good_to_come size at line stop (Within d) stack (LineEnd e ∷ ws) p =
    let h : at ≤ e.from = p.0 in
    let w : e.from ≤ e.to = p.1 in
    within_cases (d == 0) (place size size line) stop d stack e ws size at
    (good_newline size at (open_blocks stack) e _ p.0 p.1 (good_to_come size e.to line stop (Fresh 0) stack ws p.2))
    (good_le size at e.to (open_blocks stack) _ (omega arith)
    (good_to_come size e.to line stop (Within d) stack ws p.2))
good_to_come size at line stop m stack (Opens t ∷ ws) p =
    let o = at_token size at m t ws p in
    subst (Good size at (open_blocks stack)) (sym (follows_opens m t (place size size line) stop ws stack))
    (good_took size at t m stack _ o.2 o.0 o.1
    (λ s. good_to_come size t.to line stop (Within (depth_of m + 1)) s ws o.3))
good_to_come size at line stop m stack (Closes t ∷ ws) p =
    let o = at_token size at m t ws p in
    subst (Good size at (open_blocks stack)) (sym (follows_closes m t (place size size line) stop ws stack))
    (good_took size at t m stack _ o.2 o.0 o.1
    (λ s. good_to_come size t.to line stop (Within (depth_of m - 1)) s ws o.3))
good_to_come size at line stop m stack (Plain t ∷ ws) p =
    let o = at_token size at m t ws p in
    subst (Good size at (open_blocks stack)) (sym (follows_plain m t (place size size line) stop ws stack))
    (good_took size at t m stack _ o.2 o.0 o.1 (λ s. good_to_come size t.to line stop (Within (depth_of m)) s ws o.3))

good_lexed : (size : ℕ) (cs : List Character) → Placed size 0 cs → Good size 0 0 (lexed size cs)
unfolding lexed laid
good_lexed size cs p = let c = cut (length cs) size cs in good_to_come size 0 (last_line 1 cs) c.stop (Fresh 0)
    (0 ∷ []) c.words (cut_placed (length cs) size 0 cs p)

placed_text : (text : List ℕ) → Placed (length text) 0 (text_characters text)
unfolding text_characters
placed_text [] = omega arith
placed_text (a ∷ []) = placed_characters 1 0 1 (a ∷ []) (omega arith)
placed_text (a ∷ b ∷ []) = placed_characters 2 0 1 (a ∷ b ∷ []) (omega arith)
placed_text (a ∷ b ∷ c ∷ bs) =
    let size = length (a ∷ b ∷ c ∷ bs) in
    placed_cases (a == 239 && b == 187 && c == 191) size 0 _ _
    (placed_le size 0 3 (characters 3 1 bs) (omega arith) (placed_characters size 3 1 bs (omega arith)))
    (placed_characters size 0 1 (a ∷ b ∷ c ∷ bs) (omega arith))

good_text : (text : List ℕ) → Good (length text) 0 0 (tokens_of_text text)
unfolding tokens_of_text
good_text text = good_lexed (length text) (text_characters text) (placed_text text)

pub stream_of : {X : Type 0} (view : X → List Token) (r : Result X TokenError) (text : List ℕ) →
    Tokenizes view r (tokens_of_text text) → IfOk r (λ v. IsStream (length text) 0 0 (view v))
stream_of view (Ok v) text e = subst (Good (length text) 0 0) e (good_text text)
stream_of view (Err x) text e = tt
