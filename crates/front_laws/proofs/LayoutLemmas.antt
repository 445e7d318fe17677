-- Of the tokens of a text, those of its lines are the ones of its words; and where the layout refuses a text, a dedent
-- is bad.
use Rattle.std.proofs.Common.{◌≡◌, ℕ, ◌+◌, ◌-◌, ◌==◌, nat_lt, Bool, true, false, if◌then◌else◌, List, [], ◌∷◌, ◌++◌, Option, Some, None, Ok, Err, ◌⊎◌, inl, inr, refl, sym, ap, ◌∙◌, subst, append_assoc}
use Rattle.py_base.specs.declared.refusal.Refusal.{Refusal}
use Rattle.py_base.specs.declared.refusal.Refusal.TheVariants.{BadDedent}
use Rattle.py_tokens.specs.declared.token.Place.{Place}
use Rattle.py_tokens.specs.declared.token.Token.{Token}
use Rattle.py_tokens.specs.declared.token.TokenKind.TheVariants as k
use Rattle.py_tokens.specs.declared.word.Word.{Word}
use Rattle.py_tokens.specs.declared.word.Word.TheVariants.{Blank, Comment, Joint, LineEnd, Opens, Closes, Plain}
use Rattle.py_tokens.specs.Place.{token_at}
use Rattle.py_tokens.specs.Layout.{joined, Line, Lines, lines, tokens_in, column_after, first_joint, before_line, Laid, before, popped, indented, closing, ending, line_laid, lines_laid, laid}
use Rattle.front_laws.specs.Pieces.{is_layout, in_line}

-- ---- words and lines

joined_cases : (p : Place) (depth : ℕ) (ws : List Word) (b : Bool) → tokens_in (joined 0 ws) ≡ tokens_in ws →
    tokens_in (joined depth ws) ≡ tokens_in ws → tokens_in (if b then LineEnd p ∷ joined 0 ws else joined depth ws) ≡
    tokens_in ws
joined_cases p depth ws true top same = top
joined_cases p depth ws false top same = same

joined_tokens : (depth : ℕ) (ws : List Word) → tokens_in (joined depth ws) ≡ tokens_in ws
joined_tokens depth [] = refl
joined_tokens depth (Opens t ∷ ws) = ap (λ ts. t ∷ ts) (joined_tokens (depth + 1) ws)
joined_tokens depth (Closes t ∷ ws) = ap (λ ts. t ∷ ts) (joined_tokens (depth - 1) ws)
joined_tokens depth (LineEnd p ∷ ws) = joined_cases p depth ws (depth == 0) (joined_tokens 0 ws)
    (joined_tokens depth ws)
joined_tokens depth (Blank b ∷ ws) = joined_tokens depth ws
joined_tokens depth (Comment ∷ ws) = joined_tokens depth ws
joined_tokens depth (Joint p ∷ ws) = joined_tokens depth ws
joined_tokens depth (Plain t ∷ ws) = ap (λ ts. t ∷ ts) (joined_tokens depth ws)

lines_tokens : List Line → List Token
lines_tokens [] = []
lines_tokens (l ∷ ls) = tokens_in l.words ++ lines_tokens ls

all_tokens : Lines → List Token
all_tokens ls = tokens_in ls.0.words ++ lines_tokens ls.1

lines_are : (last : Place) (ws : List Word) → all_tokens (lines last ws) ≡ tokens_in ws
unfolding all_tokens lines_tokens
lines_are last [] = refl
lines_are last (LineEnd p ∷ ws) = lines_are last ws
lines_are last (Blank b ∷ ws) = lines_are last ws
lines_are last (Comment ∷ ws) = lines_are last ws
lines_are last (Joint p ∷ ws) = lines_are last ws
lines_are last (Opens t ∷ ws) = ap (λ ts. t ∷ ts) (lines_are last ws)
lines_are last (Closes t ∷ ws) = ap (λ ts. t ∷ ts) (lines_are last ws)
lines_are last (Plain t ∷ ws) = ap (λ ts. t ∷ ts) (lines_are last ws)

-- ---- the layout

append_cases : (t : Token) (ts ys : List Token) (b : Bool) → in_line (ts ++ ys) ≡ in_line ts ++ in_line ys →
    (if b then in_line (ts ++ ys) else t ∷ in_line (ts ++ ys)) ≡ (if b then in_line ts else t ∷ in_line ts) ++ in_line
    ys
append_cases t ts ys true e = e
append_cases t ts ys false e = ap (λ us. t ∷ us) e

in_line_append : (xs ys : List Token) → in_line (xs ++ ys) ≡ in_line xs ++ in_line ys
in_line_append [] ys = refl
in_line_append (t ∷ ts) ys = append_cases t ts ys (is_layout t.kind) (in_line_append ts ys)

abbrev IsDedent : Refusal → Type 0
IsDedent e = (line : ℕ) × (e ≡ BadDedent line)

-- the tokens of the lines, where there are tokens; else a bad dedent, or what the text was refused for
abbrev pub LaidIs : List Token → Option Refusal → Laid → Type 0
LaidIs us stop (Ok ts) = (in_line ts ≡ in_line us) × (stop ≡ None)
LaidIs us stop (Err e) = IsDedent e ⊎ (stop ≡ Some e)

laid_before : (us ts : List Token) (stop : Option Refusal) (r : Laid) → LaidIs us stop r →
    LaidIs (ts ++ us) stop (before ts r)
laid_before us ts stop (Ok vs) h = (
  in_line_append ts vs ∙ ap (λ xs. in_line ts ++ xs) h.0 ∙
      sym (in_line_append ts us),
  h.1,
)
laid_before us ts stop (Err e) h = h

-- a token of the layout adds none
laid_layout : (us : List Token) (t : Token) (stop : Option Refusal) (r : Laid) → is_layout t.kind ≡ true →
    LaidIs us stop r →
    LaidIs us stop (before (t ∷ []) r)
laid_layout us t stop (Ok vs) e h = (ap (λ (b : Bool). if b then in_line vs else t ∷ in_line vs) e ∙ h.0, h.1)
laid_layout us t stop (Err x) e h = h

laid_if : (us : List Token) (stop : Option Refusal) (b : Bool) (r s : Laid) → LaidIs us stop r → LaidIs us stop s →
    LaidIs us stop (if b then r else s)
laid_if us stop true r s h g = h
laid_if us stop false r s h g = g

laid_popped : (us : List Token) (stop : Option Refusal) (p : Place) (column : ℕ) (stack : List ℕ)
    (rest : List ℕ → Laid) →
    ((s : List ℕ) → LaidIs us stop (rest s)) → LaidIs us stop (popped p column stack rest)
laid_popped us stop p column [] rest h = inl (p.line, refl)
laid_popped us stop p column (e ∷ stack) rest h =
    laid_if us stop (column == e) _ _ (h (e ∷ stack)) (laid_if us stop (nat_lt e column) _ _ (inl (p.line, refl))
    (laid_layout us (token_at k.Dedent p) stop _ refl (laid_popped us stop p column stack rest h)))

laid_indented : (us : List Token) (stop : Option Refusal) (p : Place) (column : ℕ) (stack : List ℕ)
    (rest : List ℕ → Laid) →
    ((s : List ℕ) → LaidIs us stop (rest s)) → LaidIs us stop (indented p column stack rest)
laid_indented us stop p column [] rest h = inl (p.line, refl)
laid_indented us stop p column (e ∷ stack) rest h =
    laid_if us stop (nat_lt e column) _ _ (laid_layout us (token_at k.Indent p) stop _ refl (h (column ∷ e ∷ stack)))
    (laid_popped us stop p column (e ∷ stack) rest h)

closing_layout : (last : Place) (stack : List ℕ) → in_line (closing last stack) ≡ []
closing_layout last [] = refl
closing_layout last (e ∷ []) = refl
closing_layout last (e ∷ f ∷ stack) = closing_layout last (f ∷ stack)

laid_ending : (last : Place) (stop : Option Refusal) (stack : List ℕ) → LaidIs [] stop (ending last stop stack)
laid_ending last None stack = (closing_layout last stack, refl)
laid_ending last (Some e) stack = inr refl

before_twice : (ts : List Token) (n : Token) (r : Laid) → before ts (before (n ∷ []) r) ≡ before (ts ++ n ∷ []) r
before_twice ts n (Ok vs) = ap (λ us. Ok us) (sym (append_assoc ts (n ∷ []) vs))
before_twice ts n (Err e) = refl

laid_line : (column : ℕ) (joint : Option Place) (ts us : List Token) (end : Place)
    (stack : List ℕ) (stop : Option Refusal) (rest : List ℕ → Laid) →
    ((s : List ℕ) → LaidIs us stop (rest s)) → LaidIs (ts ++ us) stop (line_laid column joint ts end stack rest)
laid_line column joint [] us end stack stop rest h = h stack
laid_line column joint (t ∷ ts) us end stack stop rest h =
    let n = token_at k.Newline end in
    laid_indented ((t ∷ ts) ++ us) stop (before_line joint t) column stack _
    (λ s. subst (LaidIs ((t ∷ ts) ++ us) stop) (before_twice (t ∷ ts) n (rest s))
    (laid_before us (t ∷ ts) stop (before (n ∷ []) (rest s)) (laid_layout us n stop (rest s) refl (h s))))

laid_lines : (last : Place) (stop : Option Refusal) (stack : List ℕ) (ls : List Line) →
    LaidIs (lines_tokens ls) stop (lines_laid last stop stack ls)
unfolding lines_tokens
laid_lines last stop stack [] = laid_ending last stop stack
laid_lines last stop stack (l ∷ ls) =
    laid_line (column_after 0 l.words) (first_joint l.words) (tokens_in l.words) (lines_tokens ls) l.end stack stop _
    (λ s. laid_lines last stop s ls)

pub laid_is : (last : Place) (stop : Option Refusal) (ws : List Word) → LaidIs (tokens_in ws) stop (laid last stop ws)
unfolding laid all_tokens lines_tokens
laid_is last stop ws =
    let ls = lines last (joined 0 ws) in
    subst (λ us. LaidIs us stop (laid last stop ws)) (lines_are last (joined 0 ws) ∙ joined_tokens 0 ws)
    (laid_lines last stop (0 ∷ []) (ls.0 ∷ ls.1))
