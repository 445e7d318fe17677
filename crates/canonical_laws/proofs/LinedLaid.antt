-- Words on a line are laid out, and so are simple statements on lines.
use Rattle.std.proofs.Common.{◌≡◌, ℕ, ◌+◌, ◌-◌, ◌<◌, ◌≤◌, Bool, true, false, ◌==◌, ◌||◌, if◌then◌else◌, List, [], ◌∷◌, ◌++◌, refl, sym, ap, ◌∙◌, subst, append_assoc, arith}
use Rattle.std.proofs.lemmas.Bool.{eqb-false, or_parts}
use Rattle.py_tokens.specs.declared.operator.TheConstants as operator
use Rattle.py_tokens.specs.declared.token.Token.{Token}
use Rattle.py_tokens.specs.declared.token.TokenKind.{TokenKind}
use Rattle.py_tokens.specs.declared.token.TokenKind.TheVariants as k
use Rattle.py_tree.specs.declared.stmt.Stmt.{Stmt}
use Rattle.py_tree.specs.Lexeme.{Lexeme}
use Rattle.py_tree.specs.inner.Laid.{IsWord, Stand, brackets, after_word, MayClose, Stands, IsLaid}
use Rattle.py_tree.specs.inner.Laid.Stand.{Start, Indented, Dedented, Within}
use Rattle.py_tree.specs.Spelling.{Words}
use Rattle.py_tree.specs.Canonical as n
use Rattle.py_tree.specs.Canonical.{Piece, piece, pieces, on, newline, ending, in_order, begins_on, block_lexemes, head}
use Rattle.py_grammar.specs.Words.{line_of}
use Rattle.py_grammar.specs.Statements as S
use Rattle.py_grammar.specs.Statements.{Line}
use Rattle.py_grammar.specs.Grammar.{Marks}
use Rattle.py_tree.proofs.Lined.{IsLined, AllKept, kept_front, kept_after}
use Rattle.canonical_laws.proofs.LinedWords.{AllWords, after_words, is_some, Phrase, even_nil, even_cons, phrase2}
use Rattle.canonical_laws.proofs.LinedSimple.{Starts, starts_append, line_append, lined_start, starts_Simple, IsSimple, simple_is}

-- ---- words

le_stands : (kind : TokenKind) (at a b depth : ℕ) (s : Stand) (rest : ℕ → ℕ → Stand → Type 0) (last : Type 0) → a ≤ b →
    ((c d e : ℕ) (t : Stand) → c ≤ d → rest d e t → rest c e t) → Stands kind at b depth s rest last →
    Stands kind at a depth s rest last
le_stands k.Newline at a b depth s rest last h f g = let q : a + 1 ≤ b + 1 = omega arith in
    (g.0, f (a + 1) (b + 1) depth Start q g.1, g.2)
le_stands k.Indent at a b depth s rest last h f g = (g.0, f a b (depth + 1) Indented h g.1, g.2)
le_stands k.Dedent at a b depth s rest last h f g = (g.0, g.1, f a b (depth - 1) Dedented h g.2, g.3)
le_stands k.End at a b depth s rest last h f g = g
le_stands (k.Name bs) at a b depth s rest last h f g = (let q : b ≤ at = g.0 in omega arith, g.1, g.2)
le_stands (k.Keyword n) at a b depth s rest last h f g = (let q : b ≤ at = g.0 in omega arith, g.1, g.2)
le_stands (k.Int n) at a b depth s rest last h f g = (let q : b ≤ at = g.0 in omega arith, g.1, g.2)
le_stands (k.Str bs) at a b depth s rest last h f g = (let q : b ≤ at = g.0 in omega arith, g.1, g.2)
le_stands (k.Op n) at a b depth s rest last h f g = (let q : b ≤ at = g.0 in omega arith, g.1, g.2)
le_stands (k.Other o) at a b depth s rest last h f g = g

laid_le : (ls : List Lexeme) (a b depth : ℕ) (s : Stand) → a ≤ b → IsLaid b depth s ls → IsLaid a depth s ls
laid_le [] a b depth s h g = g
laid_le (l ∷ ls) a b depth s h g = le_stands l.kind l.line a b depth s (λ n d t. IsLaid n d t ls) (ls ≡ []) h
    (λ c d e t. laid_le ls c d e t) g

stands_word : (w : TokenKind) (at line depth : ℕ) (s : Stand) (rest : ℕ → ℕ → Stand → Type 0) (last : Type 0) →
    IsWord w → line ≤ at → rest at depth (Within (after_word w (brackets s))) → Stands w at line depth s rest last
stands_word k.Newline at line depth s rest last i h r = absurd i
stands_word k.Indent at line depth s rest last i h r = absurd i
stands_word k.Dedent at line depth s rest last i h r = absurd i
stands_word k.End at line depth s rest last i h r = absurd i
stands_word (k.Name bs) at line depth s rest last i h r = (h, i, r)
stands_word (k.Keyword n) at line depth s rest last i h r = (h, i, r)
stands_word (k.Int n) at line depth s rest last i h r = (h, i, r)
stands_word (k.Str bs) at line depth s rest last i h r = (h, i, r)
stands_word (k.Op n) at line depth s rest last i h r = (h, i, r)
stands_word (k.Other o) at line depth s rest last i h r = absurd i

on_laid : (ws : Words) (line j depth m : ℕ) (rest : List Lexeme) → AllWords ws → j ≤ line →
    IsLaid line depth (Within (after_words m ws)) rest → IsLaid j depth (Within m) (on line ws ++ rest)
on_laid [] line j depth m rest are h r = laid_le rest j line depth (Within m) h r
on_laid (w ∷ ws) line j depth m rest are h r =
    let same : line ≤ line = omega arith in
    stands_word w line j depth (Within m) (λ a d t. IsLaid a d t (on line ws ++ rest)) _ are.0 h
    (on_laid ws line line depth (after_word w m) rest are.1 same r)

-- words that leave the brackets as they were, from a place outside brackets on
pub phrase_laid : (ws : Words) (line j depth : ℕ) (s : Stand) (rest : List Lexeme) → Phrase ws → brackets s ≡ 0 →
    j ≤ line → IsLaid line depth (Within 0) rest → IsLaid j depth s (on line ws ++ rest)
phrase_laid [] line j depth s rest p b h r = absurd (let e : is_some [] ≡ true = p.some in cc)
phrase_laid (w ∷ ws) line j depth s rest p b h r =
    let same : line ≤ line = omega arith in
    let e : after_words (after_word w (brackets s)) ws ≡ 0 = p.even.level (brackets s) ∙ b in
    stands_word w line j depth s (λ a d t. IsLaid a d t (on line ws ++ rest)) _ p.even.are.0 h
    (on_laid ws line line depth (after_word w (brackets s)) rest p.even.are.1 same
    (subst (λ m. IsLaid line depth (Within m) rest) (sym e) r))

-- a clause's head and what follows it
pub clause_laid : (ws : Words) (line j depth : ℕ) (s : Stand) (ls rest : List Lexeme) → Phrase ws → brackets s ≡ 0 →
    j ≤ line → IsLaid line depth (Within 0) (ls ++ rest) → IsLaid j depth s ((head line ws ++ ls) ++ rest)
clause_laid ws line j depth s ls rest p b h r =
    subst (IsLaid j depth s) (sym (append_assoc (head line ws) ls rest))
    (phrase_laid (ws ++ k.Op operator.COLON ∷ []) line j depth s (ls ++ rest)
    (phrase2 p (even_cons (k.Op operator.COLON) refl (λ m. refl) even_nil)) b h r)

pub close_brackets : (s : Stand) → MayClose s → brackets s ≡ 0
close_brackets Start m = refl
close_brackets Indented m = absurd m
close_brackets Dedented m = refl
close_brackets (Within n) m = absurd m

-- lexemes that may follow a block: from this line, or any before it
abbrev pub Ready : ℕ → ℕ → List Lexeme → Type 0
Ready depth c ls = (j : ℕ) (s : Stand) → j ≤ c → MayClose s → IsLaid j depth s ls

-- ---- simple statements on lines

pub regroup : (as' bs cs ds : List Lexeme) → ((as' ++ bs) ++ cs) ++ ds ≡ as' ++ (bs ++ (cs ++ ds))
regroup as' bs cs ds = append_assoc (as' ++ bs) cs ds ∙ append_assoc as' bs (cs ++ ds)

-- a simple statement that ends its line
last_laid : (short : Bool) (l : ℕ) (ws : Words) (ps : List Piece) (tail : List Lexeme) (j depth : ℕ) (s : Stand) →
    Phrase ws → brackets s ≡ 0 → j ≤ l → ending short l ps ≡ newline →
    IsLaid (l + 1) depth Start (in_order short ps ++ tail) →
    IsLaid j depth s (in_order short (n.Simple l ws ∷ ps) ++ tail)
last_laid short l ws ps tail j depth s p b h e r =
    subst (λ z. IsLaid j depth s (((on l ws ++ z) ++ in_order short ps) ++ tail)) (sym e)
    (subst (IsLaid j depth s) (sym (regroup (on l ws) newline (in_order short ps) tail))
    (phrase_laid ws l j depth s (newline ++ (in_order short ps ++ tail)) p b h (refl, r, refl)))

-- one with a semicolon after it
semicolon_laid : (short : Bool) (l : ℕ) (ws : Words) (ps : List Piece) (tail : List Lexeme) (j depth : ℕ) (s : Stand) →
    Phrase ws → brackets s ≡ 0 → j ≤ l → ending short l ps ≡ on l (k.Op operator.SEMICOLON ∷ []) →
    IsLaid l depth (Within 0) (in_order short ps ++ tail) →
    IsLaid j depth s (in_order short (n.Simple l ws ∷ ps) ++ tail)
semicolon_laid short l ws ps tail j depth s p b h e r =
    let same : l ≤ l = omega arith in
    subst (λ z. IsLaid j depth s (((on l ws ++ z) ++ in_order short ps) ++ tail)) (sym e)
    (subst (IsLaid j depth s) (sym (regroup (on l ws) (on l (k.Op operator.SEMICOLON ∷ [])) (in_order short ps) tail))
    (phrase_laid ws l j depth s (on l (k.Op operator.SEMICOLON ∷ []) ++ (in_order short ps ++ tail)) p b h
    (same, refl, r)))

-- one before another of line m
next_laid : (short : Bool) (l m : ℕ) (ws : Words) (ps : List Piece) (tail : List Lexeme) (j depth : ℕ) (s : Stand) →
    Phrase ws → brackets s ≡ 0 → j ≤ l → l ≤ m →
    ending short l ps ≡ (if short || (l == m) then on l (k.Op operator.SEMICOLON ∷ []) else newline) →
    ((i : ℕ) (t : Stand) → brackets t ≡ 0 → i ≤ m → IsLaid i depth t (in_order short ps ++ tail)) →
    IsLaid j depth s (in_order short (n.Simple l ws ∷ ps) ++ tail)
next_laid short l m ws ps tail j depth s p b h le e r = go (short || (l == m)) refl
  where
    go : (q : Bool) → (short || (l == m)) ≡ q → IsLaid j depth s (in_order short (n.Simple l ws ∷ ps) ++ tail)
    go true f = semicolon_laid short l ws ps tail j depth s p b h
        (e ∙ ap (λ z. if z then on l (k.Op operator.SEMICOLON ∷ []) else newline) f) (r l (Within 0) refl le)
    go false f =
        let other : l ≡ m → ⊥ = eqb-false l m (or_parts short (l == m) f).1 in
        let more : l + 1 ≤ m = omega arith in
        last_laid short l ws ps tail j depth s p b h
        (e ∙ ap (λ z. if z then on l (k.Op operator.SEMICOLON ∷ []) else newline) f) (r (l + 1) Start refl more)

pub starts_Line : {x : Marks} {as' : List Stmt} {ts : List Token} → Line x as' ts → Starts ts
starts_Line (S.Line.end _ {ts = ts} h) = starts_append ts _ (starts_Simple h)
starts_Line (S.Line.end_semicolon _ _ {ts = ts} h) = starts_append ts _ (starts_Simple h)
starts_Line (S.Line.more _ {ts = ts} h _) = starts_append ts _ (starts_Simple h)

-- statements the first of which is simple and of this line
pub record Begins (as' : List Stmt) (line : ℕ) : Type 0 where
  pub words : Words
  pub more : List Piece
  pub is : pieces as' ≡ n.Simple line words ∷ more

begins_simple : {a : Stmt} (as' : List Stmt) {line : ℕ} (line' : ℕ) → line' ≡ line → IsSimple a line →
    Begins (a ∷ as') line'
begins_simple {a = a} as' {line = line} line' e i =
    subst (Begins (a ∷ as')) (sym e) (record { words = i.words; more = pieces as'; is = ap (λ z. z ∷ pieces as') i.is })

pub line_begins : {x : Marks} {as' : List Stmt} {ts : List Token} → Line x as' ts → AllKept ts → Begins as' (line_of ts)
line_begins (S.Line.end _ {ts = ts} h) a =
    begins_simple [] (line_of (ts ++ _ ∷ [])) (line_append ts _ (starts_Simple h)) (simple_is h (kept_front ts _ a))
line_begins (S.Line.end_semicolon _ _ {ts = ts} h) a =
    begins_simple [] (line_of (ts ++ _ ∷ _ ∷ [])) (line_append ts _ (starts_Simple h)) (simple_is h (kept_front ts _ a))
line_begins (S.Line.more _ {as' = bs} {ts = ts} {us = us} h _) a =
    begins_simple bs (line_of (ts ++ _ ∷ us)) (line_append ts _ (starts_Simple h)) (simple_is h (kept_front ts _ a))

-- what may follow simple statements: lines end before it, and it is laid out from any line up to c
abbrev pub After : Bool → ℕ → ℕ → List Piece → List Lexeme → Type 0
After short c depth qs tail = ((l : ℕ) → l < c → ending short l qs ≡ newline) ×
    ((j : ℕ) → j ≤ c → IsLaid j depth Start (in_order short qs ++ tail))

-- the last of a line, which ends on a line before c
end_laid : (short : Bool) (a : Stmt) (l c : ℕ) (qs : List Piece) (tail : List Lexeme) (j depth : ℕ) (s : Stand) →
    IsSimple a l → l < c → After short c depth qs tail → brackets s ≡ 0 → j ≤ l →
    IsLaid j depth s (in_order short (piece a ∷ qs) ++ tail)
end_laid short a l c qs tail j depth s i lt f b h =
    let more : l + 1 ≤ c = omega arith in
    subst (λ z. IsLaid j depth s (in_order short (z ∷ qs) ++ tail)) (sym i.is)
    (last_laid short l i.words qs tail j depth s i.good b h (f.0 l lt) (f.1 (l + 1) more))

pub line_laid : {x : Marks} {as' : List Stmt} {ts : List Token} → Line x as' ts → AllKept ts →
    (short : Bool) (qs : List Piece) (tail : List Lexeme) (us : List Token) (a depth : ℕ) → IsLined a (ts ++ us) →
    ((c : ℕ) → IsLined c us → After short c depth qs tail) → (j : ℕ) (s : Stand) → brackets s ≡ 0 → j ≤ line_of ts →
    IsLaid j depth s (in_order short (pieces as' ++ qs) ++ tail)
line_laid (S.Line.end p {a = st} {ts = ts} h) keep short qs tail us a depth g f j s b le =
    let first = starts_Simple h in
    let two = lined_start ts (_ ∷ us) a first (subst (IsLined a) (append_assoc ts (_ ∷ []) us) g) in
    let up : line_of ts ≤ p.line = two.1.0 in
    let lt : line_of ts < p.line + 1 = omega arith in
    end_laid short st (line_of ts) (p.line + 1) qs tail j depth s (simple_is h (kept_front ts _ keep)) lt
    (f (p.line + 1) two.1.1) b (subst (λ m. j ≤ m) (line_append ts _ first) le)
line_laid (S.Line.end_semicolon p q {a = st} {ts = ts} h) keep short qs tail us a depth g f j s b le =
    let first = starts_Simple h in
    let two = lined_start ts (_ ∷ _ ∷ us) a first (subst (IsLined a) (append_assoc ts (_ ∷ _ ∷ []) us) g) in
    let up : line_of ts ≤ p.line = two.1.0 in
    let next : p.line ≤ q.line = two.1.1.0 in
    let lt : line_of ts < q.line + 1 = omega arith in
    end_laid short st (line_of ts) (q.line + 1) qs tail j depth s (simple_is h (kept_front ts _ keep)) lt
    (f (q.line + 1) two.1.1.1) b (subst (λ m. j ≤ m) (line_append ts _ first) le)
line_laid (S.Line.more p {a = st} {as' = bs} {ts = ts} {us = vs} h hs) keep short qs tail us a depth g f j s b le =
    let first = starts_Simple h in
    let two = lined_start ts (_ ∷ vs ++ us) a first (subst (IsLined a) (append_assoc ts (_ ∷ vs) us) g) in
    let up : line_of ts ≤ p.line = two.1.0 in
    let next = lined_start vs us p.line (starts_Line hs) two.1.1 in
    let over : p.line ≤ line_of vs = next.0 in
    let rise : line_of ts ≤ line_of vs = omega arith in
    let kept = (kept_after ts _ keep).1 in
    let i = simple_is h (kept_front ts _ keep) in
    let begin = line_begins hs kept in
    subst (λ z. IsLaid j depth s (in_order short (z ∷ (pieces bs ++ qs)) ++ tail)) (sym i.is)
    (next_laid short (line_of ts) (line_of vs) i.words (pieces bs ++ qs) tail j depth s i.good b
    (subst (λ m. j ≤ m) (line_append ts _ first) le) rise
    (ap (λ z. ending short (line_of ts) (z ++ qs)) begin.is)
    (line_laid hs kept short qs tail us p.line depth two.1.1 f))
