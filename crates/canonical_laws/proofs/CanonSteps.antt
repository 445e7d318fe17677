-- Tokens in the canonical order of some statements: as lines, a suite, a block, a body.
use Rattle.std.proofs.Common.{◌≡◌, ℕ, ◌==◌, Bool, true, false, if◌then◌else◌, List, [], ◌∷◌, ◌++◌, None, refl, sym, ap, subst, append_assoc, append-nil}
use Rattle.py_tokens.specs.declared.token.Token.{Token}
use Rattle.py_tokens.specs.declared.token.TokenKind.{TokenKind}
use Rattle.py_tokens.specs.declared.token.TokenKind.TheVariants as k
use Rattle.py_tokens.specs.declared.token.Place.{Place}
use Rattle.py_tokens.specs.Place.{token_at as at}
use Rattle.py_tree.specs.declared.stmt.Stmt.{Stmt}
use Rattle.py_tree.specs.Lexeme.{Lexeme, lexeme}
use Rattle.py_tree.specs.Spelling.{Words}
use Rattle.py_tree.specs.Canonical.{on, newline, Piece, ending, in_order, begins_on, block_lexemes}
use Rattle.py_tree.specs.Canonical as C
use Rattle.py_grammar.specs.Codes as c
use Rattle.py_grammar.specs.Statements as S
use Rattle.py_grammar.specs.Statements.{Simple, Line, Statement, Suite, Block, Compound, Body}
use Rattle.canonical_laws.proofs.CanonWords.{One, one, Nothing, nothing}
use Rattle.canonical_laws.proofs.CanonReads.{Reads, alike, Split, split, splits, none as no_more, only, Leads, leads, led_by, OnLine, on_line}

-- what has these words on this line is this statement
abbrev pub Again : ℕ → Words → Stmt → Type 0
Again line ws a = (ts : List Token) → OnLine line ws ts → Simple None a ts

-- statements with their pieces, each of which spells its statement
pub data AllGood : List Stmt → List Piece → Type 0 where
  nil : AllGood [] []
  simple : (line : ℕ) (ws : Words) {a : Stmt} {as' : List Stmt} {ps : List Piece} → Again line ws a → AllGood as' ps →
      AllGood (a ∷ as') (C.Simple line ws ∷ ps)
  compound : (ls : List Lexeme) {a : Stmt} {as' : List Stmt} {ps : List Piece} →
      ((ts : List Token) → Reads ls ts → Compound None a ts) → AllGood as' ps → AllGood (a ∷ as') (C.Compound ls ∷ ps)

pub all_more : {as' bs : List Stmt} {ps qs : List Piece} → AllGood as' ps → AllGood bs qs →
    AllGood (as' ++ bs) (ps ++ qs)
all_more AllGood.nil h = h
all_more (AllGood.simple line ws f g) h = AllGood.simple line ws f (all_more g h)
all_more (AllGood.compound ls f g) h = AllGood.compound ls f (all_more g h)

-- one or more simple statements
pub data AllSimple : List Stmt → List Piece → Type 0 where
  single : (line : ℕ) (ws : Words) {a : Stmt} → Again line ws a → AllSimple (a ∷ []) (C.Simple line ws ∷ [])
  more : (line : ℕ) (ws : Words) {a : Stmt} {as' : List Stmt} {ps : List Piece} → Again line ws a → AllSimple as' ps →
      AllSimple (a ∷ as') (C.Simple line ws ∷ ps)

pub all_of : {as' : List Stmt} {ps : List Piece} → AllSimple as' ps → AllGood as' ps
all_of (AllSimple.single line ws f) = AllGood.simple line ws f AllGood.nil
all_of (AllSimple.more line ws f g) = AllGood.simple line ws f (all_of g)

-- ---- single lexemes

lone_leads : {κ : TokenKind} {line : ℕ} {ts : List Token} → Leads κ line [] ts → One κ ts
lone_leads {κ = κ} (leads p e r) = inner p (no_more r)
  where
    inner : (p : Place) {us : List Token} → Nothing us → One κ (at κ p ∷ us)
    inner p nothing = one p

pub lone : {κ : TokenKind} {line : ℕ} {ts : List Token} → Reads (lexeme κ line ∷ []) ts → One κ ts
lone r = lone_leads (led_by r)

-- ---- statement after statement; the truth value says whether the first is a simple one

data Steps : Bool → List Stmt → List Token → Type 0 where
  none : Steps false [] []
  comp : (b : Bool) {a : Stmt} {as' : List Stmt} {ts us : List Token} → Compound None a ts → Steps b as' us →
      Steps false (a ∷ as') (ts ++ us)
  last : (b : Bool) (p : Place) {a : Stmt} {as' : List Stmt} {ts us : List Token} → Simple None a ts → Steps b as' us →
      Steps true (a ∷ as') (ts ++ at k.Newline p ∷ [] ++ us)
  join : (p : Place) {a : Stmt} {as' : List Stmt} {ts us : List Token} → Simple None a ts → Steps true as' us →
      Steps true (a ∷ as') (ts ++ at c.semicolon p ∷ [] ++ us)

abbrev heads : List Piece → Bool
heads (C.Simple line ws ∷ ps) = true
heads _ = false

-- a simple statement with what ends it, before others
data Ended (b : Bool) (a : Stmt) : List Token → Type 0 where
  at_end : (p : Place) {ts : List Token} → Simple None a ts → Ended b a (ts ++ at k.Newline p ∷ [])
  before : (p : Place) {ts : List Token} → b ≡ true → Simple None a ts → Ended b a (ts ++ at c.semicolon p ∷ [])

by_newline : (b : Bool) {a : Stmt} {line : ℕ} {ws : Words} {ts : List Token} → Again line ws a →
    Split (on line ws) newline ts → Ended b a ts
by_newline b {a = a} {line = line} {ws = ws} f (split r s) = inner (f _ (on_line line ws _ r)) (lone s)
  where
    inner : {us vs : List Token} → Simple None a us → One k.Newline vs → Ended b a (us ++ vs)
    inner h (one p) = Ended.at_end p h

by_semicolon : (b : Bool) {a : Stmt} {line : ℕ} {ws : Words} {ts : List Token} → b ≡ true → Again line ws a →
    Split (on line ws) (on line (c.semicolon ∷ [])) ts → Ended b a ts
by_semicolon b {a = a} {line = line} {ws = ws} e f (split r s) = inner (f _ (on_line line ws _ r)) (lone s)
  where
    inner : {us vs : List Token} → Simple None a us → One c.semicolon vs → Ended b a (us ++ vs)
    inner h (one p) = Ended.before p e h

by_choice : (b d : Bool) {a : Stmt} {line : ℕ} {ws : Words} {ts : List Token} → b ≡ true → Again line ws a →
    Split (on line ws) (if d then on line (c.semicolon ∷ []) else newline) ts → Ended b a ts
by_choice b true e f s = by_semicolon b e f s
by_choice b false e f s = by_newline b f s

by_ending : (ps : List Piece) {a : Stmt} {line : ℕ} {ws : Words} {ts : List Token} → Again line ws a →
    Split (on line ws) (ending false line ps) ts → Ended (heads ps) a ts
by_ending [] f s = by_newline false f s
by_ending (C.Simple next vs ∷ ps) {line = line} f s = by_choice true (line == next) refl f s
by_ending (C.Compound ls ∷ ps) f s = by_newline false f s

step_of : {b : Bool} {a : Stmt} {as' : List Stmt} {ts us : List Token} → Ended b a ts → Steps b as' us →
    Steps true (a ∷ as') (ts ++ us)
step_of {b = b} (Ended.at_end p h) r = Steps.last b p h r
step_of {as' = as'} {us = us} (Ended.before p e h) r = Steps.join p h (subst (λ z. Steps z as' us) e r)

steps : {as' : List Stmt} {ps : List Piece} → AllGood as' ps → (ts : List Token) → Reads (in_order false ps) ts →
    Steps (heads ps) as' ts
steps AllGood.nil ts r = inner (no_more r)
  where
    inner : {us : List Token} → Nothing us → Steps false [] us
    inner nothing = Steps.none
steps (AllGood.simple line ws {a = a} {as' = as'} {ps = ps} f g) ts r = inner (λ us y. steps g us y) (splits _ _ r)
  where
    inner : ((us : List Token) → Reads (in_order false ps) us → Steps (heads ps) as' us) → {us : List Token} →
        Split (on line ws ++ ending false line ps) (in_order false ps) us → Steps true (a ∷ as') us
    inner h (split x y) = step_of (by_ending ps f (splits _ _ x)) (h _ y)
steps (AllGood.compound ls {a = a} {as' = as'} {ps = ps} f g) ts r = inner (λ us y. steps g us y) (splits _ _ r)
  where
    inner : ((us : List Token) → Reads (in_order false ps) us → Steps (heads ps) as' us) → {us : List Token} →
        Split ls (in_order false ps) us → Steps false (a ∷ as') us
    inner h (split x y) = Steps.comp (heads ps) (f _ x) (h _ y)

-- ---- lines

data Chunks : List Stmt → List Token → Type 0 where
  none : Chunks [] []
  chunk : {as' bs : List Stmt} {ts us : List Token} → Statement None as' ts → Chunks bs us →
      Chunks (as' ++ bs) (ts ++ us)

data Runs : Bool → List Stmt → List Token → Type 0 where
  chunks : {as' : List Stmt} {ts : List Token} → Chunks as' ts → Runs false as' ts
  lined : {as' bs : List Stmt} {ts us : List Token} → Line None as' ts → Chunks bs us → Runs true (as' ++ bs) (ts ++ us)

to_chunks : {b : Bool} {as' : List Stmt} {ts : List Token} → Runs b as' ts → Chunks as' ts
to_chunks (Runs.chunks h) = h
to_chunks (Runs.lined h i) = Chunks.chunk (S.Statement.line h) i

joined : (p : Place) {a : Stmt} {as' : List Stmt} {ts us : List Token} → Simple None a ts → Runs true as' us →
    Runs true (a ∷ as') (ts ++ at c.semicolon p ∷ [] ++ us)
joined p {a = a} {ts = ts} h (Runs.lined {as' = as'} {bs = bs} {ts = us} {us = vs} l i) =
    subst (λ z. Runs true (a ∷ (as' ++ bs)) z) (simp append_assoc) (Runs.lined (S.Line.more p h l) i)

runs : {b : Bool} {as' : List Stmt} {ts : List Token} → Steps b as' ts → Runs b as' ts
runs Steps.none = Runs.chunks Chunks.none
runs (Steps.comp b h r) = Runs.chunks (Chunks.chunk (S.Statement.compound h) (to_chunks (runs r)))
runs (Steps.last b p h r) = Runs.lined (S.Line.end p h) (to_chunks (runs r))
runs (Steps.join p h r) = joined p h (runs r)

-- ---- suites and bodies

abbrev pub Filled : List Stmt → Type 0
Filled [] = ⊥
Filled (a ∷ as') = Unit {0}

with_more : {as' bs : List Stmt} {ts us : List Token} → Statement None as' ts → Chunks bs us →
    Suite None (as' ++ bs) (ts ++ us)
with_more {as' = as'} {ts = ts} h Chunks.none = subst (λ z. Suite None z (ts ++ [])) (sym (append-nil as'))
    (subst (λ z. Suite None as' z) (sym (append-nil ts)) (S.Suite.last_of h))
with_more h (Chunks.chunk i r) = S.Suite.then h (with_more i r)

suite_run : {as' : List Stmt} {ts : List Token} → Runs true as' ts → Suite None as' ts
suite_run (Runs.lined h i) = with_more (S.Statement.line h) i

suite_steps : {b : Bool} {as' : List Stmt} {ts : List Token} → Steps b as' ts → Filled as' → Suite None as' ts
suite_steps Steps.none f = absurd f
suite_steps (Steps.comp b h r) f = with_more (S.Statement.compound h) (to_chunks (runs r))
suite_steps (Steps.last b p h r) f = suite_run (runs (Steps.last b p h r))
suite_steps (Steps.join p h r) f = suite_run (runs (Steps.join p h r))

as_suite : {as' : List Stmt} {ps : List Piece} → AllGood as' ps → Filled as' → (ts : List Token) →
    Reads (in_order false ps) ts → Suite None as' ts
as_suite g f ts r = suite_steps (steps g ts r) f

body_chunks : (p : Place) {as' : List Stmt} {ts : List Token} → Chunks as' ts → Body None as' (ts ++ at k.End p ∷ [])
body_chunks p Chunks.none = S.Body.end None p
body_chunks p (Chunks.chunk {as' = as'} {bs = bs} {ts = ts} {us = us} h r) =
    subst (λ z. Body None (as' ++ bs) z) (sym (append_assoc ts us (at k.End p ∷ []))) (S.Body.more h (body_chunks p r))

pub as_body : {as' : List Stmt} {ps : List Piece} → AllGood as' ps → (ts : List Token) →
    Reads (in_order false ps ++ lexeme k.End 0 ∷ []) ts → Body None as' ts
as_body {as' = as'} {ps = ps} g ts r = outer (splits _ _ r)
  where
    inner : {us vs : List Token} → Chunks as' us → One k.End vs → Body None as' (us ++ vs)
    inner i (one p) = body_chunks p i

    outer : {us : List Token} → Split (in_order false ps) (lexeme k.End 0 ∷ []) us → Body None as' us
    outer (split x y) = inner (to_chunks (runs (steps g _ x))) (lone y)

-- ---- blocks

ending_short : (line : ℕ) {as' : List Stmt} {ps : List Piece} → AllSimple as' ps →
    ending true line ps ≡ on line (c.semicolon ∷ [])
ending_short line (AllSimple.single l ws f) = refl
ending_short line (AllSimple.more l ws f g) = refl

line_end : {line : ℕ} {ws : Words} {a : Stmt} {ts : List Token} → Again line ws a → Split (on line ws) newline ts →
    Line None (a ∷ []) ts
line_end {line = line} {ws = ws} {a = a} f (split x y) = inner (f _ (on_line line ws _ x)) (lone y)
  where
    inner : {us vs : List Token} → Simple None a us → One k.Newline vs → Line None (a ∷ []) (us ++ vs)
    inner h (one p) = S.Line.end p h

line_more : {line : ℕ} {ws : Words} {a : Stmt} {as' : List Stmt} {ts us : List Token} → Again line ws a →
    Split (on line ws) (on line (c.semicolon ∷ [])) ts → Line None as' us → Line None (a ∷ as') (ts ++ us)
line_more {line = line} {ws = ws} {a = a} {as' = as'} f (split x y) l = inner (f _ (on_line line ws _ x)) (lone y) l
  where
    inner : {us vs xs : List Token} → Simple None a us → One c.semicolon vs → Line None as' xs →
        Line None (a ∷ as') (us ++ vs ++ xs)
    inner {us} {xs = xs} h (one p) l = subst (λ z. Line None (a ∷ as') z)
        (sym (append_assoc us (at c.semicolon p ∷ []) xs)) (S.Line.more p h l)

as_line : {as' : List Stmt} {ps : List Piece} → AllSimple as' ps → (ts : List Token) → Reads (in_order true ps) ts →
    Line None as' ts
as_line (AllSimple.single line ws f) ts r = line_end f (splits _ _ (only _ r))
as_line (AllSimple.more line ws {a = a} {as' = as'} {ps = ps} f g) ts r = inner (λ us y. as_line g us y) (splits _ _ r)
  where
    inner : ((us : List Token) → Reads (in_order true ps) us → Line None as' us) → {us : List Token} →
        Split (on line ws ++ ending true line ps) (in_order true ps) us → Line None (a ∷ as') us
    inner h (split x y) = line_more f (splits _ _ (alike (ap (λ z. on line ws ++ z) (ending_short line g)) x)) (h _ y)

-- an indented block
abbrev indented : List Piece → List Lexeme
indented ps = newline ++ lexeme k.Indent 0 ∷ in_order false ps ++ lexeme k.Dedent 0 ∷ []

as_long : {as' : List Stmt} {ps : List Piece} → AllGood as' ps → Filled as' → (ts : List Token) →
    Reads (indented ps) ts → Block None as' ts
as_long {as' = as'} {ps = ps} g f ts r = first (led_by r)
  where
    fourth : (p q : Place) {us vs : List Token} → Suite None as' us → One k.Dedent vs →
        Block None as' (at k.Newline p ∷ at k.Indent q ∷ us ++ vs)
    fourth p q h (one o) = S.Block.long p q o h

    third : (p q : Place) {us : List Token} → Split (in_order false ps) (lexeme k.Dedent 0 ∷ []) us →
        Block None as' (at k.Newline p ∷ at k.Indent q ∷ us)
    third p q (split x y) = fourth p q (as_suite g f _ x) (lone y)

    second : (p : Place) {us : List Token} → Leads k.Indent 0 (in_order false ps ++ lexeme k.Dedent 0 ∷ []) us →
        Block None as' (at k.Newline p ∷ us)
    second p (leads q e x) = third p q (splits _ _ x)

    first : {us : List Token} → Leads k.Newline 0 (lexeme k.Indent 0 ∷ in_order false ps ++ lexeme k.Dedent 0 ∷ []) us
        → Block None as' us
    first (leads p e x) = second p (led_by x)

simple_filled : {as' : List Stmt} {ps : List Piece} → AllSimple as' ps → Filled as'
simple_filled (AllSimple.single line ws f) = tt
simple_filled (AllSimple.more line ws f g) = tt

by_place : (b : Bool) {as' : List Stmt} {ps : List Piece} → AllSimple as' ps → (ts : List Token) →
    Reads (if b then in_order true ps else indented ps) ts → Block None as' ts
by_place true g ts r = S.Block.short (as_line g ts r)
by_place false g ts r = as_long (all_of g) (simple_filled g) ts r

pub simple_block : (line : ℕ) {as' : List Stmt} {ps : List Piece} → AllSimple as' ps → (ts : List Token) →
    Reads (block_lexemes line ps) ts → Block None as' ts
simple_block line {ps = ps} g ts r = by_place (begins_on line ps) g ts r

pub long_block : (line : ℕ) {as' : List Stmt} {ps : List Piece} → AllGood as' ps → Filled as' →
    begins_on line ps ≡ false → (ts : List Token) → Reads (block_lexemes line ps) ts → Block None as' ts
long_block line {ps = ps} g f e ts r = as_long g f ts
    (alike (ap (λ (z : Bool). if z then in_order true ps else indented ps) e) r)
