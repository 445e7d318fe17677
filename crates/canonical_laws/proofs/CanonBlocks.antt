-- Tokens with the canonical lexemes of statements spell these statements in the grammar.
use Rattle.std.proofs.Common.{◌≡◌, ℕ, ◌==◌, ◌+◌, ◌<◌, ◌≤◌, false, List, [], ◌∷◌, ◌++◌, map, Option, Some, None, refl, sym, ap, ◌∙◌, subst, append_assoc, arith}
use Rattle.std.proofs.lemmas.List.{map-append}
use Rattle.std.proofs.lemmas.Bool.Decides.{nat_tests}
use Rattle.py_tokens.specs.declared.token.Token.{Token}
use Rattle.py_tokens.specs.declared.token.TokenKind.{TokenKind}
use Rattle.py_tokens.specs.declared.token.TokenKind.TheVariants as k
use Rattle.py_tokens.specs.declared.token.Place.{Place}
use Rattle.py_tokens.specs.Place.{token_at as at}
use Rattle.py_tree.specs.declared.expr.Expr.{Expr}
use Rattle.py_tree.specs.declared.stmt.Stmt.{Stmt}
use Rattle.py_tree.specs.declared.stmt.Stmt.TheVariants as s
use Rattle.py_tree.specs.declared.stmt.Param.{Param}
use Rattle.py_tree.specs.declared.stmt.Arm.{Arm}
use Rattle.py_tree.specs.declared.stmt.Clause.{Clause}
use Rattle.py_tree.specs.declared.stmt.Handler.{Handler}
use Rattle.py_tree.specs.declared.stmt.Module.{Module}
use Rattle.py_tree.specs.Lexeme.{Lexeme, lexeme_of, line_kept}
use Rattle.py_tree.specs.Spelling.{commas, round, words}
use Rattle.py_tree.specs.Canonical.{Piece, piece, pieces, begins_on, block_lexemes, in_order, expr_or, led_or, param_words, base_words, head, lexemes}
use Rattle.py_tree.specs.Canonical as C
use Rattle.py_tree.proofs.Pieces as pl
use Rattle.py_tree.proofs.Pieces.{lexemes_arm, lexemes_arms, lexemes_clause, lexemes_clause_or, lexemes_handler, lexemes_handlers}
use Rattle.py_tree.proofs.Lined.{lined_kind, IsLined, lined_after}
use Rattle.py_grammar.specs.Codes as c
use Rattle.py_grammar.specs.Words.{line_of}
use Rattle.py_grammar.specs.Grammar.{Is, Exprs}
use Rattle.py_grammar.specs.Statements as S
use Rattle.py_grammar.specs.Statements.{Loops, Params, Base, Caught, Simple, Line, Statement, Suite, Block, Elifs, Else, Finally, Excepts, Compound, Body, IsModule}
use Rattle.canonical_laws.proofs.CanonWords.{Spells, First, first, begins, Enclosed, enclosed, encloses, Parted, parted, parts, Nothing, nothing}
use Rattle.canonical_laws.proofs.CanonExpr.{Again, as_is, as_exprs}
use Rattle.canonical_laws.proofs.CanonReads.{Reads, reads, Split, split, splits, none as no_more, only, Worded, worded}
use Rattle.canonical_laws.proofs.CanonSimple.{Simply, as_simple, simple_worded}
use Rattle.canonical_laws.proofs.CanonSteps.{AllGood, all_more, AllSimple, all_of, Filled, as_body, simple_block, long_block}
use Rattle.canonical_laws.proofs.CanonHeads.{as_loops, as_params, as_base, as_caught, BlockAgain, ClauseAt, clause_at, clause_of}

-- ---- lines

front_kind : (κ : TokenKind) (here line : ℕ) (F G : ℕ → Type 0) → ((n : ℕ) → F n → G n) → lined_kind κ here line F →
    lined_kind κ here line G
front_kind k.Newline here line F G f g = (g.0, f _ g.1)
front_kind k.Indent here line F G f g = f _ g
front_kind k.Dedent here line F G f g = f _ g
front_kind k.End here line F G f g = f _ g
front_kind (k.Name bs) here line F G f g = (g.0, f _ g.1)
front_kind (k.Keyword n) here line F G f g = (g.0, f _ g.1)
front_kind (k.Int n) here line F G f g = (g.0, f _ g.1)
front_kind (k.Str bs) here line F G f g = (g.0, f _ g.1)
front_kind (k.Op n) here line F G f g = (g.0, f _ g.1)
front_kind (k.Other o) here line F G f g = (g.0, f _ g.1)

lined_front : (ts us : List Token) (n : ℕ) → IsLined n (ts ++ us) → IsLined n ts
lined_front [] us n g = tt
lined_front (t ∷ ts) us n g = front_kind t.kind t.line n (λ m. IsLined m (ts ++ us)) (λ m. IsLined m ts)
    (λ m. lined_front ts us m) g

first_kind : (κ : TokenKind) (here line : ℕ) (F : ℕ → Type 0) → ((m : ℕ) → line_kept κ m ≡ m) →
    lined_kind κ here line F → line ≤ here
first_kind k.Newline here line F f g = g.0
first_kind k.Indent here line F f g = absurd (let e : 0 ≡ 1 = f 1 in omega (arith, e))
first_kind k.Dedent here line F f g = absurd (let e : 0 ≡ 1 = f 1 in omega (arith, e))
first_kind k.End here line F f g = absurd (let e : 0 ≡ 1 = f 1 in omega (arith, e))
first_kind (k.Name bs) here line F f g = g.0
first_kind (k.Keyword n) here line F f g = g.0
first_kind (k.Int n) here line F f g = g.0
first_kind (k.Str bs) here line F f g = g.0
first_kind (k.Op n) here line F f g = g.0
first_kind (k.Other o) here line F f g = g.0

first_line : {ts : List Token} (us : List Token) (n : ℕ) → Worded ts → IsLined n (ts ++ us) → n ≤ line_of ts
first_line us n (worded κ p {us = vs} f) g = first_kind κ p.line n (λ m. IsLined m (vs ++ us)) f g

-- ---- compound statements are compound pieces

pub record Compoundly (a : Stmt) : Type 0 where
  pub lexemes : List Lexeme
  pub is : piece a ≡ C.Compound lexemes
  pub again : (ts : List Token) → Reads lexemes ts → Compound None a ts

record IsCompound (a : Stmt) : Type 0 where
  pub lexemes : List Lexeme
  pub is : piece a ≡ C.Compound lexemes

is_compound : {a : Stmt} {ts : List Token} → Compound None a ts → IsCompound a
is_compound (S.Compound.if' p q {a = a} {as' = as'} {rs = rs} {d = d} h i j l) =
    record { lexemes = _; is = pl.piece_if (record { line = p.line; test = a; body = as' } ∷ rs) d }
is_compound (S.Compound.while p q {a = a} {as' = as'} {d = d} h i j) =
    record { lexemes = _; is = pl.piece_while (record { line = p.line; test = a; body = as' }) d }
is_compound (S.Compound.for' p q r {a = a} {b = b} {as' = as'} {d = d} h i j l) =
    record { lexemes = _; is = pl.piece_for p.line a b as' d }
is_compound (S.Compound.try p q {as' = as'} {hs = hs} {d = d} {f = f} h i j l) =
    record { lexemes = _; is = pl.piece_try (record { line = p.line; body = as' }) hs d f }
is_compound (S.Compound.try_finally p q {as' = as'} {f = f} h i) =
    record { lexemes = _; is = pl.piece_try (record { line = p.line; body = as' }) [] None (Some f) }
is_compound (S.Compound.def n p q r r' q' {ps = ps} {as' = as'} h i) =
    record { lexemes = _; is = pl.piece_def p.line n ps as' }
is_compound (S.Compound.class n p q r {a = a} {as' = as'} h i) =
    record { lexemes = _; is = pl.piece_class p.line n a as' }

-- ---- the first statement of an indented block stands below its clause

above : (l m : ℕ) → l < m → (l == m) ≡ false
above l m h = grind (arith, nat_tests)

begins_any : (line : ℕ) (p : Piece) (ps qs : List Piece) → begins_on line (p ∷ ps) ≡ begins_on line (p ∷ qs)
begins_any line (C.Simple next ws) ps qs = refl
begins_any line (C.Compound ls) ps qs = refl

begins_front : (line : ℕ) (as' bs : List Stmt) → Filled as' →
    begins_on line (pieces (as' ++ bs)) ≡ begins_on line (pieces as')
begins_front line [] bs f = absurd f
begins_front line (a ∷ as') bs f = begins_any line (piece a) (pieces (as' ++ bs)) (pieces as')

below_simple : (line : ℕ) {a : Stmt} (as' : List Stmt) {ts : List Token} (us : List Token) (n : ℕ) → line < n →
    Simple None a ts → IsLined n (ts ++ us) → begins_on line (pieces (a ∷ as')) ≡ false
below_simple line as' {ts} us n l h g = let m : n ≤ line_of ts = first_line us n (simple_worded h) g in
    ap (λ z. begins_on line (z ∷ pieces as')) (as_simple h).is ∙ above line (line_of ts) (omega arith)

below_line : (line : ℕ) {as' : List Stmt} {ts : List Token} (n : ℕ) → line < n → Line None as' ts → IsLined n ts →
    begins_on line (pieces as') ≡ false
below_line line n l (S.Line.end p h) g = below_simple line [] _ n l h g
below_line line n l (S.Line.end_semicolon p q h) g = below_simple line [] _ n l h g
below_line line n l (S.Line.more p {as' = as'} h i) g = below_simple line as' _ n l h g

below_statement : (line : ℕ) {as' : List Stmt} {ts : List Token} (n : ℕ) → line < n → Statement None as' ts →
    IsLined n ts → begins_on line (pieces as') ≡ false
below_statement line n l (S.Statement.line h) g = below_line line n l h g
below_statement line n l (S.Statement.compound h) g = ap (λ z. begins_on line (z ∷ [])) (is_compound h).is

line_filled : {as' : List Stmt} {ts : List Token} → Line None as' ts → Filled as'
line_filled (S.Line.end p h) = tt
line_filled (S.Line.end_semicolon p q h) = tt
line_filled (S.Line.more p h i) = tt

statement_filled : {as' : List Stmt} {ts : List Token} → Statement None as' ts → Filled as'
statement_filled (S.Statement.line h) = line_filled h
statement_filled (S.Statement.compound h) = tt

filled_front : (as' bs : List Stmt) → Filled as' → Filled (as' ++ bs)
filled_front [] bs f = absurd f
filled_front (a ∷ as') bs f = tt

suite_filled : {as' : List Stmt} {ts : List Token} → Suite None as' ts → Filled as'
suite_filled (S.Suite.last_of h) = statement_filled h
suite_filled (S.Suite.then {as' = as'} {bs = bs} h i) = filled_front as' bs (statement_filled h)

below_suite : (line : ℕ) {as' : List Stmt} {ts : List Token} (n : ℕ) → line < n → Suite None as' ts → IsLined n ts →
    begins_on line (pieces as') ≡ false
below_suite line n l (S.Suite.last_of h) g = below_statement line n l h g
below_suite line n l (S.Suite.then {as' = as'} {bs = bs} {ts = ts} {us = us} h i) g =
    begins_front line as' bs (statement_filled h) ∙ below_statement line n l h (lined_front ts us n g)

-- ---- lists of statements

add_single : {line : ℕ} {a : Stmt} → Simply line a → AllSimple (a ∷ []) (pieces (a ∷ []))
add_single {line = line} {a = a} h = subst (λ z. AllSimple (a ∷ []) (z ∷ [])) (sym h.is)
    (AllSimple.single line h.words h.again)

add_simple : {line : ℕ} {a : Stmt} {as' : List Stmt} {ps : List Piece} → Simply line a → AllSimple as' ps →
    AllSimple (a ∷ as') (piece a ∷ ps)
add_simple {line = line} {a = a} {as' = as'} {ps = ps} h g =
    subst (λ z. AllSimple (a ∷ as') (z ∷ ps)) (sym h.is) (AllSimple.more line h.words h.again g)

line_simple : {as' : List Stmt} {ts : List Token} → Line None as' ts → AllSimple as' (pieces as')
line_simple (S.Line.end p h) = add_single (as_simple h)
line_simple (S.Line.end_semicolon p q h) = add_single (as_simple h)
line_simple (S.Line.more p h i) = add_simple (as_simple h) (line_simple i)

add_compound : {a : Stmt} → Compoundly a → AllGood (a ∷ []) (pieces (a ∷ []))
add_compound {a = a} h = subst (λ z. AllGood (a ∷ []) (z ∷ [])) (sym h.is)
    (AllGood.compound h.lexemes h.again AllGood.nil)

add_all : (as' bs : List Stmt) → AllGood as' (pieces as') → AllGood bs (pieces bs) →
    AllGood (as' ++ bs) (pieces (as' ++ bs))
add_all as' bs g h = subst (λ z. AllGood (as' ++ bs) z) (sym (map-append piece as' bs)) (all_more g h)

-- ---- clauses

no_elifs : {ts : List Token} → Nothing ts → Elifs None [] ts
no_elifs nothing = S.Elifs.no_elif None

elif_of : {line : ℕ} {a : Expr} {as' : List Stmt} {rs : List Arm} {ts us : List Token} → Again (words a) (Is None 14 a)
    → ClauseAt c.elif_ line (words a) as' ts → Elifs None rs us →
    Elifs None (record { line = line; test = a; body = as' } ∷ rs) (ts ++ us)
elif_of {a = a} {as' = as'} {rs = rs} {us = us} f (clause_at p q {ts} {us = vs} e x b) h =
    subst (λ z. Elifs None (record { line = z; test = a; body = as' } ∷ rs)
    (at c.elif_ p ∷ ts ++ at c.colon q ∷ vs ++ us)) e (S.Elifs.elif p q (f _ x) b h)

elifs_of : {line : ℕ} {a : Expr} {as' : List Stmt} {rs : List Arm} {ts : List Token} → Again (words a) (Is None 14 a) →
    BlockAgain line as' → ((us : List Token) → Reads (lexemes_arms c.elif_ rs) us → Elifs None rs us) →
    Split (lexemes_arm c.elif_ (record { line = line; test = a; body = as' })) (lexemes_arms c.elif_ rs) ts →
    Elifs None (record { line = line; test = a; body = as' } ∷ rs) ts
elifs_of {line = line} {a = a} f b h (split x y) = elif_of f (clause_of c.elif_ line (words a) b x) (h _ y)

no_else_of : {ts : List Token} → Nothing ts → Else None None ts
no_else_of nothing = S.Else.no_else None

else_of : {line : ℕ} {as' : List Stmt} {ts : List Token} → ClauseAt c.else_ line [] as' ts →
    Else None (Some (record { line = line; body = as' })) ts
else_of {as' = as'} (clause_at p q {us = us} e Spells.nil b) =
    subst (λ z. Else None (Some (record { line = z; body = as' })) (at c.else_ p ∷ at c.colon q ∷ us)) e
    (S.Else.else' p q b)

no_finally_of : {ts : List Token} → Nothing ts → Finally None None ts
no_finally_of nothing = S.Finally.no_finally None

finally_of : {line : ℕ} {as' : List Stmt} {ts : List Token} → ClauseAt c.finally_ line [] as' ts →
    Finally None (Some (record { line = line; body = as' })) ts
finally_of {as' = as'} (clause_at p q {us = us} e Spells.nil b) =
    subst (λ z. Finally None (Some (record { line = z; body = as' })) (at c.finally_ p ∷ at c.colon q ∷ us)) e
    (S.Finally.finally p q b)

except_one_of : {line : ℕ} {a b : Option Expr} {as' : List Stmt} {ts : List Token} →
    Again (expr_or a ++ led_or c.as_ b) (Caught None a b) → ClauseAt c.except_ line (expr_or a ++ led_or c.as_ b) as'
    ts → Excepts None (record { line = line; test = a; target = b; body = as' } ∷ []) ts
except_one_of {a = a} {b = b} {as' = as'} f (clause_at p q {ts} {us} e x d) =
    subst (λ z. Excepts None (record { line = z; test = a; target = b; body = as' } ∷ [])
    (at c.except_ p ∷ ts ++ at c.colon q ∷ us)) e (S.Excepts.except_one p q (f _ x) d)

except_more_of : {line : ℕ} {a : Expr} {b : Option Expr} {as' : List Stmt} {hs : List Handler} {ts us : List Token} →
    Again (words a ++ led_or c.as_ b) (Caught None (Some a) b) →
    ClauseAt c.except_ line (words a ++ led_or c.as_ b) as' ts → Excepts None hs us →
    Excepts None (record { line = line; test = Some a; target = b; body = as' } ∷ hs) (ts ++ us)
except_more_of {a = a} {b = b} {as' = as'} {hs = hs} {us = us} f (clause_at p q {ts} {us = vs} e x d) h =
    subst (λ z. Excepts None (record { line = z; test = Some a; target = b; body = as' } ∷ hs)
    (at c.except_ p ∷ ts ++ at c.colon q ∷ vs ++ us)) e (S.Excepts.except_more p q (f _ x) d h)

excepts_of : {line : ℕ} {a : Expr} {b : Option Expr} {as' : List Stmt} {hs : List Handler} {ts : List Token} →
    Again (words a ++ led_or c.as_ b) (Caught None (Some a) b) → BlockAgain line as' →
    ((us : List Token) → Reads (lexemes_handlers hs) us → Excepts None hs us) →
    Split (lexemes_handler (record { line = line; test = Some a; target = b; body = as' })) (lexemes_handlers hs) ts →
    Excepts None (record { line = line; test = Some a; target = b; body = as' } ∷ hs) ts
excepts_of {line = line} {a = a} {b = b} f d h (split x y) =
    except_more_of f (clause_of c.except_ line (words a ++ led_or c.as_ b) d x) (h _ y)

-- ---- compound statements

abbrev pub ElifsAgain : List Arm → Type 0
ElifsAgain rs = (ts : List Token) → Reads (lexemes_arms c.elif_ rs) ts → Elifs None rs ts

abbrev pub ElseAgain : Option Clause → Type 0
ElseAgain d = (ts : List Token) → Reads (lexemes_clause_or c.else_ d) ts → Else None d ts

abbrev pub FinallyAgain : Option Clause → Type 0
FinallyAgain d = (ts : List Token) → Reads (lexemes_clause_or c.finally_ d) ts → Finally None d ts

abbrev pub ExceptsAgain : List Handler → Type 0
ExceptsAgain hs = (ts : List Token) → Reads (lexemes_handlers hs) ts → Excepts None hs ts

module _ {line : ℕ} {a : Expr} {as' : List Stmt} {d : Option Clause} where
  if_at : {rs : List Arm} {ts us vs : List Token} → Again (words a) (Is None 14 a) →
      ClauseAt c.if_ line (words a) as' ts → Elifs None rs us → Else None d vs →
      Compound None (s.If (record { line = line; test = a; body = as' } ∷ rs) d) (ts ++ us ++ vs)
  if_at {rs} {us = us} {vs = vs} f (clause_at p q {ts} {us = xs} e x b) h i =
      subst (λ z. Compound None (s.If (record { line = z; test = a; body = as' } ∷ rs) d)
      (at c.if_ p ∷ ts ++ at c.colon q ∷ xs ++ us ++ vs)) e (S.Compound.if' p q (f _ x) b h i)

  while_at : {ts us : List Token} → Again (words a) (Is None 14 a) → ClauseAt c.while_ line (words a) as' ts →
      Else None d us → Compound None (s.While (record { line = line; test = a; body = as' }) d) (ts ++ us)
  while_at {us = us} f (clause_at p q {ts} {us = xs} e x b) h =
      subst (λ z. Compound None (s.While (record { line = z; test = a; body = as' }) d)
      (at c.while_ p ∷ ts ++ at c.colon q ∷ xs ++ us)) e (S.Compound.while p q (f _ x) b h)

if_of : (line : ℕ) (a : Expr) (as' : List Stmt) (rs : List Arm) (d : Option Clause) → Again (words a) (Is None 14 a) →
    BlockAgain line as' → ElifsAgain rs → ElseAgain d → (ts : List Token) →
    Reads (lexemes_arm c.if_ (record { line = line; test = a; body = as' }) ++ lexemes_arms c.elif_ rs ++
    lexemes_clause_or c.else_ d) ts → Compound None (s.If (record { line = line; test = a; body = as' } ∷ rs) d) ts
if_of line a as' rs d f b g h ts r = outer (splits _ _ r)
  where
    inner : {us vs : List Token} → Split (lexemes_arm c.if_ (record { line = line; test = a; body = as' }))
        (lexemes_arms c.elif_ rs) us → Else None d vs →
        Compound None (s.If (record { line = line; test = a; body = as' } ∷ rs) d) (us ++ vs)
    inner (split x y) i = if_at f (clause_of c.if_ line (words a) b x) (g _ y) i

    outer : {us : List Token} → Split (lexemes_arm c.if_ (record { line = line; test = a; body = as' }) ++ lexemes_arms
        c.elif_ rs) (lexemes_clause_or c.else_ d) us →
        Compound None (s.If (record { line = line; test = a; body = as' } ∷ rs) d) us
    outer (split x y) = inner (splits _ _ x) (h _ y)

while_of : (line : ℕ) (a : Expr) (as' : List Stmt) (d : Option Clause) → Again (words a) (Is None 14 a) →
    BlockAgain line as' → ElseAgain d → (ts : List Token) →
    Reads (lexemes_arm c.while_ (record { line = line; test = a; body = as' }) ++ lexemes_clause_or c.else_ d) ts →
    Compound None (s.While (record { line = line; test = a; body = as' }) d) ts
while_of line a as' d f b h ts r = outer (splits _ _ r)
  where
    outer : {us : List Token} → Split (lexemes_arm c.while_ (record { line = line; test = a; body = as' }))
        (lexemes_clause_or c.else_ d) us → Compound None (s.While (record { line = line; test = a; body = as' }) d) us
    outer (split x y) = while_at f (clause_of c.while_ line (words a) b x) (h _ y)

-- what is gone over, and in what
data Gone (t a : Expr) : List Token → Type 0 where
  gone : (q : Place) {ts us : List Token} → Loops None t ts → Exprs None a us → Gone t a (ts ++ at c.in_ q ∷ us)

gone_of : (t a : Expr) → Again (words t) (Loops None t) → Again (words a) (Exprs None a) → (ts : List Token) →
    Spells (words t ++ c.in_ ∷ words a) ts → Gone t a ts
gone_of t a f g ts r = inner (parts _ _ _ r)
  where
    inner : {us : List Token} → Parted (words t) c.in_ (words a) us → Gone t a us
    inner (parted q x y) = gone q (f _ x) (g _ y)

gone_for : {t a : Expr} {as' : List Stmt} {d : Option Clause} (p r : Place) {ts us vs : List Token} → Gone t a ts →
    Block None as' us → Else None d vs →
    Compound None (s.For p.line t a as' d) (at c.for_ p ∷ ts ++ at c.colon r ∷ us ++ vs)
gone_for p r (gone q h i) b l = S.Compound.for' p q r h i b l

for_at : {line : ℕ} {t a : Expr} {as' : List Stmt} {d : Option Clause} {ts us : List Token} →
    Again (words t ++ c.in_ ∷ words a) (Gone t a) → ClauseAt c.for_ line (words t ++ c.in_ ∷ words a) as' ts →
    Else None d us → Compound None (s.For line t a as' d) (ts ++ us)
for_at {t = t} {a = a} {as' = as'} {d = d} {us = us} f (clause_at p r {ts} {us = xs} e x b) l =
    subst (λ z. Compound None (s.For z t a as' d) (at c.for_ p ∷ ts ++ at c.colon r ∷ xs ++ us)) e
    (gone_for p r (f _ x) b l)

for_of : (line : ℕ) (t a : Expr) (as' : List Stmt) (d : Option Clause) → Again (words t) (Loops None t) →
    Again (words a) (Exprs None a) → BlockAgain line as' → ElseAgain d → (ts : List Token) →
    Reads (head line (c.for_ ∷ words t ++ c.in_ ∷ words a) ++ block_lexemes line (pieces as') ++ lexemes_clause_or
    c.else_ d) ts → Compound None (s.For line t a as' d) ts
for_of line t a as' d f g b h ts r = outer (splits _ _ r)
  where
    outer : {us : List Token} → Split (head line (c.for_ ∷ words t ++ c.in_ ∷ words a) ++ block_lexemes line
        (pieces as')) (lexemes_clause_or c.else_ d) us → Compound None (s.For line t a as' d) us
    outer (split x y) = for_at (gone_of t a f g) (clause_of c.for_ line (words t ++ c.in_ ∷ words a) b x) (h _ y)

try_at : {line : ℕ} {as' : List Stmt} {hs : List Handler} {d f : Option Clause} {ts us vs ws : List Token} →
    ClauseAt c.try_ line [] as' ts → Excepts None hs us → Else None d vs → Finally None f ws →
    Compound None (s.Try (record { line = line; body = as' }) hs d f) (ts ++ us ++ vs ++ ws)
try_at {as' = as'} {hs = hs} {d = d} {f = f} {us = us} {vs = vs} {ws = ws} (clause_at p q {us = xs} e Spells.nil b) h i
    j = subst (λ z. Compound None (s.Try (record { line = z; body = as' }) hs d f)
    (at c.try_ p ∷ at c.colon q ∷ xs ++ us ++ vs ++ ws)) e (S.Compound.try p q b h i j)

try_of : (line : ℕ) (as' : List Stmt) (hs : List Handler) (d f : Option Clause) → BlockAgain line as' →
    ExceptsAgain hs → ElseAgain d → FinallyAgain f → (ts : List Token) →
    Reads (lexemes_clause c.try_ (record { line = line; body = as' }) ++ lexemes_handlers hs ++ lexemes_clause_or
    c.else_ d ++ lexemes_clause_or c.finally_ f) ts → Compound None (s.Try (record { line = line; body = as' }) hs d f)
    ts
try_of line as' hs d f b g h i ts r = third (splits _ _ r)
  where
    first : {us vs ws : List Token} → Split (lexemes_clause c.try_ (record { line = line; body = as' }))
        (lexemes_handlers hs) us → Else None d vs → Finally None f ws →
        Compound None (s.Try (record { line = line; body = as' }) hs d f) (us ++ vs ++ ws)
    first (split x y) l m = try_at (clause_of c.try_ line [] b x) (g _ y) l m

    second : {us ws : List Token} → Split
        (lexemes_clause c.try_ (record { line = line; body = as' }) ++ lexemes_handlers hs)
        (lexemes_clause_or c.else_ d) us → Finally None f ws →
        Compound None (s.Try (record { line = line; body = as' }) hs d f) (us ++ ws)
    second (split x y) m = first (splits _ _ x) (h _ y) m

    third : {us : List Token} → Split (lexemes_clause c.try_ (record { line = line; body = as' }) ++ lexemes_handlers
        hs ++ lexemes_clause_or c.else_ d) (lexemes_clause_or c.finally_ f) us →
        Compound None (s.Try (record { line = line; body = as' }) hs d f) us
    third (split x y) = second (splits _ _ x) (i _ y)

try_finally_at : {line : ℕ} {as' : List Stmt} {f : Clause} {ts us : List Token} → ClauseAt c.try_ line [] as' ts →
    Finally None (Some f) us → Compound None (s.Try (record { line = line; body = as' }) [] None (Some f)) (ts ++ us)
try_finally_at {as' = as'} {f = f} {us = us} (clause_at p q {us = xs} e Spells.nil b) h =
    subst (λ z. Compound None (s.Try (record { line = z; body = as' }) [] None (Some f))
    (at c.try_ p ∷ at c.colon q ∷ xs ++ us)) e (S.Compound.try_finally p q b h)

try_finally_of : (line : ℕ) (as' : List Stmt) (f : Clause) → BlockAgain line as' → FinallyAgain (Some f) →
    (ts : List Token) → Reads (lexemes_clause c.try_ (record { line = line; body = as' }) ++ [] ++ [] ++ lexemes_clause
    c.finally_ f) ts → Compound None (s.Try (record { line = line; body = as' }) [] None (Some f)) ts
try_finally_of line as' f b h ts r = outer (splits _ _ r)
  where
    outer : {us : List Token} → Split (lexemes_clause c.try_ (record { line = line; body = as' }) ++ [] ++ [])
        (lexemes_clause c.finally_ f) us → Compound None (s.Try (record { line = line; body = as' }) [] None (Some f))
        us
    outer (split x y) = try_finally_at (clause_of c.try_ line [] b (only _ (only _ x))) (h _ y)

-- a name and parameters in parentheses
data Signed (n : List ℕ) (ps : List Param) : List Token → Type 0 where
  has_params : (q r r' : Place) {ts : List Token} → Params None ps ts →
      Signed n ps (at (k.Name n) q ∷ at c.open_round r ∷ ts ++ at c.close_round r' ∷ [])

signed_of : (n : List ℕ) (ps : List Param) → Again (commas (map param_words ps)) (Params None ps) → (ts : List Token) →
    Spells (k.Name n ∷ round (commas (map param_words ps))) ts → Signed n ps ts
signed_of n ps f ts r = outer (begins r)
  where
    inner : (q : Place) {us : List Token} → Enclosed c.open_round c.close_round (commas (map param_words ps)) us →
        Signed n ps (at (k.Name n) q ∷ us)
    inner q (enclosed r r' x) = has_params q r r' (f _ x)

    outer : {us : List Token} → First (k.Name n) (round (commas (map param_words ps))) us → Signed n ps us
    outer (first q x) = inner q (encloses _ _ _ x)

signed_def : {n : List ℕ} {ps : List Param} {as' : List Stmt} (p q' : Place) {ts us : List Token} → Signed n ps ts →
    Block None as' us → Compound None (s.Def p.line n ps as') (at c.def_ p ∷ ts ++ at c.colon q' ∷ us)
signed_def {n = n} {ps = ps} {as' = as'} p q' {us = us} (has_params q r r' {ts} h) b =
    subst (λ z. Compound None (s.Def p.line n ps as') (at c.def_ p ∷ at (k.Name n) q ∷ at c.open_round r ∷ z))
    (sym (append_assoc ts (at c.close_round r' ∷ []) (at c.colon q' ∷ us))) (S.Compound.def n p q r r' q' h b)

def_at : {line : ℕ} {n : List ℕ} {ps : List Param} {as' : List Stmt} {ts : List Token} →
    Again (k.Name n ∷ round (commas (map param_words ps))) (Signed n ps) →
    ClauseAt c.def_ line (k.Name n ∷ round (commas (map param_words ps))) as' ts →
    Compound None (s.Def line n ps as') ts
def_at {n = n} {ps = ps} {as' = as'} f (clause_at p q' {ts} {us} e x b) =
    subst (λ z. Compound None (s.Def z n ps as') (at c.def_ p ∷ ts ++ at c.colon q' ∷ us)) e (signed_def p q' (f _ x) b)

-- a name and a base
data Based (n : List ℕ) (a : Option Expr) : List Token → Type 0 where
  based : (q : Place) {ts : List Token} → Base None a ts → Based n a (at (k.Name n) q ∷ ts)

based_of : (n : List ℕ) (a : Option Expr) → Again (base_words a) (Base None a) → (ts : List Token) →
    Spells (k.Name n ∷ base_words a) ts → Based n a ts
based_of n a f ts r = inner (begins r)
  where
    inner : {us : List Token} → First (k.Name n) (base_words a) us → Based n a us
    inner (first q x) = based q (f _ x)

based_class : {n : List ℕ} {a : Option Expr} {as' : List Stmt} (p r : Place) {ts us : List Token} → Based n a ts →
    Block None as' us → Compound None (s.Class p.line n a as') (at c.class_ p ∷ ts ++ at c.colon r ∷ us)
based_class p r (based q h) b = S.Compound.class _ p q r h b

class_at : {line : ℕ} {n : List ℕ} {a : Option Expr} {as' : List Stmt} {ts : List Token} →
    Again (k.Name n ∷ base_words a) (Based n a) → ClauseAt c.class_ line (k.Name n ∷ base_words a) as' ts →
    Compound None (s.Class line n a as') ts
class_at {n = n} {a = a} {as' = as'} f (clause_at p r {ts} {us} e x b) =
    subst (λ z. Compound None (s.Class z n a as') (at c.class_ p ∷ ts ++ at c.colon r ∷ us)) e
    (based_class p r (f _ x) b)

-- ---- all together

def_of : (line : ℕ) (n : List ℕ) (ps : List Param) (as' : List Stmt) →
    Again (commas (map param_words ps)) (Params None ps) → BlockAgain line as' → (ts : List Token) →
    Reads (head line (c.def_ ∷ k.Name n ∷ round (commas (map param_words ps))) ++ block_lexemes line (pieces as')) ts →
    Compound None (s.Def line n ps as') ts
def_of line n ps as' f b ts r = def_at (signed_of n ps f)
    (clause_of c.def_ line (k.Name n ∷ round (commas (map param_words ps))) b r)

class_of : (line : ℕ) (n : List ℕ) (a : Option Expr) (as' : List Stmt) → Again (base_words a) (Base None a) →
    BlockAgain line as' → (ts : List Token) →
    Reads (head line (c.class_ ∷ k.Name n ∷ base_words a) ++ block_lexemes line (pieces as')) ts →
    Compound None (s.Class line n a as') ts
class_of line n a as' f b ts r = class_at (based_of n a f) (clause_of c.class_ line (k.Name n ∷ base_words a) b r)

mutual
  good_statement : {as' : List Stmt} {us : List Token} → Statement None as' us → (n : ℕ) → IsLined n us →
      AllGood as' (pieces as')
  good_statement (S.Statement.line h) n g = all_of (line_simple h)
  good_statement (S.Statement.compound h) n g = add_compound (as_compound h n g)

  good_suite : {as' : List Stmt} {us : List Token} → Suite None as' us → (n : ℕ) → IsLined n us →
      AllGood as' (pieces as')
  good_suite (S.Suite.last_of h) n g = good_statement h n g
  good_suite (S.Suite.then {as' = as'} {bs = bs} {ts = ts} {us = us} h i) n g =
      add_all as' bs (good_statement h n (lined_front ts us n g)) (good_suite i n (lined_after ts us n g))

  as_block : {as' : List Stmt} {us : List Token} → Block None as' us → (n : ℕ) → IsLined n us → (line : ℕ) → line ≤ n →
      BlockAgain line as'
  as_block (S.Block.short h) n g line l = simple_block line (line_simple h)
  as_block (S.Block.long p q r {ts = ts} h) n g line l = let m : n ≤ p.line = g.0 in
      long_block line (good_suite h (p.line + 1) (lined_front ts (at k.Dedent r ∷ []) (p.line + 1) g.1))
      (suite_filled h) (below_suite line (p.line + 1) (omega arith) h
      (lined_front ts (at k.Dedent r ∷ []) (p.line + 1) g.1))

  as_elifs : {rs : List Arm} {us : List Token} → Elifs None rs us → (n : ℕ) → IsLined n us → ElifsAgain rs
  as_elifs (S.Elifs.no_elif _) n g ts r = no_elifs (no_more r)
  as_elifs (S.Elifs.elif p q {ts = xs} {us = ys} {vs = zs} h i j) n g ts r = let b =
      lined_after xs (at c.colon q ∷ ys) p.line (lined_front (xs ++ at c.colon q ∷ ys) zs p.line g.1) in
      elifs_of (λ us x. as_is h us x) (as_block i q.line b.1 p.line b.0)
      (as_elifs j p.line (lined_after (xs ++ at c.colon q ∷ ys) zs p.line g.1)) (splits _ _ r)

  as_else : {d : Option Clause} {us : List Token} → Else None d us → (n : ℕ) → IsLined n us → ElseAgain d
  as_else (S.Else.no_else _) n g ts r = no_else_of (no_more r)
  as_else (S.Else.else' p q h) n g ts r = else_of (clause_of c.else_ p.line [] (as_block h q.line g.1.1 p.line g.1.0) r)

  as_finally : {d : Option Clause} {us : List Token} → Finally None d us → (n : ℕ) → IsLined n us → FinallyAgain d
  as_finally (S.Finally.no_finally _) n g ts r = no_finally_of (no_more r)
  as_finally (S.Finally.finally p q h) n g ts r =
      finally_of (clause_of c.finally_ p.line [] (as_block h q.line g.1.1 p.line g.1.0) r)

  as_excepts : {hs : List Handler} {us : List Token} → Excepts None hs us → (n : ℕ) → IsLined n us → ExceptsAgain hs
  as_excepts (S.Excepts.except_one p q {a = a} {b = b} {ts = xs} {us = ys} h i) n g ts r = let d =
      lined_after xs (at c.colon q ∷ ys) p.line g.1 in
      except_one_of (λ us x. as_caught h us x)
      (clause_of c.except_ p.line (expr_or a ++ led_or c.as_ b) (as_block i q.line d.1 p.line d.0) (only _ r))
  as_excepts (S.Excepts.except_more p q {ts = xs} {us = ys} {vs = zs} h i j) n g ts r = let d =
      lined_after xs (at c.colon q ∷ ys) p.line (lined_front (xs ++ at c.colon q ∷ ys) zs p.line g.1) in
      excepts_of (λ us x. as_caught h us x) (as_block i q.line d.1 p.line d.0)
      (as_excepts j p.line (lined_after (xs ++ at c.colon q ∷ ys) zs p.line g.1)) (splits _ _ r)

  as_compound : {a : Stmt} {us : List Token} → Compound None a us → (n : ℕ) → IsLined n us → Compoundly a
  as_compound (S.Compound.if' p q {a = a} {as' = as'} {rs = rs} {d = d} {ts = xs} {us = ys} {vs = zs} {ws = os} h i j
      l) n g =
      let b = lined_front (xs ++ at c.colon q ∷ ys ++ zs) os p.line g.1 in
      let e = lined_after xs (at c.colon q ∷ ys) p.line (lined_front (xs ++ at c.colon q ∷ ys) zs p.line b) in
      record {
        lexemes = _;
        is = pl.piece_if (record { line = p.line; test = a; body = as' } ∷ rs) d;
        again =
            if_of p.line a as' rs d (λ us x. as_is h us x) (as_block i q.line e.1 p.line e.0)
            (as_elifs j p.line (lined_after (xs ++ at c.colon q ∷ ys) zs p.line b))
            (as_else l p.line (lined_after (xs ++ at c.colon q ∷ ys ++ zs) os p.line g.1));
      }
  as_compound (S.Compound.while p q {a = a} {as' = as'} {d = d} {ts = xs} {us = ys} {vs = zs} h i j) n g =
      let e = lined_after xs (at c.colon q ∷ ys) p.line (lined_front (xs ++ at c.colon q ∷ ys) zs p.line g.1) in
      record {
        lexemes = _;
        is = pl.piece_while (record { line = p.line; test = a; body = as' }) d;
        again =
            while_of p.line a as' d (λ us x. as_is h us x) (as_block i q.line e.1 p.line e.0)
            (as_else j p.line (lined_after (xs ++ at c.colon q ∷ ys) zs p.line g.1));
      }
  as_compound (S.Compound.for' p q r {a = a} {b = b} {as' = as'} {d = d} {ts = xs} {us = ys} {vs = zs} {ws = os} h i j
      l) n g =
      let e = lined_after (xs ++ at c.in_ q ∷ ys) (at c.colon r ∷ zs) p.line
      (lined_front (xs ++ at c.in_ q ∷ ys ++ at c.colon r ∷ zs) os p.line g.1) in
      record {
        lexemes = _;
        is = pl.piece_for p.line a b as' d;
        again =
            for_of p.line a b as' d (λ us x. as_loops h us x) (λ us x. as_exprs i us x)
            (as_block j r.line e.1 p.line e.0)
            (as_else l p.line (lined_after (xs ++ at c.in_ q ∷ ys ++ at c.colon r ∷ zs) os p.line g.1));
      }
  as_compound (S.Compound.try p q {as' = as'} {hs = hs} {d = d} {f = f} {ts = xs} {us = ys} {vs = zs} {ws = os} h i j
      l) n g =
      let b = lined_front (xs ++ ys ++ zs) os q.line g.1.1 in
      let e = lined_front (xs ++ ys) zs q.line b in
      record {
        lexemes = _;
        is = pl.piece_try (record { line = p.line; body = as' }) hs d f;
        again =
            try_of p.line as' hs d f (as_block h q.line (lined_front xs ys q.line e) p.line g.1.0)
            (as_excepts i q.line (lined_after xs ys q.line e)) (as_else j q.line (lined_after (xs ++ ys) zs q.line b))
            (as_finally l q.line (lined_after (xs ++ ys ++ zs) os q.line g.1.1));
      }
  as_compound (S.Compound.try_finally p q {as' = as'} {f = f} {ts = xs} {us = ys} h i) n g =
      record {
        lexemes = _;
        is = pl.piece_try (record { line = p.line; body = as' }) [] None (Some f);
        again =
            try_finally_of p.line as' f (as_block h q.line (lined_front xs ys q.line g.1.1) p.line g.1.0)
            (as_finally i q.line (lined_after xs ys q.line g.1.1));
      }
  as_compound (S.Compound.def m p q r r' q' {ps = ps} {as' = as'} {ts = xs} {us = ys} h i) n g =
      let e = lined_after xs (at c.close_round r' ∷ at c.colon q' ∷ ys) r.line g.1.1.1 in
      let l : p.line ≤ q.line = g.1.0 in let o : q.line ≤ r.line = g.1.1.0 in let t : r.line ≤ r'.line = e.0 in
      let w : r'.line ≤ q'.line = e.1.0 in
      record {
        lexemes = _;
        is = pl.piece_def p.line m ps as';
        again =
            def_of p.line m ps as' (λ us x. as_params h us x) (as_block i q'.line e.1.1 p.line (omega arith));
      }
  as_compound (S.Compound.class m p q r {a = a} {as' = as'} {ts = xs} {us = ys} h i) n g =
      let e = lined_after xs (at c.colon r ∷ ys) q.line g.1.1 in
      let l : p.line ≤ q.line = g.1.0 in let o : q.line ≤ r.line = e.0 in
      record {
        lexemes = _;
        is = pl.piece_class p.line m a as';
        again =
            class_of p.line m a as' (λ us x. as_base h us x) (as_block i r.line e.1 p.line (omega arith));
      }

good_body : {as' : List Stmt} {us : List Token} → Body None as' us → (n : ℕ) → IsLined n us → AllGood as' (pieces as')
good_body (S.Body.end _ p) n g = AllGood.nil
good_body (S.Body.newline p h) n g = good_body h (p.line + 1) g.1
good_body (S.Body.more {as' = as'} {bs = bs} {ts = ts} {us = us} h i) n g =
    add_all as' bs (good_statement h n (lined_front ts us n g)) (good_body i n (lined_after ts us n g))

-- Tokens with a module's canonical lexemes spell this module.
pub canonical : (m : Module) (us : List Token) → IsLined 1 us → IsModule m us → (ts : List Token) →
    map lexeme_of ts ≡ lexemes m → IsModule m ts
canonical m us g h ts e = as_body (good_body h 1 g) ts (reads ts (lexemes m) e)
