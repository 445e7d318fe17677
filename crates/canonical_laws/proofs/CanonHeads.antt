-- Tokens that the canonical words of a clause's head spell.
use Rattle.std.proofs.Common.{◌≡◌, ℕ, Bool, true, false, ◌&&◌, List, [], ◌∷◌, ◌++◌, map, Option, Some, None, refl, sym, ap, ◌∙◌, subst, append_assoc, arith}
use Rattle.std.proofs.lemmas.Bool.{and_from}
use Rattle.py_tokens.specs.declared.token.Token.{Token}
use Rattle.py_tokens.specs.declared.token.TokenKind.{TokenKind}
use Rattle.py_tokens.specs.declared.token.TokenKind.TheVariants as k
use Rattle.py_tokens.specs.declared.token.Place.{Place}
use Rattle.py_tokens.specs.Place.{token_at as at}
use Rattle.py_tree.specs.declared.expr.Expr.{Expr}
use Rattle.py_tree.specs.declared.expr.Expr.TheVariants as e
use Rattle.py_tree.specs.declared.stmt.Stmt.{Stmt}
use Rattle.py_tree.specs.declared.stmt.Param.{Param}
use Rattle.py_tree.specs.Form.{form, is_target, all_targets}
use Rattle.py_tree.specs.Lexeme.{line_kept}
use Rattle.py_tree.specs.Spelling.{Words, led, commas, tuple_words, words}
use Rattle.py_tree.specs.Canonical.{on, pieces, block_lexemes, expr_or, led_or, param_words, base_words, head}
use Rattle.py_tree.proofs.Forms.{form_tuple}
use Rattle.py_tree.proofs.Spellings as sp
use Rattle.py_grammar.specs.Codes as c
use Rattle.py_grammar.specs.Grammar as G
use Rattle.py_grammar.specs.Grammar.{Is, Tests, Commas}
use Rattle.py_grammar.specs.Statements as S
use Rattle.py_grammar.specs.Statements.{Target, Targets, Loops, Parameter, Later, Parameters, Params, Base, Caught, Block}
use Rattle.canonical_laws.proofs.CanonWords.{Spells, by, First, first, begins, Closed, closed, closes, Enclosed, enclosed, encloses, Parted, parted, parts, bare, Nothing, nothing, ends, One, one, alone}
use Rattle.canonical_laws.proofs.CanonExpr.{Again, as_is, as_maybe, round_of, lone_of, several_of, more_tests_of}
use Rattle.canonical_laws.proofs.CanonReads.{Reads, Split, split, splits, Leads, leads, led_by, on_line}
use Rattle.canonical_laws.proofs.CanonSimple.{as_target}

-- ---- the targets of `for`

from_one : {a : Expr} {ts : List Token} → Is None 1 a ts → Is None 14 a ts
from_one h = G.Is.up 13 (omega arith) (G.Is.up 12 (omega arith)
    (G.Is.up 11 (omega arith) (G.Is.up 10 (omega arith)
    (G.Is.up 9 (omega arith) (G.Is.up 8 (omega arith)
    (G.Is.up 7 (omega arith) (G.Is.up 6 (omega arith)
    (G.Is.up 5 (omega arith) (G.Is.up 4 (omega arith)
    (G.Is.up 3 (omega arith) (G.Is.up 2 (omega arith) (G.Is.up 1 (omega arith) h))))))))))))

target_led : {es : List Expr} {us : List Token} → Targets None es us →
    led c.comma (map words es) ≡ c.comma ∷ commas (map words es)
target_led (S.Targets.one h) = refl
target_led (S.Targets.more p h i) = refl

target_tests : {es : List Expr} {us : List Token} → Targets None es us → (ts : List Token) →
    Spells (commas (map words es)) ts → Tests None es false ts
target_tests (S.Targets.one h) ts r = G.Tests.only (from_one (as_is h.spells ts (bare _ r)))
target_tests (S.Targets.more p {a = a} h i) ts r = more_tests_of (λ us x. from_one (as_is h.spells us x))
    (λ us x. target_tests i us x) (parts _ _ _ (by (ap (λ z. words a ++ z) (target_led i)) r))

all_true : {es : List Expr} {us : List Token} → Targets None es us → all_targets false (map form es) ≡ true
all_true (S.Targets.one {a = a} h) = and_from (is_target false (form a)) true h.is refl
all_true (S.Targets.more p {a = a} {es = es} h i) =
    and_from (is_target false (form a)) (all_targets false (map form es)) h.is (all_true i)

tuple_target : (a : Expr) (es : List Expr) → all_targets false (map form (a ∷ es)) ≡ true →
    is_target false (form (e.Tuple (a ∷ es))) ≡ true
tuple_target a es h = ap (λ z. is_target false z) (form_tuple a es) ∙ h

loop_tuple : {es : List Expr} {ts : List Token} → is_target false (form (e.Tuple es)) ≡ true →
    Again (tuple_words (map words es)) (Commas None es) → Spells (words (e.Tuple es)) ts → Loops None (e.Tuple es) ts
loop_tuple {es = es} t f r = S.Loops.single
    (record { spells = G.Is.up 0 (omega arith) (round_of f (encloses _ _ _ (by (sp.words_tuple es) r))); is = t })

several_loop : {a b : Expr} {es : List Expr} {us vs : List Token} → Target None a us → Targets None (b ∷ es) vs →
    (ts : List Token) → Spells (words (e.Tuple (a ∷ b ∷ es))) ts → Loops None (e.Tuple (a ∷ b ∷ es)) ts
several_loop {a = a} {b = b} {es = es} h i ts r =
    loop_tuple (tuple_target a (b ∷ es) (and_from (is_target false (form a)) (all_targets false (map form (b ∷ es)))
    h.is (all_true i))) (λ us x. several_of (λ vs y. from_one (as_is h.spells vs y)) (λ vs y. target_tests i vs y)
    (parts _ _ _ x)) r

pub as_loops : {a : Expr} {us : List Token} → Loops None a us → (ts : List Token) → Spells (words a) ts →
    Loops None a ts
as_loops (S.Loops.single h) ts r = S.Loops.single (as_target h ts r)
as_loops (S.Loops.lone p {a = a} h) ts r =
    loop_tuple (tuple_target a [] (and_from (is_target false (form a)) true h.is refl))
    (λ us x. lone_of (λ vs y. from_one (as_is h.spells vs y)) (closes _ _ x)) r
as_loops (S.Loops.several p h i) ts r = several_loop h i ts r
as_loops (S.Loops.several_comma p q h i) ts r = several_loop h i ts r

-- ---- parameters, bases, what is caught

plain_of : (n : List ℕ) {ts : List Token} → One (k.Name n) ts →
    Parameter None false (record { name = n; default = None }) ts
plain_of n (one p) = S.Parameter.plain None n p

default_of : (n : List ℕ) {a : Expr} {ts : List Token} → Again (words a) (Is None 14 a) →
    First (k.Name n) (c.assign ∷ words a) ts → Parameter None true (record { name = n; default = Some a }) ts
default_of n {a = a} f (first p x) = inner p (begins x)
  where
    inner : (p : Place) {us : List Token} → First c.assign (words a) us →
        Parameter None true (record { name = n; default = Some a }) (at (k.Name n) p ∷ us)
    inner p (first q y) = S.Parameter.default n p q (f _ y)

as_parameter : {d : Bool} {a : Param} {us : List Token} → Parameter None d a us → (ts : List Token) →
    Spells (param_words a) ts → Parameter None d a ts
as_parameter (S.Parameter.plain _ n p) ts r = plain_of n (alone r)
as_parameter (S.Parameter.default n p q h) ts r = default_of n (λ us x. as_is h us x) (begins r)

more_parameters : (b d : Bool) {a : Param} {as' : List Param} {ts : List Token} → Later b d →
    Again (param_words a) (Parameter None d a) → Again (commas (map param_words as')) (Parameters None d as') →
    Parted (param_words a) c.comma (commas (map param_words as')) ts → Parameters None b (a ∷ as') ts
more_parameters b d l f g (parted p x y) = S.Parameters.more b d p l (f _ x) (g _ y)

parameters_led : {b : Bool} {as' : List Param} {us : List Token} → Parameters None b as' us →
    led c.comma (map param_words as') ≡ c.comma ∷ commas (map param_words as')
parameters_led (S.Parameters.one b d l h) = refl
parameters_led (S.Parameters.one_comma b d p l h) = refl
parameters_led (S.Parameters.more b d p l h i) = refl

as_parameters : {b : Bool} {as' : List Param} {us : List Token} → Parameters None b as' us → (ts : List Token) →
    Spells (commas (map param_words as')) ts → Parameters None b as' ts
as_parameters (S.Parameters.one b d l h) ts r = S.Parameters.one b d l (as_parameter h ts (bare _ r))
as_parameters (S.Parameters.one_comma b d p l h) ts r = S.Parameters.one b d l (as_parameter h ts (bare _ r))
as_parameters (S.Parameters.more b d p {a = a} l h i) ts r =
    more_parameters b d l (λ us x. as_parameter h us x) (λ us x. as_parameters i us x)
    (parts _ _ _ (by (ap (λ z. param_words a ++ z) (parameters_led i)) r))

no_params : {ts : List Token} → Nothing ts → Params None [] ts
no_params nothing = S.Params.none None

pub as_params : {as' : List Param} {us : List Token} → Params None as' us → (ts : List Token) →
    Spells (commas (map param_words as')) ts → Params None as' ts
as_params (S.Params.none _) ts r = no_params (ends r)
as_params (S.Params.some h) ts r = S.Params.some (as_parameters h ts r)

no_base : {ts : List Token} → Nothing ts → Base None None ts
no_base nothing = S.Base.none None

base_of : {a : Expr} {us : List Token} → G.Maybe None (Some a) us → {ts : List Token} →
    Enclosed c.open_round c.close_round (words a) ts → Base None (Some a) ts
base_of h (enclosed p q x) = S.Base.round p q (as_maybe h _ x)

given_base : (a : Option Expr) {us : List Token} → G.Maybe None a us → (ts : List Token) → Spells (base_words a) ts →
    Base None a ts
given_base None h ts r = no_base (ends r)
given_base (Some a) h ts r = base_of h (encloses _ _ _ r)

pub as_base : {a : Option Expr} {us : List Token} → Base None a us → (ts : List Token) → Spells (base_words a) ts →
    Base None a ts
as_base (S.Base.none _) ts r = no_base (ends r)
as_base (S.Base.round p q {a = a} h) ts r = given_base a h ts r

nothing_caught : {ts : List Token} → Nothing ts → Caught None None None ts
nothing_caught nothing = S.Caught.all None

caught_as : {a b : Expr} {ts : List Token} → Again (words a) (Is None 14 a) → Again (words b) (Target None b) →
    Parted (words a) c.as_ (words b) ts → Caught None (Some a) (Some b) ts
caught_as f g (parted p x y) = S.Caught.named p (f _ x) (g _ y)

pub as_caught : {a b : Option Expr} {us : List Token} → Caught None a b us → (ts : List Token) →
    Spells (expr_or a ++ led_or c.as_ b) ts → Caught None a b ts
as_caught (S.Caught.all _) ts r = nothing_caught (ends r)
as_caught (S.Caught.test h) ts r = S.Caught.test (as_is h ts (bare _ r))
as_caught (S.Caught.named p h i) ts r = caught_as (λ us x. as_is h us x) (λ us x. as_target i us x) (parts _ _ _ r)
as_caught (S.Caught.comma p h i) ts r = caught_as (λ us x. as_is h us x) (λ us x. as_target i us x) (parts _ _ _ r)

-- ---- a clause: a head and a block

abbrev pub BlockAgain : ℕ → List Stmt → Type 0
BlockAgain line as' = (ts : List Token) → Reads (block_lexemes line (pieces as')) ts → Block None as' ts

pub data ClauseAt (κ : TokenKind) (line : ℕ) (ws : Words) (as' : List Stmt) : List Token → Type 0 where
  clause_at : (p q : Place) {ts us : List Token} → line_kept κ p.line ≡ line → Spells ws ts → Block None as' us →
      ClauseAt κ line ws as' (at κ p ∷ ts ++ at c.colon q ∷ us)

data HeadAt (κ : TokenKind) (line : ℕ) (ws : Words) : List Token → Type 0 where
  head_at : (p q : Place) {ts : List Token} → line_kept κ p.line ≡ line → Spells ws ts →
      HeadAt κ line ws (at κ p ∷ ts ++ at c.colon q ∷ [])

head_of : (κ : TokenKind) (line : ℕ) (ws : Words) {ts : List Token} → Reads (head line (κ ∷ ws)) ts →
    HeadAt κ line ws ts
head_of κ line ws r = outer (led_by r)
  where
    inner : (p : Place) {us : List Token} → line_kept κ p.line ≡ line → Closed ws c.colon us →
        HeadAt κ line ws (at κ p ∷ us)
    inner p e (closed q x) = head_at p q e x

    outer : {us : List Token} → Leads κ line (on line (ws ++ c.colon ∷ [])) us → HeadAt κ line ws us
    outer (leads p e x) = inner p e (closes _ _ (on_line line _ _ x).spells)

pub clause_of : (κ : TokenKind) (line : ℕ) (ws : Words) {as' : List Stmt} {ts : List Token} → BlockAgain line as' →
    Reads (head line (κ ∷ ws) ++ block_lexemes line (pieces as')) ts → ClauseAt κ line ws as' ts
clause_of κ line ws {as' = as'} f r = outer (splits _ _ r)
  where
    inner : {us vs : List Token} → HeadAt κ line ws us → Block None as' vs → ClauseAt κ line ws as' (us ++ vs)
    inner {vs = vs} (head_at p q {ts} e x) b =
        subst (λ z. ClauseAt κ line ws as' (at κ p ∷ z)) (sym (append_assoc ts (at c.colon q ∷ []) vs))
        (clause_at p q e x b)

    outer : {us : List Token} → Split (head line (κ ∷ ws)) (block_lexemes line (pieces as')) us →
        ClauseAt κ line ws as' us
    outer (split x y) = inner (head_of κ line ws x) (f _ y)
