-- Tokens that the canonical words of a simple statement spell, spell this statement in the grammar.
use Rattle.std.proofs.Common.{◌≡◌, ℕ, Bool, true, false, List, [], ◌∷◌, ◌++◌, map, Option, Some, None, refl, sym, ap, ◌∙◌, subst, append_assoc}
use Rattle.py_tokens.specs.declared.token.Token.{Token}
use Rattle.py_tokens.specs.declared.token.TokenKind.TheVariants as k
use Rattle.py_tokens.specs.declared.token.Place.{Place}
use Rattle.py_tokens.specs.Place.{token_at as at}
use Rattle.py_tree.specs.declared.expr.Expr.{Expr}
use Rattle.py_tree.specs.declared.expr.Operator.{Operator}
use Rattle.py_tree.specs.declared.expr.Operator.TheVariants as op
use Rattle.py_tree.specs.declared.expr.Sign.{Sign}
use Rattle.py_tree.specs.declared.expr.Sign.TheVariants as sign
use Rattle.py_tree.specs.declared.stmt.Stmt.{Stmt}
use Rattle.py_tree.specs.declared.stmt.Stmt.TheVariants as s
use Rattle.py_tree.specs.declared.stmt.Imported.{Imported}
use Rattle.py_tree.specs.Lexeme.{line_kept}
use Rattle.py_tree.specs.Form.{form, is_target, is_single}
use Rattle.py_tree.specs.Spelling.{Words, led, commas, words}
use Rattle.py_tree.specs.Canonical.{Piece, piece, all, ended, assigning, trailing, name_words, bound_words, imported_words}
use Rattle.py_tree.specs.Canonical as C
use Rattle.py_tree.proofs.Pieces as pl
use Rattle.py_grammar.specs.Codes as c
use Rattle.py_grammar.specs.Words.{line_of, sign_word, augment_word, is_module, is_member}
use Rattle.py_grammar.specs.Grammar as G
use Rattle.py_grammar.specs.Grammar.{Is, Strings, Tests, Commas, Exprs}
use Rattle.py_grammar.specs.Statements as S
use Rattle.py_grammar.specs.Statements.{Target, Targets, Equals, Names, Renamed, Imports, Simple}
use Rattle.canonical_laws.proofs.CanonWords.{Spells, by, First, first, begins, One, one, alone, Two, two, both, Closed, closed, closes, Parted, parted, parts, bare, Nothing, nothing, ends}
use Rattle.canonical_laws.proofs.CanonExpr.{Again, as_is, as_exprs, as_tests}
use Rattle.canonical_laws.proofs.CanonReads.{BeginsOn, OnLine, Worded, worded, line_is, worded_more, line_front, begins_front}

-- ---- the first token of an expression

sign_worded : (g : Sign) (n : ℕ) → line_kept (sign_word g) n ≡ n
sign_worded sign.Plus n = refl
sign_worded sign.Minus n = refl
sign_worded sign.Invert n = refl

strings_worded : {n : List ℕ} {ts : List Token} → Strings None n ts → Worded ts
strings_worded (G.Strings.one _ n p) = worded (k.Str n) p (λ m. refl)
strings_worded (G.Strings.more _ n p h) = worded (k.Str n) p (λ m. refl)

is_worded : {n : ℕ} {a : Expr} {ts : List Token} → Is None n a ts → Worded ts
is_worded (G.Is.up n l h) = is_worded h
is_worded (G.Is.name _ n p) = worded (k.Name n) p (λ m. refl)
is_worded (G.Is.int _ n p) = worded (k.Int n) p (λ m. refl)
is_worded (G.Is.strings h) = strings_worded h
is_worded (G.Is.group p q h) = worded c.open_round p (λ m. refl)
is_worded (G.Is.unit _ p q) = worded c.open_round p (λ m. refl)
is_worded (G.Is.round p q h) = worded c.open_round p (λ m. refl)
is_worded (G.Is.no_list _ p q) = worded c.open_square p (λ m. refl)
is_worded (G.Is.list p q h) = worded c.open_square p (λ m. refl)
is_worded (G.Is.no_dict _ p q) = worded c.open_brace p (λ m. refl)
is_worded (G.Is.dict p q h) = worded c.open_brace p (λ m. refl)
is_worded (G.Is.trail h i) = worded_more _ (is_worded h)
is_worded (G.Is.power p h i) = worded_more _ (is_worded h)
is_worded (G.Is.signed g p h) = worded (sign_word g) p (sign_worded g)
is_worded (G.Is.chain l h i) = worded_more _ (is_worded h)
is_worded (G.Is.negated p h) = worded c.not_ p (λ m. refl)
is_worded (G.Is.choice p q h i j) = worded_more _ (worded_more _ (is_worded h))

commas_worded : {es : List Expr} {ts : List Token} → Commas None es ts → Worded ts
commas_worded (G.Commas.lone p h) = worded_more _ (is_worded h)
commas_worded (G.Commas.several p h i) = worded_more _ (is_worded h)

exprs_worded : {a : Expr} {ts : List Token} → Exprs None a ts → Worded ts
exprs_worded (G.Exprs.single h) = is_worded h
exprs_worded (G.Exprs.tuple h) = commas_worded h

equals_worded : {es : List Expr} {a : Expr} {ts : List Token} → Equals None es a ts → Worded ts
equals_worded (S.Equals.value h) = exprs_worded h
equals_worded (S.Equals.equals p h t i) = worded_more _ (exprs_worded h)

pub simple_worded : {a : Stmt} {ts : List Token} → Simple None a ts → Worded ts
simple_worded (S.Simple.run h) = exprs_worded h
simple_worded (S.Simple.assign h) = equals_worded h
simple_worded (S.Simple.augment n o p e h t i) = worded_more _ (exprs_worded h)
simple_worded (S.Simple.print_end _ p) = worded c.print_ p (λ m. refl)
simple_worded (S.Simple.print p h) = worded c.print_ p (λ m. refl)
simple_worded (S.Simple.pass _ p) = worded c.pass_ p (λ m. refl)
simple_worded (S.Simple.break _ p) = worded c.break_ p (λ m. refl)
simple_worded (S.Simple.continue _ p) = worded c.continue_ p (λ m. refl)
simple_worded (S.Simple.return_none _ p) = worded c.return_ p (λ m. refl)
simple_worded (S.Simple.return p h) = worded c.return_ p (λ m. refl)
simple_worded (S.Simple.raise_none _ p) = worded c.raise_ p (λ m. refl)
simple_worded (S.Simple.raise_one p h) = worded c.raise_ p (λ m. refl)
simple_worded (S.Simple.raise_two p q h i) = worded c.raise_ p (λ m. refl)
simple_worded (S.Simple.del p h) = worded c.del_ p (λ m. refl)
simple_worded (S.Simple.global _ p h) = worded c.global_ p (λ m. refl)
simple_worded (S.Simple.assert_one p h) = worded c.assert_ p (λ m. refl)
simple_worded (S.Simple.assert_two p q h i) = worded c.assert_ p (λ m. refl)
simple_worded (S.Simple.import p h) = worded c.import_ p (λ m. refl)
simple_worded (S.Simple.from m p q r e h) = worded c.from_ p (λ m. refl)

-- ---- parts of simple statements

equals_of : {a b : Expr} {es : List Expr} {ts : List Token} → is_target false (form a) ≡ true →
    Again (words a) (Exprs None a) → Again (ended c.assign (map words es) ++ words b) (Equals None es b) →
    Parted (words a) c.assign (ended c.assign (map words es) ++ words b) ts → Equals None (a ∷ es) b ts
equals_of t f g (parted p x y) = S.Equals.equals p (f _ x) t (g _ y)

as_equals : {es : List Expr} {b : Expr} {us : List Token} → Equals None es b us → (ts : List Token) →
    Spells (ended c.assign (map words es) ++ words b) ts → Equals None es b ts
as_equals (S.Equals.value h) ts r = S.Equals.value (as_exprs h ts r)
as_equals (S.Equals.equals p {a = a} {b = b} {es = es} h t i) ts r =
    equals_of t (λ us x. as_exprs h us x) (λ us x. as_equals i us x)
    (parts _ _ _ (by (append_assoc (words a) (c.assign ∷ ended c.assign (map words es)) (words b)) r))

trailing_comma : {es : List Expr} {ts : List Token} (q : Place) → Tests None es false ts →
    Tests None es true (ts ++ at c.comma q ∷ [])
trailing_comma q (G.Tests.only h) = G.Tests.only_comma q h
trailing_comma q (G.Tests.more_tests p {a = a} {es = es} {ts = ts} {us = us} h i) =
    subst (λ z. Tests None (a ∷ es) true z) (sym (append_assoc ts (at c.comma p ∷ us) (at c.comma q ∷ [])))
    (G.Tests.more_tests p h (trailing_comma q i))

closed_tests : {es : List Expr} {ts : List Token} → Again (commas (map words es)) (Tests None es false) →
    Closed (commas (map words es)) c.comma ts → Tests None es true ts
closed_tests f (closed q x) = trailing_comma q (f _ x)

with_trailing : (b : Bool) {es : List Expr} {us : List Token} → Tests None es b us → (ts : List Token) →
    Spells (commas (map words es) ++ trailing b) ts → Tests None es b ts
with_trailing true h ts r = closed_tests (λ us x. as_tests h us x) (closes _ _ r)
with_trailing false h ts r = as_tests h ts (bare _ r)

pub as_target : {a : Expr} {us : List Token} → Target None a us → (ts : List Token) → Spells (words a) ts →
    Target None a ts
as_target h ts r = record { spells = as_is h.spells ts r; is = h.is }

more_targets : {a : Expr} {es : List Expr} {ts : List Token} → Again (words a) (Target None a) →
    Again (commas (map words es)) (Targets None es) → Parted (words a) c.comma (commas (map words es)) ts →
    Targets None (a ∷ es) ts
more_targets f g (parted p x y) = S.Targets.more p (f _ x) (g _ y)

targets_led : {es : List Expr} {us : List Token} → Targets None es us →
    led c.comma (map words es) ≡ c.comma ∷ commas (map words es)
targets_led (S.Targets.one h) = refl
targets_led (S.Targets.more p h i) = refl

as_targets : {es : List Expr} {us : List Token} → Targets None es us → (ts : List Token) →
    Spells (commas (map words es)) ts → Targets None es ts
as_targets (S.Targets.one h) ts r = S.Targets.one (as_target h ts (bare _ r))
as_targets (S.Targets.more p {a = a} h i) ts r = more_targets (λ us x. as_target h us x) (λ us x. as_targets i us x)
    (parts _ _ _ (by (ap (λ z. words a ++ z) (targets_led i)) r))

one_name : (n : List ℕ) {ts : List Token} → One (k.Name n) ts → Names (n ∷ []) ts
one_name n (one p) = S.Names.one n p

names_led : {ns : List (List ℕ)} {us : List Token} → Names ns us →
    led c.comma (map name_words ns) ≡ c.comma ∷ commas (map name_words ns)
names_led (S.Names.one n p) = refl
names_led (S.Names.more n p q h) = refl

more_names : (n : List ℕ) {ns : List (List ℕ)} {ts : List Token} → Again (commas (map name_words ns)) (Names ns) →
    First (k.Name n) (c.comma ∷ commas (map name_words ns)) ts → Names (n ∷ ns) ts
more_names n {ns = ns} f (first p x) = inner p (begins x)
  where
    inner : (p : Place) {us : List Token} → First c.comma (commas (map name_words ns)) us →
        Names (n ∷ ns) (at (k.Name n) p ∷ us)
    inner p (first q y) = S.Names.more n p q (f _ y)

as_names : {ns : List (List ℕ)} {us : List Token} → Names ns us → (ts : List Token) →
    Spells (commas (map name_words ns)) ts → Names ns ts
as_names (S.Names.one n p) ts r = one_name n (alone r)
as_names (S.Names.more n p q h) ts r = more_names n (λ us x. as_names h us x)
    (begins (by (ap (λ z. k.Name n ∷ z) (names_led h)) r))

same_name : {ts : List Token} → Nothing ts → Renamed None ts
same_name nothing = S.Renamed.same

other_name : (n : List ℕ) {ts : List Token} → Two c.as_ (k.Name n) ts → Renamed (Some n) ts
other_name n (two p q) = S.Renamed.renamed n p q

as_renamed : (m : Option (List ℕ)) (ts : List Token) → Spells (bound_words m) ts → Renamed m ts
as_renamed None ts r = same_name (ends r)
as_renamed (Some n) ts r = other_name n (both r)

one_import : (may : List ℕ → Bool) (n : List ℕ) {m : Option (List ℕ)} {ts : List Token} → may n ≡ true →
    First (k.Name n) (bound_words m) ts → Imports may None (record { name = n; bound = m } ∷ []) ts
one_import may n {m = m} e (first p x) = S.Imports.one may None n p e (as_renamed m _ x)

imports_led : {may : List ℕ → Bool} {is : List Imported} {us : List Token} → Imports may None is us →
    led c.comma (map imported_words is) ≡ c.comma ∷ commas (map imported_words is)
imports_led (S.Imports.one may _ n p e h) = refl
imports_led (S.Imports.more may n p q e h i) = refl

more_imports : (may : List ℕ → Bool) (n : List ℕ) {m : Option (List ℕ)} {is : List Imported} {ts : List Token} →
    may n ≡ true → Again (commas (map imported_words is)) (Imports may None is) →
    First (k.Name n) (bound_words m ++ c.comma ∷ commas (map imported_words is)) ts →
    Imports may None (record { name = n; bound = m } ∷ is) ts
more_imports may n {m = m} {is = is} e f (first p x) = inner p (parts (bound_words m) c.comma _ x)
  where
    inner : (p : Place) {us : List Token} → Parted (bound_words m) c.comma (commas (map imported_words is)) us →
        Imports may None (record { name = n; bound = m } ∷ is) (at (k.Name n) p ∷ us)
    inner p (parted q y z) = S.Imports.more may n p q e (as_renamed m _ y) (f _ z)

as_imports : {may : List ℕ → Bool} {is : List Imported} {us : List Token} → Imports may None is us → (ts : List Token)
    → Spells (commas (map imported_words is)) ts → Imports may None is ts
as_imports (S.Imports.one may _ n p {m = m} e h) ts r = one_import may n e (begins (bare _ r))
as_imports (S.Imports.more may n p q {m = m} {is = is} e h i) ts r =
    more_imports may n e (λ us x. as_imports i us x)
    (begins (by (ap (λ z. (k.Name n ∷ bound_words m) ++ z) (imports_led i)) r))

assigning_is : (o : Operator) (n : ℕ) → augment_word o ≡ Some n → assigning o ≡ k.Op n ∷ []
assigning_is op.Power n e = ap (λ z. k.Op z ∷ []) (cc)
assigning_is op.Floor n e = ap (λ z. k.Op z ∷ []) (cc)
assigning_is op.ShiftRight n e = ap (λ z. k.Op z ∷ []) (cc)
assigning_is op.ShiftLeft n e = ap (λ z. k.Op z ∷ []) (cc)
assigning_is op.Plus n e = ap (λ z. k.Op z ∷ []) (cc)
assigning_is op.Minus n e = ap (λ z. k.Op z ∷ []) (cc)
assigning_is op.Times n e = ap (λ z. k.Op z ∷ []) (cc)
assigning_is op.Divide n e = ap (λ z. k.Op z ∷ []) (cc)
assigning_is op.Remainder n e = ap (λ z. k.Op z ∷ []) (cc)
assigning_is op.BitAnd n e = ap (λ z. k.Op z ∷ []) (cc)
assigning_is op.BitOr n e = ap (λ z. k.Op z ∷ []) (cc)
assigning_is op.BitXor n e = ap (λ z. k.Op z ∷ []) (cc)
assigning_is op.Or n e = cc
assigning_is op.And n e = cc
assigning_is op.Less n e = cc
assigning_is op.Greater n e = cc
assigning_is op.Equal n e = cc
assigning_is op.GreaterEqual n e = cc
assigning_is op.LessEqual n e = cc
assigning_is op.NotEqual n e = cc
assigning_is op.In n e = cc
assigning_is op.NotIn n e = cc
assigning_is op.Is n e = cc
assigning_is op.IsNot n e = cc

-- ---- simple statements

-- a statement that is spelled by its canonical words on its line
pub record Simply (line : ℕ) (a : Stmt) : Type 0 where
  pub words : Words
  pub is : piece a ≡ C.Simple line words
  pub again : (ts : List Token) → OnLine line words ts → Simple None a ts

run_of : {line : ℕ} {a : Expr} {ts : List Token} → BeginsOn line ts → Exprs None a ts → Simple None (s.Do line a) ts
run_of {a = a} {ts = ts} e h = subst (λ z. Simple None (s.Do z a) ts) (line_is (exprs_worded h) e) (S.Simple.run h)

assign_of : {line : ℕ} {a b : Expr} {es : List Expr} {ts : List Token} → BeginsOn line ts → Equals None (a ∷ es) b ts →
    Simple None (s.Assign line (a ∷ es) b) ts
assign_of {a = a} {b = b} {es = es} {ts = ts} e h =
    subst (λ z. Simple None (s.Assign z (a ∷ es) b) ts) (line_is (equals_worded h) e) (S.Simple.assign h)

augment_of : (n : ℕ) (o : Operator) {line : ℕ} {a b : Expr} {ts : List Token} → augment_word o ≡ Some n →
    is_single false (form a) ≡ true → Again (words a) (Exprs None a) → Again (words b) (Exprs None b) →
    Parted (words a) (k.Op n) (words b) ts → BeginsOn line ts → Simple None (s.Augment line a o b) ts
augment_of n o {line = line} {a = a} {b = b} w t f g (parted p x y) e = inner p (f _ x) (g _ y) e
  where
    inner : (p : Place) {us vs : List Token} → Exprs None a us → Exprs None b vs →
        BeginsOn line (us ++ at (k.Op n) p ∷ vs) → Simple None (s.Augment line a o b) (us ++ at (k.Op n) p ∷ vs)
    inner p {us} {vs} h i e = subst (λ z. Simple None (s.Augment z a o b) (us ++ at (k.Op n) p ∷ vs))
        (line_is (exprs_worded h) (begins_front line (at (k.Op n) p ∷ vs) (exprs_worded h) e))
        (S.Simple.augment n o p w h t i)

print_end_of : {line : ℕ} {ts : List Token} → One c.print_ ts → BeginsOn line ts →
    Simple None (s.Print line [] false) ts
print_end_of (one p) e = subst (λ z. Simple None (s.Print z [] false) (at c.print_ p ∷ [])) e
    (S.Simple.print_end None p)

print_of : {line : ℕ} {es : List Expr} {b : Bool} {ts : List Token} →
    Again (commas (map words es) ++ trailing b) (Tests None es b) →
    First c.print_ (commas (map words es) ++ trailing b) ts → BeginsOn line ts → Simple None (s.Print line es b) ts
print_of {es = es} {b = b} f (first p {ts} x) e = subst (λ z. Simple None (s.Print z es b) (at c.print_ p ∷ ts)) e
    (S.Simple.print p (f _ x))

pass_of : {line : ℕ} {ts : List Token} → One c.pass_ ts → BeginsOn line ts → Simple None (s.Pass line) ts
pass_of (one p) e = subst (λ z. Simple None (s.Pass z) (at c.pass_ p ∷ [])) e (S.Simple.pass None p)

break_of : {line : ℕ} {ts : List Token} → One c.break_ ts → BeginsOn line ts → Simple None (s.Break line) ts
break_of (one p) e = subst (λ z. Simple None (s.Break z) (at c.break_ p ∷ [])) e (S.Simple.break None p)

continue_of : {line : ℕ} {ts : List Token} → One c.continue_ ts → BeginsOn line ts → Simple None (s.Continue line) ts
continue_of (one p) e = subst (λ z. Simple None (s.Continue z) (at c.continue_ p ∷ [])) e (S.Simple.continue None p)

return_none_of : {line : ℕ} {ts : List Token} → One c.return_ ts → BeginsOn line ts →
    Simple None (s.Return line None) ts
return_none_of (one p) e = subst (λ z. Simple None (s.Return z None) (at c.return_ p ∷ [])) e
    (S.Simple.return_none None p)

return_of : {line : ℕ} {a : Expr} {ts : List Token} → Again (words a) (Exprs None a) → First c.return_ (words a) ts →
    BeginsOn line ts → Simple None (s.Return line (Some a)) ts
return_of {a = a} f (first p {ts} x) e = subst (λ z. Simple None (s.Return z (Some a)) (at c.return_ p ∷ ts)) e
    (S.Simple.return p (f _ x))

raise_none_of : {line : ℕ} {ts : List Token} → One c.raise_ ts → BeginsOn line ts →
    Simple None (s.Raise line None None) ts
raise_none_of (one p) e = subst (λ z. Simple None (s.Raise z None None) (at c.raise_ p ∷ [])) e
    (S.Simple.raise_none None p)

raise_one_of : {line : ℕ} {a : Expr} {ts : List Token} → Again (words a) (Is None 14 a) →
    First c.raise_ (words a ++ []) ts → BeginsOn line ts → Simple None (s.Raise line (Some a) None) ts
raise_one_of {a = a} f (first p {ts} x) e = subst (λ z. Simple None (s.Raise z (Some a) None) (at c.raise_ p ∷ ts)) e
    (S.Simple.raise_one p (f _ (bare _ x)))

-- two tests with a comma between them
data Pair (a b : Expr) : List Token → Type 0 where
  pair : (q : Place) {ts us : List Token} → Is None 14 a ts → Is None 14 b us → Pair a b (ts ++ at c.comma q ∷ us)

pair_of : {a b : Expr} {ts : List Token} → Again (words a) (Is None 14 a) → Again (words b) (Is None 14 b) →
    Parted (words a) c.comma (words b) ts → Pair a b ts
pair_of f g (parted q x y) = pair q (f _ x) (g _ y)

raise_pair : {a b : Expr} (p : Place) {ts : List Token} → Pair a b ts →
    Simple None (s.Raise p.line (Some a) (Some b)) (at c.raise_ p ∷ ts)
raise_pair p (pair q h i) = S.Simple.raise_two p q h i

raise_two_of : {line : ℕ} {a b : Expr} {ts : List Token} → Again (words a) (Is None 14 a) →
    Again (words b) (Is None 14 b) → First c.raise_ (words a ++ c.comma ∷ words b) ts → BeginsOn line ts →
    Simple None (s.Raise line (Some a) (Some b)) ts
raise_two_of {a = a} {b = b} f g (first p {ts} x) e =
    subst (λ z. Simple None (s.Raise z (Some a) (Some b)) (at c.raise_ p ∷ ts)) e
    (raise_pair p (pair_of f g (parts _ _ _ x)))

del_of : {line : ℕ} {es : List Expr} {ts : List Token} → Again (commas (map words es)) (Targets None es) →
    First c.del_ (commas (map words es)) ts → BeginsOn line ts → Simple None (s.Del line es) ts
del_of {es = es} f (first p {ts} x) e = subst (λ z. Simple None (s.Del z es) (at c.del_ p ∷ ts)) e
    (S.Simple.del p (f _ x))

global_of : {line : ℕ} {ns : List (List ℕ)} {ts : List Token} → Again (commas (map name_words ns)) (Names ns) →
    First c.global_ (commas (map name_words ns)) ts → BeginsOn line ts → Simple None (s.Global line ns) ts
global_of {ns = ns} f (first p {ts} x) e = subst (λ z. Simple None (s.Global z ns) (at c.global_ p ∷ ts)) e
    (S.Simple.global None p (f _ x))

assert_one_of : {line : ℕ} {a : Expr} {ts : List Token} → Again (words a) (Is None 14 a) →
    First c.assert_ (words a ++ []) ts → BeginsOn line ts → Simple None (s.Assert line a None) ts
assert_one_of {a = a} f (first p {ts} x) e = subst (λ z. Simple None (s.Assert z a None) (at c.assert_ p ∷ ts)) e
    (S.Simple.assert_one p (f _ (bare _ x)))

assert_pair : {a b : Expr} (p : Place) {ts : List Token} → Pair a b ts →
    Simple None (s.Assert p.line a (Some b)) (at c.assert_ p ∷ ts)
assert_pair p (pair q h i) = S.Simple.assert_two p q h i

assert_two_of : {line : ℕ} {a b : Expr} {ts : List Token} → Again (words a) (Is None 14 a) →
    Again (words b) (Is None 14 b) → First c.assert_ (words a ++ c.comma ∷ words b) ts → BeginsOn line ts →
    Simple None (s.Assert line a (Some b)) ts
assert_two_of {a = a} {b = b} f g (first p {ts} x) e =
    subst (λ z. Simple None (s.Assert z a (Some b)) (at c.assert_ p ∷ ts)) e
    (assert_pair p (pair_of f g (parts _ _ _ x)))

import_of : {line : ℕ} {is : List Imported} {ts : List Token} →
    Again (commas (map imported_words is)) (Imports is_module None is) →
    First c.import_ (commas (map imported_words is)) ts → BeginsOn line ts → Simple None (s.Import line is) ts
import_of {is = is} f (first p {ts} x) e = subst (λ z. Simple None (s.Import z is) (at c.import_ p ∷ ts)) e
    (S.Simple.import p (f _ x))

-- a module's name, `import` and members
data Members (m : List ℕ) (is : List Imported) : List Token → Type 0 where
  members : (q r : Place) {ts : List Token} → Imports (is_member m) None is ts →
      Members m is (at (k.Name m) q ∷ at c.import_ r ∷ ts)

members_of : (m : List ℕ) {is : List Imported} {ts : List Token} →
    Again (commas (map imported_words is)) (Imports (is_member m) None is) →
    First (k.Name m) (c.import_ ∷ commas (map imported_words is)) ts → Members m is ts
members_of m {is = is} f (first q x) = inner q (begins x)
  where
    inner : (q : Place) {us : List Token} → First c.import_ (commas (map imported_words is)) us →
        Members m is (at (k.Name m) q ∷ us)
    inner q (first r y) = members q r (f _ y)

from_members : (m : List ℕ) {is : List Imported} (p : Place) {ts : List Token} → is_module m ≡ true → Members m is ts →
    Simple None (s.From p.line m is) (at c.from_ p ∷ ts)
from_members m p e (members q r h) = S.Simple.from m p q r e h

from_of : (m : List ℕ) {line : ℕ} {is : List Imported} {ts : List Token} → is_module m ≡ true →
    Again (commas (map imported_words is)) (Imports (is_member m) None is) →
    First c.from_ (k.Name m ∷ c.import_ ∷ commas (map imported_words is)) ts → BeginsOn line ts →
    Simple None (s.From line m is) ts
from_of m {is = is} w f (first p {ts} x) e = subst (λ z. Simple None (s.From z m is) (at c.from_ p ∷ ts)) e
    (from_members m p w (members_of m f (begins x)))

augment_words : (n : ℕ) (o : Operator) (a b : Expr) → augment_word o ≡ Some n →
    (words a ++ assigning o) ++ words b ≡ words a ++ k.Op n ∷ words b
augment_words n o a b e = ap (λ z. (words a ++ z) ++ words b) (assigning_is o n e) ∙
    append_assoc (words a) (k.Op n ∷ []) (words b)

pub as_simple : {a : Stmt} {us : List Token} → Simple None a us → Simply (line_of us) a
as_simple (S.Simple.run {a = a} {ts = us} h) =
    record { words = _; is = pl.piece_do (line_of us) a; again = λ ts o. run_of o.starts (as_exprs h ts o.spells) }
as_simple (S.Simple.assign {a = a} {b = b} {es = es} {ts = us} h) =
    record {
      words = _;
      is = pl.piece_assign (line_of us) (a ∷ es) b;
      again = λ ts o.
          assign_of o.starts (as_equals h ts o.spells);
    }
as_simple (S.Simple.augment n o p {a = a} {b = b} {ts = us} {us = vs} w h t i) =
    subst (λ z. Simply z (s.Augment (line_of us) a o b)) (sym (line_front (at (k.Op n) p ∷ vs) (exprs_worded h)))
    (record {
      words = _;
      is = pl.piece_augment (line_of us) a o b;
      again = λ ts r.
          augment_of n o w t (λ xs x. as_exprs h xs x) (λ xs x. as_exprs i xs x)
          (parts _ _ _ (by (augment_words n o a b w) r.spells)) r.starts;
    })
as_simple (S.Simple.print_end _ p) = record {
  words = _;
  is = pl.piece_print p.line [] false;
  again = λ ts o.
      print_end_of (alone o.spells) o.starts;
}
as_simple (S.Simple.print p {es = es} {b = b} h) =
    record {
      words = _;
      is = pl.piece_print p.line es b;
      again = λ ts o.
          print_of (λ us x. with_trailing b h us x) (begins o.spells) o.starts;
    }
as_simple (S.Simple.pass _ p) = record {
  words = _;
  is = pl.piece_pass p.line;
  again = λ ts o.
      pass_of (alone o.spells) o.starts;
}
as_simple (S.Simple.break _ p) = record {
  words = _;
  is = pl.piece_break p.line;
  again = λ ts o.
      break_of (alone o.spells) o.starts;
}
as_simple (S.Simple.continue _ p) = record {
  words = _;
  is = pl.piece_continue p.line;
  again = λ ts o.
      continue_of (alone o.spells) o.starts;
}
as_simple (S.Simple.return_none _ p) = record {
  words = _;
  is = pl.piece_return p.line None;
  again = λ ts o.
      return_none_of (alone o.spells) o.starts;
}
as_simple (S.Simple.return p {a = a} h) =
    record {
      words = _;
      is = pl.piece_return p.line (Some a);
      again = λ ts o.
          return_of (λ us x. as_exprs h us x) (begins o.spells) o.starts;
    }
as_simple (S.Simple.raise_none _ p) = record {
  words = _;
  is = pl.piece_raise p.line None None;
  again = λ ts o.
      raise_none_of (alone o.spells) o.starts;
}
as_simple (S.Simple.raise_one p {a = a} h) =
    record {
      words = _;
      is = pl.piece_raise p.line (Some a) None;
      again = λ ts o.
          raise_one_of (λ us x. as_is h us x) (begins o.spells) o.starts;
    }
as_simple (S.Simple.raise_two p q {a = a} {b = b} h i) =
    record {
      words = _;
      is = pl.piece_raise p.line (Some a) (Some b);
      again = λ ts o.
          raise_two_of (λ us x. as_is h us x) (λ us x. as_is i us x) (begins o.spells) o.starts;
    }
as_simple (S.Simple.del p {es = es} h) =
    record {
      words = _;
      is = pl.piece_del p.line es;
      again = λ ts o.
          del_of (λ us x. as_targets h us x) (begins o.spells) o.starts;
    }
as_simple (S.Simple.global _ p {ns = ns} h) =
    record {
      words = _;
      is = pl.piece_global p.line ns;
      again = λ ts o.
          global_of (λ us x. as_names h us x) (begins o.spells) o.starts;
    }
as_simple (S.Simple.assert_one p {a = a} h) =
    record {
      words = _;
      is = pl.piece_assert p.line a None;
      again = λ ts o.
          assert_one_of (λ us x. as_is h us x) (begins o.spells) o.starts;
    }
as_simple (S.Simple.assert_two p q {a = a} {b = b} h i) =
    record {
      words = _;
      is = pl.piece_assert p.line a (Some b);
      again = λ ts o.
          assert_two_of (λ us x. as_is h us x) (λ us x. as_is i us x) (begins o.spells) o.starts;
    }
as_simple (S.Simple.import p {is = is} h) =
    record {
      words = _;
      is = pl.piece_import p.line is;
      again = λ ts o.
          import_of (λ us x. as_imports h us x) (begins o.spells) o.starts;
    }
as_simple (S.Simple.from m p q r {is = is} w h) =
    record {
      words = _;
      is = pl.piece_from p.line m is;
      again = λ ts o.
          from_of m w (λ us x. as_imports h us x) (begins o.spells) o.starts;
    }
