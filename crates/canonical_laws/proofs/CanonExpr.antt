-- Tokens that the canonical words of an expression spell, spell this expression in the grammar.
use Rattle.std.proofs.Common.{◌≡◌, ℕ, suc, Bool, false, List, [], ◌∷◌, ◌++◌, map, Option, Some, None, refl, ap, ◌∙◌, subst, arith}
use Rattle.py_tokens.specs.declared.token.Token.{Token}
use Rattle.py_tokens.specs.declared.token.TokenKind.{TokenKind}
use Rattle.py_tokens.specs.declared.token.TokenKind.TheVariants as k
use Rattle.py_tokens.specs.declared.token.Place.{Place}
use Rattle.py_tokens.specs.Place.{token_at as at}
use Rattle.py_tree.specs.declared.expr.Expr.{Expr}
use Rattle.py_tree.specs.declared.expr.Expr.TheVariants as e
use Rattle.py_tree.specs.declared.expr.Link.{Link}
use Rattle.py_tree.specs.declared.expr.Pair.{Pair}
use Rattle.py_tree.specs.declared.expr.Named.{Named}
use Rattle.py_tree.specs.declared.expr.Trailer.{Trailer}
use Rattle.py_tree.specs.declared.expr.Trailer.TheVariants as t
use Rattle.py_tree.specs.declared.expr.Level.{Level}
use Rattle.py_tree.specs.declared.expr.Operator.{Operator}
use Rattle.py_tree.specs.declared.expr.Operator.TheVariants as op
use Rattle.py_tree.specs.declared.expr.Sign.{Sign}
use Rattle.py_tree.specs.declared.expr.Sign.TheVariants as sign
use Rattle.py_tree.specs.Spelling.{Words, operator_words, sign_words, led, commas, all_words, tuple_words, words, words_trailer, words_link, words_named, words_pair}
use Rattle.py_tree.specs.Canonical.{expr_or}
use Rattle.py_tree.proofs.Spellings as sp
use Rattle.py_grammar.specs.Codes as c
use Rattle.py_grammar.specs.Words.{below, level_of, spelled, sign_word}
use Rattle.py_grammar.specs.Grammar as G
use Rattle.py_grammar.specs.Grammar.{Marks, Is, Strings, Tests, Commas, Exprs, Pairs, Links, Trailers, Trails, Maybe, Args}
use Rattle.canonical_laws.proofs.CanonWords.{Spells, by, First, first, begins, Cut, cut, cuts, One, one, alone, Two, two, both, Closed, closed, closes, Enclosed, enclosed, encloses, Parted, parted, parts, bare}

-- what spells these words is of this kind
abbrev pub Again : Words → (List Token → Type 0) → Type 0
Again ws F = (us : List Token) → Spells ws us → F us

-- ---- operators

pub data Spelled (o : Operator) : List Token → Type 0 where
  spelt : (p q : Place) → Spelled o (spelled o p q)

by_one : (o : Operator) (w : TokenKind) {ts : List Token} → ((p q : Place) → spelled o p q ≡ at w p ∷ []) → One w ts →
    Spelled o ts
by_one o w e (one p) = subst (λ z. Spelled o z) (e p p) (spelt p p)

by_two : (o : Operator) (w v : TokenKind) {ts : List Token} → ((p q : Place) → spelled o p q ≡ at w p ∷ at v q ∷ []) →
    Two w v ts → Spelled o ts
by_two o w v e (two p q) = subst (λ z. Spelled o z) (e p q) (spelt p q)

spells_operator : (o : Operator) {ts : List Token} → Spells (operator_words o) ts → Spelled o ts
spells_operator op.Or s = by_one op.Or c.or_ (λ p q. refl) (alone s)
spells_operator op.And s = by_one op.And c.and_ (λ p q. refl) (alone s)
spells_operator op.Less s = by_one op.Less c.less (λ p q. refl) (alone s)
spells_operator op.Greater s = by_one op.Greater c.greater (λ p q. refl) (alone s)
spells_operator op.Equal s = by_one op.Equal c.equal (λ p q. refl) (alone s)
spells_operator op.GreaterEqual s = by_one op.GreaterEqual c.greater_equal (λ p q. refl) (alone s)
spells_operator op.LessEqual s = by_one op.LessEqual c.less_equal (λ p q. refl) (alone s)
spells_operator op.NotEqual s = by_one op.NotEqual c.not_equal (λ p q. refl) (alone s)
spells_operator op.In s = by_one op.In c.in_ (λ p q. refl) (alone s)
spells_operator op.NotIn s = by_two op.NotIn c.not_ c.in_ (λ p q. refl) (both s)
spells_operator op.Is s = by_one op.Is c.is_ (λ p q. refl) (alone s)
spells_operator op.IsNot s = by_two op.IsNot c.is_ c.not_ (λ p q. refl) (both s)
spells_operator op.BitOr s = by_one op.BitOr c.bar (λ p q. refl) (alone s)
spells_operator op.BitXor s = by_one op.BitXor c.caret (λ p q. refl) (alone s)
spells_operator op.BitAnd s = by_one op.BitAnd c.ampersand (λ p q. refl) (alone s)
spells_operator op.ShiftLeft s = by_one op.ShiftLeft c.shift_left (λ p q. refl) (alone s)
spells_operator op.ShiftRight s = by_one op.ShiftRight c.shift_right (λ p q. refl) (alone s)
spells_operator op.Plus s = by_one op.Plus c.plus (λ p q. refl) (alone s)
spells_operator op.Minus s = by_one op.Minus c.minus (λ p q. refl) (alone s)
spells_operator op.Times s = by_one op.Times c.star (λ p q. refl) (alone s)
spells_operator op.Divide s = by_one op.Divide c.slash (λ p q. refl) (alone s)
spells_operator op.Floor s = by_one op.Floor c.floor (λ p q. refl) (alone s)
spells_operator op.Remainder s = by_one op.Remainder c.percent (λ p q. refl) (alone s)
spells_operator op.Power s = by_one op.Power c.power (λ p q. refl) (alone s)

sign_is : (s : Sign) → sign_words s ≡ sign_word s ∷ []
sign_is sign.Plus = refl
sign_is sign.Minus = refl
sign_is sign.Invert = refl

-- ---- atoms

pub up_all : {a : Expr} {ts : List Token} → Is None 0 a ts → Is None 14 a ts
up_all h = G.Is.up 13 (omega arith) (G.Is.up 12 (omega arith)
    (G.Is.up 11 (omega arith) (G.Is.up 10 (omega arith)
    (G.Is.up 9 (omega arith) (G.Is.up 8 (omega arith)
    (G.Is.up 7 (omega arith) (G.Is.up 6 (omega arith)
    (G.Is.up 5 (omega arith) (G.Is.up 4 (omega arith)
    (G.Is.up 3 (omega arith) (G.Is.up 2 (omega arith) (G.Is.up 1 (omega arith) (G.Is.up 0 (omega arith) h)))))))))))))

name_of : (n : List ℕ) {ts : List Token} → One (k.Name n) ts → Is None 0 (e.Name n) ts
name_of n (one p) = G.Is.name None n p

int_of : (n : _) {ts : List Token} → One (k.Int n) ts → Is None 0 (e.Int n) ts
int_of n (one p) = G.Is.int None n p

str_of : (n : List ℕ) {ts : List Token} → One (k.Str n) ts → Is None 0 (e.Str n) ts
str_of n (one p) = G.Is.strings (G.Strings.one None n p)

group_of : {a : Expr} {ts : List Token} → Again (words a) (Is None 14 a) →
    Enclosed c.open_round c.close_round (words a) ts → Is None 0 (e.Group a) ts
group_of f (enclosed p q s) = G.Is.group p q (f _ s)

unit_of : {ts : List Token} → Two c.open_round c.close_round ts → Is None 0 (e.Tuple []) ts
unit_of (two p q) = G.Is.unit None p q

pub round_of : {es : List Expr} {ts : List Token} → Again (tuple_words (map words es)) (Commas None es) →
    Enclosed c.open_round c.close_round (tuple_words (map words es)) ts → Is None 0 (e.Tuple es) ts
round_of f (enclosed p q s) = G.Is.round p q (f _ s)

no_list_of : {ts : List Token} → Two c.open_square c.close_square ts → Is None 0 (e.List []) ts
no_list_of (two p q) = G.Is.no_list None p q

list_of : {es : List Expr} {ts : List Token} → Again (commas (map words es)) (Tests None es false) →
    Enclosed c.open_square c.close_square (commas (map words es)) ts → Is None 0 (e.List es) ts
list_of f (enclosed p q s) = G.Is.list p q (f _ s)

no_dict_of : {ts : List Token} → Two c.open_brace c.close_brace ts → Is None 0 (e.Dict []) ts
no_dict_of (two p q) = G.Is.no_dict None p q

dict_of : {ps : List Pair} {ts : List Token} → Again (commas (map words_pair ps)) (Pairs None ps) →
    Enclosed c.open_brace c.close_brace (commas (map words_pair ps)) ts → Is None 0 (e.Dict ps) ts
dict_of f (enclosed p q s) = G.Is.dict p q (f _ s)

-- ---- operators and their operands

trail_of : {a : Expr} {rs : List Trailer} {ts : List Token} → Again (words a) (Is None 0 a) →
    Again (all_words (map words_trailer rs)) (Trailers None rs) → Cut (words a) (all_words (map words_trailer rs)) ts →
    Is None 1 (e.Trail a rs) ts
trail_of f g (cut s t) = G.Is.trail (f _ s) (g _ t)

power_of : {a b : Expr} {ts : List Token} → Again (words a) (Is None 1 a) → Again (words b) (Is None 3 b) →
    Parted (words a) c.power (words b) ts → Is None 2 (e.Power a b) ts
power_of f g (parted p s t) = G.Is.power p (f _ s) (g _ t)

signed_of : (s : Sign) {a : Expr} {ts : List Token} → Again (words a) (Is None 3 a) → First (sign_word s) (words a) ts
    → Is None 3 (e.Unary s a) ts
signed_of s f (first p t) = G.Is.signed s p (f _ t)

chain_of : (l : Level) {a : Expr} {ls : List Link} {ts : List Token} → Again (words a) (Is None (below l) a) →
    Again (all_words (map words_link ls)) (Links None l ls) → Cut (words a) (all_words (map words_link ls)) ts →
    Is None (suc (below l)) (e.Chain l a ls) ts
chain_of l f g (cut s t) = G.Is.chain l (f _ s) (g _ t)

not_of : {a : Expr} {ts : List Token} → Again (words a) (Is None 11 a) → First c.not_ (words a) ts →
    Is None 11 (e.Not a) ts
not_of f (first p t) = G.Is.negated p (f _ t)

choice_of : {a b d : Expr} {ts : List Token} → Again (words a) (Is None 13 a) → Again (words b) (Is None 13 b) →
    Again (words d) (Is None 14 d) → Parted (words a ++ c.if_ ∷ words b) c.else_ (words d) ts →
    Is None 14 (e.Choice a b d) ts
choice_of {a = a} {b = b} {d = d} f g h (parted q s t) = inner q (parts (words a) c.if_ (words b) s) (h _ t)
  where
    inner : (r : Place) {us vs : List Token} → Parted (words a) c.if_ (words b) us → Is None 14 d vs →
        Is None 14 (e.Choice a b d) (us ++ at c.else_ r ∷ vs)
    inner r (parted p x y) i = G.Is.choice p r (f _ x) (g _ y) i

-- ---- several tests

pub tests_led : {es : List Expr} {b : Bool} {us : List Token} → Tests None es b us →
    led c.comma (map words es) ≡ c.comma ∷ commas (map words es)
tests_led (G.Tests.only h) = refl
tests_led (G.Tests.only_comma p h) = refl
tests_led (G.Tests.more_tests p h i) = refl

tests_tuple : (ws : Words) {es : List Expr} {b : Bool} {us : List Token} → Tests None es b us →
    tuple_words (ws ∷ map words es) ≡ ws ++ c.comma ∷ commas (map words es)
tests_tuple ws (G.Tests.only h) = refl
tests_tuple ws (G.Tests.only_comma p h) = refl
tests_tuple ws (G.Tests.more_tests p h i) = refl

pairs_led : {ps : List Pair} {us : List Token} → Pairs None ps us →
    led c.comma (map words_pair ps) ≡ c.comma ∷ commas (map words_pair ps)
pairs_led (G.Pairs.pair p h i) = refl
pairs_led (G.Pairs.pair_comma p q h i) = refl
pairs_led (G.Pairs.more_pairs p q h i j) = refl

args_led : {es : List Expr} {ns : List Named} {us : List Token} → Args None es ns us →
    led c.comma (map words es ++ map words_named ns) ≡ c.comma ∷ commas (map words es ++ map words_named ns)
args_led (G.Args.arg h) = refl
args_led (G.Args.arg_comma p h) = refl
args_led (G.Args.more_args p h i) = refl
args_led (G.Args.named n p q h) = refl
args_led (G.Args.named_comma n p q r h) = refl
args_led (G.Args.more_named n p q r h i) = refl

pub more_tests_of : {a : Expr} {es : List Expr} {ts : List Token} → Again (words a) (Is None 14 a) →
    Again (commas (map words es)) (Tests None es false) → Parted (words a) c.comma (commas (map words es)) ts →
    Tests None (a ∷ es) false ts
more_tests_of f g (parted p s t) = G.Tests.more_tests p (f _ s) (g _ t)

pub lone_of : {a : Expr} {ts : List Token} → Again (words a) (Is None 14 a) → Closed (words a) c.comma ts →
    Commas None (a ∷ []) ts
lone_of f (closed p s) = G.Commas.lone p (f _ s)

pub several_of : {a : Expr} {es : List Expr} {ts : List Token} → Again (words a) (Is None 14 a) →
    Again (commas (map words es)) (Tests None es false) → Parted (words a) c.comma (commas (map words es)) ts →
    Commas None (a ∷ es) ts
several_of f g (parted p s t) = G.Commas.several p (f _ s) (g _ t)

-- ---- pairs, links, trailers, arguments

pair_of : {a b : Expr} {ts : List Token} → Again (words a) (Is None 14 a) → Again (words b) (Is None 14 b) →
    Parted (words a) c.colon (words b) ts → Pairs None (record { key = a; value = b } ∷ []) ts
pair_of f g (parted p s t) = G.Pairs.pair p (f _ s) (g _ t)

more_pairs_of : {a b : Expr} {ps : List Pair} {ts : List Token} → Again (words a) (Is None 14 a) →
    Again (words b) (Is None 14 b) → Again (commas (map words_pair ps)) (Pairs None ps) →
    Parted (words a ++ c.colon ∷ words b) c.comma (commas (map words_pair ps)) ts →
    Pairs None (record { key = a; value = b } ∷ ps) ts
more_pairs_of {a = a} {b = b} {ps = ps} f g h (parted q s t) = inner q (parts (words a) c.colon (words b) s) (h _ t)
  where
    inner : (r : Place) {us vs : List Token} → Parted (words a) c.colon (words b) us → Pairs None ps vs →
        Pairs None (record { key = a; value = b } ∷ ps) (us ++ at c.comma r ∷ vs)
    inner r (parted p x y) i = G.Pairs.more_pairs p r (f _ x) (g _ y) i

link_of : (l : Level) (o : Operator) {a : Expr} {ts : List Token} → level_of o ≡ Some l →
    Again (words a) (Is None (below l) a) → Cut (operator_words o) (words a) ts →
    Links None l (record { operator = o; operand = a } ∷ []) ts
link_of l o {a = a} e f (cut s t) = inner (spells_operator o s) (f _ t)
  where
    inner : {us vs : List Token} → Spelled o us → Is None (below l) a vs →
        Links None l (record { operator = o; operand = a } ∷ []) (us ++ vs)
    inner (spelt p q) i = G.Links.link l o p q e i

more_links_of : (l : Level) (o : Operator) {a : Expr} {ls : List Link} {ts : List Token} → level_of o ≡ Some l →
    Again (words a) (Is None (below l) a) → Again (all_words (map words_link ls)) (Links None l ls) →
    Cut (operator_words o ++ words a) (all_words (map words_link ls)) ts →
    Links None l (record { operator = o; operand = a } ∷ ls) ts
more_links_of l o {a = a} {ls = ls} e f g (cut s t) = outer (cuts (operator_words o) (words a) s) (g _ t)
  where
    inner : {us vs ws : List Token} → Spelled o us → Is None (below l) a vs → Links None l ls ws →
        Links None l (record { operator = o; operand = a } ∷ ls) (us ++ vs ++ ws)
    inner (spelt p q) i j = G.Links.more_links l o p q e i j

    outer : {us vs : List Token} → Cut (operator_words o) (words a) us → Links None l ls vs →
        Links None l (record { operator = o; operand = a } ∷ ls) (us ++ vs)
    outer (cut x y) j = inner (spells_operator o x) (f _ y) j

more_trailers_of : {r : Trailer} {rs : List Trailer} {ts : List Token} → Again (words_trailer r) (Trails None r) →
    Again (all_words (map words_trailer rs)) (Trailers None rs) →
    Cut (words_trailer r) (all_words (map words_trailer rs)) ts → Trailers None (r ∷ rs) ts
more_trailers_of f g (cut s t) = G.Trailers.more_trailers (f _ s) (g _ t)

attribute_of : (n : List ℕ) {ts : List Token} → Two c.dot (k.Name n) ts → Trails None (t.Attribute n) ts
attribute_of n (two p q) = G.Trails.attribute None n p q

index_of : {a : Expr} {ts : List Token} → Again (words a) (Exprs None a) →
    Enclosed c.open_square c.close_square (words a) ts → Trails None (t.Index a) ts
index_of f (enclosed p q s) = G.Trails.index p q (f _ s)

slice_of : {a b : Option Expr} {ts : List Token} → Again (expr_or a) (Maybe None a) → Again (expr_or b) (Maybe None b)
    → Enclosed c.open_square c.close_square (expr_or a ++ c.colon ∷ expr_or b) ts → Trails None (t.Slice a b) ts
slice_of {a = a} {b = b} f g (enclosed p r s) = inner p r (parts (expr_or a) c.colon (expr_or b) s)
  where
    inner : (p r : Place) {us : List Token} → Parted (expr_or a) c.colon (expr_or b) us →
        Trails None (t.Slice a b) (at c.open_square p ∷ us ++ at c.close_square r ∷ [])
    inner p r (parted q x y) = G.Trails.slice p q r (f _ x) (g _ y)

no_call_of : {ts : List Token} → Two c.open_round c.close_round ts → Trails None (t.Call [] []) ts
no_call_of (two p q) = G.Trails.no_call None p q

call_of : {es : List Expr} {ns : List Named} {ts : List Token} →
    Again (commas (map words es ++ map words_named ns)) (Args None es ns) →
    Enclosed c.open_round c.close_round (commas (map words es ++ map words_named ns)) ts → Trails None (t.Call es ns) ts
call_of f (enclosed p q s) = G.Trails.call p q (f _ s)

no_test_of : {ts : List Token} → Spells [] ts → Maybe None None ts
no_test_of Spells.nil = G.Maybe.nothing None

more_args_of : {a : Expr} {es : List Expr} {ns : List Named} {ts : List Token} → Again (words a) (Is None 14 a) →
    Again (commas (map words es ++ map words_named ns)) (Args None es ns) →
    Parted (words a) c.comma (commas (map words es ++ map words_named ns)) ts → Args None (a ∷ es) ns ts
more_args_of f g (parted p s t) = G.Args.more_args p (f _ s) (g _ t)

-- a name, `=` and a test
data Given (n : List ℕ) (a : Expr) : List Token → Type 0 where
  given : (p q : Place) {ts : List Token} → Is None 14 a ts → Given n a (at (k.Name n) p ∷ at c.assign q ∷ ts)

given_of : (n : List ℕ) {a : Expr} {ts : List Token} → Again (words a) (Is None 14 a) →
    First (k.Name n) (c.assign ∷ words a) ts → Given n a ts
given_of n {a = a} f (first p s) = inner p (begins s)
  where
    inner : (p : Place) {us : List Token} → First c.assign (words a) us → Given n a (at (k.Name n) p ∷ us)
    inner p (first q t) = given p q (f _ t)

named_of : (n : List ℕ) {a : Expr} {ts : List Token} → Given n a ts →
    Args None [] (record { name = n; value = a } ∷ []) ts
named_of n (given p q h) = G.Args.named n p q h

more_named_of : (n : List ℕ) {a : Expr} {ns : List Named} {ts : List Token} → Again (words a) (Is None 14 a) →
    Again (commas (map words_named ns)) (Args None [] ns) →
    Parted (k.Name n ∷ c.assign ∷ words a) c.comma (commas (map words_named ns)) ts →
    Args None [] (record { name = n; value = a } ∷ ns) ts
more_named_of n {a = a} {ns = ns} f g (parted r s t) = inner r (given_of n f (begins s)) (g _ t)
  where
    inner : (r : Place) {us vs : List Token} → Given n a us → Args None [] ns vs →
        Args None [] (record { name = n; value = a } ∷ ns) (us ++ at c.comma r ∷ vs)
    inner r (given p q h) i = G.Args.more_named n p q r h i

-- ---- all together

mutual
  pub as_is : {n : ℕ} {a : Expr} {us : List Token} → Is None n a us → (ts : List Token) → Spells (words a) ts →
      Is None n a ts
  as_is (G.Is.up n l h) ts s = G.Is.up n l (as_is h ts s)
  as_is (G.Is.name _ n p) ts s = name_of n (alone (by (sp.words_name n) s))
  as_is (G.Is.int _ n p) ts s = int_of n (alone (by (sp.words_int n) s))
  as_is (G.Is.strings {s = n} h) ts s = str_of n (alone (by (sp.words_str n) s))
  as_is (G.Is.group p q {a = a} h) ts s = group_of (λ us t. as_is h us t) (encloses _ _ _ (by (sp.words_group a) s))
  as_is (G.Is.unit _ p q) ts s = unit_of (both (by (sp.words_tuple []) s))
  as_is (G.Is.round p q {es = es} h) ts s =
      round_of (λ us t. as_commas h us t) (encloses _ _ _ (by (sp.words_tuple es) s))
  as_is (G.Is.no_list _ p q) ts s = no_list_of (both (by (sp.words_list []) s))
  as_is (G.Is.list p q {es = es} h) ts s = list_of (λ us t. as_tests h us t) (encloses _ _ _ (by (sp.words_list es) s))
  as_is (G.Is.no_dict _ p q) ts s = no_dict_of (both (by (sp.words_dict []) s))
  as_is (G.Is.dict p q {ps = ps} h) ts s = dict_of (λ us t. as_pairs h us t) (encloses _ _ _ (by (sp.words_dict ps) s))
  as_is (G.Is.trail {a = a} {rs = rs} h i) ts s = trail_of (λ us t. as_is h us t) (λ us t. as_trailers i us t)
      (cuts _ _ (by (sp.words_trail a rs) s))
  as_is (G.Is.power p {a = a} {b = b} h i) ts s = power_of (λ us t. as_is h us t) (λ us t. as_is i us t)
      (parts _ _ _ (by (sp.words_power a b) s))
  as_is (G.Is.signed g p {a = a} h) ts s =
      signed_of g (λ us t. as_is h us t) (begins (by (sp.words_unary g a ∙ ap (λ z. z ++ words a) (sign_is g)) s))
  as_is (G.Is.chain l {a = a} {ls = ls} h i) ts s = chain_of l (λ us t. as_is h us t) (λ us t. as_links i us t)
      (cuts _ _ (by (sp.words_chain l a ls) s))
  as_is (G.Is.negated p {a = a} h) ts s = not_of (λ us t. as_is h us t) (begins (by (sp.words_not a) s))
  as_is (G.Is.choice p q {a = a} {b = b} {d = d} h i j) ts s = choice_of (λ us t. as_is h us t) (λ us t. as_is i us t)
      (λ us t. as_is j us t) (parts _ _ _ (by (sp.words_choice a b d) s))

  pub as_exprs : {a : Expr} {us : List Token} → Exprs None a us → (ts : List Token) → Spells (words a) ts →
      Exprs None a ts
  as_exprs (G.Exprs.single h) ts s = G.Exprs.single (as_is h ts s)
  as_exprs (G.Exprs.tuple {es = es} h) ts s =
      G.Exprs.single (up_all (round_of (λ us t. as_commas h us t) (encloses _ _ _ (by (sp.words_tuple es) s))))

  pub as_tests : {es : List Expr} {b : Bool} {us : List Token} → Tests None es b us → (ts : List Token) →
      Spells (commas (map words es)) ts → Tests None es false ts
  as_tests (G.Tests.only h) ts s = G.Tests.only (as_is h ts (bare _ s))
  as_tests (G.Tests.only_comma p h) ts s = G.Tests.only (as_is h ts (bare _ s))
  as_tests (G.Tests.more_tests p {a = a} {es = es} h i) ts s =
      more_tests_of (λ us t. as_is h us t) (λ us t. as_tests i us t)
      (parts _ _ _ (by (ap (λ z. words a ++ z) (tests_led i)) s))

  pub as_commas : {es : List Expr} {us : List Token} → Commas None es us → (ts : List Token) →
      Spells (tuple_words (map words es)) ts → Commas None es ts
  as_commas (G.Commas.lone p h) ts s = lone_of (λ us t. as_is h us t) (closes _ _ s)
  as_commas (G.Commas.several p {a = a} {es = es} h i) ts s =
      several_of (λ us t. as_is h us t) (λ us t. as_tests i us t) (parts _ _ _ (by (tests_tuple (words a) i) s))

  as_pairs : {ps : List Pair} {us : List Token} → Pairs None ps us → (ts : List Token) →
      Spells (commas (map words_pair ps)) ts → Pairs None ps ts
  as_pairs (G.Pairs.pair p {a = a} {b = b} h i) ts s = pair_of (λ us t. as_is h us t) (λ us t. as_is i us t)
      (parts _ _ _ (by (sp.words_pair_is (record { key = a; value = b })) (bare _ s)))
  as_pairs (G.Pairs.pair_comma p q {a = a} {b = b} h i) ts s = pair_of (λ us t. as_is h us t) (λ us t. as_is i us t)
      (parts _ _ _ (by (sp.words_pair_is (record { key = a; value = b })) (bare _ s)))
  as_pairs (G.Pairs.more_pairs p q {a = a} {b = b} {ps = ps} h i j) ts s =
      more_pairs_of (λ us t. as_is h us t) (λ us t. as_is i us t) (λ us t. as_pairs j us t)
      (parts _ _ _ (by (ap (λ z. z ++ led c.comma (map words_pair ps))
      (sp.words_pair_is (record { key = a; value = b })) ∙ ap (λ z. (words a ++ c.colon ∷ words b) ++ z) (pairs_led j))
      s))

  as_links : {l : Level} {ls : List Link} {us : List Token} → Links None l ls us → (ts : List Token) →
      Spells (all_words (map words_link ls)) ts → Links None l ls ts
  as_links (G.Links.link l o p q {a = a} x h) ts s =
      link_of l o x (λ us t. as_is h us t)
      (cuts _ _ (by (sp.words_link_is (record { operator = o; operand = a })) (bare _ s)))
  as_links (G.Links.more_links l o p q {a = a} {ls = ls} x h i) ts s =
      more_links_of l o x (λ us t. as_is h us t) (λ us t. as_links i us t)
      (cuts _ _ (by (ap (λ z. z ++ all_words (map words_link ls))
      (sp.words_link_is (record { operator = o; operand = a }))) s))

  as_trailers : {rs : List Trailer} {us : List Token} → Trailers None rs us → (ts : List Token) →
      Spells (all_words (map words_trailer rs)) ts → Trailers None rs ts
  as_trailers (G.Trailers.last h) ts s = G.Trailers.last (as_trails h ts (bare _ s))
  as_trailers (G.Trailers.more_trailers h i) ts s =
      more_trailers_of (λ us t. as_trails h us t) (λ us t. as_trailers i us t) (cuts _ _ s)

  as_trails : {r : Trailer} {us : List Token} → Trails None r us → (ts : List Token) → Spells (words_trailer r) ts →
      Trails None r ts
  as_trails (G.Trails.attribute _ n p q) ts s = attribute_of n (both (by (sp.words_attribute n) s))
  as_trails (G.Trails.index p q {a = a} h) ts s =
      index_of (λ us t. as_exprs h us t) (encloses _ _ _ (by (sp.words_index a) s))
  as_trails (G.Trails.slice p q r {a = a} {b = b} h i) ts s =
      slice_of (λ us t. as_maybe h us t) (λ us t. as_maybe i us t) (encloses _ _ _ (by (sp.words_slice a b) s))
  as_trails (G.Trails.no_call _ p q) ts s = no_call_of (both (by (sp.words_call [] []) s))
  as_trails (G.Trails.call p q {es = es} {ns = ns} h) ts s =
      call_of (λ us t. as_args h us t) (encloses _ _ _ (by (sp.words_call es ns) s))

  pub as_maybe : {a : Option Expr} {us : List Token} → Maybe None a us → (ts : List Token) → Spells (expr_or a) ts →
      Maybe None a ts
  as_maybe (G.Maybe.nothing _) ts s = no_test_of s
  as_maybe (G.Maybe.just h) ts s = G.Maybe.just (as_is h ts s)

  as_args : {es : List Expr} {ns : List Named} {us : List Token} → Args None es ns us → (ts : List Token) →
      Spells (commas (map words es ++ map words_named ns)) ts → Args None es ns ts
  as_args (G.Args.arg h) ts s = G.Args.arg (as_is h ts (bare _ s))
  as_args (G.Args.arg_comma p h) ts s = G.Args.arg (as_is h ts (bare _ s))
  as_args (G.Args.more_args p {a = a} h i) ts s = more_args_of (λ us t. as_is h us t) (λ us t. as_args i us t)
      (parts _ _ _ (by (ap (λ z. words a ++ z) (args_led i)) s))
  as_args (G.Args.named n p q {a = a} h) ts s =
      named_of n (given_of n (λ us t. as_is h us t)
      (begins (by (sp.words_named_is (record { name = n; value = a })) (bare _ s))))
  as_args (G.Args.named_comma n p q r {a = a} h) ts s =
      named_of n (given_of n (λ us t. as_is h us t)
      (begins (by (sp.words_named_is (record { name = n; value = a })) (bare _ s))))
  as_args (G.Args.more_named n p q r {a = a} {ns = ns} h i) ts s =
      more_named_of n (λ us t. as_is h us t) (λ us t. as_args i us t)
      (parts _ _ _ (by (ap (λ z. z ++ led c.comma (map words_named ns))
      (sp.words_named_is (record { name = n; value = a })) ∙
      ap (λ z. (k.Name n ∷ c.assign ∷ words a) ++ z) (args_led i)) s))
