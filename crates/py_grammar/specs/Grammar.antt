-- The grammar of expressions: which tokens spell which tree. States `docs/LANGUAGE.md`, "Grammar", and of "What is left
-- out" what stands in expressions.
-- Each family has a first argument of marks: None is the language; Some c adds the construct c, which is left out of
-- the language.
-- A mark stands for what begins with the tokens up to it; its tree only holds its parts, for their height.
use Rattle.std.specs.Prelude.{◌≡◌, ℕ, suc, Bool, true, false, ◌<◌, List, [], ◌∷◌, ◌++◌, Option, Some, None}
use Rattle.std.specs.Prelude.{ℤ}
use Rattle.py_tokens.specs.declared.token.Token.{Token}
use Rattle.py_tokens.specs.declared.token.Other.TheVariants as other
use Rattle.py_tokens.specs.declared.token.TokenKind.TheVariants as k
use Rattle.py_grammar.specs.Codes as c
use Rattle.py_tokens.specs.declared.token.Place.{Place}
use Rattle.py_tokens.specs.Place.{token_at as at}
use Rattle.py_tree.specs.declared.expr.Expr.{Expr}
use Rattle.py_tree.specs.declared.expr.Expr.TheVariants as e
use Rattle.py_tree.specs.declared.expr.Link.{Link}
use Rattle.py_tree.specs.declared.expr.Pair.{Pair}
use Rattle.py_tree.specs.declared.expr.Trailer.{Trailer}
use Rattle.py_tree.specs.declared.expr.Trailer.TheVariants as t
use Rattle.py_tree.specs.declared.expr.Named.{Named}
use Rattle.py_tree.specs.declared.expr.Level.{Level}
use Rattle.py_tree.specs.declared.expr.Operator.{Operator}
use Rattle.py_tree.specs.declared.expr.Sign.{Sign}
use Rattle.py_base.specs.declared.refusal.Construct.{Construct}
use Rattle.py_base.specs.declared.refusal.Construct.TheVariants as left
use Rattle.py_grammar.specs.Words.{below, level_of, spelled, sign_word}

abbrev pub Marks : Type 0
Marks = Option Construct

-- neighbouring strings join
pub data Strings : Marks → List ℕ → List Token → Type 0 where
  one : (x : Marks) (s : List ℕ) (p : Place) → Strings x s (at (k.Str s) p ∷ [])
  more : (x : Marks) (s : List ℕ) (p : Place) {r : List ℕ} {ts : List Token} → Strings x r ts →
      Strings x (s ++ r) (at (k.Str s) p ∷ ts)
  unicode : (p : Place) → Strings (Some left.Unicode) [] (at (k.Other other.Unicode) p ∷ [])

-- The levels of expressions, from inside out:
-- 0 atom 1 with trailers 2 power 3 factor 4 term 5 sum 6 shift 7 band 8 xor 9 bor 10 comp 11 not 12 and 13 or 14 test
mutual
  pub data Is : Marks → ℕ → Expr → List Token → Type 0 where
    -- what a level below gives
    up : (n : ℕ) {x : Marks} {a : Expr} {ts : List Token} → n < 14 → Is x n a ts → Is x (suc n) a ts
    name : (x : Marks) (n : List ℕ) (p : Place) → Is x 0 (e.Name n) (at (k.Name n) p ∷ [])
    int : (x : Marks) (n : ℤ) (p : Place) → Is x 0 (e.Int n) (at (k.Int n) p ∷ [])
    strings : {x : Marks} {s : List ℕ} {ts : List Token} → Strings x s ts → Is x 0 (e.Str s) ts
    group : (p q : Place) {x : Marks} {a : Expr} {ts : List Token} → Is x 14 a ts →
        Is x 0 (e.Group a) (at c.open_round p ∷ ts ++ at c.close_round q ∷ [])
    unit : (x : Marks) (p q : Place) → Is x 0 (e.Tuple []) (at c.open_round p ∷ at c.close_round q ∷ [])
    round : (p q : Place) {x : Marks} {es : List Expr} {ts : List Token} → Commas x es ts →
        Is x 0 (e.Tuple es) (at c.open_round p ∷ ts ++ at c.close_round q ∷ [])
    no_list : (x : Marks) (p q : Place) → Is x 0 (e.List []) (at c.open_square p ∷ at c.close_square q ∷ [])
    list : (p q : Place) {x : Marks} {es : List Expr} {b : Bool} {ts : List Token} → Tests x es b ts →
        Is x 0 (e.List es) (at c.open_square p ∷ ts ++ at c.close_square q ∷ [])
    no_dict : (x : Marks) (p q : Place) → Is x 0 (e.Dict []) (at c.open_brace p ∷ at c.close_brace q ∷ [])
    dict : (p q : Place) {x : Marks} {ps : List Pair} {ts : List Token} → Pairs x ps ts →
        Is x 0 (e.Dict ps) (at c.open_brace p ∷ ts ++ at c.close_brace q ∷ [])
    trail : {x : Marks} {a : Expr} {rs : List Trailer} {ts us : List Token} → Is x 0 a ts → Trailers x rs us →
        Is x 1 (e.Trail a rs) (ts ++ us)
    power : (p : Place) {x : Marks} {a b : Expr} {ts us : List Token} → Is x 1 a ts → Is x 3 b us →
        Is x 2 (e.Power a b) (ts ++ at c.power p ∷ us)
    signed : (s : Sign) (p : Place) {x : Marks} {a : Expr} {ts : List Token} → Is x 3 a ts →
        Is x 3 (e.Unary s a) (at (sign_word s) p ∷ ts)
    chain : (l : Level) {x : Marks} {a : Expr} {ls : List Link} {ts us : List Token} → Is x (below l) a ts →
        Links x l ls us → Is x (suc (below l)) (e.Chain l a ls) (ts ++ us)
    negated : (p : Place) {x : Marks} {a : Expr} {ts : List Token} → Is x 11 a ts → Is x 11 (e.Not a) (at c.not_ p ∷ ts)
    choice : (p q : Place) {x : Marks} {a b d : Expr} {ts us vs : List Token} → Is x 13 a ts → Is x 13 b us →
        Is x 14 d vs → Is x 14 (e.Choice a b d) (ts ++ at c.if_ p ∷ us ++ at c.else_ q ∷ vs)
    -- what is left out
    float : (p : Place) → Is (Some left.Float) 0 (e.Tuple []) (at (k.Other other.Float) p ∷ [])
    long : (p : Place) → Is (Some left.Long) 0 (e.Tuple []) (at (k.Other other.Long) p ∷ [])
    backquote : (p : Place) → Is (Some left.Backquote) 0 (e.Tuple []) (at c.backquote p ∷ [])
    lambda : (p : Place) → Is (Some left.Lambda) 14 (e.Tuple []) (at c.lambda_ p ∷ [])
    yielded : (p q : Place) → Is (Some left.Generator) 0 (e.Tuple []) (at c.open_round p ∷ at c.yield_ q ∷ [])
    -- `(a for`, `[a for`, `{a for`
    generator : (p q : Place) {a : Expr} {ts : List Token} → Is (Some left.Comprehension) 14 a ts →
        Is (Some left.Comprehension) 0 (e.Group a) (at c.open_round p ∷ ts ++ at c.for_ q ∷ [])
    comprehension : (p q : Place) {a : Expr} {ts : List Token} → Is (Some left.Comprehension) 14 a ts →
        Is (Some left.Comprehension) 0 (e.List (a ∷ [])) (at c.open_square p ∷ ts ++ at c.for_ q ∷ [])
    set_of : (p q : Place) {a : Expr} {ts : List Token} → Is (Some left.Comprehension) 14 a ts →
        Is (Some left.Comprehension) 0 (e.Dict (record { key = a; value = a } ∷ []))
        (at c.open_brace p ∷ ts ++ at c.for_ q ∷ [])
    -- `{a: b for`
    dict_of : (p q r : Place) {a b : Expr} {ts us : List Token} → Is (Some left.Comprehension) 14 a ts →
        Is (Some left.Comprehension) 14 b us →
        Is (Some left.Comprehension) 0 (e.Dict (record { key = a; value = b } ∷ []))
        (at c.open_brace p ∷ ts ++ at c.colon q ∷ us ++ at c.for_ r ∷ [])
    -- `{a,`, `{a}`
    set : (p q : Place) {a : Expr} {ts : List Token} → Is (Some left.Set) 14 a ts →
        Is (Some left.Set) 0 (e.Dict (record { key = a; value = a } ∷ [])) (at c.open_brace p ∷ ts ++ at c.comma q ∷ [])
    set_one : (p q : Place) {a : Expr} {ts : List Token} → Is (Some left.Set) 14 a ts →
        Is (Some left.Set) 0 (e.Dict (record { key = a; value = a } ∷ []))
        (at c.open_brace p ∷ ts ++ at c.close_brace q ∷ [])

  -- one test, or a tuple
  pub data Exprs : Marks → Expr → List Token → Type 0 where
    single : {x : Marks} {a : Expr} {ts : List Token} → Is x 14 a ts → Exprs x a ts
    tuple : {x : Marks} {es : List Expr} {ts : List Token} → Commas x es ts → Exprs x (e.Tuple es) ts

  -- one or more tests with commas between them; the truth value says that a comma trails
  pub data Tests : Marks → List Expr → Bool → List Token → Type 0 where
    only : {x : Marks} {a : Expr} {ts : List Token} → Is x 14 a ts → Tests x (a ∷ []) false ts
    only_comma : (p : Place) {x : Marks} {a : Expr} {ts : List Token} → Is x 14 a ts →
        Tests x (a ∷ []) true (ts ++ at c.comma p ∷ [])
    more_tests : (p : Place) {x : Marks} {a : Expr} {es : List Expr} {b : Bool} {ts us : List Token} → Is x 14 a ts →
        Tests x es b us → Tests x (a ∷ es) b (ts ++ at c.comma p ∷ us)

  -- the same, with at least one comma
  pub data Commas : Marks → List Expr → List Token → Type 0 where
    lone : (p : Place) {x : Marks} {a : Expr} {ts : List Token} → Is x 14 a ts →
        Commas x (a ∷ []) (ts ++ at c.comma p ∷ [])
    several : (p : Place) {x : Marks} {a : Expr} {es : List Expr} {b : Bool} {ts us : List Token} → Is x 14 a ts →
        Tests x es b us → Commas x (a ∷ es) (ts ++ at c.comma p ∷ us)

  pub data Pairs : Marks → List Pair → List Token → Type 0 where
    pair : (p : Place) {x : Marks} {a b : Expr} {ts us : List Token} → Is x 14 a ts → Is x 14 b us →
        Pairs x (record { key = a; value = b } ∷ []) (ts ++ at c.colon p ∷ us)
    pair_comma : (p q : Place) {x : Marks} {a b : Expr} {ts us : List Token} → Is x 14 a ts → Is x 14 b us →
        Pairs x (record { key = a; value = b } ∷ []) (ts ++ at c.colon p ∷ us ++ at c.comma q ∷ [])
    more_pairs : (p q : Place) {x : Marks} {a b : Expr} {ps : List Pair} {ts us vs : List Token} → Is x 14 a ts →
        Is x 14 b us → Pairs x ps vs → Pairs x (record { key = a; value = b } ∷ ps)
        (ts ++ at c.colon p ∷ us ++ at c.comma q ∷ vs)

  -- one or more operators of a level with their operands
  pub data Links : Marks → Level → List Link → List Token → Type 0 where
    link : (l : Level) (o : Operator) (p q : Place) {x : Marks} {a : Expr} {ts : List Token} → level_of o ≡ Some l →
        Is x (below l) a ts → Links x l (record { operator = o; operand = a } ∷ []) (spelled o p q ++ ts)
    more_links : (l : Level) (o : Operator) (p q : Place) {x : Marks} {a : Expr} {ls : List Link} {ts us : List Token}
        → level_of o ≡ Some l → Is x (below l) a ts → Links x l ls us →
        Links x l (record { operator = o; operand = a } ∷ ls) (spelled o p q ++ ts ++ us)

  -- one or more trailers
  pub data Trailers : Marks → List Trailer → List Token → Type 0 where
    last : {x : Marks} {r : Trailer} {ts : List Token} → Trails x r ts → Trailers x (r ∷ []) ts
    more_trailers : {x : Marks} {r : Trailer} {rs : List Trailer} {ts us : List Token} → Trails x r ts →
        Trailers x rs us → Trailers x (r ∷ rs) (ts ++ us)

  pub data Trails : Marks → Trailer → List Token → Type 0 where
    attribute : (x : Marks) (n : List ℕ) (p q : Place) → Trails x (t.Attribute n) (at c.dot p ∷ at (k.Name n) q ∷ [])
    index : (p q : Place) {x : Marks} {a : Expr} {ts : List Token} → Exprs x a ts →
        Trails x (t.Index a) (at c.open_square p ∷ ts ++ at c.close_square q ∷ [])
    slice : (p q r : Place) {x : Marks} {a b : Option Expr} {ts us : List Token} → Maybe x a ts → Maybe x b us →
        Trails x (t.Slice a b) (at c.open_square p ∷ ts ++ at c.colon q ∷ us ++ at c.close_square r ∷ [])
    no_call : (x : Marks) (p q : Place) → Trails x (t.Call [] []) (at c.open_round p ∷ at c.close_round q ∷ [])
    call : (p q : Place) {x : Marks} {es : List Expr} {ns : List Named} {ts : List Token} → Args x es ns ts →
        Trails x (t.Call es ns) (at c.open_round p ∷ ts ++ at c.close_round q ∷ [])
    -- `f(a for`
    generator_call : (p q : Place) {a : Expr} {ts : List Token} → Is (Some left.Comprehension) 14 a ts →
        Trails (Some left.Comprehension) (t.Call (a ∷ []) []) (at c.open_round p ∷ ts ++ at c.for_ q ∷ [])
    -- the second colon of a slice, or a comma in it
    long_slice : (p q r : Place) {a b : Option Expr} {ts us : List Token} → Maybe (Some left.SliceForm) a ts →
        Maybe (Some left.SliceForm) b us →
        Trails (Some left.SliceForm) (t.Slice a b) (at c.open_square p ∷ ts ++ at c.colon q ∷ us ++ at c.colon r ∷ [])
    slices : (p q r : Place) {a b : Option Expr} {ts us : List Token} → Maybe (Some left.SliceForm) a ts →
        Maybe (Some left.SliceForm) b us →
        Trails (Some left.SliceForm) (t.Slice a b) (at c.open_square p ∷ ts ++ at c.colon q ∷ us ++ at c.comma r ∷ [])

  -- a test or nothing
  pub data Maybe : Marks → Option Expr → List Token → Type 0 where
    nothing : (x : Marks) → Maybe x None []
    just : {x : Marks} {a : Expr} {ts : List Token} → Is x 14 a ts → Maybe x (Some a) ts

  -- one or more arguments, those by keyword last, with or without a trailing comma
  pub data Args : Marks → List Expr → List Named → List Token → Type 0 where
    arg : {x : Marks} {a : Expr} {ts : List Token} → Is x 14 a ts → Args x (a ∷ []) [] ts
    arg_comma : (p : Place) {x : Marks} {a : Expr} {ts : List Token} → Is x 14 a ts →
        Args x (a ∷ []) [] (ts ++ at c.comma p ∷ [])
    more_args : (p : Place) {x : Marks} {a : Expr} {es : List Expr} {ns : List Named} {ts us : List Token} →
        Is x 14 a ts → Args x es ns us → Args x (a ∷ es) ns (ts ++ at c.comma p ∷ us)
    named : (n : List ℕ) (p q : Place) {x : Marks} {a : Expr} {ts : List Token} → Is x 14 a ts →
        Args x [] (record { name = n; value = a } ∷ []) (at (k.Name n) p ∷ at c.assign q ∷ ts)
    named_comma : (n : List ℕ) (p q r : Place) {x : Marks} {a : Expr} {ts : List Token} → Is x 14 a ts →
        Args x [] (record { name = n; value = a } ∷ []) (at (k.Name n) p ∷ at c.assign q ∷ ts ++ at c.comma r ∷ [])
    more_named : (n : List ℕ) (p q r : Place) {x : Marks} {a : Expr} {ns : List Named} {ts us : List Token} →
        Is x 14 a ts → Args x [] ns us →
        Args x [] (record { name = n; value = a } ∷ ns) (at (k.Name n) p ∷ at c.assign q ∷ ts ++ at c.comma r ∷ us)
    -- `*a`, `**a`
    starred : (p : Place) → Args (Some left.StarArgument) [] [] (at c.star p ∷ [])
    double_starred : (p : Place) → Args (Some left.StarArgument) [] [] (at c.power p ∷ [])
