-- The grammar of statements, blocks and modules. States `docs/LANGUAGE.md`, "Grammar", and of "What is left out" what
-- stands in statements.
use Rattle.std.specs.Prelude.{◌≡◌, ℕ, Bool, true, false, List, [], ◌∷◌, ◌++◌, Option, Some, None}
use Rattle.py_tokens.specs.declared.token.Token.{Token}
use Rattle.py_tokens.specs.declared.token.TokenKind.TheVariants as k
use Rattle.py_grammar.specs.Codes as c
use Rattle.py_tokens.specs.declared.token.Place.{Place}
use Rattle.py_tokens.specs.Place.{token_at as at}
use Rattle.py_tree.specs.Form.{form, is_target, is_single}
use Rattle.py_tree.specs.declared.expr.Expr.{Expr}
use Rattle.py_tree.specs.declared.expr.Expr.TheVariants as e
use Rattle.py_tree.specs.declared.expr.Operator.{Operator}
use Rattle.py_tree.specs.declared.stmt.Stmt.{Stmt}
use Rattle.py_tree.specs.declared.stmt.Stmt.TheVariants as s
use Rattle.py_tree.specs.declared.stmt.Module.{Module}
use Rattle.py_tree.specs.declared.stmt.Imported.{Imported}
use Rattle.py_tree.specs.declared.stmt.Param.{Param}
use Rattle.py_tree.specs.declared.stmt.Arm.{Arm}
use Rattle.py_tree.specs.declared.stmt.Clause.{Clause}
use Rattle.py_tree.specs.declared.stmt.Handler.{Handler}
use Rattle.py_base.specs.declared.refusal.Construct.TheVariants as left
use Rattle.py_grammar.specs.Words.{line_of, augment_word, is_module, is_member}
use Rattle.py_grammar.specs.Grammar.{Marks, Is, Exprs, Tests, Maybe}

-- A slice as a target is left out.
abbrev pub slices : Marks → Bool
slices (Some left.SliceForm) = true
slices _ = false

-- a target: an atom with or without trailers, of the form of a target
pub record Target (x : Marks) (a : Expr) (ts : List Token) : Type 0 where
  pub spells : Is x 1 a ts
  pub is : is_target (slices x) (form a) ≡ true

-- one or more targets with commas between them, and none after them
pub data Targets : Marks → List Expr → List Token → Type 0 where
  one : {x : Marks} {a : Expr} {ts : List Token} → Target x a ts → Targets x (a ∷ []) ts
  more : (p : Place) {x : Marks} {a : Expr} {es : List Expr} {ts us : List Token} → Target x a ts → Targets x es us →
      Targets x (a ∷ es) (ts ++ at c.comma p ∷ us)

-- the targets of `for`: a comma makes a tuple
pub data Loops : Marks → Expr → List Token → Type 0 where
  single : {x : Marks} {a : Expr} {ts : List Token} → Target x a ts → Loops x a ts
  lone : (p : Place) {x : Marks} {a : Expr} {ts : List Token} → Target x a ts →
      Loops x (e.Tuple (a ∷ [])) (ts ++ at c.comma p ∷ [])
  several : (p : Place) {x : Marks} {a b : Expr} {es : List Expr} {ts us : List Token} → Target x a ts →
      Targets x (b ∷ es) us → Loops x (e.Tuple (a ∷ b ∷ es)) (ts ++ at c.comma p ∷ us)
  several_comma : (p q : Place) {x : Marks} {a b : Expr} {es : List Expr} {ts us : List Token} → Target x a ts →
      Targets x (b ∷ es) us → Loops x (e.Tuple (a ∷ b ∷ es)) (ts ++ at c.comma p ∷ us ++ at c.comma q ∷ [])

-- targets and a value, with `=` between them
pub data Equals : Marks → List Expr → Expr → List Token → Type 0 where
  value : {x : Marks} {a : Expr} {ts : List Token} → Exprs x a ts → Equals x [] a ts
  equals : (p : Place) {x : Marks} {a b : Expr} {es : List Expr} {ts us : List Token} → Exprs x a ts →
      is_target (slices x) (form a) ≡ true → Equals x es b us → Equals x (a ∷ es) b (ts ++ at c.assign p ∷ us)
  yielded : (p : Place) → Equals (Some left.Generator) [] (e.Tuple []) (at c.yield_ p ∷ [])

pub data Names : List (List ℕ) → List Token → Type 0 where
  one : (n : List ℕ) (p : Place) → Names (n ∷ []) (at (k.Name n) p ∷ [])
  more : (n : List ℕ) (p q : Place) {ns : List (List ℕ)} {ts : List Token} → Names ns ts →
      Names (n ∷ ns) (at (k.Name n) p ∷ at c.comma q ∷ ts)

-- `as NAME` or nothing
pub data Renamed : Option (List ℕ) → List Token → Type 0 where
  same : Renamed None []
  renamed : (n : List ℕ) (p q : Place) → Renamed (Some n) (at c.as_ p ∷ at (k.Name n) q ∷ [])

-- one or more names that may be imported, each with its new name; the test says which
pub data Imports : (List ℕ → Bool) → Marks → List Imported → List Token → Type 0 where
  one : (may : List ℕ → Bool) (x : Marks) (n : List ℕ) (p : Place) {m : Option (List ℕ)} {ts : List Token} →
      may n ≡ true → Renamed m ts → Imports may x (record { name = n; bound = m } ∷ []) (at (k.Name n) p ∷ ts)
  more : (may : List ℕ → Bool) (n : List ℕ) (p q : Place) {x : Marks} {m : Option (List ℕ)} {is : List Imported}
      {ts us : List Token} → may n ≡ true → Renamed m ts → Imports may x is us →
      Imports may x (record { name = n; bound = m } ∷ is) (at (k.Name n) p ∷ ts ++ at c.comma q ∷ us)
  wrong : (may : List ℕ → Bool) (n : List ℕ) (p : Place) → may n ≡ false →
      Imports may (Some left.Import) [] (at (k.Name n) p ∷ [])

pub data Simple : Marks → Stmt → List Token → Type 0 where
  run : {x : Marks} {a : Expr} {ts : List Token} → Exprs x a ts → Simple x (s.Do (line_of ts) a) ts
  assign : {x : Marks} {a b : Expr} {es : List Expr} {ts : List Token} → Equals x (a ∷ es) b ts →
      Simple x (s.Assign (line_of ts) (a ∷ es) b) ts
  augment : (n : ℕ) (o : Operator) (p : Place) {x : Marks} {a b : Expr} {ts us : List Token} → augment_word o ≡ Some n
      → Exprs x a ts → is_single (slices x) (form a) ≡ true → Exprs x b us →
      Simple x (s.Augment (line_of ts) a o b) (ts ++ at (k.Op n) p ∷ us)
  print_end : (x : Marks) (p : Place) → Simple x (s.Print p.line [] false) (at c.print_ p ∷ [])
  print : (p : Place) {x : Marks} {es : List Expr} {b : Bool} {ts : List Token} → Tests x es b ts →
      Simple x (s.Print p.line es b) (at c.print_ p ∷ ts)
  pass : (x : Marks) (p : Place) → Simple x (s.Pass p.line) (at c.pass_ p ∷ [])
  break : (x : Marks) (p : Place) → Simple x (s.Break p.line) (at c.break_ p ∷ [])
  continue : (x : Marks) (p : Place) → Simple x (s.Continue p.line) (at c.continue_ p ∷ [])
  return_none : (x : Marks) (p : Place) → Simple x (s.Return p.line None) (at c.return_ p ∷ [])
  return : (p : Place) {x : Marks} {a : Expr} {ts : List Token} → Exprs x a ts →
      Simple x (s.Return p.line (Some a)) (at c.return_ p ∷ ts)
  raise_none : (x : Marks) (p : Place) → Simple x (s.Raise p.line None None) (at c.raise_ p ∷ [])
  raise_one : (p : Place) {x : Marks} {a : Expr} {ts : List Token} → Is x 14 a ts →
      Simple x (s.Raise p.line (Some a) None) (at c.raise_ p ∷ ts)
  raise_two : (p q : Place) {x : Marks} {a b : Expr} {ts us : List Token} → Is x 14 a ts → Is x 14 b us →
      Simple x (s.Raise p.line (Some a) (Some b)) (at c.raise_ p ∷ ts ++ at c.comma q ∷ us)
  del : (p : Place) {x : Marks} {es : List Expr} {ts : List Token} → Targets x es ts →
      Simple x (s.Del p.line es) (at c.del_ p ∷ ts)
  global : (x : Marks) (p : Place) {ns : List (List ℕ)} {ts : List Token} → Names ns ts →
      Simple x (s.Global p.line ns) (at c.global_ p ∷ ts)
  assert_one : (p : Place) {x : Marks} {a : Expr} {ts : List Token} → Is x 14 a ts →
      Simple x (s.Assert p.line a None) (at c.assert_ p ∷ ts)
  assert_two : (p q : Place) {x : Marks} {a b : Expr} {ts us : List Token} → Is x 14 a ts → Is x 14 b us →
      Simple x (s.Assert p.line a (Some b)) (at c.assert_ p ∷ ts ++ at c.comma q ∷ us)
  import : (p : Place) {x : Marks} {is : List Imported} {ts : List Token} → Imports is_module x is ts →
      Simple x (s.Import p.line is) (at c.import_ p ∷ ts)
  from : (m : List ℕ) (p q r : Place) {x : Marks} {is : List Imported} {ts : List Token} → is_module m ≡ true →
      Imports (is_member m) x is ts → Simple x (s.From p.line m is)
      (at c.from_ p ∷ at (k.Name m) q ∷ at c.import_ r ∷ ts)
  -- what is left out
  exec : (p : Place) → Simple (Some left.Exec) (s.Pass p.line) (at c.exec_ p ∷ [])
  yield : (p : Place) → Simple (Some left.Generator) (s.Pass p.line) (at c.yield_ p ∷ [])
  augment_yield : (n : ℕ) (o : Operator) (p q : Place) {a : Expr} {ts : List Token} → augment_word o ≡ Some n →
      Exprs (Some left.Generator) a ts → is_single false (form a) ≡ true →
      Simple (Some left.Generator) (s.Augment (line_of ts) a o a) (ts ++ at (k.Op n) p ∷ at c.yield_ q ∷ [])
  print_to : (p q : Place) → Simple (Some left.PrintTo) (s.Pass p.line) (at c.print_ p ∷ at c.shift_right q ∷ [])
  traceback : (p q r : Place) {a b : Expr} {ts us : List Token} → Is (Some left.Traceback) 14 a ts →
      Is (Some left.Traceback) 14 b us → Simple (Some left.Traceback) (s.Raise p.line (Some a) (Some b))
      (at c.raise_ p ∷ ts ++ at c.comma q ∷ us ++ at c.comma r ∷ [])
  from_wrong : (m : List ℕ) (p q : Place) → is_module m ≡ false →
      Simple (Some left.Import) (s.Pass p.line) (at c.from_ p ∷ at (k.Name m) q ∷ [])

-- simple statements on one line, up to its Newline
pub data Line : Marks → List Stmt → List Token → Type 0 where
  end : (p : Place) {x : Marks} {a : Stmt} {ts : List Token} → Simple x a ts →
      Line x (a ∷ []) (ts ++ at k.Newline p ∷ [])
  end_semicolon : (p q : Place) {x : Marks} {a : Stmt} {ts : List Token} → Simple x a ts →
      Line x (a ∷ []) (ts ++ at c.semicolon p ∷ at k.Newline q ∷ [])
  more : (p : Place) {x : Marks} {a : Stmt} {as' : List Stmt} {ts us : List Token} → Simple x a ts → Line x as' us →
      Line x (a ∷ as') (ts ++ at c.semicolon p ∷ us)

-- a parameter; the truth value says whether it has a default
pub data Parameter : Marks → Bool → Param → List Token → Type 0 where
  plain : (x : Marks) (n : List ℕ) (p : Place) → Parameter x false (record { name = n; default = None })
      (at (k.Name n) p ∷ [])
  default : (n : List ℕ) (p q : Place) {x : Marks} {a : Expr} {ts : List Token} → Is x 14 a ts →
      Parameter x true (record { name = n; default = Some a }) (at (k.Name n) p ∷ at c.assign q ∷ ts)

-- Once one has a default, all that follow have: no step from true to false.
abbrev pub Later : Bool → Bool → Type 0
Later true false = ⊥
Later _ _ = Unit {0}

-- one or more parameters, after one with a default or not
pub data Parameters : Marks → Bool → List Param → List Token → Type 0 where
  one : (b d : Bool) {x : Marks} {a : Param} {ts : List Token} → Later b d → Parameter x d a ts →
      Parameters x b (a ∷ []) ts
  one_comma : (b d : Bool) (p : Place) {x : Marks} {a : Param} {ts : List Token} → Later b d → Parameter x d a ts →
      Parameters x b (a ∷ []) (ts ++ at c.comma p ∷ [])
  more : (b d : Bool) (p : Place) {x : Marks} {a : Param} {as' : List Param} {ts us : List Token} → Later b d →
      Parameter x d a ts → Parameters x d as' us → Parameters x b (a ∷ as') (ts ++ at c.comma p ∷ us)
  starred : (b : Bool) (p : Place) → Parameters (Some left.StarArgument) b [] (at c.star p ∷ [])
  double_starred : (b : Bool) (p : Place) → Parameters (Some left.StarArgument) b [] (at c.power p ∷ [])
  tuple : (b : Bool) (p : Place) → Parameters (Some left.TupleArgument) b [] (at c.open_round p ∷ [])

pub data Params : Marks → List Param → List Token → Type 0 where
  none : (x : Marks) → Params x [] []
  some : {x : Marks} {as' : List Param} {ts : List Token} → Parameters x false as' ts → Params x as' ts

-- the base of a class, in parentheses or not
pub data Base : Marks → Option Expr → List Token → Type 0 where
  none : (x : Marks) → Base x None []
  round : (p q : Place) {x : Marks} {a : Option Expr} {ts : List Token} → Maybe x a ts →
      Base x a (at c.open_round p ∷ ts ++ at c.close_round q ∷ [])
  bases : (p q : Place) {a : Expr} {ts : List Token} → Is (Some left.MultipleBases) 14 a ts →
      Base (Some left.MultipleBases) (Some a) (at c.open_round p ∷ ts ++ at c.comma q ∷ [])

-- what stands between `except` and its colon
pub data Caught : Marks → Option Expr → Option Expr → List Token → Type 0 where
  all : (x : Marks) → Caught x None None []
  test : {x : Marks} {a : Expr} {ts : List Token} → Is x 14 a ts → Caught x (Some a) None ts
  named : (p : Place) {x : Marks} {a b : Expr} {ts us : List Token} → Is x 14 a ts → Target x b us →
      Caught x (Some a) (Some b) (ts ++ at c.as_ p ∷ us)
  comma : (p : Place) {x : Marks} {a b : Expr} {ts us : List Token} → Is x 14 a ts → Target x b us →
      Caught x (Some a) (Some b) (ts ++ at c.comma p ∷ us)

mutual
  -- a statement; simple ones on one line are read together
  pub data Statement : Marks → List Stmt → List Token → Type 0 where
    line : {x : Marks} {as' : List Stmt} {ts : List Token} → Line x as' ts → Statement x as' ts
    compound : {x : Marks} {a : Stmt} {ts : List Token} → Compound x a ts → Statement x (a ∷ []) ts
    decorated : (p : Place) → Statement (Some left.Decorator) (s.Pass p.line ∷ []) (at c.at_sign p ∷ [])
    with' : (p : Place) → Statement (Some left.With) (s.Pass p.line ∷ []) (at c.with_ p ∷ [])

  -- one or more statements
  pub data Suite : Marks → List Stmt → List Token → Type 0 where
    last_of : {x : Marks} {as' : List Stmt} {ts : List Token} → Statement x as' ts → Suite x as' ts
    then : {x : Marks} {as' bs : List Stmt} {ts us : List Token} → Statement x as' ts → Suite x bs us →
        Suite x (as' ++ bs) (ts ++ us)

  pub data Block : Marks → List Stmt → List Token → Type 0 where
    short : {x : Marks} {as' : List Stmt} {ts : List Token} → Line x as' ts → Block x as' ts
    long : (p q r : Place) {x : Marks} {as' : List Stmt} {ts : List Token} → Suite x as' ts →
        Block x as' (at k.Newline p ∷ at k.Indent q ∷ ts ++ at k.Dedent r ∷ [])

  -- `elif` arms
  pub data Elifs : Marks → List Arm → List Token → Type 0 where
    no_elif : (x : Marks) → Elifs x [] []
    elif : (p q : Place) {x : Marks} {a : Expr} {as' : List Stmt} {rs : List Arm} {ts us vs : List Token} →
        Is x 14 a ts → Block x as' us → Elifs x rs vs → Elifs x (record { line = p.line; test = a; body = as' } ∷ rs)
        (at c.elif_ p ∷ ts ++ at c.colon q ∷ us ++ vs)

  pub data Else : Marks → Option Clause → List Token → Type 0 where
    no_else : (x : Marks) → Else x None []
    else' : (p q : Place) {x : Marks} {as' : List Stmt} {ts : List Token} → Block x as' ts →
        Else x (Some (record { line = p.line; body = as' })) (at c.else_ p ∷ at c.colon q ∷ ts)

  pub data Finally : Marks → Option Clause → List Token → Type 0 where
    no_finally : (x : Marks) → Finally x None []
    finally : (p q : Place) {x : Marks} {as' : List Stmt} {ts : List Token} → Block x as' ts →
        Finally x (Some (record { line = p.line; body = as' })) (at c.finally_ p ∷ at c.colon q ∷ ts)

  -- one or more `except` clauses; one without test is the last
  pub data Excepts : Marks → List Handler → List Token → Type 0 where
    except_one : (p q : Place) {x : Marks} {a b : Option Expr} {as' : List Stmt} {ts us : List Token} →
        Caught x a b ts → Block x as' us → Excepts x (record { line = p.line; test = a; target = b; body = as' } ∷ [])
        (at c.except_ p ∷ ts ++ at c.colon q ∷ us)
    except_more : (p q : Place) {x : Marks} {a : Expr} {b : Option Expr} {as' : List Stmt} {hs : List Handler}
        {ts us vs : List Token} → Caught x (Some a) b ts → Block x as' us → Excepts x hs vs →
        Excepts x (record { line = p.line; test = Some a; target = b; body = as' } ∷ hs)
        (at c.except_ p ∷ ts ++ at c.colon q ∷ us ++ vs)

  pub data Compound : Marks → Stmt → List Token → Type 0 where
    if' : (p q : Place) {x : Marks} {a : Expr} {as' : List Stmt} {rs : List Arm} {d : Option Clause}
        {ts us vs ws : List Token} → Is x 14 a ts → Block x as' us → Elifs x rs vs → Else x d ws →
        Compound x (s.If (record { line = p.line; test = a; body = as' } ∷ rs) d)
        (at c.if_ p ∷ ts ++ at c.colon q ∷ us ++ vs ++ ws)
    while : (p q : Place) {x : Marks} {a : Expr} {as' : List Stmt} {d : Option Clause} {ts us vs : List Token} →
        Is x 14 a ts → Block x as' us → Else x d vs →
        Compound x (s.While (record { line = p.line; test = a; body = as' }) d)
        (at c.while_ p ∷ ts ++ at c.colon q ∷ us ++ vs)
    for' : (p q r : Place) {x : Marks} {a b : Expr} {as' : List Stmt} {d : Option Clause} {ts us vs ws : List Token} →
        Loops x a ts → Exprs x b us → Block x as' vs → Else x d ws →
        Compound x (s.For p.line a b as' d) (at c.for_ p ∷ ts ++ at c.in_ q ∷ us ++ at c.colon r ∷ vs ++ ws)
    try : (p q : Place) {x : Marks} {as' : List Stmt} {hs : List Handler} {d f : Option Clause}
        {ts us vs ws : List Token} → Block x as' ts → Excepts x hs us → Else x d vs → Finally x f ws →
        Compound x (s.Try (record { line = p.line; body = as' }) hs d f)
        (at c.try_ p ∷ at c.colon q ∷ ts ++ us ++ vs ++ ws)
    try_finally : (p q : Place) {x : Marks} {as' : List Stmt} {f : Clause} {ts us : List Token} → Block x as' ts →
        Finally x (Some f) us → Compound x (s.Try (record { line = p.line; body = as' }) [] None (Some f))
        (at c.try_ p ∷ at c.colon q ∷ ts ++ us)
    def : (n : List ℕ) (p q r r' q' : Place) {x : Marks} {ps : List Param} {as' : List Stmt} {ts us : List Token} →
        Params x ps ts → Block x as' us →
        Compound x (s.Def p.line n ps as')
        (at c.def_ p ∷ at (k.Name n) q ∷ at c.open_round r ∷ ts ++ at c.close_round r' ∷ at c.colon q' ∷ us)
    class : (n : List ℕ) (p q r : Place) {x : Marks} {a : Option Expr} {as' : List Stmt} {ts us : List Token} →
        Base x a ts → Block x as' us → Compound x (s.Class p.line n a as')
        (at c.class_ p ∷ at (k.Name n) q ∷ ts ++ at c.colon r ∷ us)

-- module = { Newline | stmt } End
pub data Body : Marks → List Stmt → List Token → Type 0 where
  end : (x : Marks) (p : Place) → Body x [] (at k.End p ∷ [])
  newline : (p : Place) {x : Marks} {as' : List Stmt} {ts : List Token} → Body x as' ts →
      Body x as' (at k.Newline p ∷ ts)
  more : {x : Marks} {as' bs : List Stmt} {ts us : List Token} → Statement x as' ts → Body x bs us →
      Body x (as' ++ bs) (ts ++ us)

abbrev pub IsModule : Module → List Token → Type 0
IsModule m ts = Body None m.body ts
