-- Canonical texts of some modules.
use Rattle.std.proofs.lemmas.Fmt.{decimal_digit}
use Rattle.std.proofs.Common.{◌≡◌, codes, pos, List, [], ◌∷◌, Some, None, true, arith, refl}
use Rattle.py_tree.specs.declared.expr.Expr.{Expr}
use Rattle.py_tree.specs.declared.expr.Expr.TheVariants as e
use Rattle.py_tree.specs.declared.expr.Trailer.TheVariants as t
use Rattle.py_tree.specs.declared.expr.Level.TheVariants as level
use Rattle.py_tree.specs.declared.expr.Operator.TheVariants as op
use Rattle.py_tree.specs.declared.expr.Sign.TheVariants as sign
use Rattle.py_tree.specs.declared.stmt.Stmt.{Stmt}
use Rattle.py_tree.specs.declared.stmt.Module.{Module}
use Rattle.py_tree.specs.declared.stmt.Stmt.TheVariants as s
use Rattle.py_tree.specs.Canonical.{module_text}
use Rattle.py_tree.proofs.Spellings.{spellings}
use Rattle.py_tree.proofs.Pieces.{piece_laws}

abbrev x : Expr
x = e.Name (codes "x")

abbrev y : Expr
y = e.Name (codes "y")

abbrev one : Expr
one = e.Int (pos 1)

abbrev pub of : List Stmt → Module
of ss = record { body = ss }

-- one line
short_if : module_text (of (s.If (record { line = 1; test = x; body = s.Pass 1 ∷ [] } ∷ []) None ∷ [])) ≡ codes
    "if x : pass \n"
short_if = simp (piece_laws, spellings)

-- indented blocks
branches : module_text (of (s.If (record { line = 1; test = x; body = s.Pass 2 ∷ s.Break 3 ∷ [] } ∷ record
    { line = 4; test = y; body = s.Pass 6 ∷ [] } ∷ []) (Some (record { line = 7; body = s.Pass 8 ∷ [] })) ∷ [])) ≡
    codes "if x : \n pass \n break \nelif y : \n\n pass \nelse : \n pass \n"
branches = simp (piece_laws, spellings)

-- two statements on a line, and one below
two_joined : module_text (of (s.Pass 1 ∷ s.Do 1 x ∷ s.Print 3 (one ∷ y ∷ []) true ∷ [])) ≡ codes
    "pass ; x \n\nprint 1 , y , \n"
two_joined = simp (piece_laws, spellings, decimal_digit 1 (omega arith))

-- a block on its clause's line whose second statement is on a later line
long_short : module_text (of (s.While (record { line = 2; test = one; body = s.Pass 2 ∷ s.Break 3 ∷ [] }) None ∷ [])) ≡
    codes "\nwhile 1 : pass ; \\\nbreak \n"
long_short = simp (piece_laws, spellings, decimal_digit 1 (omega arith))

-- a block in a block, after which a statement of the module follows
nested : module_text (of (s.Def 1 (codes "f")
    (record { name = codes "a"; default = None } ∷ record { name = codes "b"; default = Some one } ∷ [])
    (s.For 2 x y (s.Return 2 (Some x) ∷ []) None ∷ s.Class 3 (codes "C") None (s.Pass 4 ∷ []) ∷ []) ∷ s.Pass 5 ∷ [])) ≡
    codes "def f ( a , b = 1 ) : \n for x in y : return x \n class C : \n  pass \npass \n"
nested = simp (piece_laws, spellings, decimal_digit 1 (omega arith))

-- tuples, assignments, a call and a string
tuples : module_text (of (s.Assign 1 (e.Tuple (x ∷ y ∷ []) ∷ x ∷ []) (e.Tuple (one ∷ [])) ∷ s.Do 2
    (e.Trail x (t.Attribute (codes "a") ∷ t.Call (y ∷ [])
    (record { name = codes "k"; value = e.Str (codes "it's") } ∷ []) ∷ t.Slice None (Some one) ∷ [])) ∷ [])) ≡ codes
    "( x , y ) = x = ( 1 , ) \nx . a ( y , k = \"it's\" ) [ : 1 ] \n"
tuples = simp (piece_laws, spellings, decimal_digit 1 (omega arith))

-- operators of two words, signs and a choice
operators : module_text (of (s.Augment 1 x op.Floor
    (e.Choice (e.Chain level.Compare x (record { operator = op.IsNot; operand = y } ∷ record
    { operator = op.NotEqual; operand = one } ∷ [])) (e.Not x) (e.Power one (e.Unary sign.Minus one))) ∷ [])) ≡ codes
    "x //= x is not y != 1 if not x else 1 ** - 1 \n"
operators = simp (piece_laws, spellings, decimal_digit 1 (omega arith))

-- handlers and a dictionary
handlers : module_text (of (s.Try (record
    { line = 1; body = s.Do 1 (e.Dict (record { key = x; value = e.List (y ∷ []) } ∷ [])) ∷ [] })
    (record { line = 2; test = Some x; target = Some y; body = s.Raise 2 None None ∷ [] } ∷ record
    { line = 3; test = None; target = None; body = s.Pass 3 ∷ [] } ∷ []) None
    (Some (record { line = 4; body = s.Pass 4 ∷ [] })) ∷ [])) ≡ codes
    "try : { x : [ y ] } \nexcept x as y : raise \nexcept : pass \nfinally : pass \n"
handlers = simp (piece_laws, spellings)

-- imports and names
imports : module_text (of (s.Import 1 (record { name = codes "thread"; bound = Some (codes "t") } ∷ []) ∷ s.From 2
    (codes "threading") (record { name = codes "Lock"; bound = None } ∷ record { name = codes "Thread"; bound = None }
    ∷ []) ∷ s.Global 3 (codes "a" ∷ codes "b" ∷ []) ∷ s.Del 3 (x ∷ []) ∷ [])) ≡ codes
    "import thread as t \nfrom threading import Lock , Thread \nglobal a , b ; del x \n"
imports = simp (piece_laws, spellings)

-- no statement
nothing : module_text (of ([])) ≡ codes ""
nothing = refl
