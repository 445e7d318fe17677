-- The code of statements, and the bodies inside them: one layer for each kind of statement, over the codes of its
-- parts.
-- States `docs/LANGUAGE.md`, "Code of a tree".
use Rattle.std.specs.Prelude.{ℕ, ◌+◌, List, [], ◌∷◌, ◌++◌, Option, Some, None, Bool, true, false, length, map}
use Rattle.py_code.specs.declared.instr.Constant.TheVariants.{Root}
use Rattle.py_tree.specs.declared.expr.Expr.{Expr}
use Rattle.py_tree.specs.declared.stmt.Stmt.{Stmt}
use Rattle.py_tree.specs.declared.stmt.Param.{Param}
use Rattle.py_tree.specs.declared.stmt.Imported.{Imported}
use Rattle.py_tree.specs.declared.stmt.Arm.{Arm}
use Rattle.py_tree.specs.declared.stmt.Clause.{Clause}
use Rattle.py_tree.specs.declared.stmt.Handler.{Handler}
use Rattle.py_tree.specs.declared.stmt.Stmt.TheOpen as open'
use Rattle.py_tree.specs.declared.stmt.Stmt.TheFolds.{fold-Stmt}
use Rattle.py_templates.specs.declared.way.Way.TheVariants.{Break, Continue}
use Rattle.py_templates.specs.Template.{Piece, Alone, template, row}
use Rattle.py_templates.specs.Table.{nothing, constant, also, assign, expression, print_one, print_line, raise_one, raise_two, assert_with, assert_alone, import_one, def, class, arm, all_arms, while, for, try_except, clause_bare, clause_test, clause_target, try_finally, Around, InWhile, InFor, InTry, InClause, InFinally, way_out, return, raise_again}
use Rattle.py_templates.specs.Names.{Known, home, library, member}
use Rattle.py_templates.specs.Expressions.{coded, add_at, operator, value, values, value_some, stored, all_deleted}

-- A body with a code of its own: the line and the name of its `def` or `class`, whether it is a class's, how many
-- parameters it has, and the code of its statements by what it knows of names.
pub record Body : Type 0 where
  pub line : ℕ
  pub name : List ℕ
  pub is_class : Bool
  pub params : ℕ
  pub block : Known → Piece

-- A statement: how many bodies it holds; its code in a body that knows these names, inside these constructs, where its
-- own bodies are numbered from f on; and its bodies, in the order of the text.
pub record Stated : Type 0 where
  pub bodies : ℕ
  pub code : Known → List Around → ℕ → Piece
  pub inner : ℕ → List Body

-- one without bodies
abbrev pub still : (Known → List Around → Piece) → Stated
still g = record { bodies = 0; code = λ n c f. g n c; inner = λ f. [] }

abbrev pub count : List Stated → ℕ
count [] = 0
count (s ∷ ss) = s.bodies + count ss

abbrev pub pieces : List Stated → Known → List Around → ℕ → List Piece
pieces [] n c f = []
pieces (s ∷ ss) n c f = s.code n c f ∷ pieces ss n c (f + s.bodies)

abbrev pub inners : List Stated → ℕ → List Body
inners [] f = []
inners (s ∷ ss) f = s.inner f ++ inners ss (f + s.bodies)

abbrev pub block : List Stated → Stated
block ss = record { bodies = count ss; code = λ n c f. row (pieces ss n c f); inner = inners ss }

-- a clause with its line; `if`, `elif` and `while` with their tests; `except` with what it catches and where that is
-- put
pub record Claused : Type 0 where
  pub line : ℕ
  pub block : Stated

pub record Armed : Type 0 where
  pub line : ℕ
  pub test : Expr
  pub block : Stated

pub record Handled : Type 0 where
  pub line : ℕ
  pub test : Option Expr
  pub target : Option Expr
  pub block : Stated

abbrev pub other : Option Claused → Stated
other None = block []
other (Some c) = c.block

abbrev pub armed_count : List Armed → ℕ
armed_count [] = 0
armed_count (a ∷ as') = a.block.bodies + armed_count as'

abbrev pub armed_inner : List Armed → ℕ → List Body
armed_inner [] f = []
armed_inner (a ∷ as') f = a.block.inner f ++ armed_inner as' (f + a.block.bodies)

abbrev pub armed : List Armed → Known → List Around → ℕ → List Piece
armed [] n c f = []
armed (a ∷ as') n c f = arm a.line (value n a.line a.test) (a.block.code n c f) ∷ armed as' n c (f + a.block.bodies)

abbrev pub handled_count : List Handled → ℕ
handled_count [] = 0
handled_count (h ∷ hs) = h.block.bodies + handled_count hs

abbrev pub handled_inner : List Handled → ℕ → List Body
handled_inner [] f = []
handled_inner (h ∷ hs) f = h.block.inner f ++ handled_inner hs (f + h.block.bodies)

-- the defaults of parameters
abbrev pub default_or : Option Expr → List Expr → List Expr
default_or None es = es
default_or (Some e) es = e ∷ es

abbrev pub defaults : List Param → List Expr
defaults [] = []
defaults (p ∷ ps) = default_or p.default (defaults ps)

-- without a base: root 1, the class `object`
abbrev pub base : Known → ℕ → Option Expr → Piece
base n ln None = constant ln (Root 1)
base n ln (Some e) = value n ln e

-- t = u = e: each target but the last keeps the value for the next
abbrev pub stores_before : Known → ℕ → Expr → List Expr → List Piece
stores_before n ln t [] = []
stores_before n ln t (u ∷ us) = also ln (stored n ln t) ∷ stores_before n ln u us

abbrev pub last_target : Expr → List Expr → Expr
last_target t [] = t
last_target t (u ∷ us) = last_target u us

abbrev pub assigned : Known → ℕ → List Expr → Expr → Piece
assigned n ln [] e = nothing ln
assigned n ln (t ∷ ts) e = assign ln (value n ln e) (stores_before n ln t ts) (stored n ln (last_target t ts))

abbrev pub printed : Known → ℕ → List Expr → Bool → Piece
printed n ln es true = row (map (print_one ln) (values n ln es))
printed n ln es false = print_line ln (values n ln es)

-- of an exception that is made of a class or of a class and a value
abbrev pub raise_made : Known → ℕ → Expr → Option Expr → Piece
raise_made n ln e None = raise_one ln (value n ln e)
raise_made n ln e (Some v) = raise_two ln (value n ln e) (value n ln v)

abbrev pub raised : Known → ℕ → List Around → Option Expr → Option Expr → Piece
raised n ln c None v = raise_again ln c
raised n ln c (Some e) v = raise_made n ln e v

-- del t, u
abbrev pub deletion : ℕ → List Piece → Piece
deletion ln ts = template ln 0 0 (Alone (row ts) ∷ [])

abbrev pub asserted : Known → ℕ → Expr → Option Expr → Piece
asserted n ln t None = assert_alone ln (value n ln t)
asserted n ln t (Some m) = assert_with ln (value n ln t) (value n ln m)

abbrev pub bound_name : List ℕ → Option (List ℕ) → List ℕ
bound_name x None = x
bound_name x (Some y) = y

abbrev pub imported : Known → ℕ → List Imported → List Piece
imported n ln [] = []
imported n ln (i ∷ is) = import_one ln (library i.name) (home n (bound_name i.name i.bound)) ∷ imported n ln is

abbrev pub taken_from : Known → ℕ → List Imported → List Piece
taken_from n ln [] = []
taken_from n ln (i ∷ is) = import_one ln (member i.name) (home n (bound_name i.name i.bound)) ∷ taken_from n ln is

abbrev pub clause : Known → ℕ → Option Expr → Option Expr → Piece → Piece
clause n ln None t body = clause_bare ln body
clause n ln (Some e) None body = clause_test ln (value n ln e) body
clause n ln (Some e) (Some t) body = clause_target ln (value n ln e) (stored n ln t) body

abbrev pub handled : List Handled → Known → List Around → ℕ → List Piece
handled [] n c f = []
handled (h ∷ hs) n c f = clause n h.line h.test h.target (h.block.code n (InClause ∷ c) f) ∷ handled hs n c
    (f + h.block.bodies)

-- a `try` without its finally; without except clauses it is its block
abbrev pub tried : Claused → List Handled → Stated → Stated
tried t [] e = t.block
tried t (h ∷ hs) e = record {
  bodies = t.block.bodies + (handled_count (h ∷ hs) + e.bodies);
  code = λ n c f. try_except t.line (t.block.code n (InTry ∷ c) f) (handled (h ∷ hs) n c (f + t.block.bodies))
      (e.code n c (f + t.block.bodies + handled_count (h ∷ hs)));
  inner = λ f. t.block.inner f ++ handled_inner (h ∷ hs) (f + t.block.bodies) ++ e.inner
      (f + t.block.bodies + handled_count (h ∷ hs));
}

abbrev pub finally : ℕ → Stated → Option Claused → Stated
finally ln t None = t
finally ln t (Some d) = record {
  bodies = t.bodies + d.block.bodies;
  code = λ n c f. try_finally ln (t.code n (InFinally (d.block.code n c (f + t.bodies)) ∷ c) f)
      (d.block.code n c (f + t.bodies));
  inner = λ f. t.inner f ++ d.block.inner (f + t.bodies);
}

abbrev pub inner_body : ℕ → List ℕ → Bool → ℕ → List Stated → ℕ → List Body
inner_body ln x is_class params ss f = record {
  line = ln;
  name = x;
  is_class = is_class;
  params = params;
  block = λ n.
      (block ss).code n [] (f + 1);
} ∷ inners ss (f + 1)

abbrev pub stmt_step : open'.Stmt-F Stated Armed Claused Handled → Stated
stmt_step (open'.Do ln e) = still (λ n c. expression ln (value n ln e))
stmt_step (open'.Assign ln ts e) = still (λ n c. assigned n ln ts e)
stmt_step (open'.Augment ln t o e) = still (λ n c. add_at ln (coded n ln t).place (operator o) (value n ln e))
stmt_step (open'.Print ln es comma) = still (λ n c. printed n ln es comma)
stmt_step (open'.Pass ln) = still (λ n c. nothing ln)
stmt_step (open'.Break ln) = still (λ n c. way_out ln Break c)
stmt_step (open'.Continue ln) = still (λ n c. way_out ln Continue c)
stmt_step (open'.Return ln e) = still (λ n c. return ln (value_some n ln e) c)
stmt_step (open'.Raise ln e v) = still (λ n c. raised n ln c e v)
stmt_step (open'.Del ln ts) = still (λ n c. deletion ln (all_deleted n ln ts))
stmt_step (open'.Global ln xs) = still (λ n c. nothing ln)
stmt_step (open'.Assert ln t m) = still (λ n c. asserted n ln t m)
stmt_step (open'.Import ln is) = still (λ n c. row (imported n ln is))
stmt_step (open'.From ln m is) = still (λ n c. row (taken_from n ln is))
stmt_step (open'.If as' e) = record {
  bodies = armed_count as' + (other e).bodies;
  code = λ n c f. all_arms 0 (armed as' n c f) ((other e).code n c (f + armed_count as'));
  inner = λ f. armed_inner as' f ++ (other e).inner (f + armed_count as');
}
stmt_step (open'.While a e) = record {
  bodies = a.block.bodies + (other e).bodies;
  code = λ n c f. while a.line (value n a.line a.test) (a.block.code n (InWhile ∷ c) f)
      ((other e).code n c (f + a.block.bodies));
  inner = λ f. a.block.inner f ++ (other e).inner (f + a.block.bodies);
}
stmt_step (open'.For ln t x ss e) = record {
  bodies = count ss + (other e).bodies;
  code = λ n c f. for ln (stored n ln t) (value n ln x) ((block ss).code n (InFor ∷ c) f)
      ((other e).code n c (f + count ss));
  inner = λ f. inners ss f ++ (other e).inner (f + count ss);
}
stmt_step (open'.Try t hs e d) = finally t.line (tried t hs (other e)) d
stmt_step (open'.Def ln x ps ss) = record {
  bodies = 1 + count ss;
  code = λ n c f. def ln (values n ln (defaults ps)) f (home n x);
  inner = inner_body ln x false (length ps) ss;
}
stmt_step (open'.Class ln x b ss) = record {
  bodies = 1 + count ss;
  code = λ n c f. class ln (base n ln b) f (home n x);
  inner = inner_body ln x true 0 ss;
}

abbrev pub arm_step : open'.Arm-F Stated Armed Claused Handled → Armed
arm_step a = record { line = a.line; test = a.test; block = block a.body }

abbrev pub clause_step : open'.Clause-F Stated Armed Claused Handled → Claused
clause_step c = record { line = c.line; block = block c.body }

abbrev pub handler_step : open'.Handler-F Stated Armed Claused Handled → Handled
handler_step h = record { line = h.line; test = h.test; target = h.target; block = block h.body }

unfoldable pub stated : Stmt → Stated
stated = fold-Stmt Stated Armed Claused Handled stmt_step arm_step clause_step handler_step

-- blocks of statements, arms and clauses
abbrev pub all_stated : List Stmt → List Stated
all_stated [] = []
all_stated (s ∷ ss) = stated s ∷ all_stated ss

abbrev pub stated_block : List Stmt → Stated
stated_block ss = block (all_stated ss)

abbrev pub stated_arm : Arm → Armed
stated_arm a = record { line = a.line; test = a.test; block = stated_block a.body }

abbrev pub stated_arms : List Arm → List Armed
stated_arms [] = []
stated_arms (a ∷ as') = stated_arm a ∷ stated_arms as'

abbrev pub stated_clause : Clause → Claused
stated_clause c = record { line = c.line; block = stated_block c.body }

abbrev pub stated_some : Option Clause → Option Claused
stated_some None = None
stated_some (Some c) = Some (stated_clause c)

abbrev pub stated_handler : Handler → Handled
stated_handler h = record { line = h.line; test = h.test; target = h.target; block = stated_block h.body }

abbrev pub stated_handlers : List Handler → List Handled
stated_handlers [] = []
stated_handlers (h ∷ hs) = stated_handler h ∷ stated_handlers hs
