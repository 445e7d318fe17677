-- The mirror of the code: nothing public rests on it.
-- The code of compound statements over the tree. It belongs to `Statements`.
use Rattle.std.specs.Prelude.{ℕ, ◌+◌, List, ◌∷◌, Option}
use Rattle.py_tree.specs.declared.expr.Expr.{Expr}
use Rattle.py_tree.specs.declared.stmt.Stmt.{Stmt}
use Rattle.py_tree.specs.declared.stmt.Arm.{Arm}
use Rattle.py_tree.specs.declared.stmt.Clause.{Clause}
use Rattle.py_tree.specs.declared.stmt.Handler.{Handler}
use Rattle.py_templates.specs.Template.{Piece}
use Rattle.py_templates.specs.Table.{all_arms, while, for, try_finally, Around, InWhile, InFor, InFinally}
use Rattle.py_templates.specs.Names.{Known}
use Rattle.py_templates.specs.Expressions.{value, stored}
use Rattle.py_templates.specs.Statements.{Stated, armed, armed_count, all_stated, count, other, stated_block, stated_arms, stated_clause, stated_handlers, stated_some, tried}

-- an `else` clause, if there is one
abbrev pub otherwise : Option Clause → Stated
otherwise x = other (stated_some x)

module _ (n : Known) (c : List Around) (f : ℕ) where
  abbrev pub if_code : List Arm → Option Clause → Piece
  if_code as' e = all_arms 0 (armed (stated_arms as') n c f)
      ((otherwise e).code n c (f + armed_count (stated_arms as')))

  abbrev pub while_code : Arm → Option Clause → Piece
  while_code a e = while a.line (value n a.line a.test) ((stated_block a.body).code n (InWhile ∷ c) f)
      ((otherwise e).code n c (f + count (all_stated a.body)))

  abbrev pub for_code : ℕ → Expr → Expr → List Stmt → Option Clause → Piece
  for_code ln t x ss e = for ln (stored n ln t) (value n ln x) ((stated_block ss).code n (InFor ∷ c) f)
      ((otherwise e).code n c (f + count (all_stated ss)))

-- a `try` without its finally
abbrev pub tried_of : Clause → List Handler → Option Clause → Stated
tried_of t hs e = tried (stated_clause t) (stated_handlers hs) (otherwise e)

-- the code of a `try` with its finally
abbrev pub finally_code : Known → List Around → ℕ → Clause → List Handler → Option Clause → Clause → Piece
finally_code n c f t hs e d = try_finally t.line
    ((tried_of t hs e).code n (InFinally ((stated_block d.body).code n c (f + (tried_of t hs e).bodies)) ∷ c) f)
    ((stated_block d.body).code n c (f + (tried_of t hs e).bodies))
