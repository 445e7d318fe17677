-- The mirror of the code: nothing public rests on it.
-- Targets that are deleted by the same code. It belongs to `Expressions`.
use Rattle.std.specs.Prelude.{◌≡◌, ℕ, List}
use Rattle.py_tree.specs.declared.expr.Expr.{Expr}
use Rattle.py_templates.specs.Template.{row}
use Rattle.py_templates.specs.Names.{Known}
use Rattle.py_templates.specs.Expressions.{all_deleted}

-- the deletions of these in turn are those of the others
pub record SameDeletions (xs ys : List Expr) : Type 0 where
  pub code : (n : Known) (ln : ℕ) → row (all_deleted n ln xs) ≡ row (all_deleted n ln ys)
