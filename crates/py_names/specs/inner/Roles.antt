-- The mirror of the code: nothing public rests on it.
-- What an expression says, by how it stands. It belongs to `Outline`.
use Rattle.std.specs.Prelude.{ℕ, List, Option}
use Rattle.py_tree.specs.declared.expr.Expr.{Expr}
use Rattle.py_names.specs.declared.event.Event.{Event}
use Rattle.py_names.specs.declared.expression.Role.{Role}
use Rattle.py_names.specs.declared.expression.Role.TheVariants.{Read, Target}
use Rattle.py_names.specs.Outline.{read, target, read_all, target_all, read_some, target_some}

abbrev pub told : Role → ℕ → Expr → List Event
told Read line a = read line a
told Target line a = target line a

abbrev pub told_all : Role → ℕ → List Expr → List Event
told_all Read line as' = read_all line as'
told_all Target line as' = target_all line as'

abbrev pub told_some : Role → ℕ → Option Expr → List Event
told_some Read line a = read_some line a
told_some Target line a = target_some line a
