-- The mirror of the code: nothing public rests on it.
-- A bound on how deep statements go, for the recursion over them.
use Rattle.std.specs.Prelude.{ℕ, ◌+◌, List, [], ◌∷◌, Option, Some, None}
use Rattle.py_tree.specs.declared.stmt.Stmt.{Stmt}
use Rattle.py_tree.specs.declared.stmt.Arm.{Arm}
use Rattle.py_tree.specs.declared.stmt.Clause.{Clause}
use Rattle.py_tree.specs.declared.stmt.Handler.{Handler}
use Rattle.py_tree.specs.declared.stmt.Stmt.TheOpen as open'
use Rattle.py_tree.specs.declared.stmt.Stmt.TheFolds.{fold-Stmt}

abbrev pub total : List ℕ → ℕ
total [] = 0
total (n ∷ ns) = n + total ns

abbrev pub number_or : Option ℕ → ℕ
number_or None = 0
number_or (Some n) = n

abbrev pub weight_step : open'.Stmt-F ℕ ℕ ℕ ℕ → ℕ
weight_step (open'.If as' e) = 8 + (total as' + number_or e)
weight_step (open'.While a e) = 8 + (a + number_or e)
weight_step (open'.For ln t x ss e) = 8 + (total ss + number_or e)
weight_step (open'.Try t hs e d) = 16 + (t + (total hs + (number_or e + number_or d)))
weight_step (open'.Def ln x ps ss) = 8 + total ss
weight_step (open'.Class ln x b ss) = 8 + total ss
weight_step _ = 8

abbrev pub arm_step : open'.Arm-F ℕ ℕ ℕ ℕ → ℕ
arm_step a = total a.body

abbrev pub clause_step : open'.Clause-F ℕ ℕ ℕ ℕ → ℕ
clause_step c = total c.body

abbrev pub handler_step : open'.Handler-F ℕ ℕ ℕ ℕ → ℕ
handler_step h = total h.body

unfoldable pub weight : Stmt → ℕ
weight = fold-Stmt ℕ ℕ ℕ ℕ weight_step arm_step clause_step handler_step

abbrev pub weights : List Stmt → ℕ
weights [] = 0
weights (s ∷ ss) = weight s + weights ss

abbrev pub weights_arms : List Arm → ℕ
weights_arms [] = 0
weights_arms (a ∷ as') = weights a.body + weights_arms as'

abbrev pub weights_handlers : List Handler → ℕ
weights_handlers [] = 0
weights_handlers (h ∷ hs) = weights h.body + weights_handlers hs

abbrev pub weights_some : Option Clause → ℕ
weights_some None = 0
weights_some (Some c) = weights c.body
