-- Modules whose code can be right: targets are targets, comparisons compare, `break` and `continue` stand in loops, a
-- `raise` alone in an except clause, and a `try` without an except clause has no else. Each module of a text that has
-- scopes is so.
use Rattle.std.specs.Prelude.{◌&&◌, Bool, true, false, List, [], ◌∷◌, Option, Some, None, map}
use Rattle.py_tree.specs.declared.expr.Expr.{Expr}
use Rattle.py_tree.specs.declared.stmt.Stmt.{Stmt}
use Rattle.py_tree.specs.declared.stmt.Param.{Param}
use Rattle.py_tree.specs.declared.stmt.Arm.{Arm}
use Rattle.py_tree.specs.declared.stmt.Clause.{Clause}
use Rattle.py_tree.specs.declared.stmt.Handler.{Handler}
use Rattle.py_tree.specs.declared.stmt.Stmt.TheOpen as open'
use Rattle.py_tree.specs.declared.stmt.Stmt.TheFolds.{fold-Stmt, fold-Arm, fold-Clause, fold-Handler}
use Rattle.py_tree.specs.Form.{form, is_target, is_single, all_targets}
use Rattle.compiler_laws.proofs.Sane.{sane, all_sane, sane_some}

-- whether it is so, inside a loop or not, and inside an except clause or not
abbrev pub Legal : Type 0
Legal = Bool → Bool → Bool

abbrev pub always : Bool → Legal
always b l c = b

abbrev pub both : Legal → Legal → Legal
both g h l c = g l c && h l c

abbrev pub all_legal : List Legal → Legal
all_legal [] l c = true
all_legal (g ∷ gs) l c = g l c && all_legal gs l c

abbrev pub legal_or : Option Legal → Legal
legal_or None l c = true
legal_or (Some g) l c = g l c

abbrev pub is_target_of : Expr → Bool
is_target_of t = is_target false (form t) && sane t

abbrev pub are_targets : List Expr → Bool
are_targets ts = all_targets false (map form ts) && all_sane ts

abbrev pub target_some : Option Expr → Bool
target_some None = true
target_some (Some t) = is_target_of t

abbrev pub sane_defaults : List Param → Bool
sane_defaults [] = true
sane_defaults (p ∷ ps) = sane_some p.default && sane_defaults ps

abbrev pub raises : Option Expr → Option Expr → Legal
raises None v l c = c
raises (Some e) v l c = sane e && sane_some v

abbrev pub has_clause : List Legal → Option Legal → Bool
has_clause [] None = true
has_clause [] (Some e) = false
has_clause (h ∷ hs) e = true

abbrev pub stmt_step : open'.Stmt-F Legal Legal Legal Legal → Legal
stmt_step (open'.Do ln e) = always (sane e)
stmt_step (open'.Assign ln ts e) = always (are_targets ts && sane e)
stmt_step (open'.Augment ln t o e) = always ((is_single false (form t) && sane t) && sane e)
stmt_step (open'.Print ln es comma) = always (all_sane es)
stmt_step (open'.Pass ln) = always true
stmt_step (open'.Break ln) = λ l c. l
stmt_step (open'.Continue ln) = λ l c. l
stmt_step (open'.Return ln e) = always (sane_some e)
stmt_step (open'.Raise ln e v) = raises e v
stmt_step (open'.Del ln ts) = always (are_targets ts)
stmt_step (open'.Global ln xs) = always true
stmt_step (open'.Assert ln t m) = always (sane t && sane_some m)
stmt_step (open'.Import ln is) = always true
stmt_step (open'.From ln m is) = always true
stmt_step (open'.If as' e) = both (all_legal as') (legal_or e)
stmt_step (open'.While a e) = both (λ l c. a true c) (legal_or e)
stmt_step (open'.For ln t x ss e) = both (always (is_target_of t && sane x))
    (both (λ l c. all_legal ss true c) (legal_or e))
stmt_step (open'.Try t hs e d) = both t (both (λ l c. all_legal hs l true)
    (both (legal_or e) (both (legal_or d) (always (has_clause hs e)))))
stmt_step (open'.Def ln x ps ss) = always (sane_defaults ps && all_legal ss false false)
stmt_step (open'.Class ln x e ss) = always (sane_some e && all_legal ss false false)

abbrev pub arm_step : open'.Arm-F Legal Legal Legal Legal → Legal
arm_step a = both (always (sane a.test)) (all_legal a.body)

abbrev pub clause_step : open'.Clause-F Legal Legal Legal Legal → Legal
clause_step c = all_legal c.body

abbrev pub handler_step : open'.Handler-F Legal Legal Legal Legal → Legal
handler_step h = both (always (sane_some h.test && target_some h.target)) (all_legal h.body)

unfoldable pub legal : Stmt → Legal
legal = fold-Stmt Legal Legal Legal Legal stmt_step arm_step clause_step handler_step

unfoldable pub legal_by_arm : Arm → Legal
legal_by_arm = fold-Arm Legal Legal Legal Legal stmt_step arm_step clause_step handler_step

unfoldable pub legal_by_clause : Clause → Legal
legal_by_clause = fold-Clause Legal Legal Legal Legal stmt_step arm_step clause_step handler_step

unfoldable pub legal_by_handler : Handler → Legal
legal_by_handler = fold-Handler Legal Legal Legal Legal stmt_step arm_step clause_step handler_step

-- a module's statements, and those of a body
abbrev pub legal_all : List Stmt → Legal
legal_all ss = all_legal (map legal ss)
