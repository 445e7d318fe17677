-- Induction over statements: what holds of a kind of statement, if it holds of the statements of its blocks, holds of
-- every statement.
use Rattle.std.proofs.Common.{ℕ, Bool, List, map, Option, Some, None, sym, subst}
use Rattle.py_tree.specs.declared.expr.Expr.{Expr}
use Rattle.py_tree.specs.declared.expr.Operator.{Operator}
use Rattle.py_tree.specs.declared.stmt.Stmt.{Stmt, roll-Stmt}
use Rattle.py_tree.specs.declared.stmt.Imported.{Imported}
use Rattle.py_tree.specs.declared.stmt.Param.{Param}
use Rattle.py_tree.specs.declared.stmt.Arm.{Arm, roll-Arm}
use Rattle.py_tree.specs.declared.stmt.Clause.{Clause, roll-Clause}
use Rattle.py_tree.specs.declared.stmt.Handler.{Handler, roll-Handler}
use Rattle.py_tree.specs.declared.stmt.Stmt.TheVariants as s
use Rattle.py_tree.specs.declared.stmt.Stmt.TheOpen as open'
use Rattle.py_tree.specs.declared.stmt.Stmt.TheFolds.{ind-Stmt, map-Stmt, map-Arm, map-Clause, map-Handler}
use Rattle.py_templates.proofs.ExprInduct.{Every, IfThere, every}

module _ (P : Stmt → Type 0) where
  abbrev pub OfArm : Arm → Type 0
  OfArm a = Every P a.body

  abbrev pub OfClause : Clause → Type 0
  OfClause c = Every P c.body

  abbrev pub OfHandler : Handler → Type 0
  OfHandler h = Every P h.body

  -- one case for each kind of statement
  pub record Cases : Type 0 where
    pub do_case : (l : ℕ) (a : Expr) → P (s.Do l a)
    pub assign_case : (l : ℕ) (ts : List Expr) (a : Expr) → P (s.Assign l ts a)
    pub augment_case : (l : ℕ) (t : Expr) (o : Operator) (a : Expr) → P (s.Augment l t o a)
    pub print_case : (l : ℕ) (xs : List Expr) (comma : Bool) → P (s.Print l xs comma)
    pub pass_case : (l : ℕ) → P (s.Pass l)
    pub break_case : (l : ℕ) → P (s.Break l)
    pub continue_case : (l : ℕ) → P (s.Continue l)
    pub return_case : (l : ℕ) (a : Option Expr) → P (s.Return l a)
    pub raise_case : (l : ℕ) (a v : Option Expr) → P (s.Raise l a v)
    pub del_case : (l : ℕ) (ts : List Expr) → P (s.Del l ts)
    pub global_case : (l : ℕ) (xs : List (List ℕ)) → P (s.Global l xs)
    pub assert_case : (l : ℕ) (a : Expr) (m : Option Expr) → P (s.Assert l a m)
    pub import_case : (l : ℕ) (is : List Imported) → P (s.Import l is)
    pub from_case : (l : ℕ) (x : List ℕ) (is : List Imported) → P (s.From l x is)
    pub if_case : (as' : List Arm) (e : Option Clause) → Every OfArm as' → IfThere OfClause e → P (s.If as' e)
    pub while_case : (a : Arm) (e : Option Clause) → OfArm a → IfThere OfClause e → P (s.While a e)
    pub for_case : (l : ℕ) (t a : Expr) (ss : List Stmt) (e : Option Clause) → Every P ss → IfThere OfClause e →
        P (s.For l t a ss e)
    pub try_case : (t : Clause) (hs : List Handler) (e d : Option Clause) → OfClause t → Every OfHandler hs →
        IfThere OfClause e → IfThere OfClause d → P (s.Try t hs e d)
    pub def_case : (l : ℕ) (x : List ℕ) (ps : List Param) (ss : List Stmt) → Every P ss → P (s.Def l x ps ss)
    pub class_case : (l : ℕ) (x : List ℕ) (a : Option Expr) (ss : List Stmt) → Every P ss → P (s.Class l x a ss)

  abbrev S-with : Type 0
  S-with = (x : Stmt) × P x

  abbrev A-with : Type 0
  A-with = (x : Arm) × OfArm x

  abbrev C-with : Type 0
  C-with = (x : Clause) × OfClause x

  abbrev H-with : Type 0
  H-with = (x : Handler) × OfHandler x

  stmt_case : Cases → (y : open'.Stmt-F S-with A-with C-with H-with) →
      P (roll-Stmt (map-Stmt S-with A-with C-with H-with Stmt Arm Clause Handler (λ y. y.0) (λ y. y.0) (λ y. y.0)
      (λ y. y.0) y))
  stmt_case m (open'.Do l a) = subst P (sym (s.rolls-Do l a)) (m.do_case l a)
  stmt_case m (open'.Assign l ts a) = subst P (sym (s.rolls-Assign l ts a)) (m.assign_case l ts a)
  stmt_case m (open'.Augment l t o a) = subst P (sym (s.rolls-Augment l t o a)) (m.augment_case l t o a)
  stmt_case m (open'.Print l xs b) = subst P (sym (s.rolls-Print l xs b)) (m.print_case l xs b)
  stmt_case m (open'.Pass l) = subst P (sym (s.rolls-Pass l)) (m.pass_case l)
  stmt_case m (open'.Break l) = subst P (sym (s.rolls-Break l)) (m.break_case l)
  stmt_case m (open'.Continue l) = subst P (sym (s.rolls-Continue l)) (m.continue_case l)
  stmt_case m (open'.Return l a) = subst P (sym (s.rolls-Return l a)) (m.return_case l a)
  stmt_case m (open'.Raise l a v) = subst P (sym (s.rolls-Raise l a v)) (m.raise_case l a v)
  stmt_case m (open'.Del l ts) = subst P (sym (s.rolls-Del l ts)) (m.del_case l ts)
  stmt_case m (open'.Global l xs) = subst P (sym (s.rolls-Global l xs)) (m.global_case l xs)
  stmt_case m (open'.Assert l a v) = subst P (sym (s.rolls-Assert l a v)) (m.assert_case l a v)
  stmt_case m (open'.Import l is) = subst P (sym (s.rolls-Import l is)) (m.import_case l is)
  stmt_case m (open'.From l x is) = subst P (sym (s.rolls-From l x is)) (m.from_case l x is)
  stmt_case m (open'.If ys None) = subst P (sym (s.rolls-If (map (λ y. y.0) ys) None))
      (m.if_case (map (λ y. y.0) ys) None (every OfArm ys) tt)
  stmt_case m (open'.If ys (Some e)) = subst P (sym (s.rolls-If (map (λ y. y.0) ys) (Some e.0)))
      (m.if_case (map (λ y. y.0) ys) (Some e.0) (every OfArm ys) e.1)
  stmt_case m (open'.While a None) = subst P (sym (s.rolls-While a.0 None)) (m.while_case a.0 None a.1 tt)
  stmt_case m (open'.While a (Some e)) =
      subst P (sym (s.rolls-While a.0 (Some e.0))) (m.while_case a.0 (Some e.0) a.1 e.1)
  stmt_case m (open'.For l t a ys None) = subst P (sym (s.rolls-For l t a (map (λ y. y.0) ys) None))
      (m.for_case l t a (map (λ y. y.0) ys) None (every P ys) tt)
  stmt_case m (open'.For l t a ys (Some e)) = subst P (sym (s.rolls-For l t a (map (λ y. y.0) ys) (Some e.0)))
      (m.for_case l t a (map (λ y. y.0) ys) (Some e.0) (every P ys) e.1)
  stmt_case m (open'.Try t ys None None) = subst P (sym (s.rolls-Try t.0 (map (λ y. y.0) ys) None None))
      (m.try_case t.0 (map (λ y. y.0) ys) None None t.1 (every OfHandler ys) tt tt)
  stmt_case m (open'.Try t ys None (Some d)) = subst P (sym (s.rolls-Try t.0 (map (λ y. y.0) ys) None (Some d.0)))
      (m.try_case t.0 (map (λ y. y.0) ys) None (Some d.0) t.1 (every OfHandler ys) tt d.1)
  stmt_case m (open'.Try t ys (Some e) None) = subst P (sym (s.rolls-Try t.0 (map (λ y. y.0) ys) (Some e.0) None))
      (m.try_case t.0 (map (λ y. y.0) ys) (Some e.0) None t.1 (every OfHandler ys) e.1 tt)
  stmt_case m (open'.Try t ys (Some e) (Some d)) =
      subst P (sym (s.rolls-Try t.0 (map (λ y. y.0) ys) (Some e.0) (Some d.0)))
      (m.try_case t.0 (map (λ y. y.0) ys) (Some e.0) (Some d.0) t.1 (every OfHandler ys) e.1 d.1)
  stmt_case m (open'.Def l x ps ys) = subst P (sym (s.rolls-Def l x ps (map (λ y. y.0) ys)))
      (m.def_case l x ps (map (λ y. y.0) ys) (every P ys))
  stmt_case m (open'.Class l x a ys) = subst P (sym (s.rolls-Class l x a (map (λ y. y.0) ys)))
      (m.class_case l x a (map (λ y. y.0) ys) (every P ys))

  arm_case : (y : open'.Arm-F S-with A-with C-with H-with) →
      OfArm (roll-Arm (map-Arm S-with A-with C-with H-with Stmt Arm Clause Handler (λ y. y.0) (λ y. y.0) (λ y. y.0)
      (λ y. y.0) y))
  arm_case y = every P y.body

  clause_case : (y : open'.Clause-F S-with A-with C-with H-with) →
      OfClause (roll-Clause (map-Clause S-with A-with C-with H-with Stmt Arm Clause Handler (λ y. y.0) (λ y. y.0)
      (λ y. y.0) (λ y. y.0) y))
  clause_case y = every P y.body

  handler_case : (y : open'.Handler-F S-with A-with C-with H-with) →
      OfHandler (roll-Handler (map-Handler S-with A-with C-with H-with Stmt Arm Clause Handler (λ y. y.0) (λ y. y.0)
      (λ y. y.0) (λ y. y.0) y))
  handler_case y = every P y.body

  pub stmt_induct : Cases → (x : Stmt) → P x
  stmt_induct m = ind-Stmt P OfArm OfClause OfHandler
      (λ x y is. subst (λ z. P (roll-Stmt z)) is (stmt_case m y))
      (λ x y is. subst (λ z. OfArm (roll-Arm z)) is (arm_case y))
      (λ x y is. subst (λ z. OfClause (roll-Clause z)) is (clause_case y))
      (λ x y is. subst (λ z. OfHandler (roll-Handler z)) is (handler_case y))
