-- Induction over statements, for a relation between the code of a statement, what it uses, and whether it is legal.
use Rattle.std.proofs.Common.{◌≡◌, ℕ, true, List, [], ◌∷◌, ◌++◌, map, Option, Some, sym, subst}
use Rattle.std.specs.Prelude.{◌&&◌}
use Rattle.py_tree.specs.declared.expr.Expr.{Expr}
use Rattle.py_tree.specs.declared.stmt.Stmt.{Stmt, roll-Stmt}
use Rattle.py_tree.specs.declared.stmt.Arm.{Arm as ArmTree, roll-Arm}
use Rattle.py_tree.specs.declared.stmt.Clause.{Clause as ClauseTree, roll-Clause}
use Rattle.py_tree.specs.declared.stmt.Handler.{Handler as HandlerTree, roll-Handler}
use Rattle.py_tree.specs.declared.stmt.Stmt.TheOpen as open'
use Rattle.py_tree.specs.declared.stmt.Stmt.TheFolds.{fold-Arm, fold-Clause, fold-Handler, fold-roll-Stmt, fold-roll-Arm, fold-roll-Clause, fold-roll-Handler, ind-Stmt, map-Stmt, map-Arm, map-Clause, map-Handler}
use Rattle.py_templates.specs.Statements.{Stated, Armed, Claused, Handled, block, stmt_step, arm_step, clause_step, handler_step, stated, all_stated}
use Rattle.py_templates.specs.Uses.{Uses, quiet, in_turn, all_in_turn, read, read_some, target_some, stmt_uses}
use Rattle.py_templates.specs.Uses as u
use Rattle.py_templates.proofs.ExprInduct.{Every}
use Rattle.compiler_laws.proofs.Legal.{Legal, always, both, all_legal, has_clause, legal, legal_by_arm, legal_by_clause, legal_by_handler}
use Rattle.compiler_laws.proofs.Legal as lg
use Rattle.compiler_laws.proofs.Sane.{sane, sane_some}

-- ---- lists that are related part by part

pub data Related {A : Type 0} (R : A → Uses → Legal → Type 0) : List A → List Uses → List Legal → Type 0 where
  Nil : Related R [] [] []
  Cons : {s : A} {v : Uses} {g : Legal} {ss : List A} {vs : List Uses} {gs : List Legal} → R s v g → Related R ss vs gs
      → Related R (s ∷ ss) (v ∷ vs) (g ∷ gs)

pub related_as : {A : Type 0} (R S : A → Uses → Legal → Type 0) → ((s : A) (v : Uses) (g : Legal) → R s v g → S s v g)
    → {ss : List A} {vs : List Uses} {gs : List Legal} → Related R ss vs gs → Related S ss vs gs
related_as R S f Nil = Nil
related_as R S f (Cons {s = s} {v = v} {g = g} r rs) = Cons (f s v g r) (related_as R S f rs)

pub related_every : {A : Type 0} (P : A → Type 0) {ss : List A} {vs : List Uses} {gs : List Legal} →
    Related (λ s v g. P s) ss vs gs → Every P ss
related_every P Nil = tt
related_every P (Cons r rs) = (r, related_every P rs)

-- trees, each with the relation of what is folded from it
abbrev pub With : {T A : Type 0} → (A → Uses → Legal → Type 0) → (T → A) → (T → Uses) → (T → Legal) → Type 0
With {T = T} R f v g = (x : T) × R (f x) (v x) (g x)

pub related_of : {T A : Type 0} (R : A → Uses → Legal → Type 0) (f : T → A) (v : T → Uses) (g : T → Legal)
    (ys : List (With R f v g)) → Related R (map f (map (λ y. y.0) ys)) (map v (map (λ y. y.0) ys))
    (map g (map (λ y. y.0) ys))
related_of R f v g [] = Nil
related_of R f v g (y ∷ ys) = Cons y.1 (related_of R f v g ys)

-- an else stands behind a clause
pub clause_stands : {T : Type 0} (f : T → Handled) (g : T → Legal) (ys : List T) (e : Legal) (m : ℕ) → map f ys ≡ [] →
    has_clause (map g ys) (Some e) ≡ true → m ≡ 0
clause_stands f g [] e m q h = absurd (cc)
clause_stands f g (y ∷ ys) e m q h = absurd (cc)

-- ---- the folds at the other kinds of node

pub code_by_arm : ArmTree → Armed
code_by_arm = fold-Arm Stated Armed Claused Handled stmt_step arm_step clause_step handler_step

pub code_by_clause : ClauseTree → Claused
code_by_clause = fold-Clause Stated Armed Claused Handled stmt_step arm_step clause_step handler_step

pub code_by_handler : HandlerTree → Handled
code_by_handler = fold-Handler Stated Armed Claused Handled stmt_step arm_step clause_step handler_step

module _ (locals : ℕ → List (List ℕ)) where
  pub uses_by_arm : ArmTree → Uses
  uses_by_arm = fold-Arm Uses Uses Uses Uses (u.stmt_step locals) (u.arm_step locals) (u.clause_step locals)
      (u.handler_step locals)

  pub uses_by_clause : ClauseTree → Uses
  uses_by_clause = fold-Clause Uses Uses Uses Uses (u.stmt_step locals) (u.arm_step locals) (u.clause_step locals)
      (u.handler_step locals)

  pub uses_by_handler : HandlerTree → Uses
  uses_by_handler = fold-Handler Uses Uses Uses Uses (u.stmt_step locals) (u.arm_step locals) (u.clause_step locals)
      (u.handler_step locals)

-- ---- the induction

module _ (locals : ℕ → List (List ℕ)) (Rel : Stated → Uses → Legal → Type 0) (ArmRel : Armed → Uses → Legal → Type 0)
    (HandlerRel : Handled → Uses → Legal → Type 0) where
  abbrev pub OfStmt : Stmt → Type 0
  OfStmt x = Rel (stated x) (stmt_uses locals x) (legal x)

  abbrev pub OfArm : ArmTree → Type 0
  OfArm x = ArmRel (code_by_arm x) (uses_by_arm locals x) (legal_by_arm x)

  abbrev pub OfClause : ClauseTree → Type 0
  OfClause x = Rel (code_by_clause x).block (uses_by_clause locals x) (legal_by_clause x)

  abbrev pub OfHandler : HandlerTree → Type 0
  OfHandler x = HandlerRel (code_by_handler x) (uses_by_handler locals x) (legal_by_handler x)

  abbrev pub StmtWith : Type 0
  StmtWith = (x : Stmt) × OfStmt x

  abbrev pub ArmWith : Type 0
  ArmWith = (x : ArmTree) × OfArm x

  abbrev pub ClauseWith : Type 0
  ClauseWith = (x : ClauseTree) × OfClause x

  abbrev pub HandlerWith : Type 0
  HandlerWith = (x : HandlerTree) × OfHandler x

  -- one layer of a tree, whose parts are so
  abbrev pub LayerWith : Type 0
  LayerWith = open'.Stmt-F StmtWith ArmWith ClauseWith HandlerWith

  abbrev codes : open'.Stmt-F Stmt ArmTree ClauseTree HandlerTree → Stated
  codes x = stmt_step (map-Stmt Stmt ArmTree ClauseTree HandlerTree Stated Armed Claused Handled stated code_by_arm
      code_by_clause code_by_handler x)

  abbrev all_uses : open'.Stmt-F Stmt ArmTree ClauseTree HandlerTree → Uses
  all_uses x = u.stmt_step locals (map-Stmt Stmt ArmTree ClauseTree HandlerTree Uses Uses Uses Uses (stmt_uses locals)
      (uses_by_arm locals) (uses_by_clause locals) (uses_by_handler locals) x)

  abbrev is_legal : open'.Stmt-F Stmt ArmTree ClauseTree HandlerTree → Legal
  is_legal x = lg.stmt_step (map-Stmt Stmt ArmTree ClauseTree HandlerTree Legal Legal Legal Legal legal legal_by_arm
      legal_by_clause legal_by_handler x)

  abbrev Layer : open'.Stmt-F Stmt ArmTree ClauseTree HandlerTree → Type 0
  Layer x = Rel (codes x) (all_uses x) (is_legal x)

  abbrev pub IsLayer : LayerWith → Type 0
  IsLayer y = Layer (map-Stmt StmtWith ArmWith ClauseWith HandlerWith Stmt ArmTree ClauseTree HandlerTree (λ y. y.0)
      (λ y. y.0) (λ y. y.0) (λ y. y.0) y)

  rolled : (x : open'.Stmt-F Stmt ArmTree ClauseTree HandlerTree) → Layer x → OfStmt (roll-Stmt x)
  unfolding stated stmt_uses legal code_by_arm code_by_clause code_by_handler uses_by_arm uses_by_clause
      uses_by_handler legal_by_arm legal_by_clause legal_by_handler
  rolled x r =
      subst (λ q. Rel q (stmt_uses locals (roll-Stmt x)) (legal (roll-Stmt x)))
      (sym (fold-roll-Stmt Stated Armed Claused Handled stmt_step arm_step clause_step handler_step x))
      (subst (λ q. Rel (codes x) q (legal (roll-Stmt x)))
      (sym (fold-roll-Stmt Uses Uses Uses Uses (u.stmt_step locals) (u.arm_step locals) (u.clause_step locals)
      (u.handler_step locals) x))
      (subst (λ q. Rel (codes x) (all_uses x) q)
      (sym (fold-roll-Stmt Legal Legal Legal Legal lg.stmt_step lg.arm_step lg.clause_step lg.handler_step x)) r))

  rolled_arm : (x : open'.Arm-F Stmt ArmTree ClauseTree HandlerTree) →
      ArmRel (arm_step (map-Arm Stmt ArmTree ClauseTree HandlerTree Stated Armed Claused Handled stated code_by_arm
      code_by_clause code_by_handler x))
      (u.arm_step locals (map-Arm Stmt ArmTree ClauseTree HandlerTree Uses Uses Uses Uses (stmt_uses locals)
      (uses_by_arm locals) (uses_by_clause locals) (uses_by_handler locals) x))
      (lg.arm_step (map-Arm Stmt ArmTree ClauseTree HandlerTree Legal Legal Legal Legal legal legal_by_arm
      legal_by_clause legal_by_handler x)) → OfArm (roll-Arm x)
  unfolding stated stmt_uses legal code_by_arm code_by_clause code_by_handler uses_by_arm uses_by_clause
      uses_by_handler legal_by_arm legal_by_clause legal_by_handler
  rolled_arm x r =
      subst (λ q. ArmRel q (uses_by_arm locals (roll-Arm x)) (legal_by_arm (roll-Arm x)))
      (sym (fold-roll-Arm Stated Armed Claused Handled stmt_step arm_step clause_step handler_step x))
      (subst (λ q. ArmRel (arm_step (map-Arm Stmt ArmTree ClauseTree HandlerTree Stated Armed Claused Handled stated
      code_by_arm code_by_clause code_by_handler x)) q (legal_by_arm (roll-Arm x)))
      (sym (fold-roll-Arm Uses Uses Uses Uses (u.stmt_step locals) (u.arm_step locals) (u.clause_step locals)
      (u.handler_step locals) x))
      (subst (λ q. ArmRel (arm_step (map-Arm Stmt ArmTree ClauseTree HandlerTree Stated Armed Claused Handled stated
      code_by_arm code_by_clause code_by_handler x))
      (u.arm_step locals (map-Arm Stmt ArmTree ClauseTree HandlerTree Uses Uses Uses Uses (stmt_uses locals)
      (uses_by_arm locals) (uses_by_clause locals) (uses_by_handler locals) x)) q)
      (sym (fold-roll-Arm Legal Legal Legal Legal lg.stmt_step lg.arm_step lg.clause_step lg.handler_step x)) r))

  rolled_clause : (x : open'.Clause-F Stmt ArmTree ClauseTree HandlerTree) →
      Rel (clause_step (map-Clause Stmt ArmTree ClauseTree HandlerTree Stated Armed Claused Handled stated code_by_arm
      code_by_clause code_by_handler x)).block
      (u.clause_step locals (map-Clause Stmt ArmTree ClauseTree HandlerTree Uses Uses Uses Uses (stmt_uses locals)
      (uses_by_arm locals) (uses_by_clause locals) (uses_by_handler locals) x))
      (lg.clause_step (map-Clause Stmt ArmTree ClauseTree HandlerTree Legal Legal Legal Legal legal legal_by_arm
      legal_by_clause legal_by_handler x)) → OfClause (roll-Clause x)
  unfolding stated stmt_uses legal code_by_arm code_by_clause code_by_handler uses_by_arm uses_by_clause
      uses_by_handler legal_by_arm legal_by_clause legal_by_handler
  rolled_clause x r =
      subst (λ q. Rel q.block (uses_by_clause locals (roll-Clause x)) (legal_by_clause (roll-Clause x)))
      (sym (fold-roll-Clause Stated Armed Claused Handled stmt_step arm_step clause_step handler_step x))
      (subst (λ q. Rel (clause_step (map-Clause Stmt ArmTree ClauseTree HandlerTree Stated Armed Claused Handled stated
      code_by_arm code_by_clause code_by_handler x)).block q (legal_by_clause (roll-Clause x)))
      (sym (fold-roll-Clause Uses Uses Uses Uses (u.stmt_step locals) (u.arm_step locals) (u.clause_step locals)
      (u.handler_step locals) x))
      (subst (λ q. Rel (clause_step (map-Clause Stmt ArmTree ClauseTree HandlerTree Stated Armed Claused Handled stated
      code_by_arm code_by_clause code_by_handler x)).block
      (u.clause_step locals (map-Clause Stmt ArmTree ClauseTree HandlerTree Uses Uses Uses Uses (stmt_uses locals)
      (uses_by_arm locals) (uses_by_clause locals) (uses_by_handler locals) x)) q)
      (sym (fold-roll-Clause Legal Legal Legal Legal lg.stmt_step lg.arm_step lg.clause_step lg.handler_step x)) r))

  rolled_handler : (x : open'.Handler-F Stmt ArmTree ClauseTree HandlerTree) →
      HandlerRel (handler_step (map-Handler Stmt ArmTree ClauseTree HandlerTree Stated Armed Claused Handled stated
      code_by_arm code_by_clause code_by_handler x))
      (u.handler_step locals (map-Handler Stmt ArmTree ClauseTree HandlerTree Uses Uses Uses Uses (stmt_uses locals)
      (uses_by_arm locals) (uses_by_clause locals) (uses_by_handler locals) x))
      (lg.handler_step (map-Handler Stmt ArmTree ClauseTree HandlerTree Legal Legal Legal Legal legal legal_by_arm
      legal_by_clause legal_by_handler x)) → OfHandler (roll-Handler x)
  unfolding stated stmt_uses legal code_by_arm code_by_clause code_by_handler uses_by_arm uses_by_clause
      uses_by_handler legal_by_arm legal_by_clause legal_by_handler
  rolled_handler x r =
      subst (λ q. HandlerRel q (uses_by_handler locals (roll-Handler x)) (legal_by_handler (roll-Handler x)))
      (sym (fold-roll-Handler Stated Armed Claused Handled stmt_step arm_step clause_step handler_step x))
      (subst (λ q. HandlerRel (handler_step
      (map-Handler Stmt ArmTree ClauseTree HandlerTree Stated Armed Claused Handled stated code_by_arm
      code_by_clause code_by_handler x)) q (legal_by_handler (roll-Handler x)))
      (sym (fold-roll-Handler Uses Uses Uses Uses (u.stmt_step locals) (u.arm_step locals) (u.clause_step locals)
      (u.handler_step locals) x))
      (subst (λ q. HandlerRel (handler_step
      (map-Handler Stmt ArmTree ClauseTree HandlerTree Stated Armed Claused Handled stated code_by_arm
      code_by_clause code_by_handler x))
      (u.handler_step locals (map-Handler Stmt ArmTree ClauseTree HandlerTree Uses Uses Uses Uses
      (stmt_uses locals) (uses_by_arm locals) (uses_by_clause locals) (uses_by_handler locals) x)) q)
      (sym (fold-roll-Handler Legal Legal Legal Legal lg.stmt_step lg.arm_step lg.clause_step lg.handler_step x))
      r))

  -- A relation of each statement's layer, of blocks, arms and except clauses holds of every statement.
  module _
      (layer : (y : LayerWith) → IsLayer y)
      (of_block : (ss : List Stated) (vs : List Uses) (gs : List Legal) → Related Rel ss vs gs →
      Rel (block ss) (all_in_turn vs) (all_legal gs))
      (of_arm : (ln : ℕ) (t : Expr) (ss : List Stated) (vs : List Uses) (gs : List Legal) → Related Rel ss vs gs →
      ArmRel (record { line = ln; test = t; block = block ss }) (in_turn (quiet (λ b. read b t)) (all_in_turn vs))
      (both (always (sane t)) (all_legal gs)))
      (of_handler : (ln : ℕ) (e t : Option Expr) (ss : List Stated) (vs : List Uses) (gs : List Legal) →
      Related Rel ss vs gs → HandlerRel (record { line = ln; test = e; target = t; block = block ss })
      (in_turn (quiet (λ b. read_some b e ++ target_some b t)) (all_in_turn vs))
      (both (always (sane_some e && lg.target_some t)) (all_legal gs))) where
    parts : (ys : List StmtWith) → Related Rel (map stated (map (λ y. y.0) ys))
        (map (stmt_uses locals) (map (λ y. y.0) ys)) (map legal (map (λ y. y.0) ys))
    parts ys = related_of Rel stated (stmt_uses locals) legal ys

    pub every_stmt : (x : Stmt) → OfStmt x
    every_stmt = ind-Stmt OfStmt OfArm OfClause OfHandler
        (λ x y is. rolled x (subst Layer is (layer y)))
        (λ x y is. subst (λ q. OfArm (roll-Arm q)) is
        (rolled_arm (map-Arm StmtWith ArmWith ClauseWith HandlerWith Stmt ArmTree ClauseTree HandlerTree (λ y. y.0)
        (λ y. y.0) (λ y. y.0) (λ y. y.0) y) (of_arm y.line y.test _ _ _ (parts y.body))))
        (λ x y is. subst (λ q. OfClause (roll-Clause q)) is
        (rolled_clause (map-Clause StmtWith ArmWith ClauseWith HandlerWith Stmt ArmTree ClauseTree HandlerTree
        (λ y. y.0) (λ y. y.0) (λ y. y.0) (λ y. y.0) y) (of_block _ _ _ (parts y.body))))
        (λ x y is. subst (λ q. OfHandler (roll-Handler q)) is
        (rolled_handler (map-Handler StmtWith ArmWith ClauseWith HandlerWith Stmt ArmTree ClauseTree HandlerTree
        (λ y. y.0) (λ y. y.0) (λ y. y.0) (λ y. y.0) y) (of_handler y.line y.test y.target _ _ _ (parts y.body))))

    pub every_stmts : (xs : List Stmt) → Related Rel (all_stated xs) (map (stmt_uses locals) xs) (map legal xs)
    every_stmts [] = Nil
    every_stmts (x ∷ xs) = Cons (every_stmt x) (every_stmts xs)
