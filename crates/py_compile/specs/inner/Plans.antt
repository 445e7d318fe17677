-- The mirror of the code: nothing public rests on it.
-- The code of plans: each is one row of the table. It belongs to `Statements`.
use Rattle.std.specs.Prelude.{◌≡◌, ℕ, List, [], ◌∷◌, ◌++◌, map}
use Rattle.py_tree.specs.declared.expr.Expr.{Expr}
use Rattle.py_tree.specs.declared.stmt.Arm.{Arm}
use Rattle.py_tree.specs.declared.stmt.Stmt.{Stmt}
use Rattle.py_tree.specs.declared.stmt.Stmt.TheVariants as s
use Rattle.py_compile.specs.declared.plan.Simple.{Simple}
use Rattle.py_compile.specs.declared.plan.Simple.TheVariants as simple
use Rattle.py_compile.specs.declared.plan.Plan.{Plan}
use Rattle.py_compile.specs.declared.plan.PlanArm.{PlanArm}
use Rattle.py_compile.specs.declared.plan.PlanHandler.{PlanHandler}
use Rattle.py_compile.specs.declared.plan.Plan.TheOpen as open'
use Rattle.py_compile.specs.declared.plan.Plan.TheFolds.{fold-Plan}
use Rattle.py_templates.specs.Template.{Piece, row}
use Rattle.py_templates.specs.Table.{def, class, arm, all_arms, while, for, try_except, try_finally, Around, InWhile, InFor, InTry, InClause, InFinally}
use Rattle.py_templates.specs.Names.{Known, home}
use Rattle.py_templates.specs.Expressions.{all_deleted, value, values, stored}
use Rattle.py_templates.specs.Statements.{base, clause, defaults, deletion, stated}

-- the statement that it stands for
abbrev pub simple_stmt : Simple → Stmt
simple_stmt (simple.Do ln x) = s.Do ln x.now
simple_stmt (simple.Assign ln ts x) = s.Assign ln ts.now x.now
simple_stmt (simple.Augment ln x o y) = s.Augment ln x.now o y.now
simple_stmt (simple.Print ln xs comma) = s.Print ln xs.now comma
simple_stmt (simple.Break ln) = s.Break ln
simple_stmt (simple.Continue ln) = s.Continue ln
simple_stmt (simple.Return ln x) = s.Return ln x.now
simple_stmt (simple.Raise ln x v) = s.Raise ln x.now v.now
simple_stmt (simple.Assert ln x m) = s.Assert ln x.now m.now
simple_stmt (simple.Import ln is) = s.Import ln is.now
simple_stmt (simple.From ln m is) = s.From ln m.now is.now

-- code in a body that knows these names, inside these constructs
abbrev pub Coded : Type 0
Coded = Known → List Around → Piece

abbrev pub each : List Coded → Known → List Around → List Piece
each [] n c = []
each (g ∷ gs) n c = g n c ∷ each gs n c

abbrev pub plan_step : open'.Plan-F Coded Coded Coded → Coded
plan_step (open'.Simple s) n c = (stated (simple_stmt s)).code n c 0
plan_step (open'.Delete ln ts) n c = deletion ln (all_deleted n ln (map (λ x. x.now) ts))
plan_step (open'.Def ln x ps f) n c = def ln (values n ln (defaults ps.now)) f (home n x.now)
plan_step (open'.Class ln x b f) n c = class ln (base n ln b.now) f (home n x.now)
plan_step (open'.If as' e) n c = all_arms 0 (each as' n c) (row (each e n c))
plan_step (open'.While a ps e) n c = while a.now.line (value n a.now.line a.now.test) (row (each ps n (InWhile ∷ c)))
    (row (each e n c))
plan_step (open'.For ln t x ps e) n c = for ln (stored n ln t.now) (value n ln x.now) (row (each ps n (InFor ∷ c)))
    (row (each e n c))
plan_step (open'.Try ln ps hs e) n c = try_except ln (row (each ps n (InTry ∷ c))) (each hs n c) (row (each e n c))
plan_step (open'.Finally ln ps d) n c = try_finally ln (row (each ps n (InFinally (row (each d n c)) ∷ c)))
    (row (each d n c))

abbrev pub arm_step : open'.PlanArm-F Coded Coded Coded → Coded
arm_step a n c = arm a.arm.now.line (value n a.arm.now.line a.arm.now.test) (row (each a.body n c))

abbrev pub handler_step : open'.PlanHandler-F Coded Coded Coded → Coded
handler_step h n c = clause n h.handler.now.line h.handler.now.test h.handler.now.target
    (row (each h.body n (InClause ∷ c)))

unfoldable pub planned : Plan → Coded
planned = fold-Plan Coded Coded Coded plan_step arm_step handler_step

-- plans, and arms and clauses of plans, one after another
abbrev pub planned_all : List Plan → Known → List Around → List Piece
planned_all [] n c = []
planned_all (p ∷ ps) n c = planned p n c ∷ planned_all ps n c

abbrev pub planned_arm : PlanArm → Coded
planned_arm a n c = arm a.arm.now.line (value n a.arm.now.line a.arm.now.test) (row (planned_all a.body n c))

abbrev pub planned_arms : List PlanArm → Known → List Around → List Piece
planned_arms [] n c = []
planned_arms (a ∷ as') n c = planned_arm a n c ∷ planned_arms as' n c

abbrev pub planned_handler : PlanHandler → Coded
planned_handler h n c = clause n h.handler.now.line h.handler.now.test h.handler.now.target
    (row (planned_all h.body n (InClause ∷ c)))

abbrev pub planned_handlers : List PlanHandler → Known → List Around → List Piece
planned_handlers [] n c = []
planned_handlers (h ∷ hs) n c = planned_handler h n c ∷ planned_handlers hs n c

abbrev pub planned_block : List Plan → Coded
planned_block ps n c = row (planned_all ps n c)

-- the code of compound statements over their plans
module _ (n : Known) (c : List Around) where
  abbrev pub if_plan : List PlanArm → List Plan → Piece
  if_plan as' e = all_arms 0 (planned_arms as' n c) (planned_block e n c)

  abbrev pub while_plan : Arm → List Plan → List Plan → Piece
  while_plan a ps e = while a.line (value n a.line a.test) (planned_block ps n (InWhile ∷ c)) (planned_block e n c)

  abbrev pub for_plan : ℕ → Expr → Expr → List Plan → List Plan → Piece
  for_plan ln t x ps e = for ln (stored n ln t) (value n ln x) (planned_block ps n (InFor ∷ c)) (planned_block e n c)

  abbrev pub try_plan : ℕ → List Plan → List PlanHandler → List Plan → Piece
  try_plan ln ps hs e = try_except ln (planned_block ps n (InTry ∷ c)) (planned_handlers hs n c) (planned_block e n c)

  abbrev pub finally_plan : ℕ → List Plan → List Plan → Piece
  finally_plan ln ps d = try_finally ln (planned_block ps n (InFinally (planned_block d n c) ∷ c)) (planned_block d n c)

-- these plans have that code
abbrev pub ArePlans : List Plan → Coded → Type 0
ArePlans ps g = (n : Known) (c : List Around) → planned_block ps n c ≡ g n c

-- the new plans have the code of the old ones and then that code
abbrev pub AddPlans : List Plan → List Plan → Coded → Type 0
AddPlans old new g = (n : Known) (c : List Around) (more : List Piece) →
    row (planned_all new n c ++ more) ≡ row (planned_all old n c ++ g n c ∷ more)
