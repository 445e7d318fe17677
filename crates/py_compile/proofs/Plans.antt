-- The code of plans, and what it means that they are those of statements.
use Rattle.std.proofs.Common.{◌≡◌, ℕ, ◌+◌, Bor, Option, List, [], ◌∷◌, ◌++◌, map, refl, sym, ap, ◌∙◌, arith, append-nil}
use Rattle.py_tree.specs.declared.expr.Expr.{Expr}
use Rattle.py_tree.specs.declared.stmt.Arm.{Arm}
use Rattle.py_tree.specs.declared.stmt.Handler.{Handler}
use Rattle.py_tree.specs.declared.stmt.Param.{Param}
use Rattle.py_compile.specs.declared.plan.Plan.{Plan}
use Rattle.py_compile.specs.declared.plan.Plan.TheVariants as plan
use Rattle.py_compile.specs.declared.plan.Plan.TheOpen as open'
use Rattle.py_compile.specs.declared.plan.Plan.TheFolds.{fold-PlanArm, fold-PlanHandler, fold-roll-Plan, fold_out-PlanArm, fold_out-PlanHandler}
use Rattle.py_compile.specs.declared.plan.PlanArm.{PlanArm}
use Rattle.py_compile.specs.declared.plan.PlanHandler.{PlanHandler}
use Rattle.py_compile.specs.declared.plan.Simple.{Simple}
use Rattle.py_compile.specs.declared.plan.Simple.TheVariants as simple
use Rattle.py_compile.specs.inner.Deletions.{SameDeletions}
use Rattle.py_templates.specs.Template.{Piece, Alone, template, row}
use Rattle.py_templates.specs.Table.{nothing, def, class, arm, all_arms, while, for, try_except, try_finally, Around, InWhile, InFor, InTry, InClause, InFinally}
use Rattle.py_templates.specs.Names.{Known, home}
use Rattle.py_templates.specs.Expressions.{all_deleted, value, values, stored}
use Rattle.py_templates.specs.Statements.{Stated, all_stated, armed, base, block, clause, count, defaults, deletion, handled, pieces, stated, stated_arms, stated_block, stated_handlers, still}
use Rattle.py_compile.specs.inner.Plans.{Coded, each, plan_step, arm_step, handler_step, simple_stmt, planned, planned_all, planned_arm, planned_arms, planned_handler, planned_handlers, ArePlans, AddPlans, if_plan, while_plan, for_plan, try_plan, finally_plan}
use Rattle.py_templates.proofs.RowsEqual.{row_flat}
use Rattle.py_templates.proofs.Stateds as k

-- a piece alone in its row

plus_none : (n : ℕ) → n + 0 ≡ n
plus_none n = omega arith

none_plus : (n : ℕ) → 0 + (n + 0) ≡ n
none_plus n = omega arith

pub row_one : (p : Piece) → row (p ∷ []) ≡ p
row_one p = λ i. record {
  size = plus_none p.size i;
  slots = none_plus p.slots i;
  lines = append-nil p.lines i;
  code = λ env q k. (append-nil (p.code env q (k + 0)) ∙ ap (λ z. p.code env q z) (plus_none k)) i;
}

-- plans one behind another

planned_more : (old : List Plan) (p : Plan) (n : Known) (c : List Around) (more : List Piece) →
    planned_all (old ++ p ∷ []) n c ++ more ≡ planned_all old n c ++ planned p n c ∷ more
planned_more [] p n c more = refl
planned_more (q ∷ old) p n c more = ap (λ z. planned q n c ∷ z) (planned_more old p n c more)

pub add_plan : (old new : List Plan) (p : Plan) (g : Coded) → new ≡ old ++ p ∷ [] →
    ((n : Known) (c : List Around) → planned p n c ≡ g n c) → AddPlans old new g
add_plan old new p g e h n c more =
    ap (λ z. row (planned_all z n c ++ more)) e
    ∙ ap row (planned_more old p n c more)
    ∙ ap (λ z. row (planned_all old n c ++ z ∷ more)) (h n c)

-- no code is no plan
pub add_none : (old : List Plan) (ln : ℕ) → AddPlans old old (λ n c. nothing ln)
add_none old ln n c more = sym (row_flat (planned_all old n c) [] more)

pub no_delete : (old : List Plan) (ln : ℕ) (xs : List Expr) → SameDeletions [] xs →
    AddPlans old old (λ n c. deletion ln (all_deleted n ln xs))
no_delete old ln xs h n c more = sym (row_flat (planned_all old n c) [] more) ∙
    ap (λ z. row (planned_all old n c ++ template ln 0 0 (Alone z ∷ []) ∷ more)) (h.code n ln)

-- what was added to nothing
pub alone : (new : List Plan) (g : Coded) → AddPlans [] new g → ArePlans new g
alone new g h n c = ap row (sym (append-nil (planned_all new n c))) ∙ h n c [] ∙ row_one (g n c)

-- from the old plans and all these statements to plans and the rest of the statements, whose bodies are numbered from g
-- on
pub record Added (old : List Plan) (all : List Stated) (f : ℕ) (new : List Plan) (rest : List Stated) (g : ℕ) : Type 0
  where
    pub same : (n : Known) (c : List Around) (more : List Piece) →
        row (planned_all new n c ++ (pieces rest n c g ++ more)) ≡ row
        (planned_all old n c ++ (pieces all n c f ++ more))

pub added_start : (old : List Plan) (all : List Stated) (f : ℕ) → Added old all f old all f
added_start old all f = record { same = λ n c more. refl }

pub added_step : (old : List Plan) (all : List Stated) (f : ℕ) (new : List Plan) (s : Stated) (rest : List Stated)
    (g : ℕ) (newer : List Plan) → Added old all f new (s ∷ rest) g → AddPlans new newer (λ n c. s.code n c g) →
    Added old all f newer rest (g + s.bodies)
added_step old all f new s rest g newer a h =
    record { same = λ n c more. h n c (pieces rest n c (g + s.bodies) ++ more) ∙ a.same n c more }

pub added_end : (old : List Plan) (all : List Stated) (f : ℕ) (new : List Plan) (g : ℕ) → Added old all f new [] g →
    AddPlans old new (λ n c. (block all).code n c f)
added_end old all f new g a n c more = a.same n c more ∙ sym (row_flat (planned_all old n c) (pieces all n c f) more)

-- arms and except clauses one behind another

pub arms_more : (old : List PlanArm) (a : PlanArm) (n : Known) (c : List Around) (more : List Piece) →
    planned_arms (old ++ a ∷ []) n c ++ more ≡ planned_arms old n c ++ planned_arm a n c ∷ more
arms_more [] a n c more = refl
arms_more (b ∷ old) a n c more = ap (λ z. planned_arm b n c ∷ z) (arms_more old a n c more)

pub handlers_more : (old : List PlanHandler) (h : PlanHandler) (n : Known) (c : List Around) (more : List Piece) →
    planned_handlers (old ++ h ∷ []) n c ++ more ≡ planned_handlers old n c ++ planned_handler h n c ∷ more
handlers_more [] h n c more = refl
handlers_more (b ∷ old) h n c more = ap (λ z. planned_handler b n c ∷ z) (handlers_more old h n c more)

-- the equations of the code of plans

each_same : (ps : List Plan) (n : Known) (c : List Around) → each (map planned ps) n c ≡ planned_all ps n c
each_same [] n c = refl
each_same (p ∷ ps) n c = ap (λ z. planned p n c ∷ z) (each_same ps n c)

folded_arm : PlanArm → Coded
folded_arm = fold-PlanArm Coded Coded Coded plan_step arm_step handler_step

folded_handler : PlanHandler → Coded
folded_handler = fold-PlanHandler Coded Coded Coded plan_step arm_step handler_step

arm_same : (a : PlanArm) (n : Known) (c : List Around) → folded_arm a n c ≡ planned_arm a n c
unfolding folded_arm planned
arm_same a n c = ap (λ g. g n c) (fold_out-PlanArm Coded Coded Coded plan_step arm_step handler_step a) ∙
    ap (λ z. arm a.arm.now.line (value n a.arm.now.line a.arm.now.test) (row z)) (each_same a.body n c)

handler_same : (h : PlanHandler) (n : Known) (c : List Around) → folded_handler h n c ≡ planned_handler h n c
unfolding folded_handler planned
handler_same h n c = ap (λ g. g n c) (fold_out-PlanHandler Coded Coded Coded plan_step arm_step handler_step h) ∙
    ap (λ z. clause n h.handler.now.line h.handler.now.test h.handler.now.target (row z))
    (each_same h.body n (InClause ∷ c))

arms_same : (xs : List PlanArm) (n : Known) (c : List Around) → each (map folded_arm xs) n c ≡ planned_arms xs n c
arms_same [] n c = refl
arms_same (a ∷ xs) n c = ap (λ z. z ∷ each (map folded_arm xs) n c) (arm_same a n c) ∙
    ap (λ z. planned_arm a n c ∷ z) (arms_same xs n c)

handlers_same : (xs : List PlanHandler) (n : Known) (c : List Around) →
    each (map folded_handler xs) n c ≡ planned_handlers xs n c
handlers_same [] n c = refl
handlers_same (h ∷ xs) n c = ap (λ z. z ∷ each (map folded_handler xs) n c) (handler_same h n c) ∙
    ap (λ z. planned_handler h n c ∷ z) (handlers_same xs n c)

pub planned_simple : (s : Simple) (n : Known) (c : List Around) →
    planned (plan.Simple s) n c ≡ (stated (simple_stmt s)).code n c 0
unfolding planned folded_arm folded_handler
planned_simple s n c = ap (λ z. planned z n c) (sym (plan.rolls-Simple s)) ∙
    ap (λ g. g n c) (fold-roll-Plan Coded Coded Coded plan_step arm_step handler_step (open'.Simple s))

pub planned_delete : (ln : ℕ) (ts : List (Bor Expr)) (n : Known) (c : List Around) →
    planned (plan.Delete ln ts) n c ≡ deletion ln (all_deleted n ln (map (λ x. x.now) ts))
unfolding planned folded_arm folded_handler
planned_delete ln ts n c = ap (λ z. planned z n c) (sym (plan.rolls-Delete ln ts)) ∙
    ap (λ g. g n c) (fold-roll-Plan Coded Coded Coded plan_step arm_step handler_step (open'.Delete ln ts))

pub planned_def : (ln : ℕ) (x : Bor (List ℕ)) (ps : Bor (List Param)) (f : ℕ) (n : Known) (c : List Around) →
    planned (plan.Def ln x ps f) n c ≡ def ln (values n ln (defaults ps.now)) f (home n x.now)
unfolding planned folded_arm folded_handler
planned_def ln x ps f n c = ap (λ z. planned z n c) (sym (plan.rolls-Def ln x ps f)) ∙
    ap (λ g. g n c) (fold-roll-Plan Coded Coded Coded plan_step arm_step handler_step (open'.Def ln x ps f))

pub planned_class : (ln : ℕ) (x : Bor (List ℕ)) (b : Bor (Option Expr)) (f : ℕ) (n : Known) (c : List Around) →
    planned (plan.Class ln x b f) n c ≡ class ln (base n ln b.now) f (home n x.now)
unfolding planned folded_arm folded_handler
planned_class ln x b f n c = ap (λ z. planned z n c) (sym (plan.rolls-Class ln x b f)) ∙
    ap (λ g. g n c) (fold-roll-Plan Coded Coded Coded plan_step arm_step handler_step (open'.Class ln x b f))

pub planned_if : (as' : List PlanArm) (e : List Plan) (n : Known) (c : List Around) →
    planned (plan.If as' e) n c ≡ if_plan n c as' e
unfolding planned folded_arm folded_handler
planned_if as' e n c = ap (λ z. planned z n c) (sym (plan.rolls-If as' e)) ∙
    ap (λ g. g n c) (fold-roll-Plan Coded Coded Coded plan_step arm_step handler_step (open'.If as' e))
    ∙ ap (λ z. all_arms 0 z (row (each (map planned e) n c))) (arms_same as' n c)
    ∙ ap (λ z. all_arms 0 (planned_arms as' n c) (row z)) (each_same e n c)

pub planned_while : (a : Bor Arm) (ps : List Plan) (e : List Plan) (n : Known) (c : List Around) →
    planned (plan.While a ps e) n c ≡ while_plan n c a.now ps e
unfolding planned folded_arm folded_handler
planned_while a ps e n c = ap (λ z. planned z n c) (sym (plan.rolls-While a ps e)) ∙
    ap (λ g. g n c) (fold-roll-Plan Coded Coded Coded plan_step arm_step handler_step (open'.While a ps e))
    ∙ ap (λ z. while a.now.line (value n a.now.line a.now.test) (row z) (row (each (map planned e) n c)))
    (each_same ps n (InWhile ∷ c))
    ∙ ap (λ z. while a.now.line (value n a.now.line a.now.test) (row (planned_all ps n (InWhile ∷ c))) (row z))
    (each_same e n c)

pub planned_for : (ln : ℕ) (t : Bor Expr) (x : Bor Expr) (ps : List Plan) (e : List Plan) (n : Known) (c : List Around)
    → planned (plan.For ln t x ps e) n c ≡ for_plan n c ln t.now x.now ps e
unfolding planned folded_arm folded_handler
planned_for ln t x ps e n c = ap (λ z. planned z n c) (sym (plan.rolls-For ln t x ps e)) ∙
    ap (λ g. g n c) (fold-roll-Plan Coded Coded Coded plan_step arm_step handler_step (open'.For ln t x ps e))
    ∙ ap (λ z. for ln (stored n ln t.now) (value n ln x.now) (row z) (row (each (map planned e) n c)))
    (each_same ps n (InFor ∷ c))
    ∙ ap (λ z. for ln (stored n ln t.now) (value n ln x.now) (row (planned_all ps n (InFor ∷ c))) (row z))
    (each_same e n c)

pub planned_try : (ln : ℕ) (ps : List Plan) (hs : List PlanHandler) (e : List Plan) (n : Known) (c : List Around) →
    planned (plan.Try ln ps hs e) n c ≡ try_plan n c ln ps hs e
unfolding planned folded_arm folded_handler
planned_try ln ps hs e n c = ap (λ z. planned z n c) (sym (plan.rolls-Try ln ps hs e)) ∙
    ap (λ g. g n c) (fold-roll-Plan Coded Coded Coded plan_step arm_step handler_step (open'.Try ln ps hs e))
    ∙ ap (λ z. try_except ln (row z) (each (map folded_handler hs) n c) (row (each (map planned e) n c)))
    (each_same ps n (InTry ∷ c))
    ∙ ap (λ z. try_except ln (row (planned_all ps n (InTry ∷ c))) z (row (each (map planned e) n c)))
    (handlers_same hs n c)
    ∙ ap (λ z. try_except ln (row (planned_all ps n (InTry ∷ c))) (planned_handlers hs n c) (row z)) (each_same e n c)

pub planned_finally : (ln : ℕ) (ps : List Plan) (d : List Plan) (n : Known) (c : List Around) →
    planned (plan.Finally ln ps d) n c ≡ finally_plan n c ln ps d
unfolding planned folded_arm folded_handler
planned_finally ln ps d n c = ap (λ z. planned z n c) (sym (plan.rolls-Finally ln ps d)) ∙
    ap (λ g. g n c) (fold-roll-Plan Coded Coded Coded plan_step arm_step handler_step (open'.Finally ln ps d))
    ∙ ap (λ z. try_finally ln (row z) (row (each (map planned d) n c)))
    (each_same ps n (InFinally (row (each (map planned d) n c)) ∷ c))
    ∙ ap (λ z. try_finally ln (row (planned_all ps n (InFinally (row z) ∷ c))) (row z)) (each_same d n c)

-- the same over the code of the parts

pub delete_plans : (ln : ℕ) (ts : List (Bor Expr)) (xs : List Expr) → SameDeletions (map (λ x. x.now) ts) xs →
    (n : Known) (c : List Around) → planned (plan.Delete ln ts) n c ≡ deletion ln (all_deleted n ln xs)
delete_plans ln ts xs h n c = planned_delete ln ts n c ∙ ap (λ z. template ln 0 0 (Alone z ∷ [])) (h.code n ln)

module _ (n : Known) (c : List Around) where
  pub if_plans : (as' : List PlanArm) (e : List Plan) (arms : List Piece) (other : Piece) → planned_arms as' n c ≡ arms
      → row (planned_all e n c) ≡ other → planned (plan.If as' e) n c ≡ all_arms 0 arms other
  if_plans as' e arms other h1 h2 = planned_if as' e n c ∙ ap (λ z. all_arms 0 z (row (planned_all e n c))) h1 ∙
      ap (all_arms 0 arms) h2

  pub while_plans : (a : Bor Arm) (ps e : List Plan) (body other : Piece) → row (planned_all ps n (InWhile ∷ c)) ≡ body
      → row (planned_all e n c) ≡ other →
      planned (plan.While a ps e) n c ≡ while a.now.line (value n a.now.line a.now.test) body other
  while_plans a ps e body other h1 h2 = planned_while a ps e n c ∙
      ap (λ z. while a.now.line (value n a.now.line a.now.test) z (row (planned_all e n c))) h1 ∙
      ap (while a.now.line (value n a.now.line a.now.test) body) h2

  pub for_plans : (ln : ℕ) (t x : Bor Expr) (ps e : List Plan) (body other : Piece) →
      row (planned_all ps n (InFor ∷ c)) ≡ body → row (planned_all e n c) ≡ other →
      planned (plan.For ln t x ps e) n c ≡ for ln (stored n ln t.now) (value n ln x.now) body other
  for_plans ln t x ps e body other h1 h2 = planned_for ln t x ps e n c ∙
      ap (λ z. for ln (stored n ln t.now) (value n ln x.now) z (row (planned_all e n c))) h1 ∙
      ap (for ln (stored n ln t.now) (value n ln x.now) body) h2

  pub try_plans : (ln : ℕ) (ps : List Plan) (hs : List PlanHandler) (e : List Plan) (body : Piece)
      (clauses : List Piece) (other : Piece) → row (planned_all ps n (InTry ∷ c)) ≡ body →
      planned_handlers hs n c ≡ clauses → row (planned_all e n c) ≡ other →
      planned (plan.Try ln ps hs e) n c ≡ try_except ln body clauses other
  try_plans ln ps hs e body clauses other h1 h2 h3 = planned_try ln ps hs e n c ∙
      ap (λ z. try_except ln z (planned_handlers hs n c) (row (planned_all e n c))) h1 ∙
      ap (λ z. try_except ln body z (row (planned_all e n c))) h2 ∙ ap (try_except ln body clauses) h3

  pub finally_plans : (ln : ℕ) (ps d : List Plan) (inner last : Piece) →
      row (planned_all ps n (InFinally last ∷ c)) ≡ inner → row (planned_all d n c) ≡ last →
      planned (plan.Finally ln ps d) n c ≡ try_finally ln inner last
  finally_plans ln ps d inner last h1 h2 =
      planned_finally ln ps d n c
      ∙ ap (λ z. try_finally ln (row (planned_all ps n (InFinally z ∷ c))) z) h2
      ∙ ap (λ z. try_finally ln z last) h1

  -- of an `else` block, whose own bodies are numbered from g on
  pub other_code : (s t : Stated) (f g : ℕ) (p : Piece) → s ≡ t → g ≡ f → p ≡ t.code n c g → p ≡ s.code n c f
  other_code s t f g p e1 e2 h = h ∙ ap (λ z. t.code n c z) e2 ∙ ap (λ z. z.code n c f) (sym e1)

  -- one more arm or except clause of a plan
  pub arms_step : (old new : List PlanArm) (a : PlanArm) (rest : List Arm) (g h : ℕ) (all : List Piece) →
      new ≡ old ++ a ∷ [] → row (planned_all a.body n c) ≡ (stated_block a.arm.now.body).code n c g →
      h ≡ g + count (all_stated a.arm.now.body) → planned_arms old n c ++ armed (stated_arms (a.arm.now ∷ rest)) n c g
      ≡ all → planned_arms new n c ++ armed (stated_arms rest) n c h ≡ all
  arms_step old new a rest g h all e1 e2 e3 i =
      ap (λ z. planned_arms z n c ++ armed (stated_arms rest) n c h) e1
      ∙ arms_more old a n c (armed (stated_arms rest) n c h)
      ∙ ap (λ z. planned_arms old n c ++ arm a.arm.now.line (value n a.arm.now.line a.arm.now.test) z ∷ armed
      (stated_arms rest) n c h) e2
      ∙ ap (λ z. planned_arms old n c ++ arm a.arm.now.line (value n a.arm.now.line a.arm.now.test)
      ((stated_block a.arm.now.body).code n c g) ∷ armed (stated_arms rest) n c z) e3
      ∙ i

  pub handlers_step : (old new : List PlanHandler) (a : PlanHandler) (rest : List Handler) (g h : ℕ) (all : List Piece)
      → new ≡ old ++ a ∷ [] → row (planned_all a.body n (InClause ∷ c)) ≡ (stated_block a.handler.now.body).code n
      (InClause ∷ c) g → h ≡ g + count (all_stated a.handler.now.body) →
      planned_handlers old n c ++ handled (stated_handlers (a.handler.now ∷ rest)) n c g ≡ all →
      planned_handlers new n c ++ handled (stated_handlers rest) n c h ≡ all
  handlers_step old new a rest g h all e1 e2 e3 i =
      ap (λ z. planned_handlers z n c ++ handled (stated_handlers rest) n c h) e1
      ∙ handlers_more old a n c (handled (stated_handlers rest) n c h)
      ∙ ap (λ z. planned_handlers old n c ++ clause n a.handler.now.line a.handler.now.test a.handler.now.target z ∷
      handled (stated_handlers rest) n c h) e2
      ∙ ap (λ z. planned_handlers old n c ++ clause n a.handler.now.line a.handler.now.test a.handler.now.target
      ((stated_block a.handler.now.body).code n (InClause ∷ c) g) ∷ handled (stated_handlers rest) n c z) e3
      ∙ i

-- simple statements: their code asks for no number, and they have no bodies

still_code : (s : Stated) (g : Coded) → s ≡ still g → (n : Known) (c : List Around) (f : ℕ) →
    s.code n c 0 ≡ s.code n c f
still_code s g e n c f = ap (λ z. z.code n c 0) e ∙ sym (ap (λ z. z.code n c f) e)

still_simple : (s : Simple) → (g : Coded) × (stated (simple_stmt s) ≡ still g)
still_simple (simple.Do ln x) = (_, k.stated_do ln x.now)
still_simple (simple.Assign ln ts x) = (_, k.stated_assign ln ts.now x.now)
still_simple (simple.Augment ln x o y) = (_, k.stated_augment ln x.now o y.now)
still_simple (simple.Print ln xs b) = (_, k.stated_print ln xs.now b)
still_simple (simple.Break ln) = (_, k.stated_break ln)
still_simple (simple.Continue ln) = (_, k.stated_continue ln)
still_simple (simple.Return ln x) = (_, k.stated_return ln x.now)
still_simple (simple.Raise ln x v) = (_, k.stated_raise ln x.now v.now)
still_simple (simple.Assert ln x m) = (_, k.stated_assert ln x.now m.now)
still_simple (simple.Import ln is) = (_, k.stated_import ln is.now)
still_simple (simple.From ln m is) = (_, k.stated_from ln m.now is.now)

pub simple_bodies : (s : Simple) → (stated (simple_stmt s)).bodies ≡ 0
simple_bodies s = ap (λ z. z.bodies) (still_simple s).1

pub simple_code : (s : Simple) (n : Known) (c : List Around) (f : ℕ) →
    planned (plan.Simple s) n c ≡ (stated (simple_stmt s)).code n c f
simple_code s n c f = planned_simple s n c ∙ still_code (stated (simple_stmt s)) (still_simple s).0 (still_simple s).1
    n c f
