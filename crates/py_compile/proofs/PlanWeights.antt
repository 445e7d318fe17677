-- The equations of the weights of plans.
use Rattle.std.proofs.Common.{◌≡◌, ℕ, ◌+◌, Bor, List, [], ◌∷◌, map, refl, sym, ap, ◌∙◌}
use Rattle.py_tree.specs.declared.expr.Expr.{Expr}
use Rattle.py_tree.specs.declared.stmt.Arm.{Arm}
use Rattle.py_compile.specs.declared.plan.Plan.{Plan}
use Rattle.py_compile.specs.declared.plan.Plan.TheVariants as plan
use Rattle.py_compile.specs.declared.plan.Plan.TheOpen as open'
use Rattle.py_compile.specs.declared.plan.Plan.TheFolds.{fold-PlanArm, fold-PlanHandler, fold-roll-Plan, fold_out-PlanArm, fold_out-PlanHandler}
use Rattle.py_compile.specs.declared.plan.PlanArm.{PlanArm}
use Rattle.py_compile.specs.declared.plan.PlanHandler.{PlanHandler}
use Rattle.py_compile.specs.declared.plan.Simple.{Simple}
use Rattle.py_templates.specs.inner.Weights.{total}
use Rattle.py_compile.proofs.PlanBounds.{plan_weight_step, plan_arm_step, plan_handler_step, plan_weight, plan_weights, plan_weights_arms, plan_weights_handlers}

weight_arm : PlanArm → ℕ
weight_arm = fold-PlanArm ℕ ℕ ℕ plan_weight_step plan_arm_step plan_handler_step

weight_handler : PlanHandler → ℕ
weight_handler = fold-PlanHandler ℕ ℕ ℕ plan_weight_step plan_arm_step plan_handler_step

weights_same : (ps : List Plan) → total (map plan_weight ps) ≡ plan_weights ps
weights_same [] = refl
weights_same (p ∷ ps) = ap (λ z. plan_weight p + z) (weights_same ps)

weight_arm_same : (a : PlanArm) → weight_arm a ≡ plan_weights a.body
unfolding weight_arm plan_weight
weight_arm_same a = fold_out-PlanArm ℕ ℕ ℕ plan_weight_step plan_arm_step plan_handler_step a ∙ weights_same a.body

weight_handler_same : (h : PlanHandler) → weight_handler h ≡ plan_weights h.body
unfolding weight_handler plan_weight
weight_handler_same h = fold_out-PlanHandler ℕ ℕ ℕ plan_weight_step plan_arm_step plan_handler_step h ∙
    weights_same h.body

weight_arms_same : (xs : List PlanArm) → total (map weight_arm xs) ≡ plan_weights_arms xs
weight_arms_same [] = refl
weight_arms_same (a ∷ xs) = ap (λ z. z + total (map weight_arm xs)) (weight_arm_same a) ∙
    ap (λ z. plan_weights a.body + z) (weight_arms_same xs)

weight_handlers_same : (xs : List PlanHandler) → total (map weight_handler xs) ≡ plan_weights_handlers xs
weight_handlers_same [] = refl
weight_handlers_same (h ∷ xs) = ap (λ z. z + total (map weight_handler xs)) (weight_handler_same h) ∙
    ap (λ z. plan_weights h.body + z) (weight_handlers_same xs)

pub weight_simple : (s : Simple) → plan_weight (plan.Simple s) ≡ 8
unfolding plan_weight weight_arm weight_handler
weight_simple s = ap plan_weight (sym (plan.rolls-Simple s)) ∙
    fold-roll-Plan ℕ ℕ ℕ plan_weight_step plan_arm_step plan_handler_step (open'.Simple s)

pub weight_if : (as' : List PlanArm) (e : List Plan) →
    plan_weight (plan.If as' e) ≡ 8 + (plan_weights_arms as' + plan_weights e)
unfolding plan_weight weight_arm weight_handler
weight_if as' e = ap plan_weight (sym (plan.rolls-If as' e)) ∙
    fold-roll-Plan ℕ ℕ ℕ plan_weight_step plan_arm_step plan_handler_step (open'.If as' e)
    ∙ ap (λ z. 8 + (z + total (map plan_weight e))) (weight_arms_same as')
    ∙ ap (λ z. 8 + (plan_weights_arms as' + z)) (weights_same e)

pub weight_while : (a : Bor Arm) (ps : List Plan) (e : List Plan) →
    plan_weight (plan.While a ps e) ≡ 8 + (plan_weights ps + plan_weights e)
unfolding plan_weight weight_arm weight_handler
weight_while a ps e = ap plan_weight (sym (plan.rolls-While a ps e)) ∙
    fold-roll-Plan ℕ ℕ ℕ plan_weight_step plan_arm_step plan_handler_step (open'.While a ps e)
    ∙ ap (λ z. 8 + (z + total (map plan_weight e))) (weights_same ps)
    ∙ ap (λ z. 8 + (plan_weights ps + z)) (weights_same e)

pub weight_for : (ln : ℕ) (t : Bor Expr) (x : Bor Expr) (ps : List Plan) (e : List Plan) →
    plan_weight (plan.For ln t x ps e) ≡ 8 + (plan_weights ps + plan_weights e)
unfolding plan_weight weight_arm weight_handler
weight_for ln t x ps e = ap plan_weight (sym (plan.rolls-For ln t x ps e)) ∙
    fold-roll-Plan ℕ ℕ ℕ plan_weight_step plan_arm_step plan_handler_step (open'.For ln t x ps e)
    ∙ ap (λ z. 8 + (z + total (map plan_weight e))) (weights_same ps)
    ∙ ap (λ z. 8 + (plan_weights ps + z)) (weights_same e)

pub weight_try : (ln : ℕ) (ps : List Plan) (hs : List PlanHandler) (e : List Plan) →
    plan_weight (plan.Try ln ps hs e) ≡ 8 + (plan_weights ps + (plan_weights_handlers hs + plan_weights e))
unfolding plan_weight weight_arm weight_handler
weight_try ln ps hs e = ap plan_weight (sym (plan.rolls-Try ln ps hs e)) ∙
    fold-roll-Plan ℕ ℕ ℕ plan_weight_step plan_arm_step plan_handler_step (open'.Try ln ps hs e)
    ∙ ap (λ z. 8 + (z + (total (map weight_handler hs) + total (map plan_weight e)))) (weights_same ps)
    ∙ ap (λ z. 8 + (plan_weights ps + (z + total (map plan_weight e)))) (weight_handlers_same hs)
    ∙ ap (λ z. 8 + (plan_weights ps + (plan_weights_handlers hs + z))) (weights_same e)

pub weight_finally : (ln : ℕ) (ps : List Plan) (d : List Plan) →
    plan_weight (plan.Finally ln ps d) ≡ 8 + (plan_weights ps + plan_weights d)
unfolding plan_weight weight_arm weight_handler
weight_finally ln ps d = ap plan_weight (sym (plan.rolls-Finally ln ps d)) ∙
    fold-roll-Plan ℕ ℕ ℕ plan_weight_step plan_arm_step plan_handler_step (open'.Finally ln ps d)
    ∙ ap (λ z. 8 + (z + total (map plan_weight d))) (weights_same ps)
    ∙ ap (λ z. 8 + (plan_weights ps + z)) (weights_same d)
