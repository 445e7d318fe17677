-- A bound on how deep the emission of plans goes, for the recursion over them.
use Rattle.std.specs.Prelude.{ℕ, ◌+◌, List, [], ◌∷◌}
use Rattle.py_compile.specs.declared.plan.Plan.{Plan}
use Rattle.py_compile.specs.declared.plan.PlanArm.{PlanArm}
use Rattle.py_compile.specs.declared.plan.PlanHandler.{PlanHandler}
use Rattle.py_compile.specs.declared.plan.Plan.TheOpen as open'
use Rattle.py_compile.specs.declared.plan.Plan.TheFolds.{fold-Plan}
use Rattle.py_compile.specs.declared.around.Around.{Around as Round}
use Rattle.py_compile.specs.declared.around.Around.TheVariants.{Body, While', For', Try', Clause', Finally'}
use Rattle.py_templates.specs.inner.Weights.{total}

abbrev pub plan_weight_step : open'.Plan-F ℕ ℕ ℕ → ℕ
plan_weight_step (open'.If as' e) = 8 + (total as' + total e)
plan_weight_step (open'.While a ps e) = 8 + (total ps + total e)
plan_weight_step (open'.For ln t x ps e) = 8 + (total ps + total e)
plan_weight_step (open'.Try ln ps hs e) = 8 + (total ps + (total hs + total e))
plan_weight_step (open'.Finally ln ps d) = 8 + (total ps + total d)
plan_weight_step _ = 8

abbrev pub plan_arm_step : open'.PlanArm-F ℕ ℕ ℕ → ℕ
plan_arm_step a = total a.body

abbrev pub plan_handler_step : open'.PlanHandler-F ℕ ℕ ℕ → ℕ
plan_handler_step h = total h.body

unfoldable pub plan_weight : Plan → ℕ
plan_weight = fold-Plan ℕ ℕ ℕ plan_weight_step plan_arm_step plan_handler_step

abbrev pub plan_weights : List Plan → ℕ
plan_weights [] = 0
plan_weights (p ∷ ps) = plan_weight p + plan_weights ps

abbrev pub plan_weights_arms : List PlanArm → ℕ
plan_weights_arms [] = 0
plan_weights_arms (a ∷ as') = plan_weights a.body + plan_weights_arms as'

abbrev pub plan_weights_handlers : List PlanHandler → ℕ
plan_weights_handlers [] = 0
plan_weights_handlers (h ∷ hs) = plan_weights h.body + plan_weights_handlers hs

-- the finally bodies round a statement, and 1 for each construct
abbrev pub outside : Round → ℕ
outside Body = 0
outside (While' b r o) = 1 + outside o
outside (For' b r o) = 1 + outside o
outside (Try' b s r o) = 1 + outside o
outside (Clause' b s r o) = 1 + outside o
outside (Finally' b s d r o) = 2 + plan_weights d.now + outside o
