use Rattle.std.proofs.Common.{refl, ap, length, ◌∙◌, ◌∷◌}
use Rattle.py_tree.specs.declared.expr.Expr.TheVariants as tree
use Rattle.py_tree.specs.declared.expr.Level.TheVariants as level
use Rattle.py_emit.specs.inner.Tasks.{Value}
use Rattle.py_emit.proofs.Steps.{advances_as, then_ok, value_alone, value_chained, value_compared}
use Rattle.py_emit.proofs.expression.comparison.Goals as goal

pub returns-in-None-clause-done : goal.returns-in-None-clause-done
returns-in-None-clause-done c = then_ok c.push.result _ _ c.push.ensures.done
    (λ q n ln. advances_as n _ _ _ _ _ _ _ (λ k. value_alone n k c.args.a.now _ _)
    (ap (λ z. Value (tree.Chain level.Compare c.args.a.now z)) c.in-None.ensures) q ln)

pub returns-in-None-split-clause-done : goal.returns-in-None-split-clause-done
returns-in-None-split-clause-done c = then_ok c.push_three.result _ _ c.push_three.ensures.done
    (λ q n ln. let f0 = c.operator_number.ensures in
    advances_as n _ _ _ _ _ _ _ (λ k. value_compared n k c.args.a.now c.in-Some.first.now _ _)
    (ap (λ z. Value (tree.Chain level.Compare c.args.a.now z))
    (c.in-Some.ensures ∙ ap (λ z. c.in-Some.first.now ∷ z) c.in-None-split.ensures)) (cc) ln)

pub returns-in-Some-split-clause-done : goal.returns-in-Some-split-clause-done
returns-in-Some-split-clause-done c = then_ok c.chained.result _ _ c.chained.ensures.done
    (λ q n ln. let f0 = c.in-Some-split.ensures in let f1 = q.1 in
    advances_as n _ _ _ _ _ _ _ (λ k. value_chained n k c.args.a.now c.in-Some.first.now c.in-Some-split.field-0.0.now
    c.in-Some-split.field-0.1.now (length c.args.e.now.labels) _ c.args.e.now _ refl q.0)
    (ap (λ z. Value (tree.Chain level.Compare c.args.a.now z))
    (c.in-Some.ensures ∙ ap (λ z. c.in-Some.first.now ∷ z) c.in-Some-split.ensures)) (cc) ln)
