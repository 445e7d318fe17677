use Rattle.std.proofs.Common.{ap, ◌∙◌, ◌∷◌}
use Rattle.py_tree.specs.declared.expr.Trailer.TheVariants as trailer
use Rattle.py_emit.specs.inner.Tasks.{Behind}
use Rattle.py_emit.proofs.RowSteps.{attribute_attribute, attribute_index, attribute_none, attribute_slice}
use Rattle.py_emit.proofs.Steps.{split_as, then_ok}
use Rattle.py_emit.proofs.expression.attribute.Goals as goal

pub returns-in-None-clause-done : goal.returns-in-None-clause-done
returns-in-None-clause-done c = then_ok c.push_two.result _ _ c.push_two.ensures.done
    (λ q. let f0 = c.text.ensures in let f1 = c.in-None.ensures in
    split_as c.args.names.now _ _ _ _ _ (λ ln e. attribute_none c.args.names.now ln c.args.name.now _ e)
    (ap (λ z. Behind (trailer.Attribute c.args.name.now ∷ z)) c.in-None.ensures) (cc))

pub returns-in-Attribute-clause-done : goal.returns-in-Attribute-clause-done
returns-in-Attribute-clause-done c = then_ok c.push_two-in-Attribute.result _ _ c.push_two-in-Attribute.ensures.done
    (λ q. let f0 = c.text.ensures in let f1 =
    (c.in-Some.ensures ∙ ap (λ z. z ∷ c.in-Some.others.now) c.in-Attribute.is) in
    split_as c.args.names.now _ _ _ _ _ (λ ln e. attribute_attribute c.args.names.now ln c.args.name.now
    c.in-Attribute.field-0 c.in-Some.others.now _ e)
    (ap (λ z. Behind (trailer.Attribute c.args.name.now ∷ z))
    (c.in-Some.ensures ∙ ap (λ z. z ∷ c.in-Some.others.now) c.in-Attribute.is)) (cc))

pub returns-in-Index-clause-done : goal.returns-in-Index-clause-done
returns-in-Index-clause-done c = then_ok c.push_two-in-Index.result _ _ c.push_two-in-Index.ensures.done
    (λ q. let f0 = c.text.ensures in let f1 = (c.in-Some.ensures ∙ ap (λ z. z ∷ c.in-Some.others.now) c.in-Index.is) in
    split_as c.args.names.now _ _ _ _ _ (λ ln e. attribute_index c.args.names.now ln c.args.name.now c.in-Index.field-0
    c.in-Some.others.now _ e) (ap (λ z. Behind (trailer.Attribute c.args.name.now ∷ z))
    (c.in-Some.ensures ∙ ap (λ z. z ∷ c.in-Some.others.now) c.in-Index.is)) (cc))

pub returns-in-Slice-clause-done : goal.returns-in-Slice-clause-done
returns-in-Slice-clause-done c = then_ok c.push_two-in-Slice.result _ _ c.push_two-in-Slice.ensures.done
    (λ q. let f0 = c.text.ensures in let f1 = (c.in-Some.ensures ∙ ap (λ z. z ∷ c.in-Some.others.now) c.in-Slice.is) in
    split_as c.args.names.now _ _ _ _ _ (λ ln e. attribute_slice c.args.names.now ln c.args.name.now c.in-Slice.field-0
    c.in-Slice.field-1 c.in-Some.others.now _ e)
    (ap (λ z. Behind (trailer.Attribute c.args.name.now ∷ z))
    (c.in-Some.ensures ∙ ap (λ z. z ∷ c.in-Some.others.now) c.in-Slice.is)) (cc))
