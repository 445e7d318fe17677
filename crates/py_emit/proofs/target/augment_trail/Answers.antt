use Rattle.std.proofs.Common.{refl, ap, ◌∙◌, ◌++◌, [], ◌∷◌}
use Rattle.py_tree.specs.declared.expr.Expr.TheVariants as tree
use Rattle.py_tree.specs.declared.expr.Trailer.TheVariants as trailer
use Rattle.py_emit.specs.inner.Tasks.{Augment}
use Rattle.py_templates.specs.Expressions.{add_at, operator, value}
use Rattle.py_templates.proofs.Coded.{coded_call, coded_slice, coded_trail}
use Rattle.py_emit.proofs.TargetSteps.{augment_attribute, augment_index, augment_nowhere, trail_place}
use Rattle.py_emit.proofs.Steps.{split_as, then_ok}
use Rattle.py_emit.proofs.target.augment_trail.Goals as goal

pub returns-in-None-clause-done : goal.returns-in-None-clause-done
returns-in-None-clause-done c = split_as c.args.names.now _ _ _ _ _
    (λ ln e. augment_nowhere c.args.names.now ln (tree.Trail c.args.a.now []) c.args.o c.args.y.now _ e
    (ap (λ z. add_at ln z (operator c.args.o) (value c.args.names.now ln c.args.y.now))
    (ap (λ z. z.place) (coded_trail c.args.names.now ln c.args.a.now []))))
    (ap (λ z. Augment (tree.Trail c.args.a.now z) c.args.o c.args.y.now) c.in-None.ensures) refl

pub returns-in-Attribute-clause-done : goal.returns-in-Attribute-clause-done
returns-in-Attribute-clause-done c = then_ok c.add_to_attribute.result _ _ c.add_to_attribute.ensures.done
    (λ q. let f0 = c.text-root.ensures in let f1 = c.as_slice.ensures in let f2 = c.operator_number.ensures in
    split_as c.args.names.now _ _ _ _ _ (λ ln e. augment_attribute c.args.names.now ln c.args.a.now c.in-Some.front.now
    c.in-Attribute.m c.args.o c.args.y.now _ e)
    (ap (λ z. Augment (tree.Trail c.args.a.now z) c.args.o c.args.y.now)
    (c.in-Some.ensures ∙ ap (λ z. c.in-Some.front.now ++ z ∷ []) c.in-Attribute.is)) (cc))

pub returns-in-Index-clause-done : goal.returns-in-Index-clause-done
returns-in-Index-clause-done c = then_ok c.add_to_item.result _ _ c.add_to_item.ensures.done
    (λ q. let f0 = c.get.ensures in let f1 = c.operator_number-in-Index.ensures in
    split_as c.args.names.now _ _ _ _ _ (λ ln e. augment_index c.args.names.now ln c.args.a.now c.in-Some.front.now
    c.in-Index.i c.args.o c.args.y.now _ e)
    (ap (λ z. Augment (tree.Trail c.args.a.now z) c.args.o c.args.y.now)
    (c.in-Some.ensures ∙ ap (λ z. c.in-Some.front.now ++ z ∷ []) c.in-Index.is)) (cc))

pub returns-in-Slice-clause-done : goal.returns-in-Slice-clause-done
returns-in-Slice-clause-done c = split_as c.args.names.now _ _ _ _ _
    (λ ln e. augment_nowhere c.args.names.now ln
    (tree.Trail c.args.a.now (c.in-Some.front.now ++ trailer.Slice c.in-Slice.field-0 c.in-Slice.field-1 ∷ []))
    c.args.o c.args.y.now _ e (ap (λ z. add_at ln z (operator c.args.o) (value c.args.names.now ln c.args.y.now))
    (trail_place c.args.names.now ln c.args.a.now c.in-Some.front.now
    (trailer.Slice c.in-Slice.field-0 c.in-Slice.field-1) _
    (coded_slice c.args.names.now ln c.in-Slice.field-0 c.in-Slice.field-1))))
    (ap (λ z. Augment (tree.Trail c.args.a.now z) c.args.o c.args.y.now)
    (c.in-Some.ensures ∙ ap (λ z. c.in-Some.front.now ++ z ∷ []) c.in-Slice.is)) refl

pub returns-in-Call-clause-done : goal.returns-in-Call-clause-done
returns-in-Call-clause-done c = split_as c.args.names.now _ _ _ _ _
    (λ ln e. augment_nowhere c.args.names.now ln
    (tree.Trail c.args.a.now (c.in-Some.front.now ++ trailer.Call c.in-Call.field-0 c.in-Call.field-1 ∷ [])) c.args.o
    c.args.y.now _ e (ap (λ z. add_at ln z (operator c.args.o) (value c.args.names.now ln c.args.y.now))
    (trail_place c.args.names.now ln c.args.a.now c.in-Some.front.now
    (trailer.Call c.in-Call.field-0 c.in-Call.field-1) _
    (coded_call c.args.names.now ln c.in-Call.field-0 c.in-Call.field-1))))
    (ap (λ z. Augment (tree.Trail c.args.a.now z) c.args.o c.args.y.now)
    (c.in-Some.ensures ∙ ap (λ z. c.in-Some.front.now ++ z ∷ []) c.in-Call.is)) refl
