use Rattle.std.proofs.Common.{refl, ap, ◌∙◌, ◌++◌, [], ◌∷◌}
use Rattle.py_tree.specs.declared.expr.Expr.TheVariants as tree
use Rattle.py_tree.specs.declared.expr.Trailer.TheVariants as trailer
use Rattle.py_emit.specs.inner.Tasks.{Delete}
use Rattle.py_templates.proofs.Coded.{coded_call, coded_slice, coded_trail}
use Rattle.py_emit.proofs.TargetSteps.{delete_attribute, delete_index, delete_nowhere, trail_place}
use Rattle.py_emit.proofs.Steps.{split_as, then_ok}
use Rattle.py_emit.proofs.target.delete_trail.Goals as goal

pub returns-in-None-clause-done : goal.returns-in-None-clause-done
returns-in-None-clause-done c = split_as c.args.names.now _ _ _ _ _
    (λ ln e. delete_nowhere c.args.names.now ln (tree.Trail c.args.a.now []) _ e
    (ap (λ z. z.place) (coded_trail c.args.names.now ln c.args.a.now [])))
    (ap (λ z. Delete (tree.Trail c.args.a.now z)) c.in-None.ensures) refl

pub returns-in-Attribute-clause-done : goal.returns-in-Attribute-clause-done
returns-in-Attribute-clause-done c = then_ok c.push_three.result _ _ c.push_three.ensures.done
    (λ q. let f0 = c.text.ensures in let f1 = c.as_slice.ensures in
    split_as c.args.names.now _ _ _ _ _ (λ ln e. delete_attribute c.args.names.now ln c.args.a.now c.in-Some.front.now
    c.in-Attribute.m _ e) (ap (λ z. Delete (tree.Trail c.args.a.now z))
    (c.in-Some.ensures ∙ ap (λ z. c.in-Some.front.now ++ z ∷ []) c.in-Attribute.is)) (cc))

pub returns-in-Index-clause-done : goal.returns-in-Index-clause-done
returns-in-Index-clause-done c = then_ok c.push_four.result _ _ c.push_four.ensures.done
    (λ q. let f0 = c.get.ensures in split_as c.args.names.now _ _ _ _ _
    (λ ln e. delete_index c.args.names.now ln c.args.a.now c.in-Some.front.now c.in-Index.i _ e)
    (ap (λ z. Delete (tree.Trail c.args.a.now z))
    (c.in-Some.ensures ∙ ap (λ z. c.in-Some.front.now ++ z ∷ []) c.in-Index.is)) (cc))

pub returns-in-Slice-clause-done : goal.returns-in-Slice-clause-done
returns-in-Slice-clause-done c = split_as c.args.names.now _ _ _ _ _
    (λ ln e. delete_nowhere c.args.names.now ln
    (tree.Trail c.args.a.now (c.in-Some.front.now ++ trailer.Slice c.in-Slice.field-0 c.in-Slice.field-1 ∷ [])) _ e
    (trail_place c.args.names.now ln c.args.a.now c.in-Some.front.now
    (trailer.Slice c.in-Slice.field-0 c.in-Slice.field-1) _
    (coded_slice c.args.names.now ln c.in-Slice.field-0 c.in-Slice.field-1)))
    (ap (λ z. Delete (tree.Trail c.args.a.now z))
    (c.in-Some.ensures ∙ ap (λ z. c.in-Some.front.now ++ z ∷ []) c.in-Slice.is)) refl

pub returns-in-Call-clause-done : goal.returns-in-Call-clause-done
returns-in-Call-clause-done c = split_as c.args.names.now _ _ _ _ _
    (λ ln e. delete_nowhere c.args.names.now ln
    (tree.Trail c.args.a.now (c.in-Some.front.now ++ trailer.Call c.in-Call.field-0 c.in-Call.field-1 ∷ [])) _ e
    (trail_place c.args.names.now ln c.args.a.now c.in-Some.front.now
    (trailer.Call c.in-Call.field-0 c.in-Call.field-1) _
    (coded_call c.args.names.now ln c.in-Call.field-0 c.in-Call.field-1)))
    (ap (λ z. Delete (tree.Trail c.args.a.now z))
    (c.in-Some.ensures ∙ ap (λ z. c.in-Some.front.now ++ z ∷ []) c.in-Call.is)) refl
