use Rattle.std.proofs.Common.{ap, ◌∷◌}
use Rattle.py_emit.specs.inner.Tasks.{Behind}
use Rattle.py_emit.proofs.RowSteps.{behind_call, behind_index, behind_slice}
use Rattle.py_emit.proofs.Steps.{split_as, then_ok}
use Rattle.py_emit.proofs.expression.trailer.Goals as goal

pub returns-in-Index-clause-done : goal.returns-in-Index-clause-done
returns-in-Index-clause-done c = then_ok c.push_three.result _ _ c.push_three.ensures.done
    (λ q. let f0 = c.get.ensures in split_as c.args.names.now _ _ _ _ _
    (λ ln e. behind_index c.args.names.now ln c.in-Index.i c.args.more.now _ e)
    (ap (λ z. Behind (z ∷ c.args.more.now)) c.in-Index.is) (cc))

pub returns-in-Slice-clause-done : goal.returns-in-Slice-clause-done
returns-in-Slice-clause-done c = then_ok c.push_four.result _ _ c.push_four.ensures.done
    (λ q. let f0 = c.bound.ensures in let f1 = c.bound-in-Slice.ensures in
    split_as c.args.names.now _ _ _ _ _ (λ ln e. behind_slice c.args.names.now ln c.in-Slice.i c.in-Slice.j
    c.args.more.now _ e) (ap (λ z. Behind (z ∷ c.args.more.now)) c.in-Slice.is) (cc))

pub returns-in_ok-n-in-Call-clause-done : goal.returns-in_ok-n-in-Call-clause-done
returns-in_ok-n-in-Call-clause-done c = then_ok c.push_four-in-Call.result _ _ c.push_four-in-Call.ensures.done
    (λ q. let f0 = c.in_ok-n-in-Call.ensures.same in let f1 = c.len.ensures in let f2 = c.key_list-list.ensures in
    let f3 = c.as_slice-in-Call.ensures in let f4 = c.as_slice-in-Call-2.ensures in let f5 =
    c.as_slice-in-Call-3.ensures in split_as c.args.names.now _ _ _ _ _
    (λ ln e. behind_call c.args.names.now ln c.in-Call.items c.in-Call.named c.args.more.now _ e)
    (ap (λ z. Behind (z ∷ c.args.more.now)) c.in-Call.is) (cc))
