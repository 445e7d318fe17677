use Rattle.std.proofs.Common.{refl}
use Rattle.py_emit.proofs.RowSteps.{attribute_call}
use Rattle.py_emit.proofs.Steps.{split_as, then_ok}
use Rattle.py_emit.proofs.expression.method.Goals as goal

pub returns-clause-done : goal.returns-clause-done
returns-clause-done c = then_ok c.push_three.result _ _ c.push_three.ensures.done
    (λ q. let f0 = c.in_ok-n.ensures.same in let f1 = c.key_list-list.ensures in let f2 =
    c.in_ok-push_two.ensures.done in let f3 = c.text.ensures in
    split_as c.args.names.now _ _ _ _ _ (λ ln e. attribute_call c.args.names.now ln c.args.name.now c.args.items.now
    c.args.named.now c.args.more.now _ e) refl (cc))
