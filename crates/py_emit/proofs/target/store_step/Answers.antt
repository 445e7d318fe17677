use Rattle.std.proofs.Common.{refl, ap}
use Rattle.py_tree.specs.declared.expr.Expr.TheVariants as tree
use Rattle.py_emit.specs.inner.Tasks.{Store}
use Rattle.py_templates.proofs.Coded.{coded_chain, coded_choice, coded_dict, coded_int, coded_not, coded_power, coded_str, coded_unary}
use Rattle.py_emit.proofs.Steps.{split_as, then_ok}
use Rattle.py_emit.proofs.TargetSteps.{store_group, store_list, store_name, store_nowhere, store_tuple}
use Rattle.py_emit.proofs.target.store_step.Goals as goal

pub returns-in-Name-clause-done : goal.returns-in-Name-clause-done
returns-in-Name-clause-done c = then_ok c.push.result _ _ c.push.ensures.done
    (λ q. let f0 = c.store.ensures in let f1 = c.home.ensures in let f2 = c.as_slice.ensures in
    split_as c.args.names.now _ _ _ _ _ (λ ln e. store_name c.args.names.now ln c.in-Name.name _ e)
    (ap (λ z. Store z) c.in-Name.is) (cc))

pub returns-in-Group-clause-done : goal.returns-in-Group-clause-done
returns-in-Group-clause-done c = then_ok c.push-in-Group.result _ _ c.push-in-Group.ensures.done
    (λ q. let f0 = c.get.ensures in split_as c.args.names.now _ _ _ _ _
    (λ ln e. store_group c.args.names.now ln c.in-Group.a _ e) (ap (λ z. Store z) c.in-Group.is) (cc))

pub returns-in-Tuple-clause-done : goal.returns-in-Tuple-clause-done
returns-in-Tuple-clause-done c = then_ok c.unpack.result _ _ c.unpack.ensures.done
    (λ q. let f0 = c.as_slice-in-Tuple.ensures in
    split_as c.args.names.now _ _ _ _ _ (λ ln e. store_tuple c.args.names.now ln c.in-Tuple.items _ e)
    (ap (λ z. Store z) c.in-Tuple.is) (cc))

pub returns-in-List-clause-done : goal.returns-in-List-clause-done
returns-in-List-clause-done c = then_ok c.unpack-in-List.result _ _ c.unpack-in-List.ensures.done
    (λ q. let f0 = c.as_slice-in-List.ensures in
    split_as c.args.names.now _ _ _ _ _ (λ ln e. store_list c.args.names.now ln c.in-List.items _ e)
    (ap (λ z. Store z) c.in-List.is) (cc))

pub returns-in-Int-clause-done : goal.returns-in-Int-clause-done
returns-in-Int-clause-done c = split_as c.args.names.now _ _ _ _ _
    (λ ln e. store_nowhere c.args.names.now ln (tree.Int c.in-Int.field-0) _ e
    (ap (λ z. z.place) (coded_int c.args.names.now ln c.in-Int.field-0))) (ap (λ z. Store z) c.in-Int.is) refl

pub returns-in-Str-clause-done : goal.returns-in-Str-clause-done
returns-in-Str-clause-done c = split_as c.args.names.now _ _ _ _ _
    (λ ln e. store_nowhere c.args.names.now ln (tree.Str c.in-Str.field-0) _ e
    (ap (λ z. z.place) (coded_str c.args.names.now ln c.in-Str.field-0))) (ap (λ z. Store z) c.in-Str.is) refl

pub returns-in-Dict-clause-done : goal.returns-in-Dict-clause-done
returns-in-Dict-clause-done c = split_as c.args.names.now _ _ _ _ _
    (λ ln e. store_nowhere c.args.names.now ln (tree.Dict c.in-Dict.field-0) _ e
    (ap (λ z. z.place) (coded_dict c.args.names.now ln c.in-Dict.field-0))) (ap (λ z. Store z) c.in-Dict.is) refl

pub returns-in-Power-clause-done : goal.returns-in-Power-clause-done
returns-in-Power-clause-done c = split_as c.args.names.now _ _ _ _ _
    (λ ln e. store_nowhere c.args.names.now ln (tree.Power c.in-Power.field-0 c.in-Power.field-1) _ e
    (ap (λ z. z.place) (coded_power c.args.names.now ln c.in-Power.field-0 c.in-Power.field-1)))
    (ap (λ z. Store z) c.in-Power.is) refl

pub returns-in-Unary-clause-done : goal.returns-in-Unary-clause-done
returns-in-Unary-clause-done c = split_as c.args.names.now _ _ _ _ _
    (λ ln e. store_nowhere c.args.names.now ln (tree.Unary c.in-Unary.field-0 c.in-Unary.field-1) _ e
    (ap (λ z. z.place) (coded_unary c.args.names.now ln c.in-Unary.field-0 c.in-Unary.field-1)))
    (ap (λ z. Store z) c.in-Unary.is) refl

pub returns-in-Chain-clause-done : goal.returns-in-Chain-clause-done
returns-in-Chain-clause-done c = split_as c.args.names.now _ _ _ _ _
    (λ ln e. store_nowhere c.args.names.now ln (tree.Chain c.in-Chain.field-0 c.in-Chain.field-1 c.in-Chain.field-2) _
    e (ap (λ z. z.place) (coded_chain c.args.names.now ln c.in-Chain.field-0 c.in-Chain.field-1 c.in-Chain.field-2)))
    (ap (λ z. Store z) c.in-Chain.is) refl

pub returns-in-Not-clause-done : goal.returns-in-Not-clause-done
returns-in-Not-clause-done c = split_as c.args.names.now _ _ _ _ _
    (λ ln e. store_nowhere c.args.names.now ln (tree.Not c.in-Not.field-0) _ e
    (ap (λ z. z.place) (coded_not c.args.names.now ln c.in-Not.field-0))) (ap (λ z. Store z) c.in-Not.is) refl

pub returns-in-Choice-clause-done : goal.returns-in-Choice-clause-done
returns-in-Choice-clause-done c = split_as c.args.names.now _ _ _ _ _
    (λ ln e. store_nowhere c.args.names.now ln
    (tree.Choice c.in-Choice.field-0 c.in-Choice.field-1 c.in-Choice.field-2) _ e
    (ap (λ z. z.place) (coded_choice c.args.names.now ln c.in-Choice.field-0 c.in-Choice.field-1 c.in-Choice.field-2)))
    (ap (λ z. Store z) c.in-Choice.is) refl
