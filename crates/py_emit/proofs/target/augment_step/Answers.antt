use Rattle.std.proofs.Common.{refl, ap}
use Rattle.py_tree.specs.declared.expr.Expr.TheVariants as tree
use Rattle.py_emit.specs.inner.Tasks.{Augment}
use Rattle.py_templates.specs.Expressions.{add_at, operator, value}
use Rattle.py_templates.proofs.Coded.{coded_chain, coded_choice, coded_dict, coded_int, coded_list, coded_not, coded_power, coded_str, coded_tuple, coded_unary}
use Rattle.py_emit.proofs.TargetSteps.{augment_group, augment_name, augment_nowhere}
use Rattle.py_emit.proofs.Steps.{split_as, then_ok}
use Rattle.py_emit.proofs.target.augment_step.Goals as goal

pub returns-in-Name-clause-done : goal.returns-in-Name-clause-done
returns-in-Name-clause-done c = then_ok c.push_four.result _ _ c.push_four.ensures.done
    (λ q. let f0 = c.load.ensures in let f1 = c.store.ensures in let f2 = c.home-home.ensures in let f3 =
    c.as_slice.ensures in let f4 = c.operator_number.ensures in
    split_as c.args.names.now _ _ _ _ _ (λ ln e. augment_name c.args.names.now ln c.in-Name.name c.args.o c.args.y.now
    _ e) (ap (λ z. Augment z c.args.o c.args.y.now) c.in-Name.is) (cc))

pub returns-in-Group-clause-done : goal.returns-in-Group-clause-done
returns-in-Group-clause-done c = then_ok c.push.result _ _ c.push.ensures.done
    (λ q. let f0 = c.get.ensures in split_as c.args.names.now _ _ _ _ _
    (λ ln e. augment_group c.args.names.now ln c.in-Group.a c.args.o c.args.y.now _ e)
    (ap (λ z. Augment z c.args.o c.args.y.now) c.in-Group.is) (cc))

pub returns-in-Tuple-clause-done : goal.returns-in-Tuple-clause-done
returns-in-Tuple-clause-done c = split_as c.args.names.now _ _ _ _ _
    (λ ln e. augment_nowhere c.args.names.now ln (tree.Tuple c.in-Tuple.field-0) c.args.o c.args.y.now _ e
    (ap (λ z. add_at ln z (operator c.args.o) (value c.args.names.now ln c.args.y.now))
    (ap (λ z. z.place) (coded_tuple c.args.names.now ln c.in-Tuple.field-0))))
    (ap (λ z. Augment z c.args.o c.args.y.now) c.in-Tuple.is) refl

pub returns-in-List-clause-done : goal.returns-in-List-clause-done
returns-in-List-clause-done c = split_as c.args.names.now _ _ _ _ _
    (λ ln e. augment_nowhere c.args.names.now ln (tree.List c.in-List.field-0) c.args.o c.args.y.now _ e
    (ap (λ z. add_at ln z (operator c.args.o) (value c.args.names.now ln c.args.y.now))
    (ap (λ z. z.place) (coded_list c.args.names.now ln c.in-List.field-0))))
    (ap (λ z. Augment z c.args.o c.args.y.now) c.in-List.is) refl

pub returns-in-Int-clause-done : goal.returns-in-Int-clause-done
returns-in-Int-clause-done c = split_as c.args.names.now _ _ _ _ _
    (λ ln e. augment_nowhere c.args.names.now ln (tree.Int c.in-Int.field-0) c.args.o c.args.y.now _ e
    (ap (λ z. add_at ln z (operator c.args.o) (value c.args.names.now ln c.args.y.now))
    (ap (λ z. z.place) (coded_int c.args.names.now ln c.in-Int.field-0))))
    (ap (λ z. Augment z c.args.o c.args.y.now) c.in-Int.is) refl

pub returns-in-Str-clause-done : goal.returns-in-Str-clause-done
returns-in-Str-clause-done c = split_as c.args.names.now _ _ _ _ _
    (λ ln e. augment_nowhere c.args.names.now ln (tree.Str c.in-Str.field-0) c.args.o c.args.y.now _ e
    (ap (λ z. add_at ln z (operator c.args.o) (value c.args.names.now ln c.args.y.now))
    (ap (λ z. z.place) (coded_str c.args.names.now ln c.in-Str.field-0))))
    (ap (λ z. Augment z c.args.o c.args.y.now) c.in-Str.is) refl

pub returns-in-Dict-clause-done : goal.returns-in-Dict-clause-done
returns-in-Dict-clause-done c = split_as c.args.names.now _ _ _ _ _
    (λ ln e. augment_nowhere c.args.names.now ln (tree.Dict c.in-Dict.field-0) c.args.o c.args.y.now _ e
    (ap (λ z. add_at ln z (operator c.args.o) (value c.args.names.now ln c.args.y.now))
    (ap (λ z. z.place) (coded_dict c.args.names.now ln c.in-Dict.field-0))))
    (ap (λ z. Augment z c.args.o c.args.y.now) c.in-Dict.is) refl

pub returns-in-Power-clause-done : goal.returns-in-Power-clause-done
returns-in-Power-clause-done c = split_as c.args.names.now _ _ _ _ _
    (λ ln e. augment_nowhere c.args.names.now ln (tree.Power c.in-Power.field-0 c.in-Power.field-1) c.args.o
    c.args.y.now _ e (ap (λ z. add_at ln z (operator c.args.o) (value c.args.names.now ln c.args.y.now))
    (ap (λ z. z.place) (coded_power c.args.names.now ln c.in-Power.field-0 c.in-Power.field-1))))
    (ap (λ z. Augment z c.args.o c.args.y.now) c.in-Power.is) refl

pub returns-in-Unary-clause-done : goal.returns-in-Unary-clause-done
returns-in-Unary-clause-done c = split_as c.args.names.now _ _ _ _ _
    (λ ln e. augment_nowhere c.args.names.now ln (tree.Unary c.in-Unary.field-0 c.in-Unary.field-1) c.args.o
    c.args.y.now _ e (ap (λ z. add_at ln z (operator c.args.o) (value c.args.names.now ln c.args.y.now))
    (ap (λ z. z.place) (coded_unary c.args.names.now ln c.in-Unary.field-0 c.in-Unary.field-1))))
    (ap (λ z. Augment z c.args.o c.args.y.now) c.in-Unary.is) refl

pub returns-in-Chain-clause-done : goal.returns-in-Chain-clause-done
returns-in-Chain-clause-done c = split_as c.args.names.now _ _ _ _ _
    (λ ln e. augment_nowhere c.args.names.now ln (tree.Chain c.in-Chain.field-0 c.in-Chain.field-1 c.in-Chain.field-2)
    c.args.o c.args.y.now _ e (ap (λ z. add_at ln z (operator c.args.o) (value c.args.names.now ln c.args.y.now))
    (ap (λ z. z.place) (coded_chain c.args.names.now ln c.in-Chain.field-0 c.in-Chain.field-1 c.in-Chain.field-2))))
    (ap (λ z. Augment z c.args.o c.args.y.now) c.in-Chain.is) refl

pub returns-in-Not-clause-done : goal.returns-in-Not-clause-done
returns-in-Not-clause-done c = split_as c.args.names.now _ _ _ _ _
    (λ ln e. augment_nowhere c.args.names.now ln (tree.Not c.in-Not.field-0) c.args.o c.args.y.now _ e
    (ap (λ z. add_at ln z (operator c.args.o) (value c.args.names.now ln c.args.y.now))
    (ap (λ z. z.place) (coded_not c.args.names.now ln c.in-Not.field-0))))
    (ap (λ z. Augment z c.args.o c.args.y.now) c.in-Not.is) refl

pub returns-in-Choice-clause-done : goal.returns-in-Choice-clause-done
returns-in-Choice-clause-done c = split_as c.args.names.now _ _ _ _ _
    (λ ln e. augment_nowhere c.args.names.now ln
    (tree.Choice c.in-Choice.field-0 c.in-Choice.field-1 c.in-Choice.field-2) c.args.o c.args.y.now _ e
    (ap (λ z. add_at ln z (operator c.args.o) (value c.args.names.now ln c.args.y.now))
    (ap (λ z. z.place) (coded_choice c.args.names.now ln c.in-Choice.field-0 c.in-Choice.field-1
    c.in-Choice.field-2)))) (ap (λ z. Augment z c.args.o c.args.y.now) c.in-Choice.is) refl
