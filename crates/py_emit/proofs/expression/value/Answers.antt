use Rattle.std.proofs.Common.{refl, ap, sym, ◌∙◌}
use Rattle.py_emit.specs.inner.Tasks.{Value}
use Rattle.py_templates.specs.Expressions.{name_value}
use Rattle.py_emit.proofs.Steps.{advances_as, then_ok, value_dict, value_group, value_int, value_list, value_name, value_not, value_power, value_str, value_trail, value_tuple, value_unary}
use Rattle.py_emit.proofs.expression.value.Goals as goal

pub returns-in-Name-clause-done : goal.returns-in-Name-clause-done
returns-in-Name-clause-done c = then_ok c.push.result _ _ c.push.ensures.done
    (λ q. advances_as c.args.names.now _ _ _ _ _ _ _
    (λ ln. value_name c.args.names.now ln c.in-Name.name c.read.result _ _
    (ap (λ z. name_value c.args.names.now ln z) (sym c.as_slice.ensures) ∙ c.read.ensures ln))
    (ap (λ z. Value z) c.in-Name.is) q)

pub returns-in-Int-clause-done : goal.returns-in-Int-clause-done
returns-in-Int-clause-done c = then_ok c.push-in-Int.result _ _ c.push-in-Int.ensures.done
    (λ q. let f0 = c.integer.ensures in advances_as c.args.names.now _ _ _ _ _ _ _
    (λ ln. value_int c.args.names.now ln c.in-Int.i _ _) (ap (λ z. Value z) c.in-Int.is) (cc))

pub returns-in-Str-clause-done : goal.returns-in-Str-clause-done
returns-in-Str-clause-done c = then_ok c.push-in-Str.result _ _ c.push-in-Str.ensures.done
    (λ q. let f0 = c.text.ensures in let f1 = c.as_slice-in-Str.ensures in
    advances_as c.args.names.now _ _ _ _ _ _ _ (λ ln. value_str c.args.names.now ln c.in-Str.s _ _)
    (ap (λ z. Value z) c.in-Str.is) (cc))

pub returns-in-Group-clause-done : goal.returns-in-Group-clause-done
returns-in-Group-clause-done c = then_ok c.push-in-Group.result _ _ c.push-in-Group.ensures.done
    (λ q. let f0 = c.get.ensures in advances_as c.args.names.now _ _ _ _ _ _ _
    (λ ln. value_group c.args.names.now ln c.in-Group.a _ _) (ap (λ z. Value z) c.in-Group.is) (cc))

pub returns-in-Tuple-clause-done : goal.returns-in-Tuple-clause-done
returns-in-Tuple-clause-done c = then_ok c.tuple.result _ _ c.tuple.ensures.done
    (λ q. let f0 = c.as_slice-in-Tuple.ensures in
    advances_as c.args.names.now _ _ _ _ _ _ _ (λ ln. value_tuple c.args.names.now ln c.in-Tuple.items _ _)
    (ap (λ z. Value z) c.in-Tuple.is) (cc))

pub returns-in-List-clause-done : goal.returns-in-List-clause-done
returns-in-List-clause-done c = then_ok c.list.result _ _ c.list.ensures.done
    (λ q. let f0 = c.as_slice-in-List.ensures in
    advances_as c.args.names.now _ _ _ _ _ _ _ (λ ln. value_list c.args.names.now ln c.in-List.items _ _)
    (ap (λ z. Value z) c.in-List.is) (cc))

pub returns-in-Dict-clause-done : goal.returns-in-Dict-clause-done
returns-in-Dict-clause-done c = then_ok c.dictionary.result _ _ c.dictionary.ensures.done
    (λ q. let f0 = c.as_slice-in-Dict.ensures in
    advances_as c.args.names.now _ _ _ _ _ _ _ (λ ln. value_dict c.args.names.now ln c.in-Dict.items _ _)
    (ap (λ z. Value z) c.in-Dict.is) (cc))

pub returns-in-Trail-clause-done : goal.returns-in-Trail-clause-done
returns-in-Trail-clause-done c = then_ok c.push_two.result _ _ c.push_two.ensures.done
    (λ q. let f0 = c.get-in-Trail.ensures in let f1 = c.as_slice-in-Trail.ensures in
    advances_as c.args.names.now _ _ _ _ _ _ _
    (λ ln. value_trail c.args.names.now ln c.in-Trail.a c.in-Trail.items _ _) (ap (λ z. Value z) c.in-Trail.is) (cc))

pub returns-in-Power-clause-done : goal.returns-in-Power-clause-done
returns-in-Power-clause-done c = then_ok c.push_three.result _ _ c.push_three.ensures.done
    (λ q. let f0 = c.get-in-Power.ensures in let f1 = c.get-in-Power-2.ensures in
    advances_as c.args.names.now _ _ _ _ _ _ _ (λ ln. value_power c.args.names.now ln c.in-Power.a c.in-Power.b _ _)
    (ap (λ z. Value z) c.in-Power.is) (cc))

pub returns-in-Unary-clause-done : goal.returns-in-Unary-clause-done
returns-in-Unary-clause-done c = then_ok c.push_two-in-Unary.result _ _ c.push_two-in-Unary.ensures.done
    (λ q. let f0 = c.get-in-Unary.ensures in let f1 = c.sign_number.ensures in
    advances_as c.args.names.now _ _ _ _ _ _ _ (λ ln. value_unary c.args.names.now ln c.in-Unary.sign c.in-Unary.a _ _)
    (ap (λ z. Value z) c.in-Unary.is) (cc))

pub returns-in-Not-clause-done : goal.returns-in-Not-clause-done
returns-in-Not-clause-done c = then_ok c.push_two-in-Not.result _ _ c.push_two-in-Not.ensures.done
    (λ q. let f0 = c.get-in-Not.ensures in
    advances_as c.args.names.now _ _ _ _ _ _ _ (λ ln. value_not c.args.names.now ln c.in-Not.a _ _)
    (ap (λ z. Value z) c.in-Not.is) (cc))

pub returns-in-Chain-clause-done : goal.returns-in-Chain-clause-done
returns-in-Chain-clause-done c = then_ok c.chain.result _ _ c.chain.ensures.done
    (λ q. let f0 = c.in-Chain.is in let f1 = c.get-in-Chain.ensures in let f2 = c.as_slice-in-Chain.ensures in
    advances_as c.args.names.now _ _ _ _ _ _ _ (λ ln. q c.args.names.now ln) (cc) refl)

pub returns-in-Choice-clause-done : goal.returns-in-Choice-clause-done
returns-in-Choice-clause-done c = then_ok c.choice.result _ _ c.choice.ensures.done
    (λ q. let f0 = c.in-Choice.is in let f1 = c.get-in-Choice.ensures in let f2 = c.get-in-Choice-2.ensures in let f3 =
    c.get-in-Choice-3.ensures in advances_as c.args.names.now _ _ _ _ _ _ _ (λ ln. q c.args.names.now ln) (cc) refl)
