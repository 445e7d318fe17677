use Rattle.std.proofs.Common.{refl, ap, length}
use Rattle.py_tree.specs.declared.expr.Expr.TheVariants as tree
use Rattle.py_tree.specs.declared.expr.Level.TheVariants as level
use Rattle.py_emit.specs.inner.Tasks.{Value}
use Rattle.py_emit.proofs.Steps.{advances_as, then_ok, value_and, value_operated, value_or}
use Rattle.py_emit.proofs.expression.chain.Goals as goal

pub returns-in-Or-clause-done : goal.returns-in-Or-clause-done
returns-in-Or-clause-done c = then_ok c.logical.result _ _ c.logical.ensures.done
    (λ q n ln. advances_as n _ _ _ _ _ _ _
    (λ k. value_or n k c.args.a.now c.args.more.now (length c.args.e.now.labels) _ c.args.e.now _ refl q.0)
    (ap (λ z. Value (tree.Chain z c.args.a.now c.args.more.now)) c.in-Or.is) q.1 ln)

pub returns-in-And-clause-done : goal.returns-in-And-clause-done
returns-in-And-clause-done c = then_ok c.logical-in-And.result _ _ c.logical-in-And.ensures.done
    (λ q n ln. advances_as n _ _ _ _ _ _ _
    (λ k. value_and n k c.args.a.now c.args.more.now (length c.args.e.now.labels) _ c.args.e.now _ refl q.0)
    (ap (λ z. Value (tree.Chain z c.args.a.now c.args.more.now)) c.in-And.is) q.1 ln)

pub returns-in-Compare-clause-done : goal.returns-in-Compare-clause-done
returns-in-Compare-clause-done c = then_ok c.comparison.result _ _ c.comparison.ensures.done
    (λ q n ln. advances_as n _ _ _ _ _ _ _ (λ k. q n k)
    (ap (λ z. Value (tree.Chain z c.args.a.now c.args.more.now)) c.in-Compare.is) refl ln)

pub returns-in-BitOr-clause-done : goal.returns-in-BitOr-clause-done
returns-in-BitOr-clause-done c = then_ok c.push_two.result _ _ c.push_two.ensures.done
    (λ q n ln. advances_as n _ _ _ _ _ _ _ (λ k. value_operated n k level.BitOr c.args.a.now c.args.more.now _ _ refl)
    (ap (λ z. Value (tree.Chain z c.args.a.now c.args.more.now)) c.in-BitOr.is) q ln)

pub returns-in-BitXor-clause-done : goal.returns-in-BitXor-clause-done
returns-in-BitXor-clause-done c = then_ok c.push_two-in-BitXor.result _ _ c.push_two-in-BitXor.ensures.done
    (λ q n ln. advances_as n _ _ _ _ _ _ _ (λ k. value_operated n k level.BitXor c.args.a.now c.args.more.now _ _ refl)
    (ap (λ z. Value (tree.Chain z c.args.a.now c.args.more.now)) c.in-BitXor.is) q ln)

pub returns-in-BitAnd-clause-done : goal.returns-in-BitAnd-clause-done
returns-in-BitAnd-clause-done c = then_ok c.push_two-in-BitAnd.result _ _ c.push_two-in-BitAnd.ensures.done
    (λ q n ln. advances_as n _ _ _ _ _ _ _ (λ k. value_operated n k level.BitAnd c.args.a.now c.args.more.now _ _ refl)
    (ap (λ z. Value (tree.Chain z c.args.a.now c.args.more.now)) c.in-BitAnd.is) q ln)

pub returns-in-Shift-clause-done : goal.returns-in-Shift-clause-done
returns-in-Shift-clause-done c = then_ok c.push_two-in-Shift.result _ _ c.push_two-in-Shift.ensures.done
    (λ q n ln. advances_as n _ _ _ _ _ _ _ (λ k. value_operated n k level.Shift c.args.a.now c.args.more.now _ _ refl)
    (ap (λ z. Value (tree.Chain z c.args.a.now c.args.more.now)) c.in-Shift.is) q ln)

pub returns-in-Sum-clause-done : goal.returns-in-Sum-clause-done
returns-in-Sum-clause-done c = then_ok c.push_two-in-Sum.result _ _ c.push_two-in-Sum.ensures.done
    (λ q n ln. advances_as n _ _ _ _ _ _ _ (λ k. value_operated n k level.Sum c.args.a.now c.args.more.now _ _ refl)
    (ap (λ z. Value (tree.Chain z c.args.a.now c.args.more.now)) c.in-Sum.is) q ln)

pub returns-in-Term-clause-done : goal.returns-in-Term-clause-done
returns-in-Term-clause-done c = then_ok c.push_two-in-Term.result _ _ c.push_two-in-Term.ensures.done
    (λ q n ln. advances_as n _ _ _ _ _ _ _ (λ k. value_operated n k level.Term c.args.a.now c.args.more.now _ _ refl)
    (ap (λ z. Value (tree.Chain z c.args.a.now c.args.more.now)) c.in-Term.is) q ln)
