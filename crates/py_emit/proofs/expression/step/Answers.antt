use Rattle.std.proofs.Common.{ap}
use Rattle.py_emit.specs.inner.Tasks.{plain}
use Rattle.py_emit.proofs.Steps.{split_at, then_ok}
use Rattle.py_emit.proofs.expression.step.Goals as goal

pub returns-in-Values-clause-done : goal.returns-in-Values-clause-done
returns-in-Values-clause-done c = then_ok c.values.result _ _ c.values.ensures.done
    (λ q. split_at c.args.names.now c.args.line _ _ _ _ _ (q c.args.names.now) (ap (λ z. plain z) c.in-Values.is))

pub returns-in-Pairs-clause-done : goal.returns-in-Pairs-clause-done
returns-in-Pairs-clause-done c = then_ok c.pairs.result _ _ c.pairs.ensures.done
    (λ q. split_at c.args.names.now c.args.line _ _ _ _ _ (q c.args.names.now) (ap (λ z. plain z) c.in-Pairs.is))

pub returns-in-Keys-clause-done : goal.returns-in-Keys-clause-done
returns-in-Keys-clause-done c = then_ok c.keys.result _ _ c.keys.ensures.done
    (λ q. split_at c.args.names.now c.args.line _ _ _ _ _ (q c.args.names.now) (ap (λ z. plain z) c.in-Keys.is))

pub returns-in-Links-clause-done : goal.returns-in-Links-clause-done
returns-in-Links-clause-done c = then_ok c.links.result _ _ c.links.ensures.done
    (λ q. split_at c.args.names.now c.args.line _ _ _ _ _ (q c.args.names.now) (ap (λ z. plain z) c.in-Links.is))

pub returns-in-Kept-clause-done : goal.returns-in-Kept-clause-done
returns-in-Kept-clause-done c = then_ok c.kept.result _ _ c.kept.ensures.done
    (λ q. split_at c.args.names.now c.args.line _ _ _ _ _ (q c.args.names.now) (ap (λ z. plain z) c.in-Kept.is))

pub returns-in-Between-clause-done : goal.returns-in-Between-clause-done
returns-in-Between-clause-done c = then_ok c.between.result _ _ c.between.ensures.done
    (λ q. split_at c.args.names.now c.args.line _ _ _ _ _ (q c.args.names.now) (ap (λ z. plain z) c.in-Between.is))

pub returns-in-Stores-clause-done : goal.returns-in-Stores-clause-done
returns-in-Stores-clause-done c = then_ok c.stores.result _ _ c.stores.ensures.done
    (λ q. split_at c.args.names.now c.args.line _ _ _ _ _ (q c.args.names.now) (ap (λ z. plain z) c.in-Stores.is))

pub returns-in-Deletes-clause-done : goal.returns-in-Deletes-clause-done
returns-in-Deletes-clause-done c = then_ok c.deletes.result _ _ c.deletes.ensures.done
    (λ q. split_at c.args.names.now c.args.line _ _ _ _ _ (q c.args.names.now) (ap (λ z. plain z) c.in-Deletes.is))
