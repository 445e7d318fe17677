use Rattle.std.proofs.Common.{◌∷◌, [], sym, subst}
use Rattle.py_emit.specs.inner.Tasks.{Leads, plain}
use Rattle.py_emit.proofs.Steps.{lead_then, lead_end}
use Rattle.py_emit.proofs.expression.run.Goals as goal

pub tasks-preserved : goal.tasks-preserved
tasks-preserved c = lead_then c.args.names.now c.args.line _ _ _ _ _ _ c.tasks.invariant
    (subst (λ z. Leads c.args.names.now c.args.line z c.tasks.e c.step.new.tasks c.step.new.e) (sym c.in-Some.ensures)
    c.in_ok-step.ensures.done.leads)

pub returns-clause-done : goal.returns-clause-done
returns-clause-done c = lead_end c.args.names.now c.args.line (plain c.args.first) c.args.e.now c.tasks.e
    (subst (λ z. Leads c.args.names.now c.args.line (plain c.args.first ∷ []) c.args.e.now z c.tasks.e)
    c.in_default.ensures c.tasks.invariant)
