use Rattle.std.proofs.Common.{subst, sym}
use Rattle.py_data.specs.Row.{Make}
use Rattle.py_data.specs.Sense.{Asks}
use Rattle.lock_run.specs.declared.script.ScriptState.{ScriptState}
use Rattle.lock_run.specs.inner.ScriptSafe.{list_asks}
use Rattle.lock_run.proofs.script.list_and_threads.Goals as goal

pub make-requires-clause-shape : goal.make-requires-clause-shape
make-requires-clause-shape g c = subst (λ r. Asks {S = ScriptState} g.V.View.sense.partial (Make r)
    (g.V.View.sense.heap c.args.v.now)) (sym c.empty_list.ensures) (list_asks ScriptState _ _)
