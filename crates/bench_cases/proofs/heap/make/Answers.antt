use Rattle.std.proofs.Common.{sym, subst}
use Rattle.py_data.specs.Heap.{new_rec}
use Rattle.py_data.specs.Row.{Make}
use Rattle.py_data.specs.Sense.{Asks}
use Rattle.bench_cases.proofs.Holding.{made}
use Rattle.bench_cases.proofs.heap.make.Goals as goal

pub make-requires-clause-shape : goal.make-requires-clause-shape
make-requires-clause-shape g c = subst (λ bs.
    Asks {S = g.row.S.Denot} g.V.View.sense.partial (Make (new_rec c.args.kind c.args.values bs))
    (g.V.View.sense.heap c.open_step.new.self)) (sym c.new.ensures)
    (c.requires (g.V.View.sense.heap c.open_step.new.self))

pub returns : goal.returns
returns g c = made g.met.V.View.lawful _ _ _ _ _ _ c.make.ensures
