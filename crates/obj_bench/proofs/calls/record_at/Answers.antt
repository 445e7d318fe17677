use Rattle.std.proofs.Common.{◌∙◌, sym, subst}
use Rattle.py_data.specs.Closed.{IsItem}
use Rattle.obj_bench.proofs.BenchSteps.{good_item, good_asks}
use Rattle.obj_bench.proofs.calls.record_at.Goals as goal

pub kind-requires-clause-there : goal.kind-requires-clause-there
kind-requires-clause-there g c =
    let i = good_item _ _ c.requires.within c.at.ensures c.requires.good in
    good_asks c.requires.good _ (subst (IsItem (g.V.View.sense.heap c.args.v.now)) c.in-Ref.is i)
