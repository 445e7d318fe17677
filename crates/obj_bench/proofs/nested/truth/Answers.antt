use Rattle.obj_nest.proofs.NestLooks.{truth_looks}
use Rattle.obj_nest.specs.Truth.{truth_row}
use Rattle.obj_bench.specs.Bench.{free}
use Rattle.obj_bench.proofs.BenchSteps.{look_safe, look_done, good_item}
use Rattle.obj_bench.proofs.nested.truth.Goals as goal

pub truth-requires-clause-safe : goal.truth-requires-clause-safe
truth-requires-clause-safe g c =
    let i0 = good_item _ _ c.requires.place c.at.ensures c.requires.good in
    look_safe _ (truth_row c.at.result) c.requires.good
    (truth_looks _ free (g.V.View.sense.heap c.args.v.now) c.at.result c.requires.good.order i0)

pub returns : goal.returns
returns g c =
    let i0 = good_item _ _ c.requires.place c.at.ensures c.requires.good in
    look_done _ (truth_row c.at.result) c.requires.good
    (truth_looks _ free (g.V.View.sense.heap c.args.v.now) c.at.result c.requires.good.order i0)
    g.met.V.View.lawful _ _ c.in_ok-yes.ensures
