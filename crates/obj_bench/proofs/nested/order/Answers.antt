use Rattle.obj_nest.proofs.NestLooks.{order_looks}
use Rattle.obj_nest.specs.Ordering.{order_row}
use Rattle.obj_bench.specs.Bench.{free}
use Rattle.obj_bench.proofs.BenchSteps.{look_safe, look_done, good_item}
use Rattle.obj_bench.proofs.nested.order.Goals as goal

pub order-requires-clause-safe : goal.order-requires-clause-safe
order-requires-clause-safe g c =
    let i0 = good_item _ _ c.requires.place c.at.ensures c.requires.good in
    let i1 = good_item _ _ c.requires.other c.at-2.ensures c.requires.good in
    look_safe _ (order_row c.at.result c.at-2.result) c.requires.good
    (order_looks _ free (g.V.View.sense.heap c.args.v.now) c.at.result c.at-2.result c.requires.good.order i0 i1)

pub returns : goal.returns
returns g c =
    let i0 = good_item _ _ c.requires.place c.at.ensures c.requires.good in
    let i1 = good_item _ _ c.requires.other c.at-2.ensures c.requires.good in
    look_done _ (order_row c.at.result c.at-2.result) c.requires.good
    (order_looks _ free (g.V.View.sense.heap c.args.v.now) c.at.result c.at-2.result c.requires.good.order i0 i1)
    g.met.V.View.lawful _ _ c.in_ok-got.ensures
