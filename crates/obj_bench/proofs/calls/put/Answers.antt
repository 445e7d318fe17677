use Rattle.obj_seq.proofs.HoldingGather.{seq_holds}
use Rattle.obj_seq.specs.Seq.{set_item_row, insert_row}
use Rattle.py_data.specs.Answers.{IsDone}
use Rattle.obj_bench.specs.Bench.{free, any_state}
use Rattle.obj_bench.proofs.BenchSteps.{good_safe, good_done, good_item}
use Rattle.obj_bench.proofs.calls.put.Goals as goal

pub set_item-requires-clause-safe : goal.set_item-requires-clause-safe
set_item-requires-clause-safe g c =
    let i = good_item _ _ c.requires.place c.at-x.ensures c.requires.good in
    let h = g.V.View.sense.heap c.args.v.now in
    good_safe IsDone (set_item_row c.args.a.0 _ c.at-x.result) c.requires.good
    ((seq_holds free any_state).set_item h c.args.a.0 _ c.at-x.result c.requires.good.order c.requires.at i)

pub insert-requires-clause-safe : goal.insert-requires-clause-safe
insert-requires-clause-safe g c =
    let i = good_item _ _ c.requires.place c.at-x.ensures c.requires.good in
    let h = g.V.View.sense.heap c.args.v.now in
    good_safe IsDone (insert_row c.args.a.0 _ c.at-x.result) c.requires.good
    ((seq_holds free any_state).insert h c.args.a.0 _ c.at-x.result c.requires.good.order c.requires.at i)

pub returns-in_ok-got-in-Over : goal.returns-in_ok-got-in-Over
returns-in_ok-got-in-Over g c =
    let i = good_item _ _ c.requires.place c.at-x.ensures c.requires.good in
    let h = g.V.View.sense.heap c.args.v.now in
    good_done IsDone (set_item_row c.args.a.0 _ c.at-x.result) c.requires.good
    ((seq_holds free any_state).set_item h c.args.a.0 _ c.at-x.result c.requires.good.order c.requires.at i)
    g.met.V.View.lawful _ _ c.in_ok-got-in-Over.ensures

pub returns-in_ok-got-in-Before : goal.returns-in_ok-got-in-Before
returns-in_ok-got-in-Before g c =
    let i = good_item _ _ c.requires.place c.at-x.ensures c.requires.good in
    let h = g.V.View.sense.heap c.args.v.now in
    good_done IsDone (insert_row c.args.a.0 _ c.at-x.result) c.requires.good
    ((seq_holds free any_state).insert h c.args.a.0 _ c.at-x.result c.requires.good.order c.requires.at i)
    g.met.V.View.lawful _ _ c.in_ok-got-in-Before.ensures
