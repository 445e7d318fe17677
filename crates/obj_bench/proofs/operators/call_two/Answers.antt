use Rattle.obj_ops.proofs.Holding.{ops_hold}
use Rattle.obj_ops.specs.Binary.{binary_row}
use Rattle.obj_ops.specs.InPlace.{in_place_row}
use Rattle.obj_ops.specs.Compare.{compare_row}
use Rattle.py_data.specs.Answers.{IsAnswer}
use Rattle.obj_bench.specs.Bench.{free, any_state}
use Rattle.obj_bench.proofs.BenchSteps.{good_safe, good_done, good_item}
use Rattle.obj_bench.proofs.operators.call_two.Goals as goal

pub binary-requires-clause-safe : goal.binary-requires-clause-safe
binary-requires-clause-safe g c =
    let i = good_item _ _ c.requires.place c.at-x.ensures c.requires.good in
    let j = good_item _ _ c.requires.other c.at-y.ensures c.requires.good in
    let h = g.V.View.sense.heap c.args.v.now in
    good_safe IsAnswer (binary_row c.args.roots.0 _ c.at-x.result c.at-y.result) c.requires.good
    ((ops_hold free any_state).binary h c.args.roots.0 _ c.at-x.result c.at-y.result c.requires.good.order
    c.requires.good.listed i j)

pub in_place-requires-clause-safe : goal.in_place-requires-clause-safe
in_place-requires-clause-safe g c =
    let i = good_item _ _ c.requires.place c.at-x.ensures c.requires.good in
    let j = good_item _ _ c.requires.other c.at-y.ensures c.requires.good in
    let h = g.V.View.sense.heap c.args.v.now in
    good_safe IsAnswer (in_place_row c.args.roots.0 _ c.at-x.result c.at-y.result) c.requires.good
    ((ops_hold free any_state).in_place h c.args.roots.0 _ c.at-x.result c.at-y.result c.requires.good.order
    c.requires.good.listed i j)

pub compare-requires-clause-safe : goal.compare-requires-clause-safe
compare-requires-clause-safe g c =
    let i = good_item _ _ c.requires.place c.at-x.ensures c.requires.good in
    let j = good_item _ _ c.requires.other c.at-y.ensures c.requires.good in
    let h = g.V.View.sense.heap c.args.v.now in
    good_safe IsAnswer (compare_row _ c.at-x.result c.at-y.result) c.requires.good
    ((ops_hold free any_state).compare h _ c.at-x.result c.at-y.result c.requires.good.order i j)

pub returns-in_ok-got-in-Binary : goal.returns-in_ok-got-in-Binary
returns-in_ok-got-in-Binary g c =
    let i = good_item _ _ c.requires.place c.at-x.ensures c.requires.good in
    let j = good_item _ _ c.requires.other c.at-y.ensures c.requires.good in
    let h = g.V.View.sense.heap c.args.v.now in
    good_done IsAnswer (binary_row c.args.roots.0 _ c.at-x.result c.at-y.result) c.requires.good
    ((ops_hold free any_state).binary h c.args.roots.0 _ c.at-x.result c.at-y.result c.requires.good.order
    c.requires.good.listed i j) g.met.V.View.lawful _ _ c.in_ok-got-in-Binary.ensures

pub returns-in_ok-got-in-InPlace : goal.returns-in_ok-got-in-InPlace
returns-in_ok-got-in-InPlace g c =
    let i = good_item _ _ c.requires.place c.at-x.ensures c.requires.good in
    let j = good_item _ _ c.requires.other c.at-y.ensures c.requires.good in
    let h = g.V.View.sense.heap c.args.v.now in
    good_done IsAnswer (in_place_row c.args.roots.0 _ c.at-x.result c.at-y.result) c.requires.good
    ((ops_hold free any_state).in_place h c.args.roots.0 _ c.at-x.result c.at-y.result c.requires.good.order
    c.requires.good.listed i j) g.met.V.View.lawful _ _ c.in_ok-got-in-InPlace.ensures

pub returns-in_ok-got-in-Compare : goal.returns-in_ok-got-in-Compare
returns-in_ok-got-in-Compare g c =
    let i = good_item _ _ c.requires.place c.at-x.ensures c.requires.good in
    let j = good_item _ _ c.requires.other c.at-y.ensures c.requires.good in
    let h = g.V.View.sense.heap c.args.v.now in
    good_done IsAnswer (compare_row _ c.at-x.result c.at-y.result) c.requires.good
    ((ops_hold free any_state).compare h _ c.at-x.result c.at-y.result c.requires.good.order i j)
    g.met.V.View.lawful _ _ c.in_ok-got-in-Compare.ensures
