use Rattle.obj_dict.proofs.Holding.{dict_holds}
use Rattle.obj_dict.specs.Dict.{set_row}
use Rattle.py_data.specs.Answers.{IsDone}
use Rattle.obj_bench.specs.Bench.{free, any_state}
use Rattle.obj_bench.proofs.BenchSteps.{good_safe, good_done, good_item}
use Rattle.obj_bench.proofs.calls.set.Goals as goal

pub set-requires-clause-safe : goal.set-requires-clause-safe
set-requires-clause-safe g c =
    let i0 = good_item _ _ c.requires.place c.at.ensures c.requires.good in
    let i1 = good_item _ _ c.requires.value c.at-2.ensures c.requires.good in
    let h = g.V.View.sense.heap c.args.v.now in
    good_safe IsDone (set_row c.args.a.0 c.at.result c.at-2.result) c.requires.good
    ((dict_holds free any_state).set h c.args.a.0 c.at.result c.at-2.result c.requires.good.order c.requires.at i0
    i1)

pub returns : goal.returns
returns g c =
    let i0 = good_item _ _ c.requires.place c.at.ensures c.requires.good in
    let i1 = good_item _ _ c.requires.value c.at-2.ensures c.requires.good in
    let h = g.V.View.sense.heap c.args.v.now in
    good_done IsDone (set_row c.args.a.0 c.at.result c.at-2.result) c.requires.good
    ((dict_holds free any_state).set h c.args.a.0 c.at.result c.at-2.result c.requires.good.order c.requires.at i0
    i1) g.met.V.View.lawful _ _ c.in_ok-got.ensures
