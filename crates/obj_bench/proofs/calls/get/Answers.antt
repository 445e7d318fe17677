use Rattle.obj_dict.proofs.Holding.{dict_holds}
use Rattle.obj_dict.specs.Dict.{get_row}
use Rattle.py_data.specs.Answers.{IsGot, IfItem}
use Rattle.obj_bench.specs.Bench.{free, any_state}
use Rattle.obj_bench.proofs.BenchSteps.{good_safe, good_done, good_item}
use Rattle.obj_bench.proofs.calls.get.Goals as goal

pub get-requires-clause-safe : goal.get-requires-clause-safe
get-requires-clause-safe g c =
    let i0 = good_item _ _ c.requires.place c.at.ensures c.requires.good in
    let h = g.V.View.sense.heap c.args.v.now in
    good_safe (IsGot IfItem) (get_row c.args.a.0 c.at.result) c.requires.good
    ((dict_holds free any_state).get h c.args.a.0 c.at.result c.requires.good.order c.requires.at i0)

pub returns : goal.returns
returns g c =
    let i0 = good_item _ _ c.requires.place c.at.ensures c.requires.good in
    let h = g.V.View.sense.heap c.args.v.now in
    good_done (IsGot IfItem) (get_row c.args.a.0 c.at.result) c.requires.good
    ((dict_holds free any_state).get h c.args.a.0 c.at.result c.requires.good.order c.requires.at i0)
    g.met.V.View.lawful _ _ c.in_ok-got.ensures
