use Rattle.obj_dict.proofs.Holding.{dict_holds}
use Rattle.obj_dict.specs.Dict.{del_row}
use Rattle.py_data.specs.Answers.{IsAnswer}
use Rattle.obj_bench.specs.Bench.{free, any_state}
use Rattle.obj_bench.proofs.BenchSteps.{good_safe, good_done, good_item}
use Rattle.obj_bench.proofs.calls.del.Goals as goal

pub del-requires-clause-safe : goal.del-requires-clause-safe
del-requires-clause-safe g c =
    let i0 = good_item _ _ c.requires.place c.at.ensures c.requires.good in
    let h = g.V.View.sense.heap c.args.v.now in
    good_safe IsAnswer (del_row c.args.a.0 c.at.result) c.requires.good
    ((dict_holds free any_state).del h c.args.a.0 c.at.result c.requires.good.order c.requires.at i0)

pub returns : goal.returns
returns g c =
    let i0 = good_item _ _ c.requires.place c.at.ensures c.requires.good in
    let h = g.V.View.sense.heap c.args.v.now in
    good_done IsAnswer (del_row c.args.a.0 c.at.result) c.requires.good
    ((dict_holds free any_state).del h c.args.a.0 c.at.result c.requires.good.order c.requires.at i0)
    g.met.V.View.lawful _ _ c.in_ok-got.ensures
