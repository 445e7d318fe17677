use Rattle.obj_dict.proofs.Holding.{dict_holds}
use Rattle.obj_dict.specs.Listing.{list_of_row}
use Rattle.py_data.specs.Answers.{IsAnswer}
use Rattle.obj_bench.specs.Bench.{free, any_state}
use Rattle.obj_bench.proofs.BenchSteps.{good_safe, good_done}
use Rattle.obj_bench.proofs.calls.list_of.Goals as goal

pub list_of-requires-clause-safe : goal.list_of-requires-clause-safe
list_of-requires-clause-safe g c =
    let h = g.V.View.sense.heap c.args.v.now in
    good_safe IsAnswer (list_of_row c.args.a.0 c.args.part) c.requires.good
    ((dict_holds free any_state).list_of h c.args.a.0 c.args.part c.requires.good.order c.requires.at)

pub returns : goal.returns
returns g c =
    let h = g.V.View.sense.heap c.args.v.now in
    good_done IsAnswer (list_of_row c.args.a.0 c.args.part) c.requires.good
    ((dict_holds free any_state).list_of h c.args.a.0 c.args.part c.requires.good.order c.requires.at)
    g.met.V.View.lawful _ _ c.in_ok-got.ensures
