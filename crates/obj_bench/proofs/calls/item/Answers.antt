use Rattle.obj_seq.proofs.HoldingGather.{seq_holds}
use Rattle.obj_seq.specs.Seq.{item_row}
use Rattle.py_data.specs.Answers.{IsAnswer}
use Rattle.obj_bench.specs.Bench.{free, any_state}
use Rattle.obj_bench.proofs.BenchSteps.{good_safe, good_done}
use Rattle.obj_bench.proofs.calls.item.Goals as goal

pub item-requires-clause-safe : goal.item-requires-clause-safe
item-requires-clause-safe g c =
    let h = g.V.View.sense.heap c.args.v.now in
    good_safe IsAnswer (item_row c.args.a.0 _) c.requires.good
    ((seq_holds free any_state).item h c.args.a.0 _ c.requires.good.order c.requires.at)

pub returns : goal.returns
returns g c =
    let h = g.V.View.sense.heap c.args.v.now in
    good_done IsAnswer (item_row c.args.a.0 _) c.requires.good
    ((seq_holds free any_state).item h c.args.a.0 _ c.requires.good.order c.requires.at) g.met.V.View.lawful _ _
    c.in_ok-got.ensures
