use Rattle.obj_seq.proofs.HoldingGather.{seq_holds}
use Rattle.obj_seq.specs.Iter.{iter_row}
use Rattle.py_data.specs.Answers.{IsGot}
use Rattle.obj_seq.specs.HoldsLaws.{IsIterator}
use Rattle.obj_bench.specs.Bench.{free, any_state}
use Rattle.obj_bench.proofs.BenchSteps.{good_safe, good_done, good_item}
use Rattle.obj_bench.proofs.calls.make_iter.Goals as goal

pub make_iter-requires-clause-safe : goal.make_iter-requires-clause-safe
make_iter-requires-clause-safe g c =
    let i0 = good_item _ _ c.requires.place c.at.ensures c.requires.good in
    let h = g.V.View.sense.heap c.args.v.now in
    good_safe (IsGot IsIterator) (iter_row c.at.result) c.requires.good
    ((seq_holds free any_state).make_iter h c.at.result c.requires.good.order i0)

pub returns : goal.returns
returns g c =
    let i0 = good_item _ _ c.requires.place c.at.ensures c.requires.good in
    let h = g.V.View.sense.heap c.args.v.now in
    good_done (IsGot IsIterator) (iter_row c.at.result) c.requires.good
    ((seq_holds free any_state).make_iter h c.at.result c.requires.good.order i0) g.met.V.View.lawful _ _
    c.in_ok-got.ensures
