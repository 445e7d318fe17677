use Rattle.obj_ops.proofs.Holding.{ops_hold}
use Rattle.obj_ops.specs.Binary.{unary_row}
use Rattle.py_data.specs.Answers.{IsAnswer}
use Rattle.obj_bench.specs.Bench.{free, any_state}
use Rattle.obj_bench.proofs.BenchSteps.{good_safe, good_done, good_item}
use Rattle.obj_bench.proofs.operators.call_unary.Goals as goal

pub unary-requires-clause-safe : goal.unary-requires-clause-safe
unary-requires-clause-safe g c =
    let i0 = good_item _ _ c.requires.place c.at.ensures c.requires.good in
    let h = g.V.View.sense.heap c.args.v.now in
    good_safe IsAnswer (unary_row c.args.op c.at.result) c.requires.good
    ((ops_hold free any_state).unary h c.args.op c.at.result c.requires.good.order i0)

pub returns : goal.returns
returns g c =
    let i0 = good_item _ _ c.requires.place c.at.ensures c.requires.good in
    let h = g.V.View.sense.heap c.args.v.now in
    good_done IsAnswer (unary_row c.args.op c.at.result) c.requires.good
    ((ops_hold free any_state).unary h c.args.op c.at.result c.requires.good.order i0) g.met.V.View.lawful _ _
    c.in_ok-got.ensures
