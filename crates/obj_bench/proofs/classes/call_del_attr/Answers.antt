use Rattle.obj_class.proofs.ClassHolds.{class_holds}
use Rattle.obj_class.specs.AttrRows.{del_attr_row}
use Rattle.py_data.specs.Answers.{IsDone}
use Rattle.obj_bench.specs.Bench.{free, any_state}
use Rattle.obj_bench.proofs.BenchSteps.{good_safe, good_done, good_item}
use Rattle.obj_bench.proofs.classes.call_del_attr.Goals as goal

pub del_attr-requires-clause-safe : goal.del_attr-requires-clause-safe
del_attr-requires-clause-safe g c =
    let i = good_item _ _ c.requires.place c.at.ensures c.requires.good in
    let h = g.V.View.sense.heap c.args.v.now in
    good_safe IsDone (del_attr_row c.at.result c.args.name.0) c.requires.good
    ((class_holds free any_state).del_attr h c.args.name.0 c.at.result c.requires.good.order i c.requires.name)

pub returns : goal.returns
returns g c =
    let i = good_item _ _ c.requires.place c.at.ensures c.requires.good in
    let h = g.V.View.sense.heap c.args.v.now in
    good_done IsDone (del_attr_row c.at.result c.args.name.0) c.requires.good
    ((class_holds free any_state).del_attr h c.args.name.0 c.at.result c.requires.good.order i c.requires.name)
    g.met.V.View.lawful _ _ c.in_ok-got.ensures
