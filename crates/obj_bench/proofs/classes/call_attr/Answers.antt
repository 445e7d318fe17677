use Rattle.obj_class.proofs.ClassHolds.{class_holds}
use Rattle.obj_class.specs.AttrRows.{attr_row}
use Rattle.py_data.specs.Answers.{IsAnswer}
use Rattle.obj_bench.specs.Bench.{free, any_state}
use Rattle.obj_bench.proofs.BenchSteps.{good_safe, good_done, good_item}
use Rattle.obj_bench.proofs.classes.call_attr.Goals as goal

pub attr-requires-clause-safe : goal.attr-requires-clause-safe
attr-requires-clause-safe g c =
    let i = good_item _ _ c.requires.place c.at.ensures c.requires.good in
    let h = g.V.View.sense.heap c.args.v.now in
    good_safe IsAnswer (attr_row c.args.roots.0 c.at.result c.args.name.0) c.requires.good
    ((class_holds free any_state).attr h c.args.roots.0 c.args.name.0 c.at.result c.requires.good.order
    c.requires.good.listed i c.requires.name)

pub returns : goal.returns
returns g c =
    let i = good_item _ _ c.requires.place c.at.ensures c.requires.good in
    let h = g.V.View.sense.heap c.args.v.now in
    good_done IsAnswer (attr_row c.args.roots.0 c.at.result c.args.name.0) c.requires.good
    ((class_holds free any_state).attr h c.args.roots.0 c.args.name.0 c.at.result c.requires.good.order
    c.requires.good.listed i c.requires.name) g.met.V.View.lawful _ _ c.in_ok-got.ensures
