use Rattle.obj_class.proofs.ClassHolds.{class_holds}
use Rattle.obj_class.specs.AttrRows.{find_attr_row}
use Rattle.obj_bench.specs.Bench.{free, any_state}
use Rattle.obj_bench.proofs.BenchSteps.{look_safe, look_done, good_item}
use Rattle.obj_bench.proofs.calling.look_attr.Goals as goal

pub find_attr-requires-clause-safe : goal.find_attr-requires-clause-safe
find_attr-requires-clause-safe g c =
    let i = good_item _ _ c.requires.place c.at.ensures c.requires.good in
    let h = g.V.View.sense.heap c.args.v.now in
    look_safe _ (find_attr_row c.args.roots.0 c.at.result c.args.name.0) c.requires.good
    ((class_holds free any_state).find_attr h c.args.roots.0 c.args.name.0 c.at.result c.requires.good.order
    c.requires.good.listed i c.requires.name)

pub returns : goal.returns
returns g c =
    let i = good_item _ _ c.requires.place c.at.ensures c.requires.good in
    let h = g.V.View.sense.heap c.args.v.now in
    look_done _ (find_attr_row c.args.roots.0 c.at.result c.args.name.0) c.requires.good
    ((class_holds free any_state).find_attr h c.args.roots.0 c.args.name.0 c.at.result c.requires.good.order
    c.requires.good.listed i c.requires.name) g.met.V.View.lawful _ _ c.in_ok-found.ensures
