use Rattle.obj_class.proofs.ClassHolds.{class_holds}
use Rattle.obj_class.specs.Bases.{is_sub_row}
use Rattle.obj_bench.specs.Bench.{free, any_state}
use Rattle.obj_bench.proofs.BenchSteps.{look_safe, look_done}
use Rattle.obj_bench.proofs.classes.call_is_sub.Goals as goal

pub is_sub-requires-clause-safe : goal.is_sub-requires-clause-safe
is_sub-requires-clause-safe g c =
    let h = g.V.View.sense.heap c.args.v.now in
    look_safe _ (is_sub_row c.args.c.0 c.args.base.0) c.requires.good
    ((class_holds free any_state).is_sub h c.args.c.0 c.args.base.0 c.requires.good.order c.requires.class)

pub returns : goal.returns
returns g c =
    let h = g.V.View.sense.heap c.args.v.now in
    look_done _ (is_sub_row c.args.c.0 c.args.base.0) c.requires.good
    ((class_holds free any_state).is_sub h c.args.c.0 c.args.base.0 c.requires.good.order c.requires.class)
    g.met.V.View.lawful _ _ c.in_ok-yes.ensures
