use Rattle.obj_class.proofs.FaultHolds.{fault_holds}
use Rattle.obj_class.specs.Exceptions.{IsRaised, fault_row}
use Rattle.obj_bench.specs.Bench.{free, any_state}
use Rattle.obj_bench.proofs.BenchSteps.{good_safe}
use Rattle.obj_bench.proofs.BenchClasses.{fault_done}
use Rattle.obj_bench.proofs.classes.call_fault.Goals as goal

pub make_fault-requires-clause-safe : goal.make_fault-requires-clause-safe
make_fault-requires-clause-safe g c =
    let h = g.V.View.sense.heap c.args.v.now in
    good_safe (IsRaised c.requires.good.listed.list.values c.args.e.now) (fault_row c.args.roots.0 c.args.e.now)
    c.requires.good (fault_holds free any_state h c.args.roots.0 c.args.e.now c.requires.good.order
    c.requires.good.listed c.requires.fault)

pub returns : goal.returns
returns g c = fault_done c.requires.good g.met.V.View.lawful c.args.e.now c.requires.fault _ _ c.in_ok-x.ensures
