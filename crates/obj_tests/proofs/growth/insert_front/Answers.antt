use Rattle.std.proofs.Common.{◌≡◌, pos}
use Rattle.obj_seq.proofs.HoldingGather.{seq_holds}
use Rattle.obj_seq.specs.Seq.{insert_row}
use Rattle.py_data.specs.Answers.{IsDone}
use Rattle.py_data.specs.declared.value.Value.TheVariants.{Int, Unset}
use Rattle.obj_bench.specs.Bench.{free, any_state}
use Rattle.obj_bench.proofs.BenchSteps.{good_safe}
use Rattle.obj_tests.proofs.growth.insert_front.Goals as goal

pub insert-requires-clause-safe : goal.insert-requires-clause-safe
insert-requires-clause-safe g c =
    let h = g.V.View.sense.heap c.args.v.now in
    good_safe IsDone (insert_row c.args.a.0 (pos 0) (Int (pos 9))) c.requires.good
    ((seq_holds free any_state).insert h c.args.a.0 (pos 0) (Int (pos 9)) c.requires.good.order c.requires.at
    (tt, λ e. let z : Int (pos 9) ≡ Unset = e in cc))
