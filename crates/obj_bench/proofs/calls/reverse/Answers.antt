use Rattle.obj_seq.proofs.HoldingGather.{seq_holds}
use Rattle.obj_seq.specs.Seq.{reverse_row}
use Rattle.obj_bench.specs.Bench.{free, any_state}
use Rattle.obj_bench.proofs.BenchSteps.{good_safe, good_done}
use Rattle.obj_bench.proofs.calls.reverse.Goals as goal

pub reverse-requires-clause-safe : goal.reverse-requires-clause-safe
reverse-requires-clause-safe g c =
    good_safe (λ u h. Unit {0}) (reverse_row c.args.a.0) c.requires.good
    ((seq_holds free any_state).reverse (g.V.View.sense.heap c.args.v.now) c.args.a.0 c.requires.good.order
    c.requires.at)

pub returns : goal.returns
returns g c =
    let d = good_done (λ u h. Unit {0}) (reverse_row c.args.a.0) c.requires.good
    ((seq_holds free any_state).reverse (g.V.View.sense.heap c.args.v.now) c.args.a.0 c.requires.good.order
    c.requires.at) g.met.V.View.lawful _ _ c.in_ok-reverse.ensures in
    d.good
