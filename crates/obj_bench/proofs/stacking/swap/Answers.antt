use Rattle.std.proofs.Common.{arith, sym, subst}
use Rattle.py_data.specs.Closed.{IsItem}
use Rattle.obj_bench.specs.Bench.{GoodWith}
use Rattle.obj_bench.proofs.BenchSteps.{good_item, good_less}
use Rattle.obj_bench.proofs.stacking.swap.Goals as goal

pub push-requires : goal.push-requires
push-requires g c =
    let i = good_item _ _ (omega arith) c.at-x.ensures c.requires in
    subst (λ s. GoodWith g.V.View.sense c.args.bench.roots.0 (λ x h. IsItem h x) s c.at-x.result c.args.bench.view)
    (sym c.remove.ensures) (record { good = good_less _ c.requires; answer = i })
