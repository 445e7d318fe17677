use Rattle.py_data.specs.Closed.{IsItem}
use Rattle.obj_bench.proofs.BenchSteps.{good_cut}
use Rattle.obj_bench.proofs.stacking.range.Goals as goal

pub push-requires : goal.push-requires
push-requires g c = good_cut (λ x h. IsItem h x) _ _ _ c.truncate.ensures c.in_ok-x-in-Int-Int-Int.ensures
