use Rattle.obj_bench.proofs.BenchSteps.{kind_asks}
use Rattle.obj_bench.proofs.calls.record_size.Goals as goal

pub len-requires-clause-there : goal.len-requires-clause-there
len-requires-clause-there g c = kind_asks c.requires.good _ _ c.requires.at
