use Rattle.obj_bench.proofs.BenchSteps.{kind_asks}
use Rattle.obj_bench.proofs.calls.text_size.Goals as goal

pub byte_len-requires-clause-there : goal.byte_len-requires-clause-there
byte_len-requires-clause-there g c = kind_asks c.requires.good _ _ c.requires.at
