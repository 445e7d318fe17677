use Rattle.std.proofs.Common.{arith}
use Rattle.obj_bench.proofs.BenchSteps.{good_item}
use Rattle.obj_bench.proofs.calling.of_object.Goals as goal

pub call_builtin-requires-clause-own : goal.call_builtin-requires-clause-own
call_builtin-requires-clause-own g c = let i = good_item _ _ (omega arith) c.at-own.ensures c.requires in i.0
