use Rattle.std.proofs.Common.{arith}
use Rattle.obj_tests.proofs.BenchUndo.{list_length}
use Rattle.obj_tests.proofs.growth.peeked.Goals as goal

pub peek_val-requires-clause-within : goal.peek_val-requires-clause-within
peek_val-requires-clause-within g c = omega (
  arith,
  list_length (g.P.Peek.image c.args.image.now) c.args.a.0 c.requires,
  c.peek_len-n.ensures,
  c.loop-i-test.true,
)
