use Rattle.std.proofs.Common.{vec_len}
use Rattle.py_tokens.proofs.layout.+dedent.Given as goal

abbrev pub decreases-dedent : goal.decreases-dedent
decreases-dedent l = vec_len l.stack.now
