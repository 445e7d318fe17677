use Rattle.std.proofs.Common.{vec_len}
use Rattle.py_tokens.proofs.layout.+close.Given as goal

abbrev pub decreases-close : goal.decreases-close
decreases-close l = vec_len l.stack.now
