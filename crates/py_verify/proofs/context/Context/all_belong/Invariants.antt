use Rattle.std.proofs.Common.{All, take}
use Rattle.py_code.specs.Right.{Belongs}
use Rattle.py_verify.proofs.context.Context.all_belong.Given as goal

abbrev pub invariant-loop-i : goal.invariant-loop-i
invariant-loop-i l = All (Belongs l.self.codes l.self.roots l.n) (take l.i-index l.instrs)
