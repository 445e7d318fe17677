use Rattle.std.proofs.Common.{All, take}
use Rattle.py_code.specs.Effects.{Forward, effect}
use Rattle.py_verify.proofs.context.all_forward.Given as goal

abbrev pub invariant-loop-i : goal.invariant-loop-i
invariant-loop-i l = All (λ i. Forward l.bounds.first (effect l.bounds i).flow) (take l.i-index l.instrs)
