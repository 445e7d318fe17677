use Rattle.std.proofs.Common.{All, take}
use Rattle.py_code.specs.Effects.{IsText}
use Rattle.py_verify.proofs.bounds.Bounds.are_texts.Given as goal

abbrev pub invariant-loop-k : goal.invariant-loop-k
invariant-loop-k l = All (IsText l.self) (take l.k-index l.keys)
