use Rattle.std.proofs.Common.{◌≡◌, take}
use Rattle.py_code.specs.Listing.{marks}
use Rattle.py_code.proofs.assembly.labels.marks.Given as goal

abbrev pub invariant-loop-i : goal.invariant-loop-i
invariant-loop-i l = l.named ≡ marks (take l.i-index l.instrs) 0 l.instrs
