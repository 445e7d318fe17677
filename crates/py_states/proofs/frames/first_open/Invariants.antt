use Rattle.std.proofs.Common.{◌≡◌, drop}
use Rattle.py_states.specs.inner.Laid.{opening}
use Rattle.py_states.proofs.frames.first_open.Given as goal

abbrev pub invariant-loop-i : goal.invariant-loop-i
invariant-loop-i l = opening l.i (drop l.i l.heads.entries) ≡ opening l.first (drop l.first l.heads.entries)
