use Rattle.std.proofs.Common.{◌≡◌, ◌+◌, ◌++◌, length}
use Rattle.py_code.specs.Listing.{numbered, instr_line}
use Rattle.py_code.proofs.assembly.push_instrs.Given as goal

abbrev pub invariant-instrs : goal.invariant-instrs
invariant-instrs l = (l.text ++ numbered (instr_line l.p l.c l.labels) l.n l.rest ≡ l.fn.text ++ numbered
    (instr_line l.p l.c l.labels) 0 l.c.instrs) × (l.n + length l.rest ≡ length l.c.instrs)

abbrev pub decreases-instrs : goal.decreases-instrs
decreases-instrs l = length l.rest
