use Rattle.std.proofs.Common.{◌≡◌, ◌+◌, ◌++◌, length}
use Rattle.py_code.specs.Listing.{numbered, code_lines}
use Rattle.py_code.proofs.assembly.push_codes.Given as goal

abbrev pub invariant-codes : goal.invariant-codes
invariant-codes l = (l.text ++ numbered (code_lines l.p) l.n l.rest ≡ l.fn.text ++ numbered (code_lines l.p) 0
    l.p.codes) × (l.n + length l.rest ≡ length l.p.codes)

abbrev pub decreases-codes : goal.decreases-codes
decreases-codes l = length l.rest
