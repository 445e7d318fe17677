use Rattle.std.proofs.Common.{◌≡◌, ◌+◌, ◌++◌, length}
use Rattle.py_code.specs.Listing.{numbered, key_line}
use Rattle.py_code.proofs.assembly.push_key_lines.Given as goal

abbrev pub invariant-lists : goal.invariant-lists
invariant-lists l = (l.text ++ numbered (key_line l.roots) l.n l.rest ≡ l.fn.text ++ numbered (key_line l.roots) 0
    l.lists) × (l.n + length l.rest ≡ length l.lists)

abbrev pub decreases-lists : goal.decreases-lists
decreases-lists l = length l.rest
