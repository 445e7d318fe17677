use Rattle.std.proofs.Common.{◌≡◌, ℕ, ◌<◌, get_or, true}
use Rattle.py_text.specs.Escape.{is_octal}
use Rattle.py_text.proofs.literal.octal_digits.Given as goal

abbrev pub invariant-loop-i : goal.invariant-loop-i
invariant-loop-i l = (k : ℕ) → k < l.i → is_octal (get_or l.most k 0) ≡ true
