use Rattle.std.proofs.Common.{◌≡◌, length, None}
use Rattle.std.specs.Prelude.{option_map}
use Rattle.std.specs.List.{last_or}
use Rattle.py_code.specs.Right.{texts_of}
use Rattle.py_verify.proofs.roots.last_text.Given as goal

abbrev pub invariant-roots : goal.invariant-roots
invariant-roots l = last_or (option_map (λ x. x.now) l.last) (texts_of l.rest) ≡ last_or None (texts_of l.roots)

abbrev pub decreases-roots : goal.decreases-roots
decreases-roots l = length l.rest
