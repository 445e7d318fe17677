use Rattle.std.proofs.Common.{◌≡◌, ◌∷◌, take}
use Rattle.std.specs.List.{flat_map}
use Rattle.py_text.specs.Repr.{shown}
use Rattle.py_text.proofs.repr.quoted.Given as goal

abbrev pub invariant-loop-byte : goal.invariant-loop-byte
invariant-loop-byte l = l.text ≡ (l.quote ∷ flat_map (shown l.quote) (take l.byte-index l.b))
