use Rattle.std.proofs.Common.{◌≡◌, ◌∷◌, ◌++◌, take}
use Rattle.std.specs.List.{flat_map}
use Rattle.py_code.specs.Listing.{slot_name}
use Rattle.py_code.proofs.assembly.push_slots.Given as goal

abbrev pub invariant-loop-slot : goal.invariant-loop-slot
invariant-loop-slot l = l.text ≡ l.fn.text ++ flat_map (λ t. 32 ∷ slot_name t) (take l.slot-index l.slots)
