-- A change leaves a record within the limit of values and bytes.
use Rattle.std.proofs.Common.{◌≡◌, ◌+◌, ◌*◌, [], ◌∷◌, ◌++◌, length, arith, length-append}
use Rattle.std.proofs.lemmas.List.{length-set, length-take}
use Rattle.std.proofs.lemmas.List.Edits.{length-remove}
use Rattle.std.specs.List.{remove}
use Rattle.py_data.specs.Heap.{Rec}
use Rattle.py_data.specs.declared.change.Change.{Change}
use Rattle.py_data.specs.declared.change.Change.TheVariants.{Set, Push, Cut, Pair, Unpair}
use Rattle.py_data.specs.Changes.{after, Allows, IsShort}

-- a change that is allowed leaves a short record
pub short_after : (c : Change) (r : Rec) → Allows c r → IsShort r → IsShort (after c r)
short_after (Set i x) r h s = (let a = s.0 in omega (arith, length-set r.values i x), s.1)
short_after (Push x) r h s = (omega (arith, length-append r.values (x ∷ [])), s.1)
short_after (Cut n) r h s = (let a = s.0 in omega (arith, length-take n r.values), s.1)
short_after (Pair key x) r h s = (
  omega (
    arith,
    length-append (r.values ++ key ∷ []) (x ∷ []),
    length-append r.values (key ∷ []),
  ),
  s.1,
)
short_after (Unpair k) r h s =
    let a : length (remove r.values (2 * k)) + 1 ≡ length r.values = length-remove r.values (2 * k) (omega arith) in
    let b : length (remove (remove r.values (2 * k)) (2 * k)) + 1 ≡ length (remove r.values (2 * k)) =
    length-remove (remove r.values (2 * k)) (2 * k) (omega arith) in
    (let l = s.0 in omega arith, s.1)
