-- Values at places that a record has not.
use Rattle.std.proofs.Common.{arith, ◌≡◌, ℕ, zero, suc, ◌≤◌, List, [], ◌∷◌, length, refl}
use Rattle.py_data.specs.declared.value.Value.{Value}
use Rattle.py_data.specs.declared.value.Value.TheVariants.{Unset}
use Rattle.py_data.specs.Heap.{value_at}

pub value_past : (xs : List Value) (i : ℕ) → length xs ≤ i → value_at xs i ≡ Unset
value_past [] i l = refl
value_past (x ∷ xs) zero l = absurd (omega (arith, l))
value_past (x ∷ xs) (suc i) l = value_past xs i (omega (arith, l))
