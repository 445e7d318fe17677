-- Pairs that are told from the last to the first.
use Rattle.std.proofs.Common.{◌≡◌, ℕ, ◌+◌, ◌≤◌, List, ◌∷◌, length, drop, get_or, sym, subst, arith}
use Rattle.std.proofs.lemmas.List.{drop_more}
use Rattle.py_data.specs.declared.value.Value.{Value}
use Rattle.py_data.specs.declared.value.Value.TheVariants.{Unset}
use Rattle.py_data.specs.Heap.{Heap, value_at}
use Rattle.py_data.specs.Shape.{IsKey, ArePairs}

-- one pair more before those that are left
pub pairs_before : (h : Heap) (vs : List Value) (i : ℕ) → i + 2 ≤ length vs → IsKey h (value_at vs i) →
    ArePairs h (drop (i + 2) vs) → ArePairs h (drop i vs)
pairs_before h vs i l k p = subst (ArePairs h) (sym (drop_more vs i Unset (omega arith)))
    (subst (λ x. ArePairs h (get_or vs i Unset ∷ x)) (sym (drop_more vs (i + 1) Unset (omega arith)))
    (k, subst (λ n. ArePairs h (drop n vs)) next p))
  where
    next : i + 2 ≡ i + 1 + 1
    next = omega arith
