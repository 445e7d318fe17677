-- What takes a change back.
use Rattle.std.proofs.Common.{◌≡◌, ℕ, zero, suc, ◌<◌, List, [], ◌∷◌, length, slice_set, slice_index_or, ◌∙◌, ap, arith}
use Rattle.std.proofs.lemmas.List.{length-set}
use Rattle.py_data.specs.declared.value.Value.{Value}
use Rattle.py_data.specs.declared.change.Change.TheVariants.{Set}
use Rattle.py_data.specs.declared.undo.Undo.TheVariants.{Put}
use Rattle.py_data.specs.Heap.{Rec, with_value}
use Rattle.py_data.specs.Undo.{IsUndo}

-- an element that is put back
set_back : (xs : List Value) (i : ℕ) (x old : Value) → i < length xs → old ≡ slice_index_or xs i old →
    slice_set (slice_set xs i x) i old ≡ xs
set_back [] i x old h e = absurd (omega arith)
set_back (y ∷ xs) zero x old h e = ap (λ z. z ∷ xs) e
set_back (y ∷ xs) (suc i) x old h e = ap (λ l. y ∷ l) (set_back xs i x old (omega arith) e)

pub set_undone : (r q : Rec) (i : ℕ) (x old : Value) → i < length r.values → old ≡ slice_index_or r.values i old →
    q ≡ with_value i x r → IsUndo (Set i x) r (Put i old) q
set_undone r q i x old h e made = record {
  made = made;
  back = ap (with_value i old) made ∙ (λ j. record r { values = set_back r.values i x old h e j });
  can = rw made (simp length-set h);
}
