-- The values of a record one by one, from a place on.
use Rattle.std.proofs.Common.{arith, ◌≡◌, ℕ, zero, suc, ◌+◌, ◌/◌, List, [], ◌∷◌, drop}
use Rattle.py_data.specs.declared.value.Value.{Value}
use Rattle.py_data.specs.Every.{Every}
use Rattle.py_data.specs.Heap.{Heap, value_at}
use Rattle.py_data.specs.Closed.{Refers}

-- the value at a place, and what stands behind it
pub drop_here : (vs : List Value) (i : ℕ) (x : Value) (xs : List Value) → drop i vs ≡ x ∷ xs →
    (value_at vs i ≡ x) × (drop (i + 1) vs ≡ xs)
drop_here [] zero x xs e = absurd (let q : ◌≡◌ {A = List Value} [] (x ∷ xs) = e in cc)
drop_here [] (suc i) x xs e = absurd (let q : ◌≡◌ {A = List Value} [] (x ∷ xs) = e in cc)
drop_here (y ∷ vs) zero x xs e = (let q : y ≡ x = cc in q, let q : vs ≡ xs = cc in q)
drop_here (y ∷ vs) (suc i) x xs e = let n : suc i + 1 ≡ suc (i + 1) = omega arith in rw n (drop_here vs i x xs e)

-- two more values are one more pair
pub half_more : (n : ℕ) → suc (suc n) / 2 ≡ suc (n / 2)
half_more n = omega arith

-- what is at a place of a record refers to what is there, and so does Unset, where the record has none there
pub there_at : (h : Heap) (vs : List Value) (k : ℕ) → Every (Refers h) vs → Refers h (value_at vs k)
there_at h [] k e = tt
there_at h (v ∷ vs) zero e = e.0
there_at h (v ∷ vs) (suc k) e = there_at h vs k e.1
