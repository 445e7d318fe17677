-- A dictionary of pairs of numbers, or an empty list, may be made over each view.
use Rattle.std.proofs.Common.{◌≡◌, ℕ, zero, suc, ◌*◌, ◌≤◌, Bool, true, false, List, [], refl, sym, subst, arith}
use Rattle.py_data.specs.declared.value.Value.{Value}
use Rattle.py_base.specs.declared.kind.Kind.TheVariants.{List as ListKind, Dict}
use Rattle.py_data.specs.Heap.{Heap, new_rec}
use Rattle.py_data.specs.Shape.{HoldsNoUnset}
use Rattle.py_data.specs.Row.{Make}
use Rattle.py_data.specs.Sense.{Asks}
use Rattle.obj_bench.specs.Bench.{pairs_from}
use Rattle.obj_bench.proofs.BenchPairs.{pairs_length, pairs_keys, pairs_differ}

pairs_held : (i n : ℕ) → HoldsNoUnset Dict (pairs_from i n)
pairs_held i zero = tt
pairs_held i (suc n) = ((λ f. absurd (cc)), ((λ f. absurd (cc)), pairs_held (suc i) n))

-- a dictionary of these pairs may be made over each view
pub dict_asks : (S : Type 0) (p : Bool) (h : Heap) (n : ℕ) (vs : List Value) → vs ≡ pairs_from 0 n → 2 * n ≤ 1_048_576
    → Asks {S = S} p (Make (new_rec Dict vs [])) h
unfolding Asks
dict_asks S p h n vs e l = subst (λ vs. Asks {S = S} p (Make (new_rec Dict vs [])) h) (sym e) (by p)
  where
    by : (p : Bool) → Asks {S = S} p (Make (new_rec Dict (pairs_from 0 n) [])) h
    by true = (omega (arith, pairs_length 0 n, l), omega arith)
    by false = (
      ((pairs_keys h 0 n, pairs_differ h 0 n), refl, pairs_held 0 n),
      omega (arith, pairs_length 0 n, l),
      omega arith,
    )

-- and so may an empty list
pub list_asks : (S : Type 0) (p : Bool) (h : Heap) (vs : List Value) → vs ≡ [] →
    Asks {S = S} p (Make (new_rec ListKind vs [])) h
unfolding Asks
list_asks S p h vs e = subst (λ vs. Asks {S = S} p (Make (new_rec ListKind vs [])) h) (sym e) (by p)
  where
    by : (p : Bool) → Asks {S = S} p (Make (new_rec ListKind [] [])) h
    by true = (omega arith, omega arith)
    by false = ((tt, refl, tt), omega arith, omega arith)
