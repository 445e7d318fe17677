-- The loop that collects items of a record.
use Rattle.std.proofs.Common.{◌≡◌, ℕ, ◌+◌, ◌-◌, ◌<◌, ◌≤◌, List, [], ◌∷◌, ◌++◌, length, drop, take, sym, ap, subst, ◌∙◌, arith, get_or, Result, Err}
use Rattle.std.proofs.lemmas.List.{take_more, get_or-drop, length-drop}
use Rattle.std.specs.Result.{IsErrAnd}
use Rattle.py_data.specs.declared.value.Value.{Value}
use Rattle.py_data.specs.declared.value.Value.TheVariants.{Unset}
use Rattle.py_data.specs.declared.stop.Stop.{Stop}
use Rattle.py_data.specs.declared.stop.Stop.TheVariants.{OutOfMemory}
use Rattle.py_data.specs.Heap.{Rec, at, value_at}
use Rattle.py_data.specs.Row.{Row, Read}
use Rattle.py_data.specs.Sense.{Sense, Lawful, Meets}
use Rattle.py_data.specs.inner.Rest.{Stands}
use Rattle.py_data.proofs.Rows.{meets_own}
use Rattle.py_data.proofs.Steps.{stands_again, as_err}
use Rattle.obj_seq.specs.Seq.{part}

pub part_next : (xs : List Value) (i k : ℕ) (x : Value) → i ≤ k → k < length xs → x ≡ value_at xs k →
    part xs i (k + 1) ≡ part xs i k ++ x ∷ []
part_next xs i k x l h e =
    let n : k + 1 - i ≡ k - i + 1 = omega arith in
    let m : i + (k - i) ≡ k = omega arith in
    let inside : k - i < length (drop i xs) = omega (arith, length-drop i xs) in
    rw (n, e) (take_more (drop i xs) (k - i) Unset inside ∙
    ap (λ y. take (k - i) (drop i xs) ++ y ∷ []) (get_or-drop i xs (k - i) Unset ∙ ap (λ j. get_or xs j Unset) m))

pub part_same : (xs : List Value) (i j k : ℕ) → k - i ≡ j - i → part xs i k ≡ part xs i j
part_same xs i j k e = ap (λ n. take n (drop i xs)) e
