-- The sum of numbers.
use Rattle.std.proofs.Common.{arith, ◌≡◌, ℕ, suc, ℤ, pos, ◌+ℤ◌, ◌≤◌, true, List, [], ◌∷◌, length, take, Option, Some, refl, sym, ap, subst, ◌∙◌}
use Rattle.std.proofs.lemmas.Bool.{cond-true}
use Rattle.std.proofs.Math.IntN.{+ℤ_assoc, +ℤ_idl, +ℤ_idr}
use Rattle.py_data.specs.declared.record.Got.{Got}
use Rattle.py_data.specs.declared.record.Got.TheVariants.{Is, Raise}
use Rattle.py_data.specs.declared.value.Value.{Value}
use Rattle.py_data.specs.declared.value.Value.TheVariants.{Int}
use Rattle.py_data.specs.Comparing.{number_of}
use Rattle.py_data.specs.Looking.{Looks, got_row}
use Rattle.py_data.specs.Row.{Ret}
use Rattle.py_data.specs.Texts.{got_then}
use Rattle.py_data.proofs.Looking.{looks_ret, looks_read, looks_then}
use Rattle.obj_class.specs.Bases.{ref}
use Rattle.obj_ops.specs.Numbers.{is_narrow, overflow_fault}
use Rattle.obj_seq.specs.Gather.{gather_row, gather_as, gather_of}
use Rattle.obj_builtins.specs.Functions.{later_row, function_row}
use Rattle.obj_builtins.specs.Laws.{AreNumbers, total, SumLaw}
use Rattle.obj_builtins.specs.Sums.{held, added, summed, sum_value, sum_items, sum_alone, sum_row}

added_is : (n : ℤ) (o : Option ℤ) (i : ℤ) → o ≡ Some i → is_narrow (n +ℤ i) ≡ true → added n o ≡ Is (n +ℤ i)
unfolding added held
added_is n o i e f = ap (added n) e ∙ cond-true (is_narrow (n +ℤ i)) (Is (n +ℤ i)) (Raise overflow_fault) f

sum_is : (n : ℤ) (vs : List Value) (is : List ℤ) → AreNumbers vs is →
    ((k : ℕ) → k ≤ length is → is_narrow (n +ℤ total (take k is)) ≡ true) → summed n vs ≡ Is (n +ℤ total is)
unfolding summed
sum_is n [] [] a f = ap Is (sym (+ℤ_idr n))
sum_is n [] (i ∷ is) a f = absurd a
sum_is n (x ∷ xs) [] a f = absurd a
sum_is n (x ∷ xs) (i ∷ is) a f =
    let one : is_narrow (n +ℤ i) ≡ true = ap (λ z. is_narrow (n +ℤ z)) (sym (+ℤ_idr i)) ∙ f 1 (omega arith) in
    ap (λ g. got_then g (λ m. summed m xs)) (added_is n (number_of x) i a.0 one)
    ∙ (sum_is (n +ℤ i) xs is a.1 (λ k l. ap is_narrow (+ℤ_assoc n i (total (take k is))) ∙
    f (suc k) (omega (arith, l))) ∙ ap Is (+ℤ_assoc n i (total is)))

pub sum_law : (S : Type 0) → SumLaw S
unfolding function_row later_row sum_row sum_alone sum_items gather_row
sum_law S h roots a r is e k ns fits =
    let p : Got Value → Type 0 = λ g. g ≡ Is (Int (total is)) in
    let plain : summed (pos 0) r.values ≡ Is (total is) =
    sum_is (pos 0) r.values is ns (λ n l. ap is_narrow (+ℤ_idl (total (take n is))) ∙ fits n l) ∙
    ap Is (+ℤ_idl (total is)) in
    looks_then (λ g. g ≡ Is r.values) p (gather_row (ref a)) (got_row (λ vs. Ret (sum_value vs))) h
    (looks_read (λ g. g ≡ Is r.values) a (gather_of a) h r e
    (subst (λ q. Looks {S = S} (λ g. g ≡ Is r.values) (gather_as a q r.values r.bytes) h) (sym k)
    (looks_ret S (λ g. g ≡ Is r.values) (Is r.values) h refl)))
    (λ g q. subst (λ z. Looks {S = S} p (got_row (λ vs. Ret (sum_value vs)) z) h) (sym q)
    (looks_ret S p (sum_value r.values) h (ap (λ g. got_then g (λ n. Is (Int n))) plain)))
