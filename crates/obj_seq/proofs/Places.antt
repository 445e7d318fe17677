-- What is done with the place that an index names, or where a bound falls.
use Rattle.std.proofs.Common.{◌≡◌, ◌≢◌, ℕ, ◌+◌, ◌<◌, List, [], length, drop, Option, Some, None, refl, sym, ap, ◌∙◌, ℤ, to_z, of_z, w64, FitsSigned}
use Rattle.std.proofs.lemmas.Int.{to_z-of_z}
use Rattle.std.proofs.lemmas.Bool.{lt-ltb, cond-true, cond-false, ne_eqb}
use Rattle.py_data.specs.declared.value.Value.{Value}
use Rattle.py_base.specs.declared.kind.Kind.{Kind}
use Rattle.py_data.specs.declared.record.Got.TheVariants.{Is}
use Rattle.py_data.specs.declared.record.TheConstants.{LENGTH_LIMIT}
use Rattle.py_data.specs.Heap.{Rec, value_at, new_rec}
use Rattle.py_data.specs.Row.{Ret, bind}
use Rattle.obj_seq.specs.Seq.{place, bound, bound_or, part, if_place, gap_row, shift_row, pop_at, insert_at}

pub at_place : {A : Type 0} (o : Option ℕ) (k : ℕ) (f : ℕ → A) (z : A) → o ≡ Some k → if_place o f z ≡ f k
unfolding if_place
at_place o k f z e = ap (λ o. if_place o f z) e

pub at_none : {A : Type 0} (o : Option ℕ) (f : ℕ → A) (z : A) → o ≡ None → if_place o f z ≡ z
unfolding if_place
at_none o f z e = ap (λ o. if_place o f z) e

pub ruleset place_steps = (at_place, at_none)

-- the place that the code found
pub place_found : (i : ℤ) (n m k : ℕ) (o : Option ℕ) → FitsSigned w64 i → n ≡ m → o ≡ place (to_z w64 (of_z w64 i)) n →
    o ≡ Some k → place i m ≡ Some k
place_found i n m k o fits e f g = sym (ap (λ z. place z n) (to_z-of_z w64 i fits) ∙ ap (place i) e) ∙ sym f ∙ g

-- where the code found a bound
pub bound_found : (i : ℤ) (n m k : ℕ) → FitsSigned w64 i → n ≡ m → k ≡ bound (to_z w64 (of_z w64 i)) n → bound i m ≡ k
bound_found i n m k fits e f = sym (f ∙ ap (λ z. bound z n) (to_z-of_z w64 i fits) ∙ ap (bound i) e)

pub insert_is : {S : Type 0} (a : ℕ) (i : ℤ) (x : Value) (r : Rec) (k : ℕ) → length r.values < LENGTH_LIMIT →
    bound i (length r.values) ≡ k
    → insert_at {S = S} a i x r ≡ bind (shift_row a k x (drop k r.values)) (λ _. Ret (Is tt))
insert_is a i x r k less e =
    cond-true _ _ _ (lt-ltb (length r.values) LENGTH_LIMIT less) ∙
    ap (λ k. bind (shift_row a k x (drop k r.values)) (λ _. Ret (Is tt))) e

pub pop_is : {S : Type 0} (a : ℕ) (i : ℤ) (r : Rec) (n k : ℕ) → n ≢ 0 → n ≡ length r.values →
    place i (length r.values) ≡ Some k
    → pop_at {S = S} a i r ≡ bind (gap_row a k (drop (k + 1) r.values)) (λ _. Ret (Is (value_at r.values k)))
pop_is a i r n k some e f = cond-false _ _ _ (ne_eqb (length r.values) 0 (λ z. some (e ∙ z))) ∙ at_place _ _ _ _ f

-- the record that the code makes of a part of one that it looked at
pub slice_is : (r : Rec) (kind : Kind) (values : List Value) (bytes : List ℕ) (from to : Option ℤ) (n i j : ℕ) →
    kind ≡ r.kind → n ≡ length r.values
    → i ≡ bound_or from 0 n → j ≡ bound_or to n n → values ≡ part r.values i j → bytes ≡ []
    → new_rec kind values bytes ≡ new_rec r.kind
    (part r.values (bound_or from 0 (length r.values)) (bound_or to (length r.values) (length r.values))) []
slice_is r kind values bytes from to n i j e f g h l m =
    let i1 : i ≡ bound_or from 0 (length r.values) = g ∙ ap (bound_or from 0) f in
    let j1 : j ≡ bound_or to (length r.values) (length r.values) = h ∙ ap (λ n. bound_or to n n) f in
    rw (e, l, m, i1, j1) refl
