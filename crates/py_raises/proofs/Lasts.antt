-- The last item of a list is what stands at its last place.
use Rattle.std.proofs.Common.{arith, ◌≡◌, List, [], ◌∷◌, ◌-◌, length, refl, sym, subst, Some, None, slice_get}
use Rattle.std.specs.List.{last_or}

last_behind : {A : Type 0} (x : A) (xs : List A) → last_or (Some x) xs ≡ slice_get (x ∷ xs) (length xs)
last_behind x [] = refl
last_behind x (y ∷ ys) = last_behind y ys

pub last_is : {A : Type 0} (xs : List A) → last_or None xs ≡ slice_get xs (length xs - 1)
last_is [] = refl
last_is (x ∷ xs) =
    let e : length (x ∷ xs) - 1 ≡ length xs = omega arith in
    subst (λ m. last_or (Some x) xs ≡ slice_get (x ∷ xs) m) (sym e) (last_behind x xs)
