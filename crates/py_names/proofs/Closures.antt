-- The bodies round a place, in either order.
use Rattle.std.proofs.Common.{◌≡◌, ℕ, Bool, true, false, not, ◌&&◌, ◌||◌, List, [], ◌∷◌, reverse, refl, sym, ap, ◌∙◌}
use Rattle.std.specs.List.{list_any}
use Rattle.std.proofs.lemmas.List.{reverse-append}
use Rattle.std.proofs.lemmas.List.Folds.{list_any-append}
use Rattle.py_base.specs.NameLists.{has}
use Rattle.py_names.specs.Scopes.{Names, is_function, is_local, is_closure}

or_turned : (a b : Bool) → (a || (b || false)) ≡ (b || a)
or_turned true true = refl
or_turned true false = refl
or_turned false true = refl
or_turned false false = refl

list_any_reverse : {A : Type 0} (p : A → Bool) (xs : List A) → list_any p (reverse xs) ≡ list_any p xs
list_any_reverse p [] = refl
list_any_reverse p (x ∷ xs) =
    ap (list_any p) (reverse-append (x ∷ []) xs) ∙ list_any-append p (reverse xs) (x ∷ [])
    ∙ ap (λ b. b || (p x || false)) (list_any_reverse p xs) ∙ or_turned (list_any p xs) (p x)

pub closure_of : (b : ℕ → Names) (inside : List ℕ) (k : ℕ) (outer : List ℕ) (n : List ℕ) {p q r : Bool} →
    inside ≡ k ∷ reverse outer → p ≡ is_local (b k) n → q ≡ has n (b k).declared → p ≡ false → q ≡ false →
    r ≡ list_any (λ j. is_function (b j).kind && is_local (b j) n) outer → r ≡ is_closure b inside n
closure_of b inside k outer n i l d f g a =
    a ∙ sym (list_any_reverse (λ j. is_function (b j).kind && is_local (b j) n) outer)
    ∙ ap (λ z. not z && (not false && list_any (λ j. is_function (b j).kind && is_local (b j) n) (reverse outer)))
    (sym f ∙ l)
    ∙ ap (λ z. not (is_local (b k) n) &&
    (not z && list_any (λ j. is_function (b j).kind && is_local (b j) n) (reverse outer))) (sym g ∙ d)
    ∙ ap (λ z. is_closure b z n) (sym i)
