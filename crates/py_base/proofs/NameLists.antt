-- A set of names that code keeps as other values: what it holds is a list of names, and the list is searched through
-- these values.
use Rattle.std.specs.Prelude.{position, nat_lt, not, ◌+◌, Some, None}
use Rattle.std.specs.List.{position_or_len}
use Rattle.std.proofs.Common.{Option, length, sym, ◌≡◌, ℕ, Bool, true, false, cond, List, [], ◌∷◌, ◌++◌, map, refl, subst, ap, ◌∙◌, ◌||◌}
use Rattle.std.specs.List.{list_any}
use Rattle.std.proofs.lemmas.List.{map-append, length-map}

list_any_over : {A B : Type 0} (f : A → B) (p : B → Bool) (ks : List A) →
    list_any p (map f ks) ≡ list_any (λ k. p (f k)) ks
list_any_over f p [] = refl
list_any_over f p (k ∷ ks) = ap (λ b. p (f k) || b) (list_any_over f p ks)

with_over : {A B : Type 0} (f : A → B) (b : Bool) (ks : List A) (k : A) →
    map f (cond b ks (ks ++ k ∷ [])) ≡ cond b (map f ks) (map f ks ++ f k ∷ [])
with_over f true ks k = refl
with_over f false ks k = map-append f ks (k ∷ [])

shown : {A B : Type 0} (f : A → B) (p : B → Bool) (ks : List A) (k : A) →
    map f (cond (list_any (λ x. p (f x)) ks) ks (ks ++ k ∷ [])) ≡ cond (list_any p (map f ks)) (map f ks)
    (map f ks ++ f k ∷ [])
shown f p ks k = with_over f (list_any (λ x. p (f x)) ks) ks k ∙ rw (list_any_over f p ks) refl

-- a set of names after an insert, as the list of names
pub shown_names : {A B : Type 0} (f : A → B) (p : B → Bool) (ks ks' : List A) (k : A) (names : List B) →
    ks' ≡ cond (list_any (λ x. p (f x)) ks) ks (ks ++ k ∷ []) → map f ks ≡ names →
    map f ks' ≡ cond (list_any p names) names (names ++ f k ∷ [])
shown_names f p ks ks' k names e n = subst (λ ns. map f ks' ≡ cond (list_any p ns) ns (ns ++ f k ∷ [])) n
    (ap (map f) e ∙ shown f p ks k)

-- whether a name is in the list
pub shown_has : {A B : Type 0} (f : A → B) (p : B → Bool) (ks : List A) (names : List B) (b : Bool) →
    b ≡ list_any (λ x. p (f x)) ks → map f ks ≡ names → b ≡ list_any p names
shown_has f p ks names b e n = subst (λ ns. b ≡ list_any p ns) n (rw (list_any_over f p ks) e)

-- the place of a name in the list
prefix_over : {A B : Type 0} (f : A → B) (p : B → Bool) (ks : List A) →
    position_or_len p (map f ks) ≡ position_or_len (λ k. p (f k)) ks
prefix_over f p [] = refl
prefix_over f p (k ∷ ks) = ap (λ n. cond (not (p (f k))) (1 + n) 0) (prefix_over f p ks)

place_over : {A B : Type 0} (f : A → B) (p : B → Bool) (ks : List A) →
    position p (map f ks) ≡ position (λ k. p (f k)) ks
place_over f p ks = ap (λ n. cond (nat_lt n (length (map f ks))) (Some n) None) (prefix_over f p ks) ∙
    ap (λ l. cond (nat_lt (position_or_len (λ k. p (f k)) ks) l) (Some (position_or_len (λ k. p (f k)) ks)) None)
    (length-map ks f)

pub shown_place : {A B : Type 0} (f : A → B) (p : B → Bool) (ks : List A) (names : List B) (i : Option ℕ) →
    i ≡ position (λ x. p (f x)) ks → map f ks ≡ names → i ≡ position p names
shown_place f p ks names i e n = subst (λ ns. i ≡ position p ns) n (e ∙ sym (place_over f p ks))

pub shown_len : {A B : Type 0} (f : A → B) (ks : List A) (names : List B) (n : ℕ) → n ≡ length ks → map f ks ≡ names →
    n ≡ length names
shown_len f ks names n e m = subst (λ ns. n ≡ length ns) m (e ∙ sym (length-map ks f))

-- a set of names after a new one was put in, as the list of names
pub shown_more : {A B : Type 0} (f : A → B) (p : B → Bool) (ks ks' : List A) (k : A) (names : List B) →
    ks' ≡ cond (list_any (λ x. p (f x)) ks) ks (ks ++ k ∷ []) → map f ks ≡ names → list_any p names ≡ false →
    map f ks' ≡ names ++ f k ∷ []
shown_more f p ks ks' k names e n new =
    let a : list_any (λ x. p (f x)) ks ≡ false = sym (list_any_over f p ks) ∙ ap (list_any p) n ∙ new in
    ap (map f) (e ∙ ap (λ b. cond b ks (ks ++ k ∷ [])) a) ∙ map-append f ks (k ∷ []) ∙ ap (λ ns. ns ++ f k ∷ []) n
