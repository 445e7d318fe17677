-- What each element of a list has, each element of a changed list has.
use Rattle.std.proofs.Common.{ℕ, zero, suc, List, [], ◌∷◌, ◌++◌, remove, set, take}
use Rattle.py_data.specs.Every.{Every}

pub every_and : {A : Type 0} (P : A → Type 0) (xs ys : List A) → Every P xs → Every P ys → Every P (xs ++ ys)
every_and P [] ys i j = j
every_and P (x ∷ xs) ys i j = (i.0, every_and P xs ys i.1 j)

pub every_less : {A : Type 0} (P : A → Type 0) (xs : List A) (k : ℕ) → Every P xs → Every P (remove xs k)
every_less P [] zero i = tt
every_less P [] (suc k) i = tt
every_less P (x ∷ xs) zero i = i.1
every_less P (x ∷ xs) (suc k) i = (i.0, every_less P xs k i.1)

pub every_set : {A : Type 0} (P : A → Type 0) (xs : List A) (k : ℕ) (y : A) → Every P xs → P y → Every P (set xs k y)
every_set P [] zero y i p = tt
every_set P [] (suc k) y i p = tt
every_set P (x ∷ xs) zero y i p = (p, i.1)
every_set P (x ∷ xs) (suc k) y i p = (i.0, every_set P xs k y i.1 p)

pub every_take : {A : Type 0} (P : A → Type 0) (xs : List A) (k : ℕ) → Every P xs → Every P (take k xs)
every_take P xs zero i = tt
every_take P [] (suc k) i = tt
every_take P (x ∷ xs) (suc k) i = (i.0, every_take P xs k i.1)

pub every_with : {A : Type 0} (P Q : A → Type 0) (xs : List A) → Every P xs → Every Q xs → Every (λ x. P x × Q x) xs
every_with P Q [] i j = tt
every_with P Q (x ∷ xs) i j = ((i.0, j.0), every_with P Q xs i.1 j.1)

pub every_weaken : {A : Type 0} (P Q : A → Type 0) → ((x : A) → P x → Q x) → (xs : List A) → Every P xs → Every Q xs
every_weaken P Q f [] i = tt
every_weaken P Q f (x ∷ xs) i = (f x i.0, every_weaken P Q f xs i.1)
