-- The list of a function's values at the first numbers.
use Rattle.std.proofs.Common.{◌≡◌, ◌≢◌, ℕ, zero, suc, ◌+◌, ◌<◌, ◌≤◌, cond, ltb, List, [], ◌∷◌, ◌++◌, length, take, set, get_or, refl, sym, ap, ◌∙◌, inl, inr, arith, add-one, length-append}
use Rattle.std.specs.List.{remove}
use Rattle.std.proofs.lemmas.Bool.Decides.{eqb_tells, leb_tells}
use Rattle.std.proofs.lemmas.List.{get_or-set_same, get_or-set_other, get_or_append_left, get_or_at, ext_get_or, length-set, get_or-take, length-take-le}
use Rattle.std.proofs.lemmas.List.Edits.{length-remove, get_or-remove_below, get_or-remove_above}
use Rattle.paged_store.specs.Words.{listed}

pub length_listed : {A : Type 0} (n : ℕ) (f : ℕ → A) → length (listed n f) ≡ n
length_listed zero f = refl
length_listed (suc n) f = length-append (listed n f) (f n ∷ []) ∙ ap (λ x. x + 1) (length_listed n f) ∙ add-one n

pub listed_same : {A : Type 0} (n : ℕ) (f g : ℕ → A) → ((i : ℕ) → i < n → f i ≡ g i) → listed n f ≡ listed n g
listed_same zero f g h = refl
listed_same (suc n) f g h = λ i. listed_same n f g (λ j l. h j (omega arith)) i ++ h n (omega arith) i ∷ []

pub get_or_listed : {A : Type 0} (n i : ℕ) (f : ℕ → A) (d : A) → i < n → get_or (listed n f) i d ≡ f i
get_or_listed zero i f d h = absurd (omega arith)
get_or_listed (suc n) i f d h = elim (eqb_tells i n) [
  | inl e ↦ rw e.1 (get_or_at (listed n f) (f n) [] d n (length_listed n f))
  | inr e ↦ (let l : i < n = (let k : i ≢ n = e.1 in omega arith) in
      get_or_append_left (listed n f) (f n ∷ []) d i (rw (length_listed n f) l) ∙ get_or_listed n i f d l)
]

-- a list with the elements of a function
pub listed_is : {A : Type 0} (n : ℕ) (f : ℕ → A) (xs : List A) (d : A) → length xs ≡ n →
    ((i : ℕ) → i < n → get_or xs i d ≡ f i) → listed n f ≡ xs
listed_is n f xs d e h = ext_get_or d (listed n f) xs (length_listed n f ∙ sym e) (λ i l.
    let k : i < n = rw (length_listed n f) at l in
    get_or_listed n i f d k ∙ sym (h i k))

pub listed_push : {A : Type 0} (n : ℕ) (f : ℕ → A) (x : A) → f n ≡ x → listed (n + 1) f ≡ listed n f ++ x ∷ []
listed_push n f x e = rw (add-one n) (ap (λ z. listed n f ++ z ∷ []) e)

pub listed_set : {A : Type 0} (n i : ℕ) (f g : ℕ → A) (x : A) → g i ≡ x → ((j : ℕ) → j < n → j ≢ i → g j ≡ f j) →
    listed n g ≡ set (listed n f) i x
listed_set n i f g x now others = listed_is n g (set (listed n f) i x) x
    (length-set (listed n f) i x ∙ length_listed n f) (λ j l.
    elim (eqb_tells j i) [
      | inl e ↦ rw e.1 (get_or-set_same (listed n f) i x x (rw (length_listed n f, ← e.1) l) ∙ sym now)
      | inr e ↦ get_or-set_other (listed n f) i j x x e.1 ∙ get_or_listed n j f x l ∙ sym (others j l e.1)
    ])

pub listed_take : {A : Type 0} (m n : ℕ) (f : ℕ → A) → m ≤ n → listed m f ≡ take m (listed n f)
listed_take zero n f h = refl
listed_take (suc m) n f h = listed_is (suc m) f (take (suc m) (listed n f)) (f 0)
    (length-take-le (suc m) (listed n f) (rw (length_listed n f) h))
    (λ i l. get_or-take (suc m) (listed n f) i (f 0) l ∙ get_or_listed n i f (f 0) (omega arith))

-- one element less, where those behind it move down
pub listed_remove : {A : Type 0} (n k : ℕ) (f g : ℕ → A) → k < n + 1 → ((j : ℕ) → j < k → g j ≡ f j) →
    ((j : ℕ) → k ≤ j → j < n → g j ≡ f (j + 1)) → listed n g ≡ remove (listed (n + 1) f) k
listed_remove n k f g h below behind =
    let e : length (listed (n + 1) f) ≡ n + 1 = length_listed (n + 1) f in
    let l : k < length (listed (n + 1) f) = rw e h in
    let m : length (remove (listed (n + 1) f) k) + 1 ≡ length (listed (n + 1) f) =
    length-remove (listed (n + 1) f) k l in
    listed_is n g (remove (listed (n + 1) f) k) (f 0) (omega arith) (λ i s. elim (leb_tells (suc i) k) [
      | inl b ↦ get_or-remove_below (listed (n + 1) f) k (f 0) i b.1 l ∙
          get_or_listed (n + 1) i f (f 0) (omega arith) ∙ sym (below i b.1)
      | inr b ↦ get_or-remove_above (listed (n + 1) f) k (f 0) i (omega arith) l ∙
          get_or_listed (n + 1) (i + 1) f (f 0) (omega arith) ∙ sym (behind i (omega arith) s)
    ])

-- two elements less
pub listed_remove_pair : {A : Type 0} (n k : ℕ) (f g : ℕ → A) → k < n + 1 → ((j : ℕ) → j < k → g j ≡ f j) →
    ((j : ℕ) → k ≤ j → j < n → g j ≡ f (j + 2)) → listed n g ≡ remove (remove (listed (n + 1 + 1) f) k) k
listed_remove_pair {A} n k f g h below behind =
    let m : ℕ → A = λ i. cond (ltb i k) (f i) (f (i + 1)) in
    let low : (j : ℕ) → j < k → m j ≡ f j = λ j l. elim (leb_tells (suc j) k)
    [ inl e ↦ rw e.0 refl | inr e ↦ absurd (omega arith) ] in
    let high : (j : ℕ) → k ≤ j → m j ≡ f (j + 1) = λ j l. elim (leb_tells (suc j) k)
    [ inl e ↦ absurd (omega arith) | inr e ↦ rw e.0 refl ] in
    listed_remove n k m g h (λ j l. below j l ∙ sym (low j l))
    (λ j l s. behind j l s ∙ ap f (omega arith) ∙ sym (high (j + 1) (omega arith))) ∙
    ap (λ xs. remove xs k) (listed_remove (n + 1) k f m (omega arith) low (λ j l s. high j l))
