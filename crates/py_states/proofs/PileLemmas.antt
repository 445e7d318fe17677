-- Lists from their last element.
use Rattle.std.proofs.Common.{arith, ◌≡◌, ℕ, zero, suc, min, ◌+◌, ◌-◌, ◌<◌, List, [], ◌∷◌, ◌++◌, length, reverse, take, drop, Some, None, get_or, refl, sym, ap, subst, ◌∙◌, slice_get, slice_set, slice_index_or}
use Rattle.std.proofs.lemmas.List.{length-append, length-reverse, length-drop, reverse-append, take-append-drop, set-get_or, drop_at, drop_min}
use Rattle.py_states.specs.declared.head.Head.{Head}
use Rattle.py_states.specs.inner.Laid.{moved}

pub record Snoc {A : Type 0} (xs : List A) : Type 0 where
  pub init : List A
  pub last : A
  pub is : xs ≡ init ++ last ∷ []

snoc : {A : Type 0} (x : A) (xs : List A) → Snoc (x ∷ xs)
snoc x [] = record { init = []; last = x; is = refl }
snoc x (y ∷ ys) = let s = snoc y ys in record { init = x ∷ s.init; last = s.last; is = ap (λ z. x ∷ z) s.is }

set_snoc : {A : Type 0} (init : List A) (l x : A) → slice_set (init ++ l ∷ []) (length init) x ≡ init ++ x ∷ []
set_snoc [] l x = refl
set_snoc (y ∷ ys) l x = ap (λ z. y ∷ z) (set_snoc ys l x)

rev_snoc : {A : Type 0} (init : List A) (l : A) → reverse (init ++ l ∷ []) ≡ l ∷ reverse init
rev_snoc init l = reverse-append init (l ∷ [])

before : {A : Type 0} (init : List A) (l : A) → length (init ++ l ∷ []) - 1 ≡ length init
before init l = let e : length (init ++ l ∷ []) ≡ length init + 1 = length-append init (l ∷ []) in omega (arith, e)

-- another last element
pub set_is : {A : Type 0} (xs : List A) (x : A) → 0 < length xs → reverse (slice_set xs (length xs - 1) x) ≡ x ∷ drop 1
    (reverse xs)
set_is [] x l = absurd (omega (arith, l))
set_is (y ∷ ys) x l =
    let s = snoc y ys in
    subst (λ z. reverse (slice_set z (length z - 1) x) ≡ x ∷ drop 1 (reverse z)) (sym s.is)
    (ap (λ k. reverse (slice_set (s.init ++ s.last ∷ []) k x)) (before s.init s.last) ∙
    (ap reverse (set_snoc s.init s.last x) ∙
    (rev_snoc s.init x ∙ sym (ap (λ z. x ∷ drop 1 z) (rev_snoc s.init s.last)))))

-- without the last n
pub cut_is : {A : Type 0} (xs : List A) (n : ℕ) → reverse (take (length xs - n) xs) ≡ drop n (reverse xs)
cut_is xs n =
    let k = length xs - n in
    let parts : reverse xs ≡ reverse (drop k xs) ++ reverse (take k xs) = ap reverse (sym (take-append-drop k xs)) ∙
    reverse-append (take k xs) (drop k xs) in
    let tall : length (reverse (drop k xs)) ≡ min n (length (reverse xs)) =
    length-reverse (drop k xs) ∙ (length-drop k xs ∙ omega (arith, length-reverse xs)) in
    sym (drop_at (reverse (drop k xs)) (reverse (take k xs)) (min n (length (reverse xs))) tall) ∙
    (ap (drop (min n (length (reverse xs)))) (sym parts) ∙ drop_min n (reverse xs))

-- what is left from a place on, where it is known what is there
pub left_at : {A : Type 0} (xs : List A) (i : ℕ) (x : A) → slice_get xs i ≡ Some x → drop i xs ≡ x ∷ drop (i + 1) xs
left_at [] i x e = (cc)
left_at (y ∷ ys) zero x e = let q : y ≡ x = cc in ap (λ z. z ∷ ys) q
left_at (y ∷ ys) (suc i) x e =
    let same : suc (i + 1) ≡ suc i + 1 = omega arith in
    left_at ys i x e ∙ ap (λ k. x ∷ drop k (y ∷ ys)) same

-- another last element, where the list is a pile's and has k elements
pub set_top_is : {A : Type 0} (xs es : List A) (x : A) (k : ℕ) → reverse xs ≡ es → k ≡ length xs → 0 < length es →
    reverse (slice_set xs (k - 1) x) ≡ x ∷ drop 1 es
set_top_is xs es x k e q l =
    let tall : length es ≡ length xs = ap length (sym e) ∙ length-reverse xs in
    ap (λ n. reverse (slice_set xs (n - 1) x)) q ∙ (set_is xs x (omega (arith, l, tall)) ∙ ap (λ z. x ∷ drop 1 z) e)

-- another place in the last head, which is h, where the list is a pile's and has k heads
pub moved_is : (xs es : List Head) (h : Head) (t k : ℕ) → reverse xs ≡ es → k ≡ length xs → 0 < length es →
    h ≡ slice_index_or xs (k - 1) h → reverse (slice_set xs (k - 1) (record h { pc = t })) ≡ moved t es
moved_is xs es h t k e q l last =
    let whole : slice_set xs (k - 1) h ≡ xs = ap (slice_set xs (k - 1)) last ∙ set-get_or xs (k - 1) h in
    let there : es ≡ h ∷ drop 1 es = sym e ∙ (sym (ap reverse whole) ∙ set_top_is xs es h k e q l) in
    set_top_is xs es (record h { pc = t }) k e q l ∙ sym (ap (moved t) there)

-- nothing at a place
pub nothing_at : {A : Type 0} (xs : List A) (i : ℕ) (d : A) → None ≡ slice_get xs i → d ≡ get_or xs i d
nothing_at [] i d e = refl
nothing_at (x ∷ xs) zero d e = absurd (cc)
nothing_at (x ∷ xs) (suc i) d e = nothing_at xs i d e
