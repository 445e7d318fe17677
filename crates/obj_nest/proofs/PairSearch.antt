-- Dictionaries as lists of pairs: what a key has, each pair by itself, and pairs without that of a key.
use Rattle.std.proofs.Common.{arith, ◌≡◌, ℕ, suc, ◌+◌, Bool, true, false, cond, List, [], ◌∷◌, length, Option, Some, None, refl, sym, ap, subst, ◌∙◌}
use Rattle.py_data.specs.declared.value.Value.{Value}
use Rattle.py_data.specs.declared.record.Got.{Got}
use Rattle.py_data.specs.declared.record.Got.TheVariants.{Is}
use Rattle.py_data.specs.Heap.{Heap, value_at}
use Rattle.py_data.specs.Shape.{same_key, find, find_from, ArePairs, KeysDiffer}
use Rattle.py_data.specs.Comparing.{equal_found}
use Rattle.py_data.proofs.PairLists.{key_sym}
use Rattle.obj_nest.proofs.KeyLemmas.{key_congr}

-- what a key has, if it is there
unfoldable pub has_for : Heap → List Value → Value → Option Value
has_for h (k ∷ v ∷ rest) key = cond (same_key h k key) (Some v) (has_for h rest key)
has_for h _ key = None

-- a value, and what a key has
unfoldable pub met_by : (Value → Value → Got Bool) → Value → Option Value → Got Bool
met_by u x None = Is false
met_by u x (Some y) = u x y

module _ (h : Heap) (u : Value → Value → Got Bool) (x key : Value) (whole : List Value) where
  met_from : (n : ℕ) (ys : List Value) → ((i : ℕ) → value_at whole (n + n + i) ≡ value_at ys i) →
      equal_found u whole x (find_from h n ys key) ≡ met_by u x (has_for h ys key)
  unfolding has_for met_by
  met_from n [] here = refl
  met_from n (k ∷ []) here = refl
  met_from n (k ∷ v ∷ rest) here =
      let next = λ (i : ℕ). let e : n + 1 + (n + 1) + i ≡ n + n + suc (suc i) = omega arith in ap (value_at whole) e ∙
      here (suc (suc i)) in
      by (met_from (n + 1) rest next) (same_key h k key) refl
    where
      by : equal_found u whole x (find_from h (n + 1) rest key) ≡ met_by u x (has_for h rest key) → (b : Bool) →
          same_key h k key ≡ b → equal_found u whole x (cond b (Some n) (find_from h (n + 1) rest key)) ≡ met_by u x
          (cond b (Some v) (has_for h rest key))
      by more true e = let q : n + (n + 1) ≡ n + n + 1 = omega arith in ap (u x) (ap (value_at whole) q ∙ here 1)
      by more false e = more

pub met_found : (h : Heap) (u : Value → Value → Got Bool) (x key : Value) (ys : List Value) →
    equal_found u ys x (find h ys key) ≡ met_by u x (has_for h ys key)
met_found h u x key ys = met_from h u x key ys 0 ys (λ i. let e : 0 + 0 + i ≡ i = omega arith in ap (value_at ys) e)

-- ---- each pair by itself
unfoldable pub EachPair : (Value → Value → Type 0) → List Value → Type 0
EachPair P (k ∷ x ∷ rest) = P k x × EachPair P rest
EachPair P _ = Unit {0}

pub each_weaken : (P Q : Value → Value → Type 0) → ((k x : Value) → P k x → Q k x) → (xs : List Value) →
    EachPair P xs → EachPair Q xs
unfolding EachPair
each_weaken P Q f [] e = tt
each_weaken P Q f (k ∷ []) e = tt
each_weaken P Q f (k ∷ x ∷ rest) e = (f k x e.0, each_weaken P Q f rest e.1)

pub each_both : (P Q R : Value → Value → Type 0) → ((k x : Value) → P k x → Q k x → R k x) → (xs : List Value) →
    EachPair P xs → EachPair Q xs → EachPair R xs
unfolding EachPair
each_both P Q R f [] p q = tt
each_both P Q R f (k ∷ []) p q = tt
each_both P Q R f (k ∷ x ∷ rest) p q = (f k x p.0 q.0, each_both P Q R f rest p.1 q.1)

-- the keys are all different from this one
abbrev pub Unlike : Heap → Value → List Value → Type 0
Unlike h k xs = EachPair (λ j v. same_key h k j ≡ false) xs

-- pairs, no two with equal keys
unfoldable pub Apart : Heap → List Value → Type 0
Apart h [] = Unit {0}
Apart h (k ∷ []) = ⊥
Apart h (k ∷ x ∷ rest) = Unlike h k rest × Apart h rest

none_unlike : (h : Heap) (n : ℕ) (xs : List Value) (k : Value) → find_from h n xs k ≡ None → Unlike h k xs
unfolding EachPair
none_unlike h n [] k e = tt
none_unlike h n (j ∷ []) k e = tt
none_unlike h n (j ∷ v ∷ rest) k e = by (none_unlike h (n + 1) rest k) (same_key h j k) refl e
  where
    by : (find_from h (n + 1) rest k ≡ None → Unlike h k rest) → (b : Bool) → same_key h j k ≡ b →
        cond b (Some n) (find_from h (n + 1) rest k) ≡ None → (same_key h k j ≡ false) × Unlike h k rest
    by more true s f = absurd (let q : ◌≡◌ {A = Option ℕ} (Some n) None = f in cc)
    by more false s f = (key_sym h k j ∙ s, more f)

pub are_apart : (h : Heap) (xs : List Value) → ArePairs h xs → KeysDiffer h xs → Apart h xs
unfolding Apart
are_apart h [] p d = tt
are_apart h (k ∷ []) p d = absurd p
are_apart h (k ∷ x ∷ rest) p d = (none_unlike h 0 rest k d.0, are_apart h rest p.1 d.1)

-- ---- searches
pub has_unlike : (h : Heap) (k x : Value) (rest : List Value) (key : Value) → same_key h k key ≡ false →
    has_for h (k ∷ x ∷ rest) key ≡ has_for h rest key
unfolding has_for
has_unlike h k x rest key e = ap (λ b. cond b (Some x) (has_for h rest key)) e

pub has_first : (h : Heap) (k x : Value) (rest : List Value) (key : Value) → same_key h k key ≡ true →
    has_for h (k ∷ x ∷ rest) key ≡ Some x
unfolding has_for
has_first h k x rest key e = ap (λ b. cond b (Some x) (has_for h rest key)) e

-- equal keys have the same
pub has_congr : (h : Heap) (ys : List Value) (k j : Value) → same_key h k j ≡ true → has_for h ys k ≡ has_for h ys j
unfolding has_for
has_congr h [] k j e = refl
has_congr h (i ∷ []) k j e = refl
has_congr h (i ∷ v ∷ rest) k j e =
    let s : same_key h i k ≡ same_key h i j = key_sym h i k ∙ (key_congr h k j i e ∙ key_sym h j i) in
    ap (λ b. cond b (Some v) (has_for h rest k)) s ∙ ap (λ o. cond (same_key h i j) (Some v) o) (has_congr h rest k j e)

-- a pair that is found, with its own key
pub found_pair : (h : Heap) (P : Value → Value → Type 0) (ys : List Value) (key y : Value) → EachPair P ys →
    has_for h ys key ≡ Some y → (j : Value) × (same_key h j key ≡ true) × P j y
unfolding has_for EachPair
found_pair h P [] key y p e = absurd (let q : ◌≡◌ {A = Option Value} None (Some y) = e in cc)
found_pair h P (k ∷ []) key y p e = absurd (let q : ◌≡◌ {A = Option Value} None (Some y) = e in cc)
found_pair h P (k ∷ v ∷ rest) key y p e = by (found_pair h P rest key y p.1) (same_key h k key) refl e
  where
    by : (has_for h rest key ≡ Some y → (j : Value) × (same_key h j key ≡ true) × P j y) → (b : Bool) →
        same_key h k key ≡ b → cond b (Some v) (has_for h rest key) ≡ Some y →
        (j : Value) × (same_key h j key ≡ true) × P j y
    by more true s f = (k, s, subst (P k) (let q : v ≡ y = cc in q) p.0)
    by more false s f = more f

-- ---- without a key
unfoldable pub without : Heap → List Value → Value → List Value
without h (j ∷ v ∷ rest) k = cond (same_key h j k) rest (j ∷ v ∷ without h rest k)
without h ys k = ys

module _ (h : Heap) (k : Value) where
  pub fewer : (ys : List Value) (y : Value) → has_for h ys k ≡ Some y → length ys ≡ suc (suc (length (without h ys k)))
  unfolding has_for without
  fewer [] y e = absurd (let q : ◌≡◌ {A = Option Value} None (Some y) = e in cc)
  fewer (j ∷ []) y e = absurd (let q : ◌≡◌ {A = Option Value} None (Some y) = e in cc)
  fewer (j ∷ v ∷ rest) y e = by (fewer rest y) (same_key h j k) e
    where
      by : (has_for h rest k ≡ Some y → length rest ≡ suc (suc (length (without h rest k)))) → (b : Bool) →
          cond b (Some v) (has_for h rest k) ≡ Some y →
          length (j ∷ v ∷ rest) ≡ suc (suc (length (cond b rest (j ∷ v ∷ without h rest k))))
      by more true f = refl
      by more false f = ap (λ n. suc (suc n)) (more f)

  pub has_without : (ys : List Value) (key : Value) → same_key h k key ≡ false →
      has_for h (without h ys k) key ≡ has_for h ys key
  unfolding has_for without
  has_without [] key e = refl
  has_without (j ∷ []) key e = refl
  has_without (j ∷ v ∷ rest) key e = by (has_without rest key e) (same_key h j k) refl
    where
      by : has_for h (without h rest k) key ≡ has_for h rest key → (b : Bool) → same_key h j k ≡ b →
          has_for h (cond b rest (j ∷ v ∷ without h rest k)) key ≡ has_for h (j ∷ v ∷ rest) key
      by more true s = sym (has_unlike h j v rest key (key_congr h j k key s ∙ e))
      by more false s = ap (λ o. cond (same_key h j key) (Some v) o) more

  pub each_without : (P : Value → Value → Type 0) (ys : List Value) → EachPair P ys → EachPair P (without h ys k)
  unfolding EachPair without
  each_without P [] e = tt
  each_without P (j ∷ []) e = tt
  each_without P (j ∷ v ∷ rest) e = by (each_without P rest e.1) (same_key h j k)
    where
      by : EachPair P (without h rest k) → (b : Bool) → EachPair P (cond b rest (j ∷ v ∷ without h rest k))
      by more true = e.1
      by more false = (e.0, more)

  pub apart_without : (ys : List Value) → Apart h ys → Apart h (without h ys k)
  unfolding Apart without
  apart_without [] a = tt
  apart_without (j ∷ []) a = absurd a
  apart_without (j ∷ v ∷ rest) a = by (apart_without rest a.1) (same_key h j k)
    where
      by : Apart h (without h rest k) → (b : Bool) → Apart h (cond b rest (j ∷ v ∷ without h rest k))
      by more true = a.1
      by more false = (each_without (λ i w. same_key h j i ≡ false) rest a.0, more)

  -- the key is not among the others
  pub unlike_without : (ys : List Value) → Apart h ys → Unlike h k (without h ys k)
  unfolding Apart without EachPair
  unlike_without [] a = tt
  unlike_without (j ∷ []) a = absurd a
  unlike_without (j ∷ v ∷ rest) a = by (unlike_without rest a.1) (same_key h j k) refl
    where
      by : Unlike h k (without h rest k) → (b : Bool) → same_key h j k ≡ b →
          Unlike h k (cond b rest (j ∷ v ∷ without h rest k))
      by more true s = each_weaken (λ i w. same_key h j i ≡ false) (λ i w. same_key h k i ≡ false)
          (λ i w e. sym (key_congr h j k i s) ∙ e) rest a.0
      by more false s = (key_sym h k j ∙ s, more)

  -- what holds of the others, and of the pair that is found, holds of all
  pub put_back : (P : Value → Value → Type 0) (ys : List Value) (y : Value) → has_for h ys k ≡ Some y →
      ((j : Value) → same_key h j k ≡ true → P j y) → EachPair P (without h ys k) → EachPair P ys
  unfolding EachPair without has_for
  put_back P [] y e f p = tt
  put_back P (j ∷ []) y e f p = tt
  put_back P (j ∷ v ∷ rest) y e f p = by (λ g q. put_back P rest y g f q) (same_key h j k) refl e p
    where
      by : (has_for h rest k ≡ Some y → EachPair P (without h rest k) → EachPair P rest) → (b : Bool) →
          same_key h j k ≡ b → cond b (Some v) (has_for h rest k) ≡ Some y →
          EachPair P (cond b rest (j ∷ v ∷ without h rest k)) → P j v × EachPair P rest
      by more true s g p = (subst (P j) (let q : y ≡ v = cc in q) (f j s), p)
      by more false s g p = (p.0, more g p.1)
