-- One address more whose books change.
use Rattle.std.proofs.Common.{◌≡◌, ℕ, zero, suc, ◌+◌, ◌<◌, Bool, true, false, cond, ◌||◌, eqb, List, [], ◌∷◌, length, get_or, take, slice_set, Option, None, inl, inr, refl, sym, ◌∙◌, ap, arith}
use Rattle.std.proofs.lemmas.Bool.{cond-true, cond-false}
use Rattle.std.proofs.lemmas.Bool.Decides.{eqb_tells}
use Rattle.std.proofs.lemmas.List.{length-set, map_more, get_or-set_same, get_or-set_other}
use Rattle.py_data.specs.declared.value.Addr.{Addr}
use Rattle.py_data.specs.Collection.{places}
use Rattle.py_data.specs.Sight.{mem}
use Rattle.seg_store.proofs.Sees.{same_number, mem_last}
use Rattle.seg_marks.specs.Marks.{Marked, marks_of, holders_of, SameSizes}
use Rattle.seg_marks.specs.Runs.{Unlock, marked_by, held_by}
use Rattle.paged_store.specs.inner.Ending.{among, free_of, Released, Shown}

pub mem_place : (xs : List Addr) (i : ℕ) (d : Addr) → i < length xs → mem (get_or xs i d).0 (places xs) ≡ true
mem_place [] i d l = absurd (omega arith)
mem_place (x ∷ xs) zero d l = ap (λ b. b || mem x.0 (places xs)) (same_number x.0)
mem_place (x ∷ xs) (suc i) d l = ap (λ b. eqb (get_or xs i d).0 x.0 || b) (mem_place xs i d (omega (arith, l))) ∙
    last (eqb (get_or xs i d).0 x.0)
  where
    last : (b : Bool) → (b || true) ≡ true
    last true = refl
    last false = refl

mem_more : (xs : List Addr) (i : ℕ) (d : Addr) (a : ℕ) → i < length xs →
    mem a (places (take (i + 1) xs)) ≡ (eqb a (get_or xs i d).0 || mem a (places (take i xs)))
mem_more xs i d a l = ap (mem a) (map_more (λ (x : Addr). x.0) xs i d l) ∙
    mem_last a (get_or xs i d).0 (places (take i xs))

pub same_sizes : {t u v : Marked} → SameSizes t u → SameSizes u v → SameSizes t v
same_sizes p q = record { segments = q.segments ∙ p.segments; granules = q.granules ∙ p.granules }

-- two sets of addresses, one after the other
pub released_twice : (f g : ℕ → Bool) (t u v : Marked) → Released f t u → Released g u v →
    Released (λ a. f a || g a) t v
released_twice f g t u v p q = record {
  sizes = same_sizes p.sizes q.sizes;
  marks = q.marks ∙ p.marks;
  holders = q.holders ∙ ap (free_of g) p.holders ∙ (λ i a. choose (f a) (g a) (holders_of t a) i);
}
  where
    choose : (s t : Bool) (x : Option ℕ) → cond t None (cond s None x) ≡ cond (s || t) None x
    choose true true x = refl
    choose true false x = refl
    choose false t x = refl

pub release_step : (xs : List Addr) (i : ℕ) (d : Addr) (t u v : Marked) → i < length xs →
    Released (among (places (take i xs))) t u → marks_of v ≡ marked_by (Unlock (get_or xs i d).0) (marks_of u)
    → holders_of v ≡ held_by (Unlock (get_or xs i d).0) (holders_of u) → SameSizes u v
    → Released (among (places (take (i + 1) xs))) t v
release_step xs i d t u v l r marks holders sizes = record {
  sizes = same_sizes r.sizes sizes;
  marks = marks ∙ r.marks;
  holders = holders ∙ ap (held_by (Unlock b)) r.holders
      ∙ (λ j a. (choose (eqb a b) (mem a (places (take i xs))) (holders_of t a)
      ∙ ap (λ c. cond c None (holders_of t a)) (sym (mem_more xs i d a l))) j);
}
  where
    b : ℕ
    b = (get_or xs i d).0

    choose : (s t : Bool) (x : Option ℕ) → cond s None (cond t None x) ≡ cond (s || t) None x
    choose true t x = refl
    choose false t x = refl

get_set : {A : Type 0} (xs : List A) (a : ℕ) (x : A) (b : ℕ) (d : A) → a < length xs →
    get_or (slice_set xs a x) b d ≡ cond (eqb b a) x (get_or xs b d)
get_set xs a x b d l = elim (eqb_tells b a) [
  | inl y ↦ ap (λ i. get_or (slice_set xs a x) i d) y.1 ∙ get_or-set_same xs a x d l ∙
      sym (cond-true (eqb b a) x (get_or xs b d) y.0)
  | inr n ↦ get_or-set_other xs a b x d n.1 ∙ sym (cond-false (eqb b a) x (get_or xs b d) n.0)
]

pub show_step : (xs : List Addr) (i : ℕ) (d : Addr) (ps us vs : List Bool) → i < length xs →
    (get_or xs i d).0 < length ps → Shown (among (places (take i xs))) ps us → vs ≡ slice_set us (get_or xs i d).0 true
    → Shown (among (places (take (i + 1) xs))) ps vs
show_step xs i d ps us vs l within r e = record {
  count = ap length e ∙ length-set us b true ∙ r.count;
  each = λ a. ap (λ ys. get_or ys a false) e ∙ get_set us b true a false (let c = r.count in omega (arith, c, within))
      ∙ ap (cond (eqb a b) true) (r.each a) ∙ choose (eqb a b) (mem a (places (take i xs))) (get_or ps a false) ∙
      ap (λ t. t || get_or ps a false) (sym (mem_more xs i d a l));
}
  where
    b : ℕ
    b = (get_or xs i d).0

    choose : (s t x : Bool) → cond s true (t || x) ≡ ((s || t) || x)
    choose true t x = refl
    choose false t x = refl
