-- A segment's part is set: what always holds of a store of maps still does.
use Rattle.std.proofs.Common.{◌≡◌, ◌≢◌, inl, inr, ℕ, ◌<◌, ◌≤◌, Bool, true, false, ◌||◌, eqb, Option, Some, None, is_some, refl, sym, ◌∙◌, ap, subst, arith}
use Rattle.std.proofs.Math.Bool.{or_assoc}
use Rattle.std.proofs.lemmas.Bool.{cases_Bool, cond-true, cond-false, or_cases, or_right}
use Rattle.std.proofs.lemmas.Bool.Decides.{eqb_tells}
use Rattle.py_data.specs.Heap.{Rec}
use Rattle.py_data.specs.Sight.{mem}
use Rattle.seg_store.specs.Meaning.{Part, Meaning, over, sees, holds, with_part}
use Rattle.seg_store.specs.Calls.{first_locked, made, ended, after_publish}
use Rattle.seg_store.specs.inner.Holding.{IsGood}
use Rattle.seg_store.specs.inner.Tables.{IsSound}
use Rattle.seg_store.proofs.Sees.{mem_last, or_middle}

-- a property of each part: of the one that is set, and of the others
pub each_part : (P : ℕ → Part → Type 0) (k : ℕ) (p : Part) (m : Meaning) → P k p → ((j : ℕ) → j ≢ k → P j (m.part j)) →
    (j : ℕ) → P j ((with_part k p m).part j)
each_part P k p m here there j = elim (eqb_tells j k) [
  | inl y ↦ subst (P j) (sym (cond-true (eqb j k) p (m.part j) y.0)) (subst (λ i. P i p) (sym y.1) here)
  | inr n ↦ subst (P j) (sym (cond-false (eqb j k) p (m.part j) n.0)) (there j n.1)
]

-- the part can be the segment's
pub record Fits (m : Meaning) (addresses k : ℕ) (p : Part) : Type 0 where
  pub within : (a : ℕ) → holds p a ≡ true → a < addresses
  pub locked : (a : ℕ) → mem a p.changed ≡ true → is_some (m.image a) ≡ true
  pub unused : (a : ℕ) → mem a p.made ≡ true → is_some (m.image a) ≡ false
  pub apart : (j a : ℕ) → j ≢ k → holds p a ≡ true → holds (m.part j) a ≡ false

turned_apart : (m : Meaning) (n k : ℕ) (p : Part) (i a : ℕ) → Fits m n k p → i ≢ k → holds (m.part i) a ≡ true →
    holds p a ≡ false
turned_apart m n k p i a f d h = elim (cases_Bool (holds p a)) [
  | inl y ↦ let x : holds (m.part i) a ≡ false = f.apart i a d y in cc
  | inr n ↦ n
]

part_apart : (m : Meaning) (n k : ℕ) (p : Part) → IsSound m n → Fits m n k p → (i j a : ℕ) → i ≢ j →
    holds ((with_part k p m).part i) a ≡ true → holds ((with_part k p m).part j) a ≡ false
part_apart m n k p w f i j a d h = each_part
    (λ i q. i ≢ j → holds q a ≡ true → holds ((with_part k p m).part j) a ≡ false) k p m own others i d h
  where
    own : k ≢ j → holds p a ≡ true → holds ((with_part k p m).part j) a ≡ false
    own d h = each_part (λ j q. k ≢ j → holds q a ≡ false) k p m (λ d. absurd (d refl)) (λ j e d. f.apart j a e h) j d

    others : (i : ℕ) → i ≢ k → i ≢ j → holds (m.part i) a ≡ true → holds ((with_part k p m).part j) a ≡ false
    others i e d h = each_part (λ j q. i ≢ j → holds q a ≡ false) k p m (λ d. turned_apart m n k p i a f e h)
        (λ j g d. w.apart i j a d h) j d

pub part_sound : (m : Meaning) (n k : ℕ) (p : Part) → IsSound m n → Fits m n k p → IsSound (with_part k p m) n
part_sound m n k p w f = record {
  some = w.some;
  few = w.few;
  within = each_part (λ j q. (a : ℕ) → holds q a ≡ true → a < n) k p m f.within (λ j d. w.within j);
  locked = each_part (λ j q. (a : ℕ) → mem a q.changed ≡ true → is_some (m.image a) ≡ true) k p m f.locked
      (λ j d. w.locked j);
  unused = each_part (λ j q. (a : ℕ) → mem a q.made ≡ true → is_some (m.image a) ≡ false) k p m f.unused
      (λ j d. w.unused j);
  apart = part_apart m n k p w f;
  good = w.good;
}

-- more addresses
pub more_sound : (m : Meaning) (n n1 : ℕ) → n ≤ n1 → IsSound m n → IsSound m n1
more_sound m n n1 l w = record {
  some = w.some;
  few = w.few;
  within = λ k a h. let b = w.within k a h in omega arith;
  locked = w.locked;
  unused = w.unused;
  apart = w.apart;
  good = w.good;
}

-- ---- what a call leaves can be the segment's

or_more : (x y z w : Bool) → (x ≡ true → z ≡ true) → (y ≡ true → w ≡ true) → (x || y) ≡ true → (z || w) ≡ true
or_more true y z w f g e = ap (λ t. t || w) (f refl)
or_more false true true w f g e = refl
or_more false true false w f g e = g refl
or_more false false z w f g e = cc

-- no record more
pub fewer : (m : Meaning) (n k : ℕ) (p : Part) → IsSound m n →
    ((a : ℕ) → mem a p.changed ≡ true → mem a (m.part k).changed ≡ true) →
    ((a : ℕ) → mem a p.made ≡ true → mem a (m.part k).made ≡ true) → Fits m n k p
fewer m n k p w f g = record {
  within = λ a h. w.within k a (held a h);
  locked = λ a h. w.locked k a (f a h);
  unused = λ a h. w.unused k a (g a h);
  apart = λ j a d h. w.apart k j a (λ e. d (sym e)) (held a h);
}
  where
    held : (a : ℕ) → holds p a ≡ true → holds (m.part k) a ≡ true
    held a h = or_more (mem a p.changed) (mem a p.made) (mem a (m.part k).changed) (mem a (m.part k).made) (f a) (g a) h

-- a property of the numbers in a list with one more
one_more : (P : ℕ → Type 0) (a x : ℕ) (b : Bool) → (eqb x a || b) ≡ true → P a → (b ≡ true → P x) → P x
one_more P a x b e here there = elim (eqb_tells x a) [
  | inl y ↦ subst P (sym y.1) here
  | inr n ↦ elim (or_cases (eqb x a) b e) [
    | inl y ↦ cc
    | inr z ↦ there z
  ]
]

module _ (m : Meaning) (n k a : ℕ) (r : Rec) (w : IsSound m n) (within : a < n)
    (free : (j : ℕ) → holds (m.part j) a ≡ false) where
  holds_lock : (x : ℕ) → holds (first_locked a r (m.part k)) x ≡ (eqb x a || holds (m.part k) x)
  holds_lock x = ap (λ t. t || mem x (m.part k).made) (mem_last x a (m.part k).changed) ∙
      or_assoc (eqb x a) (mem x (m.part k).changed) (mem x (m.part k).made)

  holds_make : (x : ℕ) → holds (made a r (m.part k)) x ≡ (eqb x a || holds (m.part k) x)
  holds_make x = ap (λ t. mem x (m.part k).changed || t) (mem_last x a (m.part k).made) ∙
      or_middle (eqb x a) (mem x (m.part k).changed) (mem x (m.part k).made)

  within_more : (x : ℕ) → (eqb x a || holds (m.part k) x) ≡ true → x < n
  within_more x h = one_more (λ i. i < n) a x (holds (m.part k) x) h within (w.within k x)

  apart_more : (j x : ℕ) → j ≢ k → (eqb x a || holds (m.part k) x) ≡ true → holds (m.part j) x ≡ false
  apart_more j x d h = one_more (λ i. holds (m.part j) i ≡ false) a x (holds (m.part k) x) h (free j)
      (w.apart k j x (λ e. d (sym e)))

  pub lock_fits : is_some (m.image a) ≡ true → Fits m n k (first_locked a r (m.part k))
  lock_fits there = record {
    within = λ x h. within_more x (sym (holds_lock x) ∙ h);
    locked = λ x h. one_more (λ i. is_some (m.image i) ≡ true) a x (mem x (m.part k).changed)
        (sym (mem_last x a (m.part k).changed) ∙ h) there (w.locked k x);
    unused = w.unused k;
    apart = λ j x d h. apart_more j x d (sym (holds_lock x) ∙ h);
  }

  pub make_fits : is_some (m.image a) ≡ false → Fits m n k (made a r (m.part k))
  make_fits blank = record {
    within = λ x h. within_more x (sym (holds_make x) ∙ h);
    locked = w.locked k;
    unused = λ x h. one_more (λ i. is_some (m.image i) ≡ false) a x (mem x (m.part k).made)
        (sym (mem_last x a (m.part k).made) ∙ h) blank (w.unused k x);
    apart = λ j x d h. apart_more j x d (sym (holds_make x) ∙ h);
  }

-- ---- what a segment holds becomes the image's

some_over : (x y : Option Rec) → is_some y ≡ true → is_some (over x y) ≡ true
some_over None y e = e
some_over (Some r) y e = refl

none_over : (x y : Option Rec) → is_some x ≡ false → is_some y ≡ false → is_some (over x y) ≡ false
none_over None y e f = f
none_over (Some r) y e f = cc

pub good_over : (x y : Option Rec) → ((r : Rec) → x ≡ Some r → IsGood r) → ((r : Rec) → y ≡ Some r → IsGood r) →
    (r : Rec) → over x y ≡ Some r → IsGood r
good_over None y f g r e = g r e
good_over (Some q) y f g r e = f r e

pub publish_sound : (m : Meaning) (n k : ℕ) → IsSound m n →
    ((a : ℕ) → is_some ((m.part k).changes a) ≡ holds (m.part k) a) →
    ((a : ℕ) (r : Rec) → (m.part k).changes a ≡ Some r → IsGood r) → IsSound (after_publish k m) n
publish_sound m n k w held good =
    let v = part_sound m n k (ended (m.part k)) w (fewer m n k (ended (m.part k)) w (λ a e. cc) (λ a e. cc)) in
    record {
      some = w.some;
      few = w.few;
      within = v.within;
      locked = λ j a e. some_over ((m.part k).changes a) (m.image a) (v.locked j a e);
      unused = each_part (λ j q. (a : ℕ) → mem a q.made ≡ true → is_some (sees m k a) ≡ false) k (ended (m.part k)) m
          (λ a e. cc) unused;
      apart = v.apart;
      good = λ a r e. good_over ((m.part k).changes a) (m.image a) (good a) (w.good a) r e;
    }
  where
    unused : (j : ℕ) → j ≢ k → (a : ℕ) → mem a (m.part j).made ≡ true → is_some (sees m k a) ≡ false
    unused j d a e = none_over ((m.part k).changes a) (m.image a)
        (held a ∙ w.apart j k a d (or_right (mem a (m.part j).changed) (mem a (m.part j).made) e)) (w.unused j a e)

-- what no segment holds: an address that there isn't
pub fresh_free : (m : Meaning) (n : ℕ) → IsSound m n → (a : ℕ) → n ≤ a → (j : ℕ) → holds (m.part j) a ≡ false
fresh_free m n w a l j = elim (cases_Bool (holds (m.part j) a)) [
  | inl y ↦ let b = w.within j a y in absurd (omega arith)
  | inr z ↦ z
]
