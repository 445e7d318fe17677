-- Who holds which record.
use Rattle.std.proofs.Common.{◌≡◌, ◌≢◌, ℕ, Bool, true, false, ◌||◌, ◌&&◌, not, eqb, Option, Some, None, inl, inr, refl, sym, ◌∙◌, ap}
use Rattle.std.proofs.lemmas.Bool.{cases_Bool, both_ways, cond-true, cond-false, eqb-true}
use Rattle.std.proofs.lemmas.Bool.Decides.{eqb_tells}
use Rattle.seg_store.proofs.Sees.{same_number, other_number}
use Rattle.paged_store.specs.inner.Moves.{put}
use Rattle.paged_store.specs.inner.Fine.{names}
use Rattle.paged_store.specs.inner.Ending.{free_of}
use Rattle.paged_store.proofs.StateLemmas.{put_each}

-- the records of a segment
abbrev pub held_in : (ℕ → Option ℕ) → ℕ → ℕ → Bool
held_in h k a = names (h a) k

-- no record is of two segments
pub one_named : (o : Option ℕ) (j k : ℕ) → j ≢ k → names o k ≡ true → names o j ≡ false
one_named None j k n e = refl
one_named (Some i) j k n e = other_number i j (λ x. n (sym x ∙ eqb-true i k e))

-- a record is of no segment
pub none_named : (o : Option ℕ) → ((j : ℕ) → names o j ≡ false) → o ≡ None
none_named None f = refl
none_named (Some i) f = absurd (both_ways _ (f i) (same_number i))

-- ---- one record more is held, that nobody held

pub names_more : (h : ℕ → Option ℕ) (k a : ℕ) → ((j : ℕ) → names (h a) j ≡ false) → (j b : ℕ) →
    names (put a (Some k) h b) j ≡ put k (λ b. eqb b a || held_in h k b) (held_in h) j b
names_more h k a free j b = elim (eqb_tells b a) [
  | inl y ↦ ap (λ o. names o j) (cond-true (eqb b a) (Some k) (h b) y.0) ∙ here y.0 y.1
  | inr n ↦ ap (λ o. names o j) (cond-false (eqb b a) (Some k) (h b) n.0) ∙ there n.0
]
  where
    here : eqb b a ≡ true → b ≡ a → eqb k j ≡ put k (λ b. eqb b a || held_in h k b) (held_in h) j b
    here t e = elim (eqb_tells j k) [
      | inl y ↦ ap (eqb k) y.1 ∙ same_number k ∙ sym (ap (λ (f : ℕ → Bool). f b)
          (cond-true (eqb j k) (λ b. eqb b a || held_in h k b) (held_in h j) y.0) ∙ ap (λ x. x || held_in h k b) t)
      | inr n ↦ other_number k j (λ x. n.1 (sym x)) ∙
          sym (ap (λ (f : ℕ → Bool). f b) (cond-false (eqb j k) (λ b. eqb b a || held_in h k b) (held_in h j) n.0) ∙
          ap (held_in h j) e ∙ free j)
    ]

    there : eqb b a ≡ false → held_in h j b ≡ put k (λ b. eqb b a || held_in h k b) (held_in h) j b
    there t = elim (eqb_tells j k) [
      | inl y ↦ ap (λ i. held_in h i b) y.1 ∙
          sym (ap (λ (f : ℕ → Bool). f b) (cond-true (eqb j k) (λ b. eqb b a || held_in h k b) (held_in h j) y.0) ∙
          ap (λ x. x || held_in h k b) t)
      | inr n ↦ sym (ap (λ (f : ℕ → Bool). f b)
          (cond-false (eqb j k) (λ b. eqb b a || held_in h k b) (held_in h j) n.0))
    ]

-- ---- records of a segment are held no more

pub names_fewer : (h h1 : ℕ → Option ℕ) (k : ℕ) (g : ℕ → Bool) → h1 ≡ free_of g h →
    ((a : ℕ) → g a ≡ true → held_in h k a ≡ true) → (j b : ℕ) → held_in h1 j b ≡ put k (λ b. held_in h k b && not (g b))
    (held_in h) j b
names_fewer h h1 k g r own j b = ap (λ (f : ℕ → Option ℕ). names (f b) j) r ∙ elim (cases_Bool (g b)) [
  | inl y ↦ ap (λ o. names o j) (cond-true (g b) None (h b) y) ∙
      sym (put_each (λ i f. f b ≡ false) k (λ b. held_in h k b && not (g b)) (held_in h)
      (ap (λ t. held_in h k b && not t) y ∙ none (held_in h k b)) (λ i n. one_named (h b) i k n (own b y)) j)
  | inr y ↦ ap (λ o. names o j) (cond-false (g b) None (h b) y) ∙
      put_each (λ i f. held_in h i b ≡ f b) k (λ b. held_in h k b && not (g b)) (held_in h)
      (sym (ap (λ t. held_in h k b && not t) y ∙ all (held_in h k b))) (λ i n. refl) j
]
  where
    none : (t : Bool) → (t && not true) ≡ false
    none true = refl
    none false = refl

    all : (t : Bool) → (t && not false) ≡ t
    all true = refl
    all false = refl
