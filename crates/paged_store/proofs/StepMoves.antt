-- A step of a segment begins, and is taken back.
use Rattle.std.proofs.Common.{◌≡◌, ℕ, ◌-◌, ◌<◌, ◌≤◌, true, false, ◌||◌, inl, inr, refl, sym, subst, arith}
use Rattle.std.proofs.lemmas.Bool.{both_ways, false_from_ne_true, ltb-true, lt-ltb}
use Rattle.std.proofs.lemmas.Bool.Decides.{eqb_tells}
use Rattle.py_data.specs.Sight.{mem}
use Rattle.seg_store.specs.Calls.{opened, undone, after_open, after_undo}
use Rattle.paged_store.specs.Words.{Words}
use Rattle.paged_store.specs.State.{State, part_in, meaning_in}
use Rattle.paged_store.specs.inner.Sound.{fresh, FitsHand, FitsBefore, Sound}
use Rattle.paged_store.specs.inner.Moves.{opens, undoes, freed}
use Rattle.paged_store.proofs.StateLemmas.{put_each, put_two, put_apart, hand_owner}
use Rattle.paged_store.proofs.MeaningLemmas.{put_here, put_there, part_by, meaning_set}
use Rattle.paged_store.proofs.FreeLemmas.{same_step, still_owned, image_freed, now_freed, before_freed, spare_freed, spare_once_freed, beyond_freed}

-- ---- a step begins

pub opens_sound : (own role : Words) (s : State) (k : ℕ) → Sound own role s → Sound own role (opens k s)
opens_sound own role s k g = record {
  lays = g.lays;
  formed = g.formed;
  now = g.now;
  before = put_each (λ j b. FitsHand own role s.shared s.image b) k (s.now k) s.before (g.now k) (λ j n. g.before j);
  step = put_each (λ j b. FitsBefore (s.now j) b) k (s.now k) s.before (same_step (s.now k)) (λ j n. g.step j);
  held = g.held;
  held_before = λ j a. put_two (λ j b ms. b.holds a ≡ (mem a (s.changed j) || mem a ms)) k (s.now k) s.before
      (s.made k) s.kept_made (g.held k a) (λ j n. g.held_before j a) j;
  apart = g.apart;
  nobody = g.nobody;
  held_some = g.held_some;
  spare = g.spare;
  spare_once = g.spare_once;
  beyond = g.beyond;
}

pub opens_means : (s : State) (k : ℕ) → meaning_in (opens k s) ≡ after_open k (meaning_in s)
unfolding meaning_in
opens_means s k = meaning_set k (opened (part_in s k)) s (opens k s) refl refl
    (λ i. part_by (s.now k) (put_here k (s.now k) s.before i) (s.changed k) (s.made k) (s.looked k)
    (put_here k (s.made k) s.kept_made i))
    (λ j n i. part_by (s.now j) (put_there k j (s.now k) s.before n i) (s.changed j) (s.made j) (s.looked j)
    (put_there k j (s.made k) s.kept_made n i))
    refl refl

-- ---- it is taken back

module _ (own role : Words) (s : State) (k : ℕ) (g : Sound own role s) where
  fresh_taken : (p : ℕ) → fresh s k p ≡ true → 0 < (s.now k).taken p
  fresh_taken p e = let l = ltb-true ((s.before k).taken p) ((s.now k).taken p) e in omega (arith, l)

  more_once : (p : ℕ) → (s.now k).taken p - (s.before k).taken p ≤ 1
  more_once p = let o = (g.now k).once p in omega (arith, o)

  more_fresh : (p : ℕ) → 0 < (s.now k).taken p - (s.before k).taken p → fresh s k p ≡ true
  more_fresh p l = lt-ltb ((s.before k).taken p) ((s.now k).taken p) (omega (arith, l))

  before_kept : FitsHand (freed (fresh s k) own) role s.shared s.image (s.before k)
  before_kept = hand_owner own role s.shared s.image (s.before k) (g.before k) (freed (fresh s k) own) role
      (λ a p e i. still_owned own role s k (fresh s k) g fresh_taken p ((g.step k).records a p e i))
      (λ p e. (still_owned own role s k (fresh s k) g fresh_taken p
      (false_from_ne_true (fresh s k p) (λ x. both_ways _ ((g.step k).touched p x) e))).owner)

  before_all : (j : ℕ) → FitsHand (freed (fresh s k) own) role s.shared s.image (s.before j)
  before_all j = elim (eqb_tells j k) [
    | inl y ↦ subst (λ i. FitsHand (freed (fresh s k) own) role s.shared s.image (s.before i)) (sym y.1) before_kept
    | inr n ↦ before_freed own role s k (fresh s k) g fresh_taken j n.1
  ]

  pub undoes_sound : Sound (freed (fresh s k) own) role (undoes k s)
  undoes_sound = record {
    lays = image_freed own role s k (fresh s k) g fresh_taken;
    formed = g.formed;
    now = put_each (λ j h. FitsHand (freed (fresh s k) own) role s.shared s.image h) k (s.before k) s.now before_kept
        (λ j n. now_freed own role s k (fresh s k) g fresh_taken j n);
    before = before_all;
    step = put_each (λ j h. FitsBefore h (s.before j)) k (s.before k) s.now (same_step (s.before k))
        (λ j n. g.step j);
    held = λ j a. put_two (λ j h ms. h.holds a ≡ (mem a (s.changed j) || mem a ms)) k (s.before k) s.now
        (s.kept_made k) s.made (g.held_before k a) (λ j n. g.held j a) j;
    held_before = g.held_before;
    apart = put_apart k (s.before k) s.now g.apart (λ j a n x y. n (g.apart j k a y ((g.step k).holds a x)));
    nobody = g.nobody;
    held_some = put_each (λ j h. h.holds 0 ≡ false) k (s.before k) s.now
        (false_from_ne_true _ (λ x. both_ways _ (g.held_some k) ((g.step k).holds 0 x))) (λ j n. g.held_some j);
    spare = spare_freed own role s k (fresh s k) g fresh_taken (λ p. (s.now k).taken p - (s.before k).taken p)
        more_once more_fresh;
    spare_once = spare_once_freed own role s k (fresh s k) g fresh_taken
        (λ p. (s.now k).taken p - (s.before k).taken p) more_once more_fresh;
    beyond = beyond_freed own role s k (fresh s k) g fresh_taken (λ p. (s.now k).taken p - (s.before k).taken p)
        more_once more_fresh;
  }

pub undoes_means : (s : State) (k : ℕ) → meaning_in (undoes k s) ≡ after_undo k (meaning_in s)
unfolding meaning_in
undoes_means s k = meaning_set k (undone (part_in s k)) s (undoes k s) refl refl
    (λ i. part_by (put_here k (s.before k) s.now i) (s.before k) (s.changed k) (put_here k (s.kept_made k) s.made i)
    (s.looked k) (s.kept_made k))
    (λ j n i. part_by (put_there k j (s.before k) s.now n i) (s.before j) (s.changed j)
    (put_there k j (s.kept_made k) s.made n i) (s.looked j) (s.kept_made j))
    refl refl
