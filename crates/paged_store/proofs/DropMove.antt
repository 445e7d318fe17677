-- A segment drops what it changed and made.
use Rattle.std.proofs.Common.{◌≡◌, ℕ, ◌<◌, true, false, ◌||◌, [], inl, inr, refl, ◌∙◌}
use Rattle.std.proofs.lemmas.Bool.{cases_Bool, ltb-true, lt-ltb, cond-true, cond-false}
use Rattle.py_data.specs.Sight.{mem}
use Rattle.seg_store.specs.Calls.{ended, after_drop}
use Rattle.paged_store.specs.Words.{Words}
use Rattle.paged_store.specs.State.{State, part_in, meaning_in}
use Rattle.paged_store.specs.inner.Sound.{FitsHand, FitsBefore, Sound}
use Rattle.paged_store.specs.inner.Moves.{empty_hand, given, freed, took, drops}
use Rattle.paged_store.proofs.StateLemmas.{put_each, put_two, put_three, put_apart}
use Rattle.paged_store.proofs.MeaningLemmas.{put_here, put_there, part_by, meaning_set}
use Rattle.paged_store.proofs.FreeLemmas.{same_step, empty_fits, image_freed, now_freed, before_freed, spare_freed, spare_once_freed, beyond_freed}

module _ (own role : Words) (s : State) (k : ℕ) (g : Sound own role s) where
  pub restored_same : (p : ℕ) → given (s.now k).touched s.shared (s.now k).word p ≡ s.shared p
  restored_same p = elim (cases_Bool ((s.now k).touched p)) [
    | inl y ↦ cond-true ((s.now k).touched p) (s.shared p) ((s.now k).word p) y
    | inr n ↦ cond-false ((s.now k).touched p) (s.shared p) ((s.now k).word p) n ∙ (g.now k).same p n
  ]

  took_taken : (p : ℕ) → took s k p ≡ true → 0 < (s.now k).taken p
  took_taken p e = ltb-true 0 ((s.now k).taken p) e

  taken_took : (p : ℕ) → 0 < (s.now k).taken p → took s k p ≡ true
  taken_took p l = lt-ltb 0 ((s.now k).taken p) l

  pub drops_sound : Sound (freed (took s k) own) role (drops k s)
  drops_sound =
      let w : Words = given (s.now k).touched s.shared (s.now k).word in
      let empty : FitsHand (freed (took s k) own) role s.shared s.image (empty_hand w) =
      empty_fits (freed (took s k) own) role s.shared s.image w restored_same in
      record {
        lays = image_freed own role s k (took s k) g took_taken;
        formed = g.formed;
        now = put_each (λ j h. FitsHand (freed (took s k) own) role s.shared s.image h) k (empty_hand w) s.now empty
            (λ j n. now_freed own role s k (took s k) g took_taken j n);
        before = put_each (λ j h. FitsHand (freed (took s k) own) role s.shared s.image h) k (empty_hand w) s.before
            empty (λ j n. before_freed own role s k (took s k) g took_taken j n);
        step = put_two (λ j h b. FitsBefore h b) k (empty_hand w) s.now (empty_hand w) s.before
            (same_step (empty_hand w)) (λ j n. g.step j);
        held = λ j a. put_three (λ j h xs ms. h.holds a ≡ (mem a xs || mem a ms)) k (empty_hand w) s.now [] s.changed
            [] s.made refl (λ j n. g.held j a) j;
        held_before = λ j a. put_three (λ j h xs ms. h.holds a ≡ (mem a xs || mem a ms)) k (empty_hand w) s.before []
            s.changed [] s.kept_made refl (λ j n. g.held_before j a) j;
        apart = put_apart k (empty_hand w) s.now g.apart (λ j a n x y. cc);
        nobody = g.nobody;
        held_some = put_each (λ j h. h.holds 0 ≡ false) k (empty_hand w) s.now refl (λ j n. g.held_some j);
        spare = spare_freed own role s k (took s k) g took_taken (s.now k).taken (g.now k).once taken_took;
        spare_once = spare_once_freed own role s k (took s k) g took_taken (s.now k).taken (g.now k).once taken_took;
        beyond = beyond_freed own role s k (took s k) g took_taken (s.now k).taken (g.now k).once taken_took;
      }

pub drops_means : (s : State) (k : ℕ) → meaning_in (drops k s) ≡ after_drop k (meaning_in s)
unfolding meaning_in
drops_means s k =
    let w : Words = given (s.now k).touched s.shared (s.now k).word in
    meaning_set k (ended (part_in s k)) s (drops k s) refl refl
    (λ i. part_by (put_here k (empty_hand w) s.now i) (put_here k (empty_hand w) s.before i)
    (put_here k [] s.changed i) (put_here k [] s.made i) (s.looked k) (put_here k [] s.kept_made i))
    (λ j n i. part_by (put_there k j (empty_hand w) s.now n i) (put_there k j (empty_hand w) s.before n i)
    (put_there k j [] s.changed n i) (put_there k j [] s.made n i) (s.looked j)
    (put_there k j [] s.kept_made n i))
    refl refl
