-- A segment makes a record, which it then holds.
use Rattle.std.proofs.Common.{◌≡◌, ◌≢◌, ℕ, true, false, ◌||◌, eqb, [], ◌∷◌, ◌++◌, refl, sym, ◌∙◌, ap}
use Rattle.std.proofs.lemmas.Bool.{or_left, or_right}
use Rattle.py_data.specs.Heap.{Rec}
use Rattle.py_data.specs.Sight.{mem}
use Rattle.seg_store.specs.Calls.{made, after_make}
use Rattle.seg_store.proofs.Sees.{same_number, other_number}
use Rattle.paged_store.specs.Words.{Words, decode}
use Rattle.paged_store.specs.State.{Hand, State, part_in, meaning_in}
use Rattle.paged_store.specs.inner.Sound.{FitsHand, FitsBefore, Sound}
use Rattle.paged_store.specs.inner.Moves.{nowhere, with_held, written, owned, parted, Rewrites, makes}
use Rattle.paged_store.proofs.MemLemmas.{one_more, made_more}
use Rattle.paged_store.proofs.StateLemmas.{put_each, put_two, put_apart}
use Rattle.paged_store.proofs.MeaningLemmas.{put_here, put_there, heap_put, part_by, meaning_set}
use Rattle.paged_store.proofs.LockMove.{more_apart}
use Rattle.paged_store.proofs.RewriteLemmas.{image_rewritten, now_rewritten, before_rewritten, spare_rewritten, beyond_rewritten, hand_rewritten, step_rewritten, decode_other}

-- the segment's hand with a record made
abbrev hand_made : ℕ → Words → (ℕ → ℕ) → Hand → Hand
hand_made a w e h = with_held a (written w nowhere e h)

module _ (own role : Words) (s : State) (k a : ℕ) (w : Words) (e part : ℕ → ℕ) (g : Sound own role s) (some : a ≢ 0)
    (free : (j : ℕ) → (s.now j).holds a ≡ false) (r : Rewrites own role s k a w nowhere e part) where
  narrow : (b : ℕ) → b ≢ a → (eqb b a || (s.now k).holds b) ≡ true → (s.now k).holds b ≡ true
  narrow b n x = one_more (λ y. y ≢ a → (s.now k).holds y ≡ true) a b ((s.now k).holds b) x (λ m. absurd (m refl))
      (λ y m. y) n

  pub makes_sound : Sound (owned e a own) (parted e part role) (makes k a w e s)
  makes_sound = record {
    lays = image_rewritten own role s k a w nowhere e part g r;
    formed = g.formed;
    now = put_each (λ j x. FitsHand (owned e a own) (parted e part role) s.shared s.image x) k
        (hand_made a w e (s.now k)) s.now
        (hand_rewritten own role s k a w nowhere e part g r (hand_made a w e (s.now k)).holds
        (or_left _ _ (same_number a)) (λ b x. or_right _ _ x) narrow)
        (λ j n. now_rewritten own role s k a w nowhere e part g r j);
    before = before_rewritten own role s k a w nowhere e part g r;
    step = put_each (λ j x. FitsBefore x (s.before j)) k (hand_made a w e (s.now k)) s.now
        (step_rewritten own role s k a w nowhere e part g r (hand_made a w e (s.now k)).holds
        (or_left _ _ (same_number a)) (λ b x. or_right _ _ x) narrow)
        (λ j n. g.step j);
    held = λ j b. put_two (λ j x ms. x.holds b ≡ (mem b (s.changed j) || mem b ms)) k (hand_made a w e (s.now k))
        s.now (s.made k ++ a ∷ []) s.made
        (made_more a b ((s.now k).holds b) (s.changed k) (s.made k) (g.held k b)) (λ j n. g.held j b) j;
    held_before = g.held_before;
    apart = put_apart k (hand_made a w e (s.now k)) s.now g.apart
        (λ j b n x y. more_apart own role s k a j b g (free j) n x y);
    nobody = g.nobody;
    held_some = put_each (λ j x. x.holds 0 ≡ false) k (hand_made a w e (s.now k)) s.now
        (ap (λ t. t || (s.now k).holds 0) (other_number 0 a (λ z. some (sym z))) ∙ g.held_some k)
        (λ j n. g.held_some j);
    spare = spare_rewritten own role s k a w nowhere e part g r;
    spare_once = g.spare_once;
    beyond = beyond_rewritten own role s k a w nowhere e part g r;
  }

  part_made : (q : Rec) → decode w a ≡ q → part_in (makes k a w e s) k ≡ made a q (part_in s k)
  part_made q d = (λ i. part_by (put_here k (hand_made a w e (s.now k)) s.now i) (s.before k) (s.changed k)
      (put_here k (s.made k ++ a ∷ []) s.made i) (s.looked k) (s.kept_made k))
      ∙ (λ i. record (made a q (part_in s k)) {
        changes = heap_put (s.now k).holds (hand_made a w e (s.now k)).holds (s.now k).word w a q
            (or_left _ _ (same_number a)) d
            (λ b n. ap (λ t. t || (s.now k).holds b) (other_number b a n))
            (λ b n x. decode_other own role s k a w nowhere e part g r b n x) i;
      })

  pub makes_means : (q : Rec) → decode w a ≡ q → meaning_in (makes k a w e s) ≡ after_make k a q (meaning_in s)
  unfolding meaning_in
  makes_means q d = meaning_set k (made a q (part_in s k)) s (makes k a w e s) refl refl (part_made q d)
      (λ j n i. part_by (put_there k j (hand_made a w e (s.now k)) s.now n i) (s.before j) (s.changed j)
      (put_there k j (s.made k ++ a ∷ []) s.made n i) (s.looked j) (s.kept_made j))
      refl refl
