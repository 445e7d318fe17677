-- A segment locks a record of the image that none holds.
use Rattle.std.proofs.Common.{◌≡◌, ◌≢◌, ℕ, Bool, true, false, ◌||◌, eqb, [], ◌∷◌, ◌++◌, Some, None, refl, sym, ◌∙◌, ap, unwrap_or, arith}
use Rattle.std.proofs.lemmas.Bool.{both_ways, false_from_ne_true, or_left, or_right, le-ltb, cond-true, cond-false}
use Rattle.py_data.specs.Heap.{at, blank, put_at}
use Rattle.py_data.specs.Sight.{mem, with_mark}
use Rattle.seg_store.specs.Meaning.{over, sees, holds, with_part}
use Rattle.seg_store.specs.Calls.{marked, first_locked, locked, after_lock}
use Rattle.seg_store.proofs.Sees.{same_number, other_number}
use Rattle.paged_store.specs.Words.{Words, decode, in_record}
use Rattle.paged_store.specs.inner.Formed.{Formed, Lays}
use Rattle.paged_store.specs.State.{Hand, State, heap_of, part_in, meaning_in}
use Rattle.paged_store.specs.inner.Sound.{taken_since, FitsHand, FitsBefore, Sound}
use Rattle.paged_store.specs.inner.Moves.{with_held, locks}
use Rattle.paged_store.proofs.FrameLemmas.{decode_agrees, formed_agrees, lays_agrees, places_agree}
use Rattle.paged_store.proofs.MemLemmas.{one_more, locked_more}
use Rattle.paged_store.proofs.StateLemmas.{put_each, put_two, put_apart, agree_unheld, image_some}
use Rattle.paged_store.proofs.MeaningLemmas.{put_here, put_there, heap_put, part_by, meaning_set}

-- no other segment holds what a segment holds with one more that it doesn't hold
pub more_apart : (own role : Words) (s : State) (k a j b : ℕ) → Sound own role s → (s.now j).holds a ≡ false → j ≢ k
    → (eqb b a || (s.now k).holds b) ≡ true → (s.now j).holds b ≡ true → ⊥
more_apart own role s k a j b g free n e = one_more (λ x. (s.now j).holds x ≡ true → ⊥) a b ((s.now k).holds b) e
    (λ h. both_ways _ free h) (λ t h. n (g.apart j k b h t))

module _ (own role shared : Words) (image : ℕ → Bool) (a : ℕ) (is : image a ≡ true) (o : Lays own role shared a)
    (d : Formed shared a) where
  held_fits : (h : Hand) → FitsHand own role shared image h → h.holds a ≡ false
      → FitsHand own role shared image (with_held a h)
  held_fits h f e =
      let same = agree_unheld own role shared image h f a e o in
      record {
        lays = λ b x. one_more (Lays own role h.word) a b (h.holds b) x (lays_agrees own role shared h.word a same o)
            (f.lays b);
        formed = λ b x. one_more (Formed h.word) a b (h.holds b) x (formed_agrees shared h.word a same d)
            (f.formed b);
        touched = λ p x. or_right _ _ (f.touched p x);
        same = f.same;
        taken = f.taken;
        once = f.once;
        kept = f.kept;
      }

  held_step : (h b : Hand) → FitsHand own role shared image h → FitsHand own role shared image b → b.holds a ≡ false
      → FitsBefore h b → FitsBefore (with_held a h) (with_held a b)
  held_step h b f g e st = record {
    holds = λ x t. one_more (λ y. (eqb y a || h.holds y) ≡ true) a x (b.holds x) t (or_left _ _ (same_number a))
        (λ z. or_right _ _ (st.holds x z));
    taken = st.taken;
    touched = st.touched;
    records = λ x p t. one_more (λ y. in_record b.word y p ≡ true → taken_since b h p ≡ false) a x (b.holds x) t
        (old p) (st.records x p);
  }
    where
      old : (p : ℕ) → in_record b.word a p ≡ true → taken_since b h p ≡ false
      old p i =
          let z : h.taken p ≡ 0 = f.kept a p is (places_agree shared b.word a p
          (agree_unheld own role shared image b g a e o) ∙ i) in
          le-ltb (b.taken p) (h.taken p) (omega (arith, z))

module _ (own role : Words) (s : State) (k a : ℕ) (g : Sound own role s) (is : s.image a ≡ true)
    (free : (j : ℕ) → (s.now j).holds a ≡ false) where
  free_before : (j : ℕ) → (s.before j).holds a ≡ false
  free_before j = false_from_ne_true ((s.before j).holds a) (λ e. both_ways _ (free j) ((g.step j).holds a e))

  pub locks_sound : Sound own role (locks k a s)
  locks_sound = record {
    lays = g.lays;
    formed = g.formed;
    now = put_each (λ j h. FitsHand own role s.shared s.image h) k (with_held a (s.now k)) s.now
        (held_fits own role s.shared s.image a is (g.lays a is) (g.formed a is) (s.now k) (g.now k) (free k))
        (λ j n. g.now j);
    before = put_each (λ j h. FitsHand own role s.shared s.image h) k (with_held a (s.before k)) s.before
        (held_fits own role s.shared s.image a is (g.lays a is) (g.formed a is) (s.before k) (g.before k)
        (free_before k)) (λ j n. g.before j);
    step = put_two (λ j h b. FitsBefore h b) k (with_held a (s.now k)) s.now (with_held a (s.before k)) s.before
        (held_step own role s.shared s.image a is (g.lays a is) (g.formed a is) (s.now k) (s.before k) (g.now k)
        (g.before k) (free_before k) (g.step k)) (λ j n. g.step j);
    held = λ j b. put_two (λ j h xs. h.holds b ≡ (mem b xs || mem b (s.made j))) k (with_held a (s.now k)) s.now
        (s.changed k ++ a ∷ []) s.changed
        (locked_more a b ((s.now k).holds b) (s.changed k) (s.made k) (g.held k b)) (λ j n. g.held j b) j;
    held_before = λ j b. put_two (λ j h xs. h.holds b ≡ (mem b xs || mem b (s.kept_made j))) k
        (with_held a (s.before k)) s.before (s.changed k ++ a ∷ []) s.changed
        (locked_more a b ((s.before k).holds b) (s.changed k) (s.kept_made k) (g.held_before k b))
        (λ j n. g.held_before j b) j;
    apart = put_apart k (with_held a (s.now k)) s.now g.apart
        (λ j b n e h. more_apart own role s k a j b g (free j) n e h);
    nobody = g.nobody;
    held_some = put_each (λ j h. h.holds 0 ≡ false) k (with_held a (s.now k)) s.now
        (ap (λ t. t || (s.now k).holds 0) (other_number 0 a (λ z. image_some own role s g a is (sym z)))
        ∙ g.held_some k) (λ j n. g.held_some j);
    spare = g.spare;
    spare_once = g.spare_once;
    beyond = g.beyond;
  }

  seen : at (sees (meaning_in s) k) a ≡ decode s.shared a
  unfolding meaning_in at
  seen = λ i. unwrap_or (over (cond-false ((s.now k).holds a) (Some (decode (s.now k).word a)) None (free k) i)
      (cond-true (s.image a) (Some (decode s.shared a)) None is i)) blank

  -- a hand that doesn't hold it has it as it stands in the image
  more_heap : (h : Hand) → FitsHand own role s.shared s.image h → h.holds a ≡ false
      → heap_of (with_held a h).holds h.word ≡ put_at (heap_of h.holds h.word) a (decode s.shared a)
  more_heap h f e = heap_put h.holds (with_held a h).holds h.word h.word a (decode s.shared a)
      (or_left _ _ (same_number a))
      (sym (decode_agrees s.shared h.word a (agree_unheld own role s.shared s.image h f a e (g.lays a is))))
      (λ b n. ap (λ t. t || h.holds b) (other_number b a n)) (λ b n e. refl)

  part_locked : part_in (locks k a s) k ≡ first_locked a (decode s.shared a) (part_in s k)
  part_locked = (λ i. part_by (put_here k (with_held a (s.now k)) s.now i)
      (put_here k (with_held a (s.before k)) s.before i)
      (put_here k (s.changed k ++ a ∷ []) s.changed i) (s.made k) (put_here k (with_mark a (s.looked k)) s.looked i)
      (s.kept_made k))
      ∙ (λ i. record (first_locked a (decode s.shared a) (part_in s k)) {
        changes = more_heap (s.now k) (g.now k) (free k) i;
        kept = more_heap (s.before k) (g.before k) (free_before k) i;
      })

  pub locks_means : meaning_in (locks k a s) ≡ after_lock k a (meaning_in s)
  unfolding meaning_in
  locks_means =
      let m = meaning_in s in
      let first : locked a (at (sees m k) a) (part_in s k) ≡ first_locked a (decode s.shared a) (part_in s k) =
      cond-false (holds (part_in s k) a) (marked a (part_in s k)) (first_locked a (at (sees m k) a) (part_in s k))
      (sym (g.held k a) ∙ free k)
      ∙ ap (λ r. first_locked a r (part_in s k)) seen in
      meaning_set k (first_locked a (decode s.shared a) (part_in s k)) s (locks k a s) refl refl part_locked
      (λ j n i. part_by (put_there k j (with_held a (s.now k)) s.now n i)
      (put_there k j (with_held a (s.before k)) s.before n i)
      (put_there k j (s.changed k ++ a ∷ []) s.changed n i) (s.made j)
      (put_there k j (with_mark a (s.looked k)) s.looked n i) (s.kept_made j))
      refl refl ∙ sym (ap (λ p. with_part k p m) first)
