-- A segment publishes what it changed and made.
use Rattle.std.proofs.Common.{◌≡◌, ◌≢◌, ℕ, Bool, true, false, ◌||◌, [], inl, inr, refl, sym, ◌∙◌, ap, subst}
use Rattle.std.proofs.lemmas.Bool.{cases_Bool, or_from, cond-true, cond-false}
use Rattle.py_data.specs.Sight.{mem}
use Rattle.seg_store.specs.Meaning.{sees}
use Rattle.seg_store.specs.Calls.{ended, after_publish}
use Rattle.paged_store.specs.Words.{Words, in_record}
use Rattle.paged_store.specs.inner.Formed.{Formed, Lays, AgreeOn}
use Rattle.paged_store.specs.State.{Hand, State, heap_of, part_in, meaning_in}
use Rattle.paged_store.specs.inner.Sound.{FitsHand, FitsBefore, Sound}
use Rattle.paged_store.specs.inner.Moves.{empty_hand, given, given_by, gives, publishes}
use Rattle.paged_store.proofs.FrameLemmas.{decode_agrees, formed_agrees, lays_agrees, places_agree, agree_on_own}
use Rattle.paged_store.proofs.OwnerLemmas.{place_own}
use Rattle.paged_store.proofs.StateLemmas.{none_or_some, put_each, put_two, put_three, put_apart, untouched, taken_holds, other_holds}
use Rattle.paged_store.proofs.MeaningLemmas.{put_here, put_there, heap_same, part_by, meaning_put}
use Rattle.paged_store.proofs.SightLemmas.{was_image, seen_lays, seen_formed, seen_words}
use Rattle.paged_store.proofs.FreeLemmas.{same_step, empty_fits}

-- words that take those of places that are touched
given_same : (t : ℕ → Bool) (v w u : Words) (p : ℕ) → (t p ≡ false → w p ≡ u p) → given t v w p ≡ given t v u p
given_same t v w u p f = elim (cases_Bool (t p)) [
  | inl y ↦ cond-true (t p) (v p) (w p) y ∙ sym (cond-true (t p) (v p) (u p) y)
  | inr n ↦ cond-false (t p) (v p) (w p) n ∙ f n ∙ sym (cond-false (t p) (v p) (u p) n)
]

module _ (own role : Words) (s : State) (k : ℕ) (g : Sound own role s) where
  -- the shared words are then the segment's
  shared_is : (p : ℕ) → given_by (s.now k) s.shared p ≡ (s.now k).word p
  shared_is p = elim (cases_Bool ((s.now k).touched p)) [
    | inl y ↦ cond-true ((s.now k).touched p) ((s.now k).word p) (s.shared p) y
    | inr n ↦ cond-false ((s.now k).touched p) ((s.now k).word p) (s.shared p) n ∙ sym ((g.now k).same p n)
  ]

  pub shared_words : given_by (s.now k) s.shared ≡ (s.now k).word
  shared_words = λ i p. shared_is p i

  -- where the segment doesn't hold what has the place, others have the words that they had
  given_out : (w : Words) (p : ℕ) → (s.now k).holds (own p) ≡ false → given_by (s.now k) w p ≡ w p
  given_out w p e = cond-false ((s.now k).touched p) ((s.now k).word p) (w p)
      (untouched own role s.shared s.image (s.now k) (g.now k) p e)

  pub agree_given : (w : Words) (a : ℕ) → Lays own role w a → (s.now k).holds a ≡ false
      → AgreeOn w (given_by (s.now k) w) a
  agree_given w a o e = agree_on_own own role w (given_by (s.now k) w) a o
      (λ p i. sym (given_out w p (ap (s.now k).holds i ∙ e)))

  image_lays : (a : ℕ) → (s.image a || (s.now k).holds a) ≡ true → Lays own role (given_by (s.now k) s.shared) a
  image_lays a e = subst (λ w. Lays own role w a) (sym shared_words) (seen_lays own role s k g a e)

  image_formed : (a : ℕ) → (s.image a || (s.now k).holds a) ≡ true → Formed (given_by (s.now k) s.shared) a
  image_formed a e = subst (λ w. Formed w a) (sym shared_words) (seen_formed own role s k g a e)

  -- a hand whose records the segment doesn't hold
  module _ (h : Hand) (f : FitsHand own role s.shared s.image h)
      (off : (a : ℕ) → h.holds a ≡ true → (s.now k).holds a ≡ false) where
    -- what it took is of no record of the image then
    kept_given : (a p : ℕ) → (s.image a || (s.now k).holds a) ≡ true → in_record (given_by (s.now k) s.shared) a p
        ≡ true → h.taken p ≡ 0
    kept_given a p e i = elim (none_or_some (h.taken p)) [
      | inl z ↦ z
      | inr l ↦ (let o = place_own own role (given_by (s.now k) s.shared) a p (image_lays a e) i in
          let n : (s.now k).holds a ≡ false = sym (ap (s.now k).holds o)
          ∙ off (own p) (taken_holds own role s.shared s.image h f p l) in
          let j = was_image own role s k g a e n in
          f.kept a p j (places_agree s.shared (given_by (s.now k) s.shared) a p
          (agree_given s.shared a (g.lays a j) n) ∙ i))
    ]

    hand_given : FitsHand own role (given_by (s.now k) s.shared) (λ a. s.image a || (s.now k).holds a)
        (gives (s.now k) h)
    hand_given = record {
      lays = λ a e. lays_agrees own role h.word (given_by (s.now k) h.word) a
          (agree_given h.word a (f.lays a e) (off a e)) (f.lays a e);
      formed = λ a e. formed_agrees h.word (given_by (s.now k) h.word) a (agree_given h.word a (f.lays a e) (off a e))
          (f.formed a e);
      touched = f.touched;
      same = λ p e. given_same (s.now k).touched (s.now k).word h.word s.shared p (λ n. f.same p e);
      taken = f.taken;
      once = f.once;
      kept = kept_given;
    }

    heap_given : heap_of h.holds (given_by (s.now k) h.word) ≡ heap_of h.holds h.word
    heap_given = heap_same h.holds (given_by (s.now k) h.word) h.word
        (λ a e. sym (decode_agrees h.word (given_by (s.now k) h.word) a
        (agree_given h.word a (f.lays a e) (off a e))))

    step_given : (x : Hand) → FitsBefore x h → FitsBefore (gives (s.now k) x) (gives (s.now k) h)
    step_given x st = record {
      holds = st.holds;
      taken = st.taken;
      touched = st.touched;
      records = λ a p e i. st.records a p e (places_agree h.word (given_by (s.now k) h.word) a p
          (agree_given h.word a (f.lays a e) (off a e)) ∙ i);
    }

  off_before : (j a : ℕ) → j ≢ k → (s.before j).holds a ≡ true → (s.now k).holds a ≡ false
  off_before j a n e = other_holds own role s g j k a n ((g.step j).holds a e)

  pub publishes_sound : Sound own role (publishes k s)
  publishes_sound =
      let v : Words = given_by (s.now k) s.shared in
      let image : ℕ → Bool = λ a. s.image a || (s.now k).holds a in
      let w : Words = (s.now k).word in
      let empty : FitsHand own role v image (empty_hand w) = empty_fits own role v image w (λ p. sym (shared_is p)) in
      record {
        lays = image_lays;
        formed = image_formed;
        now = put_each (λ j h. FitsHand own role v image h) k (empty_hand w) (λ j. gives (s.now k) (s.now j)) empty
            (λ j n. hand_given (s.now j) (g.now j) (λ a e. other_holds own role s g j k a n e));
        before = put_each (λ j h. FitsHand own role v image h) k (empty_hand w) (λ j. gives (s.now k) (s.before j))
            empty
            (λ j n. hand_given (s.before j) (g.before j) (λ a e. off_before j a n e));
        step = put_two (λ j h b. FitsBefore h b) k (empty_hand w) (λ j. gives (s.now k) (s.now j)) (empty_hand w)
            (λ j. gives (s.now k) (s.before j)) (same_step (empty_hand w))
            (λ j n. step_given (s.before j) (g.before j) (λ a e. off_before j a n e) (s.now j) (g.step j));
        held = λ j a. put_three (λ j h xs ms. h.holds a ≡ (mem a xs || mem a ms)) k (empty_hand w)
            (λ j. gives (s.now k) (s.now j)) [] s.changed [] s.made refl (λ j n. g.held j a) j;
        held_before = λ j a. put_three (λ j h xs ms. h.holds a ≡ (mem a xs || mem a ms)) k (empty_hand w)
            (λ j. gives (s.now k) (s.before j)) [] s.changed [] s.kept_made refl
            (λ j n. g.held_before j a) j;
        apart = put_apart k (empty_hand w) (λ j. gives (s.now k) (s.now j)) g.apart (λ j a n x y. cc);
        nobody = or_from (s.image 0) ((s.now k).holds 0) g.nobody (g.held_some k);
        held_some = put_each (λ j h. h.holds 0 ≡ false) k (empty_hand w) (λ j. gives (s.now k) (s.now j)) refl
            (λ j n. g.held_some j);
        spare = g.spare;
        spare_once = g.spare_once;
        beyond = g.beyond;
      }

  part_given : (j : ℕ) → j ≢ k → part_in (publishes k s) j ≡ part_in s j
  part_given j n = (λ i. part_by (put_there k j (empty_hand (s.now k).word) (λ j. gives (s.now k) (s.now j)) n i)
      (put_there k j (empty_hand (s.now k).word) (λ j. gives (s.now k) (s.before j)) n i)
      (put_there k j [] s.changed n i) (put_there k j [] s.made n i) (s.looked j) (put_there k j [] s.kept_made n i))
      ∙ (λ i. record (part_in s j) {
        changes = heap_given (s.now j) (g.now j) (λ a e. other_holds own role s g j k a n e) i;
        kept = heap_given (s.before j) (g.before j) (λ a e. off_before j a n e) i;
      })

  pub publishes_means : meaning_in (publishes k s) ≡ after_publish k (meaning_in s)
  unfolding meaning_in
  publishes_means = meaning_put k (ended (part_in s k)) (sees (meaning_in s) k) s (publishes k s)
      (ap (heap_of (λ a. s.image a || (s.now k).holds a)) shared_words ∙ sym (seen_words own role s k g))
      (λ i. part_by (put_here k (empty_hand (s.now k).word) (λ j. gives (s.now k) (s.now j)) i)
      (put_here k (empty_hand (s.now k).word) (λ j. gives (s.now k) (s.before j)) i)
      (put_here k [] s.changed i) (put_here k [] s.made i) (s.looked k) (put_here k [] s.kept_made i))
      part_given refl refl
