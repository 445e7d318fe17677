-- The indexes of dictionaries stay right as a segment publishes.
use Rattle.std.proofs.Common.{◌≡◌, ℕ, Bool, true, false, ◌||◌, inl, inr, refl, sym, ◌∙◌, ap, subst}
use Rattle.std.proofs.lemmas.Bool.{cases_Bool, both_ways, false_from_ne_true, or_cases, or_left, or_right, cond-true, cond-false}
use Rattle.py_data.specs.Heap.{Heap, is_tracked}
use Rattle.dict_index.specs.Laws.{KeepsFixed}
use Rattle.seg_store.specs.Meaning.{sees, saw}
use Rattle.paged_store.specs.Words.{Words, kind_in, kind_by}
use Rattle.paged_store.specs.inner.Formed.{Lays, AgreeOn}
use Rattle.paged_store.specs.State.{Hand, State, heap_of, meaning_in}
use Rattle.paged_store.specs.inner.Sound.{FitsHand, Sound}
use Rattle.paged_store.specs.inner.Moves.{empty_hand, given_by, gives, publishes}
use Rattle.paged_store.specs.inner.Indexed.{AreIndexed, HasIndexes}
use Rattle.paged_store.specs.inner.Keyed.{HasKeys, IsKeyed}
use Rattle.paged_store.proofs.FrameLemmas.{head_same, decode_agrees, agree_on_own}
use Rattle.paged_store.proofs.StateLemmas.{put_each, untouched, agree_unheld, other_holds}
use Rattle.paged_store.proofs.SightLemmas.{was_image, seen_lays, seen_words}
use Rattle.paged_store.proofs.PublishMove.{shared_words, agree_given}
use Rattle.paged_store.proofs.SawLemmas.{saw_lays, saw_words}
use Rattle.paged_store.proofs.IndexFrame.{SameFixed, same_fixed, dict_frame}
use Rattle.paged_store.proofs.IndexedLemmas.{IndexedBy, empty_indexed}

-- words that agree on a record have one of the same kind
fixed_there : (w v : Words) (a : ℕ) → AgreeOn w v a → is_tracked (kind_by v a) ≡ false → is_tracked (kind_by w a)
    ≡ false
fixed_there w v a s e = ap (λ x. is_tracked (kind_in x)) (head_same w v a s.head).first ∙ e

-- what a hand sees has possible keys, and keeps the image's fixed records
record SeesKeys (image : ℕ → Bool) (shared : Words) (h : Hand) : Type 0 where
  keys : HasKeys (heap_of (λ a. image a || h.holds a) h.word)
  fixed : SameFixed image shared h.word

sees_keys : (image : ℕ → Bool) (shared : Words) (h : Hand) (x : Heap)
    → x ≡ heap_of (λ a. image a || h.holds a) h.word → HasKeys x → KeepsFixed (heap_of image shared) x
    → SeesKeys image shared h
sees_keys image shared h x same keys f = record {
  keys = subst HasKeys same keys;
  fixed = same_fixed image (λ a. image a || h.holds a) shared h.word
      (subst (KeepsFixed (heap_of image shared)) same f);
}

module _ (own role : Words) (s : State) (k : ℕ) (g : Sound own role s) (mine : SeesKeys s.image s.shared (s.now k))
    (x : IndexedBy s.image (s.now k)) where
  -- a hand whose records the segment doesn't hold
  module _ (h : Hand) (f : FitsHand own role s.shared s.image h)
      (off : (a : ℕ) → h.holds a ≡ true → (s.now k).holds a ≡ false)
      (lays : (a : ℕ) → (s.image a || h.holds a) ≡ true → Lays own role h.word a)
      (its : SeesKeys s.image s.shared h) (y : IndexedBy s.image h) where
    not_its : (a : ℕ) → (s.now k).holds a ≡ true → h.holds a ≡ false
    not_its a e = false_from_ne_true (h.holds a) (λ z. both_ways _ (off a z) e)

    -- where the segment holds what has the place, the words are the segment's
    given_mine : (p : ℕ) → (s.now k).holds (own p) ≡ true → (s.now k).word p ≡ given_by (s.now k) h.word p
    given_mine p e = elim (cases_Bool ((s.now k).touched p)) [
      | inl t ↦ sym (cond-true ((s.now k).touched p) ((s.now k).word p) (h.word p) t)
      | inr n ↦ (g.now k).same p n
          ∙ sym (f.same p (untouched own role s.shared s.image h f p (not_its (own p) e)))
          ∙ sym (cond-false ((s.now k).touched p) ((s.now k).word p) (h.word p) n)
    ]

    agree_mine : (a : ℕ) → (s.now k).holds a ≡ true → AgreeOn (s.now k).word (given_by (s.now k) h.word) a
    agree_mine a e = agree_on_own own role (s.now k).word (given_by (s.now k) h.word) a ((g.now k).lays a e)
        (λ p i. given_mine p (ap (s.now k).holds i ∙ e))

    -- all others are the hand's
    agree_its : (a : ℕ) → (s.image a || h.holds a) ≡ true → (s.now k).holds a ≡ false
        → AgreeOn h.word (given_by (s.now k) h.word) a
    agree_its a e n = agree_given own role s k g h.word a (lays a e) n

    -- a record of the image that the hand doesn't hold
    agree_image : (a : ℕ) → s.image a ≡ true → h.holds a ≡ false → AgreeOn s.shared h.word a
    agree_image a e n = agree_unheld own role s.shared s.image h f a n (g.lays a e)

    its_fixed : SameFixed (λ a. s.image a || h.holds a) h.word (given_by (s.now k) h.word)
    its_fixed a e fixed = elim (cases_Bool ((s.now k).holds a)) [
      | inl m ↦ (let n : h.holds a ≡ false = not_its a m in
          let i : s.image a ≡ true = elim (or_cases (s.image a) (h.holds a) e) [
            | inl z ↦ z
            | inr z ↦ absurd (both_ways _ n z)
          ] in
          sym (decode_agrees (s.now k).word (given_by (s.now k) h.word) a (agree_mine a m))
          ∙ mine.fixed a i (fixed_there s.shared h.word a (agree_image a i n) fixed)
          ∙ decode_agrees s.shared h.word a (agree_image a i n))
      | inr n ↦ sym (decode_agrees h.word (given_by (s.now k) h.word) a (agree_its a e n))
    ]

    mine_fixed : SameFixed (λ a. s.image a || (s.now k).holds a) (s.now k).word (given_by (s.now k) h.word)
    mine_fixed a e fixed = elim (cases_Bool ((s.now k).holds a)) [
      | inl m ↦ sym (decode_agrees (s.now k).word (given_by (s.now k) h.word) a (agree_mine a m))
      | inr n ↦ (let i : s.image a ≡ true = was_image own role s k g a e n in
          let shown : AgreeOn s.shared (s.now k).word a =
          agree_unheld own role s.shared s.image (s.now k) (g.now k) a n (g.lays a i) in
          sym (decode_agrees h.word (given_by (s.now k) h.word) a (agree_its a (or_left _ _ i) n))
          ∙ its.fixed a i (fixed_there s.shared (s.now k).word a shown fixed)
          ∙ decode_agrees s.shared (s.now k).word a shown)
    ]

    hand_indexed : IndexedBy (λ a. s.image a || (s.now k).holds a) (gives (s.now k) h)
    hand_indexed a e d = elim (cases_Bool ((s.now k).holds a)) [
      | inl m ↦ dict_frame (λ b. s.image b || (s.now k).holds b) (s.now k).word (given_by (s.now k) h.word) a mine.keys
          mine_fixed (or_right _ _ m) (agree_mine a m) x d
      | inr n ↦ (let there : (s.image a || h.holds a) ≡ true =
          elim (or_cases (s.image a || (s.now k).holds a) (h.holds a) e) [
            | inl z ↦ or_left _ _ (was_image own role s k g a z n)
            | inr z ↦ or_right _ _ z
          ] in
          dict_frame (λ b. s.image b || h.holds b) h.word (given_by (s.now k) h.word) a its.keys its_fixed there
          (agree_its a there n) y d)
    ]

module _ (own role : Words) (s : State) (k : ℕ) (g : Sound own role s) (q : IsKeyed (meaning_in s)) where
  now_keys : (j : ℕ) → SeesKeys s.image s.shared (s.now j)
  unfolding meaning_in
  now_keys j = sees_keys s.image s.shared (s.now j) (sees (meaning_in s) j) (seen_words own role s j g) (q.now j)
      (q.fixed j)

  before_keys : (j : ℕ) → SeesKeys s.image s.shared (s.before j)
  unfolding meaning_in
  before_keys j = sees_keys s.image s.shared (s.before j) (saw (meaning_in s) j) (saw_words own role s g j)
      (q.before j) (q.fixed_before j)

  pub publishes_indexed : HasIndexes s → HasIndexes (publishes k s)
  publishes_indexed i =
      let image : ℕ → Bool = λ a. s.image a || (s.now k).holds a in
      let w : Words = (s.now k).word in
      let empty : IndexedBy image (empty_hand w) = empty_indexed image w w refl (i.now k) in
      record {
        image = subst (AreIndexed image) (sym (shared_words own role s k g)) (i.now k);
        now = put_each (λ j h. IndexedBy image h) k (empty_hand w) (λ j. gives (s.now k) (s.now j)) empty
            (λ j n. hand_indexed own role s k g (now_keys k) (i.now k) (s.now j) (g.now j)
            (λ a e. other_holds own role s g j k a n e) (λ a e. seen_lays own role s j g a e) (now_keys j) (i.now j));
        before = put_each (λ j h. IndexedBy image h) k (empty_hand w) (λ j. gives (s.now k) (s.before j)) empty
            (λ j n. hand_indexed own role s k g (now_keys k) (i.now k) (s.before j) (g.before j)
            (λ a e. other_holds own role s g j k a n ((g.step j).holds a e))
            (λ a e. saw_lays own role s g j a e) (before_keys j) (i.before j));
      }
