-- What a segment sees stands in its own words.
use Rattle.std.proofs.Common.{◌≡◌, ◌≢◌, ℕ, ◌*◌, ◌<◌, Bool, true, false, cond, ◌||◌, Some, None, IsSome, inl, inr, refl, sym, ◌∙◌, ap, subst, unwrap_or}
use Rattle.std.proofs.lemmas.Bool.{cases_Bool, both_ways, or_cases, or_right, cond-true, cond-false}
use Rattle.py_data.specs.Heap.{Rec, Has, at, blank}
use Rattle.seg_store.specs.Meaning.{over, sees, holds}
use Rattle.seg_store.specs.Store.{IsFree}
use Rattle.paged_store.specs.Words.{Words, decode, in_record}
use Rattle.paged_store.specs.inner.Formed.{Formed, Lays, AgreeOn}
use Rattle.paged_store.specs.State.{State, heap_of, meaning_in}
use Rattle.paged_store.specs.inner.Sound.{Sound}
use Rattle.paged_store.proofs.FrameLemmas.{decode_agrees, formed_agrees, lays_agrees}
use Rattle.paged_store.proofs.OwnerLemmas.{place_own}
use Rattle.paged_store.proofs.StateLemmas.{agree_unheld, image_some, holds_some, reserved_place, free_image, free_now}
use Rattle.paged_store.proofs.MeaningLemmas.{some_same}

or_none : (x y : Bool) → y ≡ false → (x || y) ≡ x
or_none true y e = refl
or_none false y e = e

there_some : (t : Bool) (r : Rec) → IsSome (cond t (Some r) None) → t ≡ true
there_some true r e = refl
there_some false r e = absurd (cc)

module _ (own role : Words) (s : State) (k : ℕ) (g : Sound own role s) where
  agree_image : (a : ℕ) → s.image a ≡ true → (s.now k).holds a ≡ false → AgreeOn s.shared (s.now k).word a
  agree_image a i n = agree_unheld own role s.shared s.image (s.now k) (g.now k) a n (g.lays a i)

  pub was_image : (a : ℕ) → (s.image a || (s.now k).holds a) ≡ true → (s.now k).holds a ≡ false → s.image a ≡ true
  was_image a e n = elim (or_cases _ _ e) [ inl x ↦ x | inr x ↦ absurd (both_ways _ n x) ]

  -- what it sees is laid out in its words, and formed
  pub seen_lays : (a : ℕ) → (s.image a || (s.now k).holds a) ≡ true → Lays own role (s.now k).word a
  seen_lays a e = elim (cases_Bool ((s.now k).holds a)) [
    | inl y ↦ (g.now k).lays a y
    | inr n ↦ (let i = was_image a e n in lays_agrees own role s.shared (s.now k).word a (agree_image a i n)
        (g.lays a i))
  ]

  pub seen_formed : (a : ℕ) → (s.image a || (s.now k).holds a) ≡ true → Formed (s.now k).word a
  seen_formed a e = elim (cases_Bool ((s.now k).holds a)) [
    | inl y ↦ (g.now k).formed a y
    | inr n ↦ (let i = was_image a e n in formed_agrees s.shared (s.now k).word a (agree_image a i n) (g.formed a i))
  ]

  pub seen_some : (a : ℕ) → (s.image a || (s.now k).holds a) ≡ true → a ≢ 0
  seen_some a e = elim (or_cases _ _ e) [
    | inl x ↦ image_some own role s g a x
    | inr x ↦ holds_some own role s g k a x
  ]

  -- its places are reserved
  pub seen_reserved : (a p : ℕ) → (s.image a || (s.now k).holds a) ≡ true → in_record (s.now k).word a p ≡ true
      → p < s.reserved
  seen_reserved a p e i = (reserved_place own role s g p
      (λ z. seen_some a e (sym (place_own own role (s.now k).word a p (seen_lays a e) i) ∙ z))).0

  -- the image with the segment's records over it
  pub seen_words : sees (meaning_in s) k ≡ heap_of (λ a. s.image a || (s.now k).holds a) (s.now k).word
  unfolding meaning_in
  seen_words = λ i a. here a i
    where
      here : (a : ℕ) → over (cond ((s.now k).holds a) (Some (decode (s.now k).word a)) None)
          (cond (s.image a) (Some (decode s.shared a)) None)
          ≡ heap_of (λ a. s.image a || (s.now k).holds a) (s.now k).word a
      here a = elim (cases_Bool ((s.now k).holds a)) [
        | inl y ↦ ap (λ o. over o (heap_of s.image s.shared a))
            (cond-true ((s.now k).holds a) (Some (decode (s.now k).word a)) None y)
            ∙ sym (cond-true (s.image a || (s.now k).holds a) (Some (decode (s.now k).word a)) None (or_right _ _ y))
        | inr n ↦ ap (λ o. over o (heap_of s.image s.shared a))
            (cond-false ((s.now k).holds a) (Some (decode (s.now k).word a)) None n)
            ∙ some_same (s.image a) (decode s.shared a) (decode (s.now k).word a)
            (λ i. decode_agrees s.shared (s.now k).word a (agree_image a i n))
            ∙ sym (ap (λ t. cond t (Some (decode (s.now k).word a)) None) (or_none (s.image a) ((s.now k).holds a) n))
      ]

  -- a record that it sees is one of the image, or one that it holds
  pub seen_there : (a : ℕ) → Has (sees (meaning_in s) k) a → (s.image a || (s.now k).holds a) ≡ true
  seen_there a e = there_some (s.image a || (s.now k).holds a) (decode (s.now k).word a)
      (subst (λ h. Has h a) seen_words e)

  -- and is read from its words
  pub seen_at : (a : ℕ) → Has (sees (meaning_in s) k) a → at (sees (meaning_in s) k) a ≡ decode (s.now k).word a
  unfolding at
  seen_at a e = ap (λ h. unwrap_or (h a) blank) seen_words
      ∙ ap (λ o. unwrap_or o blank) (cond-true (s.image a || (s.now k).holds a) (Some (decode (s.now k).word a)) None
      (seen_there a e))

  -- ---- what the meaning says of the fields

  pub holds_meaning : (a : ℕ) → holds ((meaning_in s).part k) a ≡ (s.now k).holds a
  unfolding meaning_in
  holds_meaning a = sym (g.held k a)

-- an address whose header would begin at nobody's place is free
pub free_meaning : (own role : Words) (s : State) (a : ℕ) → Sound own role s → a ≢ 0 → own (2 * a) ≡ 0
    → IsFree (meaning_in s) a
unfolding meaning_in
free_meaning own role s a g some free = record {
  image = cond-false (s.image a) (Some (decode s.shared a)) None (free_image own role s g a some free);
  changes = λ j. cond-false ((s.now j).holds a) (Some (decode (s.now j).word a)) None
      (free_now own role s g a some free j);
  held = λ j. sym (g.held j a) ∙ free_now own role s g a some free j;
}

-- a record that a segment sees and that none holds is one of the image
pub lockable : (own role : Words) (s : State) (k a : ℕ) → Sound own role s → Has (sees (meaning_in s) k) a
    → holds ((meaning_in s).part k) a ≡ false → s.image a ≡ true
lockable own role s k a g there free = was_image own role s k g a (seen_there own role s k g a there)
    (sym (holds_meaning own role s k g a) ∙ free)
