-- The calls of a store of maps, on its image and its hands.
use Rattle.std.proofs.Common.{◌≡◌, ◌≢◌, inl, inr, ℕ, ◌<◌, ◌≤◌, zero, suc, Bool, true, false, cond, ◌||◌, eqb, List, [], ◌∷◌, ◌++◌, length, take, Option, Some, None, Result, Ok, Err, OnOk, OnErr, is_some, option_map, unwrap_or, slice_get, slice_set, slice_index_or, ◌⊎◌, refl, sym, ◌∙◌, ap, subst, arith, length-append}
use Rattle.std.proofs.lemmas.Bool.{cond-true, cond-false}
use Rattle.std.proofs.lemmas.Bool.Decides.{eqb_tells}
use Rattle.std.proofs.lemmas.List.{length-set, length-map}
use Rattle.std.proofs.lemmas.Option.{slice_get-get_or, slice_get_within, slice_get_past, slice_get-map}
use Rattle.py_data.specs.declared.change.Change.{Change}
use Rattle.py_data.specs.declared.value.Addr.{Addr}
use Rattle.py_data.specs.Changes.{after}
use Rattle.py_data.specs.Collection.{places}
use Rattle.py_data.specs.Heap.{Rec, Heap, at, blank}
use Rattle.py_data.specs.Sight.{mem}
use Rattle.seg_store.specs.declared.hand.Hand.{Hand}
use Rattle.seg_store.specs.Meaning.{Part, Meaning, no_part, over, overlay, sees, holds, with_part}
use Rattle.seg_store.specs.Calls.{begun, marked, first_locked, locked, changed, made, opened, undone, ended, after_begin, after_mark, after_lock, after_change, after_make, after_open, after_undo, after_publish, after_drop}
use Rattle.seg_store.specs.Store.{NoOther, IsHolder, IsFree}
use Rattle.seg_store.specs.inner.Hands.{part_of}
use Rattle.seg_store.specs.inner.Holding.{Changes, IsGood}
use Rattle.seg_store.specs.inner.Images.{stands, image_in, Reaches}
use Rattle.seg_store.specs.inner.Tables.{part_in, meaning_in, IsSound}
use Rattle.seg_store.proofs.Slices.{set_table, push_table}
use Rattle.seg_store.proofs.Sees.{same_heap}
use Rattle.seg_store.proofs.Parts.{Fits, part_sound, more_sound, fewer, lock_fits, make_fits, publish_sound, fresh_free}

-- what the image and the hands mean
abbrev pub meant : List (Option Rec) → List Hand → Meaning
meant os hs = meaning_in (slice_get os) (slice_get hs) (length hs)

-- they are sound, and mean m
pub record Leaves (os : List (Option Rec)) (hs : List Hand) (m : Meaning) : Type 0 where
  pub sound : IsSound (meant os hs) (length os)
  pub means : meant os hs ≡ m

pub either : {T E P Q : Type 0} (R : Type 0) (x : Result T E) → OnOk x P → OnErr x Q → (P → R) → (Q → R) → R
either R (Ok x) p q f g = f p
either R (Err e) p q f g = g q

none_by : (o : Option Rec) → is_some o ≡ false → o ≡ None
none_by None e = refl
none_by (Some r) e = cc

at_is : (h : Heap) (a : ℕ) (r : Rec) → h a ≡ Some r → at h a ≡ r
unfolding at
at_is h a r e = ap (λ o. unwrap_or o blank) e

-- the parts with a segment's own part set are the same
part_again : (k : ℕ) (m : Meaning) → with_part k (m.part k) m ≡ m
part_again k m = λ i. record m { part = λ j. here j (eqb j k) (eqb_tells j k) i }
  where
    here : (j : ℕ) (t : Bool) → ((t ≡ true) × (j ≡ k)) ⊎ ((t ≡ false) × (j ≢ k)) →
        cond t (m.part k) (m.part j) ≡ m.part j
    here j t (inl y) = ap (λ b. cond b (m.part k) (m.part j)) y.0 ∙ sym (ap m.part y.1)
    here j t (inr n) = ap (λ b. cond b (m.part k) (m.part j)) n.0

pub hand_at : (hs : List Hand) (k : ℕ) (h : Hand) → k < length hs → h ≡ slice_index_or hs k h → slice_get hs k ≡ Some h
hand_at hs k h l e = slice_get-get_or hs k h l ∙ ap (λ (x : Hand). Some x) (sym e)

-- another hand in the place of a segment's
set_means : (os : List (Option Rec)) (hs : List Hand) (k : ℕ) (h : Hand) → k < length hs →
    meant os (slice_set hs k h) ≡ with_part k (part_of h) (meant os hs)
set_means os hs k h l = λ i. record {
  image = image_in (slice_get os);
  part = λ j. (ap (λ (s : ℕ → Option Hand). part_in (s j)) (set_table hs k h l) ∙ by_test (eqb j k) (slice_get hs j)) i;
  segments = length-set hs k h i;
  limit = 18_446_744_073_709_551_615;
}
  where
    by_test : (t : Bool) (o : Option Hand) → part_in (cond t (Some h) o) ≡ cond t (part_of h) (part_in o)
    by_test true o = refl
    by_test false o = refl

mem_take : (a n : ℕ) (xs : List Addr) → mem a (places (take n xs)) ≡ true → mem a (places xs) ≡ true
mem_take a zero xs e = cc
mem_take a (suc n) [] e = cc
mem_take a (suc n) (x ∷ xs) e = by_test (eqb a x.0) (mem_take a n xs) e
  where
    by_test : (t : Bool) → (mem a (places (take n xs)) ≡ true → mem a (places xs) ≡ true) →
        (t || mem a (places (take n xs))) ≡ true → (t || mem a (places xs)) ≡ true
    by_test true f e = refl
    by_test false f e = f e

module _ (os : List (Option Rec)) (hs : List Hand) (k : ℕ) (w : IsSound (meant os hs) (length os))
    (below : k < length hs) where
  leaves_part : (h : Hand) (p : Part) → part_of h ≡ p → Fits (meant os hs) (length os) k p →
      Leaves os (slice_set hs k h) (with_part k p (meant os hs))
  leaves_part h p e f =
      let q : meant os (slice_set hs k h) ≡ with_part k p (meant os hs) = set_means os hs k h below ∙
      ap (λ x. with_part k x (meant os hs)) e in
      record {
        sound = subst (λ m. IsSound m (length os)) (sym q) (part_sound (meant os hs) (length os) k p w f);
        means = q;
      }

  module _ (g h : Hand) (is : g ≡ slice_index_or hs k g) where
    own : part_of g ≡ (meant os hs).part k
    own = sym (ap part_in (hand_at hs k g below is))

    pub same_leaves : part_of h ≡ part_of g → Leaves os (slice_set hs k h) (meant os hs)
    same_leaves e =
        let m = meant os hs in
        let l = leaves_part h (m.part k) (e ∙ own) (fewer m (length os) k (m.part k) w (λ a x. x) (λ a x. x)) in
        record { sound = l.sound; means = l.means ∙ part_again k m }

    pub begin_leaves : part_of h ≡ begun (part_of g) → Leaves os (slice_set hs k h) (after_begin k (meant os hs))
    begin_leaves e = let m = meant os hs in
        leaves_part h (begun (m.part k)) (e ∙ ap begun own)
        (fewer m (length os) k (begun (m.part k)) w (λ a x. x) (λ a x. x))

    pub mark_leaves : (a : ℕ) → part_of h ≡ marked a (part_of g) →
        Leaves os (slice_set hs k h) (after_mark k a (meant os hs))
    mark_leaves a e = let m = meant os hs in leaves_part h (marked a (m.part k)) (e ∙ ap (marked a) own)
        (fewer m (length os) k (marked a (m.part k)) w (λ a x. x) (λ a x. x))

    pub open_leaves : part_of h ≡ opened (part_of g) → Leaves os (slice_set hs k h) (after_open k (meant os hs))
    open_leaves e = let m = meant os hs in leaves_part h (opened (m.part k)) (e ∙ ap opened own)
        (fewer m (length os) k (opened (m.part k)) w (λ a x. x) (λ a x. x))

    pub undo_leaves : part_of h ≡ undone (part_of g) → Leaves os (slice_set hs k h) (after_undo k (meant os hs))
    undo_leaves e =
        let m = meant os hs in
        let front : (a : ℕ) → mem a (m.part k).kept_made ≡ true → mem a (m.part k).made ≡ true =
        subst (λ (p : Part). (a : ℕ) → mem a p.kept_made ≡ true → mem a p.made ≡ true) own
        (λ a. mem_take a g.kept g.made) in
        leaves_part h (undone (m.part k)) (e ∙ ap undone own)
        (fewer m (length os) k (undone (m.part k)) w (λ a x. x) front)

    pub drop_leaves : part_of h ≡ ended (part_of g) → Leaves os (slice_set hs k h) (after_drop k (meant os hs))
    drop_leaves e = let m = meant os hs in
        leaves_part h (ended (m.part k)) (e ∙ ap ended own)
        (fewer m (length os) k (ended (m.part k)) w (λ a x. cc) (λ a x. cc))

    pub change_leaves : (a : ℕ) (c : Change) → Changes a c (part_of g) (part_of h) →
        Leaves os (slice_set hs k h) (after_change k a (after c) (meant os hs))
    change_leaves a c t =
        let m = meant os hs in
        let there : (m.part k).changes a ≡ Some t.old = sym (ap (λ (p : Part). p.changes a) own) ∙ t.is in
        let e : at (sees m k) a ≡ t.old = at_is (sees m k) a t.old (ap (λ o. over o (m.image a)) there) in
        let p = changed a (after c (at (sees m k) a)) (m.part k) in
        leaves_part h p (t.made ∙ ap (changed a (after c t.old)) own ∙
        ap (λ r. changed a (after c r) (m.part k)) (sym e)) (fewer m (length os) k p w (λ a x. x) (λ a x. x))

    held_now : (a : ℕ) → is_some (((meant os hs).part k).changes a) ≡ holds ((meant os hs).part k) a
    held_now = subst (λ (p : Part). (a : ℕ) → is_some (p.changes a) ≡ holds p a) own (λ a. g.sound.now a)

    pub lock_leaves : (a : ℕ) (r : Rec) → (meant os hs).image a ≡ Some r →
        ((j : ℕ) → holds ((meant os hs).part j) a ≡ false) → part_of h ≡ first_locked a r (part_of g) →
        Leaves os (slice_set hs k h) (after_lock k a (meant os hs))
    lock_leaves a r there free e =
        let m = meant os hs in
        let none : (m.part k).changes a ≡ None = none_by ((m.part k).changes a) (held_now a ∙ free k) in
        let q : at (sees m k) a ≡ r = at_is (sees m k) a r (ap (λ o. over o (m.image a)) none ∙ there) in
        let p : locked a (at (sees m k) a) (m.part k) ≡ first_locked a r (m.part k) =
        ap (λ x. locked a x (m.part k)) q ∙ cond-false (holds (m.part k) a) (marked a (m.part k))
        (first_locked a r (m.part k)) (free k) in
        let l = leaves_part h (first_locked a r (m.part k)) (e ∙ ap (first_locked a r) own)
        (lock_fits m (length os) k a r w (within_image a r there) free (ap is_some there)) in
        record { sound = l.sound; means = l.means ∙ ap (λ x. with_part k x m) (sym p) }
      where
        within_image : (a : ℕ) (r : Rec) → (meant os hs).image a ≡ Some r → a < length os
        within_image a r e = by_slot (slice_get os a) refl e
          where
            by_slot : (x : Option (Option Rec)) → slice_get os a ≡ x → stands x ≡ Some r → a < length os
            by_slot None q f = cc
            by_slot (Some o) q f = slice_get_within os a o q

    pub make_leaves : (n : ℕ) (r : Rec) → n < length os → (meant os hs).image n ≡ None →
        ((j : ℕ) → holds ((meant os hs).part j) n ≡ false) → part_of h ≡ made n r (part_of g) →
        Leaves os (slice_set hs k h) (after_make k n r (meant os hs))
    make_leaves n r within blank free e =
        let m = meant os hs in
        leaves_part h (made n r (m.part k)) (e ∙ ap (made n r) own)
        (make_fits m (length os) k n r w within free (ap is_some blank))

    -- what the segment holds is at addresses
    pub publish_reaches : Reaches (part_of g).changes (length os)
    publish_reaches = subst (λ (p : Part). Reaches p.changes (length os)) (sym own)
        (λ a e. w.within k a (sym (held_now a) ∙ e))

    pub publish_leaves : (os1 : List (Option Rec)) → part_of h ≡ ended (part_of g) →
        image_in (slice_get os1) ≡ overlay (image_in (slice_get os)) (part_of g).changes → length os1 ≡ length os
        → Leaves os1 (slice_set hs k h) (after_publish k (meant os hs))
    publish_leaves os1 e ei el =
        let m = meant os hs in
        let l = drop_leaves e in
        let image : image_in (slice_get os1) ≡ sees m k = ei ∙ ap (λ (p : Part). overlay m.image p.changes) own in
        let q : meant os1 (slice_set hs k h) ≡ after_publish k m =
        ap (λ (x : Meaning). record x { image = image_in (slice_get os1) }) l.means ∙
        ap (λ (i : Heap). record (after_drop k m) { image = i }) image in
        let good : (a : ℕ) (r : Rec) → (m.part k).changes a ≡ Some r → IsGood r =
        subst (λ (p : Part). (a : ℕ) (r : Rec) → p.changes a ≡ Some r → IsGood r) own (λ a r. g.sound.good a r) in
        let s : IsSound (after_publish k m) (length os) = publish_sound m (length os) k w held_now good in
        record {
          sound = subst (λ x. IsSound x (length os1)) (sym q) (subst (λ n. IsSound (after_publish k m) n) (sym el) s);
          means = q;
        }

-- ---- a new address

blank_image : (os : List (Option Rec)) → image_in (slice_get (os ++ None ∷ [])) ≡ image_in (slice_get os)
blank_image os = same_heap _ _ (λ a. ap (λ (t : ℕ → Option (Option Rec)). stands (t a)) (push_table os None) ∙
    here a (eqb_tells a (length os)))
  where
    here : (a : ℕ) → ((eqb a (length os) ≡ true) × (a ≡ length os)) ⊎ ((eqb a (length os) ≡ false) × (a ≢ length os)) →
        stands (cond (eqb a (length os)) (Some None) (slice_get os a)) ≡ stands (slice_get os a)
    here a (inl y) = rw y.0 (sym (ap stands (slice_get_past os a (let e = y.1 in omega arith))))
    here a (inr n) = rw n.0 refl

pub blank_leaves : (os os1 : List (Option Rec)) (hs : List Hand) (o : Option Rec) (b : Bool) →
    IsSound (meant os hs) (length os) → o ≡ None → os1 ≡ cond b (os ++ o ∷ []) os → Leaves os1 hs (meant os hs)
blank_leaves os os1 hs o true w n e = rw (e, n) (
    let q : meant (os ++ None ∷ []) hs ≡ meant os hs = ap (λ (i : Heap). record (meant os hs) { image = i })
    (blank_image os) in
    let l = length-append os (None ∷ []) in
    let s : IsSound (meant os hs) (length (os ++ None ∷ [])) =
    more_sound (meant os hs) (length os) (length (os ++ None ∷ [])) (omega arith) w in
    record { sound = subst (λ m. IsSound m (length (os ++ None ∷ []))) (sym q) s; means = q })
blank_leaves os os1 hs o false w n e = rw e (record { sound = w; means = refl })

-- a place past the image
pub past_image : (os : List (Option Rec)) (a : ℕ) → length os ≤ a → image_in (slice_get os) a ≡ None
past_image os a l = ap stands (slice_get_past os a l)

changes_none : (x : Option Hand) (a : ℕ) → holds (part_in x) a ≡ false → (part_in x).changes a ≡ None
changes_none None a e = refl
changes_none (Some h) a e = none_by ((part_of h).changes a) (h.sound.now a ∙ e)

pub past_free : (os : List (Option Rec)) (hs : List Hand) → IsSound (meant os hs) (length os) → (a : ℕ) →
    length os ≤ a → IsFree (meant os hs) a
past_free os hs w a l =
    let free = fresh_free (meant os hs) (length os) w a l in
    record {
      image = past_image os a l;
      changes = λ j. changes_none (slice_get hs j) a (free j);
      held = free;
    }

-- one hand more, with nothing in it
pub hand_more : (hs : List Hand) (h : Hand) → ((k : ℕ) → part_in (slice_get hs k) ≡ no_part) → part_of h ≡ no_part →
    (k : ℕ) → part_in (slice_get (hs ++ h ∷ []) k) ≡ no_part
hand_more hs h f e k = ap (λ (t : ℕ → Option Hand). part_in (t k)) (push_table hs h) ∙
    by_test (eqb k (length hs)) (slice_get hs k) (f k)
  where
    by_test : (t : Bool) (o : Option Hand) → part_in o ≡ no_part → part_in (cond t (Some h) o) ≡ no_part
    by_test true o q = e
    by_test false o q = q

-- ---- looks at the hands

-- the locked record of a number
pub changed_place : (xs : List Addr) (i : ℕ) (a : Addr) → i < length (places xs) →
    ((d : Addr) → a ≡ slice_index_or xs i d) → slice_get (places xs) i ≡ Some a.0
changed_place xs i a l f =
    let e = length-map xs (λ (x : Addr). x.0) in
    slice_get-map (λ (x : Addr). x.0) xs i ∙
    ap (option_map (λ (x : Addr). x.0)) (slice_get-get_or xs i a (omega arith) ∙
    ap (λ (x : Addr). Some x) (sym (f a)))

-- what holds at all events
pub told : {T E P : Type 0} (x : Result T E) → P → OnErr x P
told (Ok x) p = tt
told (Err e) p = p

-- ---- a record that the segment holds is locked again

pub lock_again : (m : Meaning) (k a : ℕ) (o : Option ℕ) → IsHolder m a o → is_some o ≡ true → NoOther m k a →
    after_mark k a m ≡ after_lock k a m
lock_again m k a None h e f = cc
lock_again m k a (Some j) h e f =
    let own : holds (m.part k) a ≡ true = elim (eqb_tells j k) [
      | inl y ↦ subst (λ i. holds (m.part i) a ≡ true) y.1 h.1
      | inr n ↦ let x : holds (m.part j) a ≡ false = f j n.1 in let y : holds (m.part j) a ≡ true = h.1 in cc
    ] in
    let r = at (sees m k) a in
    ap (λ p. with_part k p m) (sym (cond-true (holds (m.part k) a) (marked a (m.part k)) (first_locked a r (m.part k))
    own))
