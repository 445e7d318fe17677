-- A segment locks a record of the image that none holds, on a store's fields.
use Rattle.std.proofs.Common.{◌≡◌, ℕ, ◌+◌, ◌<◌, ◌≤◌, Bool, true, false, cond, ◌||◌, eqb, List, [], ◌∷◌, ◌++◌, length, take, get_or, Option, Some, None, IsSome, is_some, inl, inr, refl, sym, ◌∙◌, subst}
use Rattle.std.proofs.Math.Logic.{∥∥₁_map}
use Rattle.std.proofs.lemmas.Bool.{cases_lt, both_ways}
use Rattle.std.proofs.lemmas.List.{get_or_past}
use Rattle.py_data.specs.Heap.{Rec, Has}
use Rattle.py_data.specs.Sight.{mem, with_mark}
use Rattle.seg_store.specs.Meaning.{Meaning, over, sees, holds}
use Rattle.seg_store.specs.Calls.{after_lock}
use Rattle.seg_store.specs.Store.{NoOther, IsStore}
use Rattle.paged_store.specs.Words.{Words, decode}
use Rattle.paged_store.specs.State.{State, meaning_in}
use Rattle.paged_store.specs.inner.Sound.{Sound}
use Rattle.paged_store.specs.inner.Counted.{IsCounted}
use Rattle.paged_store.specs.inner.Moves.{put, with_held, locks}
use Rattle.paged_store.specs.Paged.{Paged, state_of, hand_now, hand_before}
use Rattle.paged_store.specs.inner.Fine.{names, of_class, sum_to, counts_of, FitsTable, Fits, Fine}
use Rattle.paged_store.specs.inner.Drafts.{with_lock}
use Rattle.paged_store.proofs.OverLemmas.{put_self, put_still}
use Rattle.paged_store.proofs.StateLemmas.{put_each, put_two}
use Rattle.paged_store.proofs.MemLemmas.{one_more, locked_more}
use Rattle.paged_store.proofs.HolderLemmas.{held_in, names_more}
use Rattle.paged_store.proofs.LockMove.{locks_sound, locks_means}
use Rattle.paged_store.proofs.Keeping.{lock_kept}
use Rattle.paged_store.proofs.FineLemmas.{known_of, Leaves, Went, leaves_of}
use Rattle.paged_store.proofs.CountLemmas.{counted_lock}
use Rattle.paged_store.proofs.KeyedLemmas.{keyed_lock}
use Rattle.paged_store.proofs.IndexedLemmas.{locks_indexed}
use Rattle.paged_store.proofs.CountCalls.{counts_still}
use Rattle.paged_store.proofs.LookCalls.{with_draft, state_put, in_hand}

pub there_within : (xs : List Bool) (a : ℕ) → get_or xs a false ≡ true → a < length xs
there_within xs a e = elim (cases_lt a (length xs)) [
  | inl y ↦ y
  | inr n ↦ absurd (both_ways _ (get_or_past xs a false n) e)
]

-- a record that stands in the image
pub image_there : (xs : List Bool) (a : ℕ) (r : Rec) → IsSome (cond (get_or xs a false) (Some r) None) →
    get_or xs a false ≡ true
image_there xs a r e = by_test (get_or xs a false) e
  where
    by_test : (b : Bool) → IsSome (cond b (Some r) None) → b ≡ true
    by_test true e = refl
    by_test false e = absurd (cc)

-- what a segment sees and doesn't hold stands in the image
pub image_has : (n : ℕ) (m : Meaning) (k a : ℕ) → IsStore n m → Has (sees m k) a → holds (m.part k) a ≡ false →
    Has m.image a
image_has n m k a w there free = by_changes ((m.part k).changes a) (w.changes k a ∙ free) there
  where
    by_changes : (o : Option Rec) → is_some o ≡ false → IsSome (over o (m.image a)) → IsSome (m.image a)
    by_changes None e h = h
    by_changes (Some r) e h = absurd (cc)

module _ (p : Paged) (k a : ℕ) (f : Fine p) (is : get_or p.present a false ≡ true)
    (free : (j : ℕ) → in_hand j (p.drafts j) a ≡ false) where
  lock_fits_table : FitsTable p.table (length p.present) k (with_lock a (p.drafts k))
  lock_fits_table = let d = f.fits.drafts k in record {
    spans = d.spans;
    taken = d.taken;
    classes = d.classes;
    notes = d.notes;
    noted_touched = d.noted_touched;
    holds = λ b e. one_more (λ x. x < length p.present) a b (in_hand k (p.drafts k) b)
        (locked_more a b (in_hand k (p.drafts k) b) (p.drafts k).changed (p.drafts k).made refl ∙ e)
        (there_within p.present a is) (d.holds b);
    spans_before = d.spans_before;
    taken_before = d.taken_before;
    made_before = d.made_before;
    once = d.once;
  }

  abbrev locked : Paged
  locked = record (with_draft k (with_lock a (p.drafts k)) p) {
    holder = put a (Some k) p.holder;
    looked = put k (with_mark a (p.looked k)) p.looked;
  }

  free_names : (j : ℕ) → names (p.holder a) j ≡ false
  free_names j = f.fits.holders j a ∙ free j

  lock_fits : Fits locked
  lock_fits = record {
    drafts = put_each (λ j x. FitsTable p.table (length p.present) j x) k (with_lock a (p.drafts k)) p.drafts
        lock_fits_table (λ j n. f.fits.drafts j);
    holders = λ j b. names_more p.holder k a free_names j b ∙
        put_two (λ j g x. g b ≡ in_hand j x b) k (λ b. eqb b a || held_in p.holder k b) (held_in p.holder)
        (with_lock a (p.drafts k)) p.drafts
        (locked_more a b (held_in p.holder k b) (p.drafts k).changed (p.drafts k).made (f.fits.holders k b))
        (λ j n. f.fits.holders j b) j;
    counted = λ c. subst (λ g. sum_to p.table.segments g + length (p.table.shelf c).spare ≤ (p.table.shelf c).total)
        (sym (put_still (λ j x. of_class c x.taken) k (with_lock a (p.drafts k)) p.drafts refl)) (f.fits.counted c);
  }

  -- the hands hold it
  now_locked : hand_now p.table k (with_lock a (p.drafts k)) ≡ with_held a (hand_now p.table k (p.drafts k))
  now_locked = λ i. record (hand_now p.table k (p.drafts k)) {
    holds = λ b. sym (locked_more a b (in_hand k (p.drafts k) b) (p.drafts k).changed (p.drafts k).made refl) i;
  }

  before_locked : hand_before p.table k (with_lock a (p.drafts k)) ≡ with_held a (hand_before p.table k (p.drafts k))
  before_locked =
      let kept : List ℕ = take (p.drafts k).made_before (p.drafts k).made in
      λ i. record (hand_before p.table k (p.drafts k)) {
        holds = λ b. sym (locked_more a b (mem b (p.drafts k).changed || mem b kept) (p.drafts k).changed kept refl) i;
      }

  state_locked : state_of locked ≡ locks k a (state_of p)
  unfolding state_of
  state_locked =
      let s : State = state_of p in
      (λ i. record (state_put p k (with_lock a (p.drafts k)) i) { looked = put k (with_mark a (s.looked k)) s.looked })
      ∙ (λ i. record s {
        now = put k (now_locked i) s.now;
        before = put k (before_locked i) s.before;
        changed = put k ((p.drafts k).changed ++ a ∷ []) s.changed;
        made = put_self k (s.made k) s.made refl i;
        kept_made = put_self k (s.kept_made k) s.kept_made refl i;
        looked = put k (with_mark a (s.looked k)) s.looked;
      })

  went : (own role : Words) → Sound own role (state_of p) →
      Went (locks k a (state_of p)) (after_lock k a (meaning_in (state_of p)))
  unfolding state_of
  went own role g = record {
    own = own;
    role = role;
    sound = locks_sound own role (state_of p) k a g is (λ j. g.held j a ∙ free j);
    means = locks_means own role (state_of p) k a g is (λ j. g.held j a ∙ free j);
  }

  there : Has (sees (meaning_in (state_of p)) k) a
  unfolding meaning_in state_of
  there = over_there (((meaning_in (state_of p)).part k).changes a) (get_or p.present a false) is
    where
      over_there : (o : Option Rec) (b : Bool) → b ≡ true →
          IsSome (over o (cond b (Some (decode p.table.shared a)) None))
      over_there None b e = subst (λ t. IsSome (cond t (Some (decode p.table.shared a)) None)) (sym e) refl
      over_there (Some r) b e = refl

  no_other : NoOther (meaning_in (state_of p)) k a
  unfolding meaning_in state_of
  no_other = λ j n. free j

  there_image : (state_of p).image a ≡ true
  unfolding state_of
  there_image = is

  pub lock_leaves : Leaves locked (after_lock k a (meaning_in (state_of p)))
  lock_leaves =
      let w = known_of p f in
      leaves_of p locked (locks k a (state_of p)) (after_lock k a (meaning_in (state_of p))) f lock_fits state_locked
      went
      (lock_kept p.table.reserved p.table.reserved k (meaning_in (state_of p)) w w.room a there no_other)
      (subst (IsCounted (after_lock k a (meaning_in (state_of p))))
      (sym (counts_still p.table k (with_lock a (p.drafts k)) p.drafts refl refl))
      (counted_lock p.table.reserved (meaning_in (state_of p)) (counts_of p) k a w there f.counted))
      (∥∥₁_map f.keyed (λ q. keyed_lock p.table.reserved (meaning_in (state_of p)) k a w there q))
      (locks_indexed (state_of p) k a there_image f.indexed)
