-- A store's calls on its fields in memory.
use Rattle.std.proofs.Common.{◌≡◌, ℕ, ◌<◌, Bool, true, false, cond, List, length, get_or, slice_index_or, slice_set, Option, Some, None, IsSome, is_some, inl, inr, refl, sym, ◌∙◌, ap, subst, arith}
use Rattle.std.proofs.lemmas.Bool.{cases_lt, both_ways}
use Rattle.std.proofs.lemmas.List.{length-set}
use Rattle.std.proofs.lemmas.Option.{slice_get_past}
use Rattle.py_data.specs.Collection.{places}
use Rattle.py_data.specs.Heap.{Rec, Has, Marks}
use Rattle.py_data.specs.Sight.{no_marks, with_mark}
use Rattle.seg_store.specs.Meaning.{Meaning, over, sees, holds}
use Rattle.seg_store.specs.Calls.{after_begin, after_mark, after_lock, after_open}
use Rattle.seg_store.specs.Store.{IsHolder}
use Rattle.seg_store.proofs.Sees.{same_number}
use Rattle.seg_marks.specs.Marks.{Marked, marks_of, holders_of, segments, granules, SameSizes}
use Rattle.page_table.specs.Pages.{Table}
use Rattle.page_table.specs.Lists.{Lists, table_of}
use Rattle.paged_store.specs.declared.draft.Draft.{Draft}
use Rattle.paged_store.specs.declared.store.PagedStore.{PagedStore}
use Rattle.paged_store.specs.State.{meaning_in}
use Rattle.paged_store.specs.inner.Moves.{put}
use Rattle.paged_store.specs.Paged.{Drafted, drafted, drafted_in, Paged, state_of, paged_by}
use Rattle.paged_store.specs.inner.Fine.{names, Fits, IsPaged}
use Rattle.paged_store.specs.Words.{decode}
use Rattle.paged_store.specs.inner.Drafts.{with_lock, step_opened}
use Rattle.paged_store.specs.Stores.{paged_of, paged_meaning}
use Rattle.paged_store.proofs.SegmentDrafts.{drafts_in, read_draft, set_draft}
use Rattle.paged_store.proofs.FineLemmas.{Leaves}
use Rattle.paged_store.proofs.HolderLemmas.{none_named}
use Rattle.paged_store.proofs.LookCalls.{in_hand, begin_leaves, mark_leaves, open_leaves, same_leaves}
use Rattle.paged_store.proofs.LockCall.{there_within, image_there, lock_leaves}

-- there is a draft for a segment
pub segment_in : (s : PagedStore) (k : ℕ) → k < (paged_meaning s).segments → k < length s.drafts.items
unfolding meaning_in state_of
segment_in s k l = omega (arith, l, s.sound.count)

-- these fields are a store's, and mean m
pub record Stands (pages : Lists) (present : List Bool) (marks : Marked) (drafts : List Draft) (m : Meaning) : Type 0
  where
    pub sound : IsPaged pages present marks drafts
    pub means : meaning_in (state_of (paged_by pages present marks drafts)) ≡ m

-- a table has as many segments and pages
abbrev pub SameTable : Table → Table → Type 0
SameTable t u = (u.segments ≡ t.segments) × (u.pages ≡ t.pages)

-- other fields, of the same sizes
pub stands_after : (s : PagedStore) (u : Lists) (ps : List Bool) (t : Marked) (ds : List Draft) (m : Meaning) →
    SameTable (table_of s.pages) (table_of u) → length ps ≡ length s.present.items → SameSizes s.marks t →
    length ds ≡ length s.drafts.items → Leaves (paged_by u ps t ds) m → Stands u ps t ds m
stands_after s u ps t ds m table present sizes drafts v = record {
  sound = record {
    count = drafts ∙ s.sound.count ∙ sym table.0;
    rows = sizes.segments ∙ s.sound.rows ∙ sym table.0;
    addresses = sizes.granules ∙ s.sound.addresses ∙ sym present;
    bound = (let a = table.1 in let b = s.sound.bound in let c = sizes.granules in omega (arith, a, b, c));
    fine = v.fine;
  };
  means = v.means;
}

-- a record of the image stands at an address where the list says so
pub stands_is : (s : PagedStore) (a : ℕ) (b : Bool) → b ≡ get_or s.present.items a false →
    b ≡ is_some ((paged_meaning s).image a)
unfolding meaning_in state_of
stands_is s a b e = e ∙ by_test (decode (paged_of s).table.shared a) (get_or s.present.items a false)
  where
    by_test : (r : Rec) (there : Bool) → there ≡ is_some (cond there (Some r) None)
    by_test r true = refl
    by_test r false = refl

-- ---- another draft for a segment

module _ (s : PagedStore) (k : ℕ) (l : k < (paged_meaning s).segments) (g d : Draft)
    (is : g ≡ slice_index_or s.drafts.items k g) where
  -- it is what f makes of the one before
  pub drafts_after : (f : Drafted → Drafted) → drafted d ≡ f (drafted g) →
      drafts_in (slice_set s.drafts.items k d) ≡ put k (f (drafts_in s.drafts.items k)) (drafts_in s.drafts.items)
  drafts_after f e = set_draft s.drafts.items k d (f (drafts_in s.drafts.items k)) (segment_in s k l)
      (e ∙ ap f (read_draft s.drafts.items k g (segment_in s k l) is))

  draft_stands : (m : Meaning) → Leaves (paged_by s.pages s.present.items s.marks (slice_set s.drafts.items k d)) m →
      Stands s.pages s.present.items s.marks (slice_set s.drafts.items k d) m
  draft_stands m v = stands_after s s.pages s.present.items s.marks (slice_set s.drafts.items k d) m (refl, refl) refl
      (record { segments = refl; granules = refl }) (length-set s.drafts.items k d) v

  pub same_stands : drafted d ≡ drafted g →
      Stands s.pages s.present.items s.marks (slice_set s.drafts.items k d) (paged_meaning s)
  same_stands e = draft_stands (paged_meaning s)
      (same_leaves (paged_of s) k (drafts_in (slice_set s.drafts.items k d)) s.sound.fine (drafts_after (λ x. x) e))

  pub open_stands : drafted d ≡ step_opened (drafted g) →
      Stands s.pages s.present.items s.marks (slice_set s.drafts.items k d) (after_open k (paged_meaning s))
  open_stands e = draft_stands (after_open k (paged_meaning s))
      (open_leaves (paged_of s) k (drafts_in (slice_set s.drafts.items k d)) s.sound.fine (drafts_after step_opened e))

-- ---- looks

module _ (s : PagedStore) (k : ℕ) (t : Marked) (sizes : SameSizes s.marks t) (same : holders_of t ≡ holders_of s.marks)
  where
    marks_stand : (looked : ℕ → Marks) (m : Meaning) → marks_of t ≡ looked →
        Leaves (record (paged_of s) { looked = looked }) m → Stands s.pages s.present.items t s.drafts.items m
    marks_stand looked m e v = stands_after s s.pages s.present.items t s.drafts.items m (refl, refl) refl sizes refl
        (subst (λ (x : Paged). Leaves x m) (sym (λ i. record (paged_of s) { holder = same i; looked = e i })) v)

    pub begin_stands : marks_of t ≡ put k no_marks (marks_of s.marks) →
        Stands s.pages s.present.items t s.drafts.items (after_begin k (paged_meaning s))
    begin_stands e = marks_stand (put k no_marks (marks_of s.marks)) (after_begin k (paged_meaning s)) e
        (begin_leaves (paged_of s) k s.sound.fine)

    pub mark_stands : (a : ℕ) → marks_of t ≡ put k (with_mark a (marks_of s.marks k)) (marks_of s.marks) →
        Stands s.pages s.present.items t s.drafts.items (after_mark k a (paged_meaning s))
    mark_stands a e = marks_stand (put k (with_mark a (marks_of s.marks k)) (marks_of s.marks))
        (after_mark k a (paged_meaning s)) e (mark_leaves (paged_of s) k a s.sound.fine)

-- there is a row of marks for a segment
pub segment_marks : (s : PagedStore) (k : ℕ) → k < (paged_meaning s).segments → k < segments s.marks
unfolding meaning_in state_of
segment_marks s k l = (let e = s.sound.rows in omega (arith, l, e))

pub look_is : (s : PagedStore) (k a : ℕ) → ((paged_meaning s).part k).looked a ≡ marks_of s.marks k a
unfolding meaning_in state_of
look_is s k a = refl

-- a record that a segment sees has a granule
seen_within : (p : Paged) (k a : ℕ) → Fits p → Has (sees (meaning_in (state_of p)) k) a → a < length p.present
unfolding meaning_in state_of
seen_within p k a f there = by_hand (in_hand k (p.drafts k) a) refl there
  where
    by_hand : (b : Bool) → in_hand k (p.drafts k) a ≡ b
        → IsSome (over (cond b (Some (decode (p.table.word k) a)) None)
        (cond (get_or p.present a false) (Some (decode p.table.shared a)) None))
        → a < length p.present
    by_hand true e h = (f.drafts k).holds a e
    by_hand false e h = there_within p.present a (image_there p.present a (decode p.table.shared a) h)

pub seen_granule : (s : PagedStore) (k a : ℕ) → Has (sees (paged_meaning s) k) a → a < granules s.marks
seen_granule s k a there = (let l = seen_within (paged_of s) k a s.sound.fine.fits there in
    let e = s.sound.addresses in omega (arith, l, e))

-- ---- who holds a record

-- the segment of a draft that has something is one
in_hand_within : (ds : List Draft) (j a : ℕ) → in_hand j (drafts_in ds j) a ≡ true → j < length ds
in_hand_within ds j a e = elim (cases_lt j (length ds)) [
  | inl l ↦ l
  | inr n ↦ (let z : in_hand j (drafts_in ds j) a ≡ false =
      ap (λ o. in_hand j (drafted_in o) a) (slice_get_past ds j n) in absurd (both_ways _ z e))
]

pub holder_is : (s : PagedStore) (a : ℕ) (o : Option ℕ) → o ≡ holders_of s.marks a → IsHolder (paged_meaning s) a o
unfolding meaning_in state_of
holder_is s a None e = λ j. sym (s.sound.fine.fits.holders j a) ∙ ap (λ x. names x j) (sym e)
holder_is s a (Some i) e =
    let held : in_hand i (drafts_in s.drafts.items i) a ≡ true = sym (s.sound.fine.fits.holders i a)
    ∙ ap (λ x. names x i) (sym e) ∙ same_number i in
    (let w = in_hand_within s.drafts.items i a held in let c = s.sound.count in omega (arith, w, c), held)

-- a record that no segment has in hand is free
pub free_granule : (s : PagedStore) (a : ℕ) → ((j : ℕ) → holds ((paged_meaning s).part j) a ≡ false) →
    holders_of s.marks a ≡ None
unfolding meaning_in state_of
free_granule s a free = none_named (holders_of s.marks a) (λ j. s.sound.fine.fits.holders j a ∙ free j)

-- ---- a segment's draft, as the meaning has it

pub part_changed : (s : PagedStore) (k : ℕ) → k < (paged_meaning s).segments → (d : Draft) →
    d ≡ slice_index_or s.drafts.items k d → ((paged_meaning s).part k).changed ≡ places d.changed
unfolding meaning_in state_of drafted
part_changed s k l d is = sym (ap (λ x. x.changed) (read_draft s.drafts.items k d (segment_in s k l) is))

-- ---- a lock

pub image_granule : (s : PagedStore) (a : ℕ) → Has (paged_meaning s).image a → a < granules s.marks
unfolding meaning_in state_of
image_granule s a there = let l = there_within s.present.items a (image_there s.present.items a _ there) in let e =
    s.sound.addresses in omega (arith, l, e)

pub lock_stands : (s : PagedStore) (k : ℕ) → k < (paged_meaning s).segments → (g d : Draft) →
    g ≡ slice_index_or s.drafts.items k g → (a : ℕ) → Has (paged_meaning s).image a →
    ((j : ℕ) → holds ((paged_meaning s).part j) a ≡ false)
    → drafted d ≡ with_lock a (drafted g) → (t : Marked) → SameSizes s.marks t →
    marks_of t ≡ put k (with_mark a (marks_of s.marks k)) (marks_of s.marks) →
    holders_of t ≡ put a (Some k) (holders_of s.marks) →
    Stands s.pages s.present.items t (slice_set s.drafts.items k d) (after_lock k a (paged_meaning s))
unfolding meaning_in state_of
lock_stands s k l g d is a there free e t sizes marks holders =
    let p = paged_of s in
    let after : drafts_in (slice_set s.drafts.items k d) ≡ put k (with_lock a (p.drafts k)) p.drafts =
    drafts_after s k l g d is (with_lock a) e in
    stands_after s s.pages s.present.items t (slice_set s.drafts.items k d) (after_lock k a (paged_meaning s))
    (refl, refl) refl sizes (length-set s.drafts.items k d)
    (subst (λ (x : Paged). Leaves x (after_lock k a (paged_meaning s)))
    (sym (λ i. record p { holder = holders i; looked = marks i; drafts = after i }))
    (lock_leaves p k a s.sound.fine (image_there s.present.items a _ there) free))
