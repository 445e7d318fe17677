-- A segment publishes, drops what it has in hand, and takes its step back, on a store's fields in memory.
use Rattle.std.proofs.Common.{◌≡◌, ℕ, ◌<◌, Bool, List, length, slice_index_or, slice_set, refl, sym, ◌∙◌, ap, subst}
use Rattle.std.proofs.lemmas.List.{length-set}
use Rattle.seg_store.specs.Meaning.{Meaning}
use Rattle.seg_store.specs.Calls.{after_undo, after_publish, after_drop}
use Rattle.seg_marks.specs.Marks.{Marked, holders_of, granules}
use Rattle.page_table.specs.Pages.{Table}
use Rattle.page_table.specs.Lists.{Lists, table_of}
use Rattle.paged_store.specs.declared.draft.Draft.{Draft}
use Rattle.paged_store.specs.declared.store.PagedStore.{PagedStore}
use Rattle.paged_store.specs.State.{meaning_in}
use Rattle.paged_store.specs.inner.Moves.{put}
use Rattle.paged_store.specs.Paged.{Drafted, no_draft, drafted, Paged, state_of, taken_since}
use Rattle.paged_store.specs.inner.Fine.{held_by, touched_by, FitsTable}
use Rattle.paged_store.specs.inner.Drafts.{step_undone}
use Rattle.paged_store.specs.inner.Ending.{HaveRoom, pushes, restores, rewinds, GivenBack, among, free_of, Released, Shown, made_since}
use Rattle.paged_store.specs.Stores.{paged_of, paged_meaning}
use Rattle.paged_store.proofs.SegmentDrafts.{drafts_in, read_draft}
use Rattle.paged_store.proofs.FineLemmas.{Leaves}
use Rattle.paged_store.proofs.EndLemmas.{ended, room_all, room_step}
use Rattle.paged_store.proofs.EndCalls.{publish_leaves, drop_leaves, undo_leaves}
use Rattle.paged_store.proofs.StoreCalls.{segment_in, SameTable, Stands, stands_after, drafts_after}

-- the number of a segment of a store is one of its table
pub table_segment : (s : PagedStore) (k : ℕ) → k < (paged_meaning s).segments → k < (table_of s.pages).segments
unfolding meaning_in state_of
table_segment s k l = l

module _ (s : PagedStore) (k : ℕ) (l : k < (paged_meaning s).segments) (g : Draft)
    (is : g ≡ slice_index_or s.drafts.items k g) where
  read : drafted g ≡ (paged_of s).drafts k
  read = read_draft s.drafts.items k g (segment_in s k l) is

  -- the draft fits
  pub draft_fits : FitsTable (table_of s.pages) (length s.present.items) k (drafted g)
  draft_fits = subst (FitsTable (table_of s.pages) (length s.present.items) k) (sym read) (s.sound.fine.fits.drafts k)

  pub draft_fits_marks : FitsTable (table_of s.pages) (granules s.marks) k (drafted g)
  draft_fits_marks = subst (λ n. FitsTable (table_of s.pages) n k (drafted g)) (sym s.sound.addresses) draft_fits

  pub room_for_all : HaveRoom (drafted g).taken (table_of s.pages)
  room_for_all = subst (λ (d : Drafted). HaveRoom d.taken (table_of s.pages)) (sym read)
      (room_all (paged_of s) k s.sound.fine.fits (table_segment s k l))

  pub room_for_step : HaveRoom (taken_since (drafted g)) (table_of s.pages)
  room_for_step = subst (λ (d : Drafted). HaveRoom (taken_since d) (table_of s.pages)) (sym read)
      (room_step (paged_of s) k s.sound.fine.fits (table_segment s k l))

  module _ (d : Draft) (u : Lists) (ps : List Bool) (t : Marked) (f : ℕ → Bool) (released : Released f s.marks t) where
    -- the store's fields once the draft has become another
    ends_stand : (x : Drafted) (m : Meaning) → drafted d ≡ x → SameTable (table_of s.pages) (table_of u) →
        length ps ≡ length s.present.items
        → Leaves (ended k x (table_of u) ps (holders_of t) (paged_of s)) m →
        Stands u ps t (slice_set s.drafts.items k d) m
    ends_stand x m e same present v =
        let after : drafts_in (slice_set s.drafts.items k d) ≡ put k x (paged_of s).drafts =
        drafts_after s k l g d is (λ y. x) e in
        stands_after s u ps t (slice_set s.drafts.items k d) m same present released.sizes
        (length-set s.drafts.items k d)
        (subst (λ (y : Paged). Leaves y m) (sym (λ i. record {
          table = table_of u;
          present = ps;
          holder = holders_of t;
          looked = released.marks i;
          drafts = after i;
        })) v)

  pub publish_stands : (d : Draft) (u : Lists) (ps : List Bool) (t : Marked) → drafted d ≡ no_draft →
      table_of u ≡ pushes k (touched_by (drafted g)) (table_of s.pages)
      → Shown (among (drafted g).made) s.present.items ps → Released (held_by (drafted g)) s.marks t →
      Stands u ps t (slice_set s.drafts.items k d) (after_publish k (paged_meaning s))
  publish_stands d u ps t e table shown released = ends_stand d u ps t (held_by (drafted g)) released no_draft
      (after_publish k (paged_meaning s)) e
      (ap (λ (x : Table). x.segments) table, ap (λ (x : Table). x.pages) table) shown.count
      (publish_leaves (paged_of s) k s.sound.fine (table_segment s k l) ps (holders_of t) (table_of u)
      (subst (λ x. table_of u ≡ pushes k (touched_by x) (table_of s.pages)) read table)
      (subst (λ (x : Drafted). Shown (among x.made) s.present.items ps) read shown)
      (subst (λ x. holders_of t ≡ free_of (held_by x) (holders_of s.marks)) read released.holders))

  pub drop_stands : (d : Draft) (u : Lists) (t : Marked) → drafted d ≡ no_draft →
      GivenBack (drafted g).taken (restores k (touched_by (drafted g)) (table_of s.pages)) (table_of u)
      → Released (held_by (drafted g)) s.marks t → Stands u s.present.items t (slice_set s.drafts.items k d)
      (after_drop k (paged_meaning s))
  drop_stands d u t e back released = ends_stand d u s.present.items t (held_by (drafted g)) released no_draft
      (after_drop k (paged_meaning s)) e
      (ap (λ (x : Table). x.segments) back.others, ap (λ (x : Table). x.pages) back.others) refl
      (drop_leaves (paged_of s) k s.sound.fine (table_segment s k l) (holders_of t) (table_of u)
      (subst (λ (x : Drafted). GivenBack x.taken (restores k (touched_by x) (table_of s.pages)) (table_of u)) read back)
      (subst (λ x. holders_of t ≡ free_of (held_by x) (holders_of s.marks)) read released.holders))

  pub undo_stands : (d : Draft) (u : Lists) (t : Marked) → drafted d ≡ step_undone (drafted g) →
      GivenBack (taken_since (drafted g)) (rewinds k (drafted g) (table_of s.pages)) (table_of u)
      → Released (among (made_since (drafted g))) s.marks t →
      Stands u s.present.items t (slice_set s.drafts.items k d) (after_undo k (paged_meaning s))
  undo_stands d u t e back released = ends_stand d u s.present.items t (among (made_since (drafted g))) released
      (step_undone ((paged_of s).drafts k)) (after_undo k (paged_meaning s)) (e ∙ ap step_undone read)
      (ap (λ (x : Table). x.segments) back.others, ap (λ (x : Table). x.pages) back.others) refl
      (undo_leaves (paged_of s) k s.sound.fine (table_segment s k l) (holders_of t) (table_of u)
      (subst (λ x. GivenBack (taken_since x) (rewinds k x (table_of s.pages)) (table_of u)) read back)
      (subst (λ x. holders_of t ≡ free_of (among (made_since x)) (holders_of s.marks)) read released.holders))
