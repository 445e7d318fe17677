-- The drafts of a store, by segment.
use Rattle.std.proofs.Common.{◌≡◌, ℕ, ◌<◌, Bool, true, false, cond, eqb, List, length, Option, Some, slice_get, slice_set, slice_index_or, refl, sym, ◌∙◌, ap}
use Rattle.std.proofs.lemmas.Option.{slice_get-get_or}
use Rattle.seg_store.proofs.Slices.{set_table}
use Rattle.paged_store.specs.declared.draft.Draft.{Draft}
use Rattle.paged_store.specs.Paged.{Drafted, drafted, drafted_in}
use Rattle.paged_store.specs.inner.Moves.{put}

abbrev pub drafts_in : List Draft → ℕ → Drafted
drafts_in ds = λ k. drafted_in (slice_get ds k)

-- the draft of a segment
pub read_draft : (ds : List Draft) (k : ℕ) (d : Draft) → k < length ds → d ≡ slice_index_or ds k d →
    drafted d ≡ drafts_in ds k
read_draft ds k d l e = ap drafted e ∙ sym (ap drafted_in (slice_get-get_or ds k d l))

-- another draft for it
pub set_draft : (ds : List Draft) (k : ℕ) (d : Draft) (x : Drafted) → k < length ds → drafted d ≡ x →
    drafts_in (slice_set ds k d) ≡ put k x (drafts_in ds)
set_draft ds k d x l e = (λ i j. drafted_in (set_table ds k d l i j)) ∙ (λ i j. by_test (eqb j k) (slice_get ds j) i)
  where
    by_test : (t : Bool) (o : Option Draft) → drafted_in (cond t (Some d) o) ≡ cond t x (drafted_in o)
    by_test true o = e
    by_test false o = refl
