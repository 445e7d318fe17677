-- A record with room for what is added wants no words.
use Rattle.std.proofs.Common.{◌≡◌, ℕ, ◌+◌, ◌*◌, ◌<◌, ◌≤◌, [], Some, ◌∙◌, ap, arith}
use Rattle.py_data.specs.declared.change.Change.TheVariants.{Push, Pair}
use Rattle.py_data.specs.declared.value.Value.{Value}
use Rattle.py_data.specs.Changes.{after}
use Rattle.py_data.specs.Heap.{at, has_rooms}
use Rattle.seg_store.specs.Extents.{extents}
use Rattle.seg_store.specs.Telling.{use_with, Fits, IsTelling}
use Rattle.seg_store.specs.Meaning.{sees}
use Rattle.seg_store.specs.Store.{CanChange, IsStore}
use Rattle.paged_store.specs.declared.store.PagedStore.{PagedStore}
use Rattle.paged_store.specs.Words.{Words, decode, count_by, body_size}
use Rattle.paged_store.specs.Stores.{paged_of, paged_meaning, peaks_of, reserved_of}
use Rattle.paged_store.proofs.RecordWords.{kind_is}
use Rattle.paged_store.proofs.PushWords.{has_room, has_pair_room}
use Rattle.paged_store.proofs.ExtentCounts.{push_keeps, pair_keeps}
use Rattle.paged_store.proofs.PeakLemmas.{still_fits}
use Rattle.paged_store.proofs.GrowStore.{gains_seen}
use Rattle.paged_store.proofs.StoreChanges.{words_of, list_rooms, dict_rooms}

module _ (s : PagedStore) (k a : ℕ) (l : k < (paged_meaning s).segments)
    (store : IsStore (reserved_of s) (paged_meaning s))
    (tells : IsTelling (reserved_of s) (paged_meaning s) (peaks_of s)) where
  abbrev w : Words
  w = words_of s k

  pub list_fits : (v : Value) → CanChange (sees (paged_meaning s) k) a (Push v) →
      2 * (count_by w a + 1) ≤ body_size w a
      → Fits (Some (peaks_of s)) (use_with (paged_meaning s) (sees (paged_meaning s) k a)
      (after (Push v) (at (sees (paged_meaning s) k) a))) (paged_meaning s).limit
  list_fits v can room =
      let rooms = list_rooms s k a l v can in
      still_fits (paged_of s) (sees (paged_meaning s) k a) (after (Push v) (at (sees (paged_meaning s) k) a)) store
      tells
      (gains_seen s k a l (Push v) can [] (λ n low.
      let e : extents (after (Push v) (decode w a)) n ≡ extents (decode w a) n =
      push_keeps v (decode w a) n (ap has_rooms (kind_is w a) ∙ rooms) (has_room w a rooms (omega (arith, room))) in
      omega (arith, e)))

  pub pair_fits : (key v : Value) → CanChange (sees (paged_meaning s) k) a (Pair key v) →
      2 * (count_by w a + 2) ≤ body_size w a
      → Fits (Some (peaks_of s)) (use_with (paged_meaning s) (sees (paged_meaning s) k a)
      (after (Pair key v) (at (sees (paged_meaning s) k) a))) (paged_meaning s).limit
  pair_fits key v can room =
      let rooms = dict_rooms s k a l key v can in
      still_fits (paged_of s) (sees (paged_meaning s) k a) (after (Pair key v) (at (sees (paged_meaning s) k) a)) store
      tells
      (gains_seen s k a l (Pair key v) can [] (λ n low.
      let e : extents (after (Pair key v) (decode w a)) n ≡ extents (decode w a) n =
      pair_keeps key v (decode w a) n (ap has_rooms (kind_is w a) ∙ rooms)
      (has_pair_room w a rooms (omega (arith, room))) in
      omega (arith, e)))
