-- What a pair less asks of a dictionary's words.
use Rattle.std.proofs.Common.{◌≡◌, ℕ, ◌<◌, sym, ◌∙◌}
use Rattle.py_base.specs.declared.kind.Kind.TheVariants.{Dict}
use Rattle.py_data.specs.declared.change.Change.TheVariants.{Unpair}
use Rattle.seg_store.specs.Meaning.{sees}
use Rattle.seg_store.specs.Store.{CanChange}
use Rattle.page_table.specs.Lists.{table_of}
use Rattle.paged_store.specs.declared.store.PagedStore.{PagedStore}
use Rattle.paged_store.specs.Stores.{paged_meaning}
use Rattle.paged_store.specs.Words.{kind_by, index_by, index_size}
use Rattle.paged_store.specs.inner.Indexed.{IsIndexed}
use Rattle.paged_store.specs.inner.Indexing.{HasSlots}
use Rattle.paged_store.proofs.RecordWords.{kind_is}
use Rattle.paged_store.proofs.DictReads.{dict_right}
use Rattle.paged_store.proofs.DictSlots.{dict_slots}
use Rattle.paged_store.proofs.StoreChanges.{words_of, there, allowed}

module _ (s : PagedStore) (k d : ℕ) (l : k < (paged_meaning s).segments) (pair : ℕ)
    (can : CanChange (sees (paged_meaning s) k) d (Unpair pair)) where
  is_dict : kind_by (words_of s k) d ≡ Dict
  is_dict = sym (kind_is (words_of s k) d) ∙ (allowed s k d l (Unpair pair) can).0.0

  pub gone_slots : HasSlots k d (index_by (words_of s k) d) (index_size (words_of s k) d) (table_of s.pages)
  gone_slots = dict_slots s k d l (there s k d l (Unpair pair) can) is_dict

  pub gone_right : IsIndexed (words_of s k) d
  gone_right = dict_right s k d (there s k d l (Unpair pair) can) is_dict
