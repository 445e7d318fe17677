-- A dictionary that a segment sees has slots, which no other record that is read with it has a place of.
use Rattle.std.proofs.Common.{◌≡◌, ◌≢◌, ℕ, ◌<◌, true, false, Some, refl, sym, ◌∙◌, ap, subst}
use Rattle.std.proofs.Props.{props}
use Rattle.std.proofs.Math.Logic.{∥∥₁_elim}
use Rattle.py_base.specs.declared.kind.Kind.TheVariants.{Dict}
use Rattle.py_data.specs.declared.value.Value.{Value}
use Rattle.py_data.specs.declared.value.Value.TheVariants.{Unset, None as NoneValue, Bool as BoolValue, Int, Ref, Builtin}
use Rattle.py_data.specs.Heap.{Heap, Has}
use Rattle.py_data.specs.Shape.{KindIn, is_key_kind, IsKey, ArePairs, Fits}
use Rattle.py_data.specs.Sense.{IfThere}
use Rattle.seg_store.specs.Meaning.{sees}
use Rattle.seg_store.specs.Store.{CanFind}
use Rattle.page_table.specs.Lists.{table_of}
use Rattle.paged_store.specs.declared.sight.Seen.TheVariants.{Segment}
use Rattle.paged_store.specs.declared.store.PagedStore.{PagedStore}
use Rattle.paged_store.specs.Stores.{paged_of, paged_meaning}
use Rattle.paged_store.specs.Words.{Words, decode, kind_by, index_by, index_size, in_head, in_body}
use Rattle.paged_store.specs.inner.Formed.{Lays}
use Rattle.paged_store.specs.inner.Indexing.{Avoids, KeyAvoids, HasSlots}
use Rattle.paged_store.specs.Paged.{state_of}
use Rattle.paged_store.specs.inner.Sight.{words_seen}
use Rattle.paged_store.specs.State.{meaning_in}
use Rattle.paged_store.specs.inner.Sound.{Sound}
use Rattle.paged_store.proofs.PartLemmas.{false_from, index_not_head, index_not_body}
use Rattle.paged_store.proofs.RecordWords.{kind_is}
use Rattle.paged_store.proofs.SightLemmas.{seen_lays, seen_there}
use Rattle.paged_store.proofs.KeyedLemmas.{dict_keys}
use Rattle.paged_store.proofs.StandLemmas.{has_kind}
use Rattle.paged_store.proofs.MakeIndex.{pairs_each}
use Rattle.paged_store.proofs.StoreEnds.{table_segment}
use Rattle.paged_store.proofs.DictReads.{pairs_prop, dict_extent}
use Rattle.paged_store.proofs.StoreReads.{seen_shown, keys_seen}

module _ (s : PagedStore) (k d : ℕ) (l : k < (paged_meaning s).segments) (there : Has (sees (paged_meaning s) k) d)
    (kind : kind_by (words_seen (table_of s.pages) (Segment k)) d ≡ Dict) where
  abbrev w : Words
  w = words_seen (table_of s.pages) (Segment k)

  abbrev h : Heap
  h = sees (paged_meaning s) k

  record_is : (b : ℕ) → Has h b → h b ≡ Some (decode w b)
  record_is b t = (seen_shown s k).is b t

  pairs : ArePairs h (decode w d).values
  pairs = ∥∥₁_elim s.sound.fine.keyed (pairs_prop h (decode w d).values)
      (λ q. (dict_keys (paged_meaning s) k d (decode w d) q (record_is d there) (kind_is w d ∙ kind)).0)

  -- so any key may be looked for in it, as None
  can_find : CanFind h d NoneValue
  can_find = subst (λ o. IfThere false o (λ r. Fits h r NoneValue)) (sym (record_is d there))
      (kind_is w d ∙ kind, tt, pairs)

  lays_by : (own role : Words) → Sound own role (state_of (paged_of s)) → (b : ℕ) → Has h b → Lays own role w b
  unfolding meaning_in state_of
  lays_by own role g b t = seen_lays own role (state_of (paged_of s)) k g b
      (seen_there own role (state_of (paged_of s)) k g b t)

  avoids_by : (own role : Words) → Sound own role (state_of (paged_of s)) → (b : ℕ) → Has h b → b ≢ d
      → Avoids w (index_by w d) (index_size w d) b
  avoids_by own role g b t n =
      let its = lays_by own role g b t in
      let mine = lays_by own role g d there in record {
        head = λ q i. false_from (in_head b q) (λ x. n (sym (its.head q x).0 ∙ (mine.index q i).0));
        body = λ q i. false_from (in_body w b q) (λ x. n (sym (its.body q x).0 ∙ (mine.index q i).0));
      }

  avoids : (b : ℕ) → Has h b → b ≢ d → Avoids w (index_by w d) (index_size w d) b
  avoids b t n = ∥∥₁_elim s.sound.fine.sound (hlevel props) (λ x. avoids_by x.0 x.1.0 x.1.1 b t n)

  own_by : (own role : Words) → Sound own role (state_of (paged_of s)) → Avoids w (index_by w d) (index_size w d) d
  own_by own role g = let mine = lays_by own role g d there in record {
    head = λ q i. index_not_head own role w d q mine i;
    body = λ q i. index_not_body own role w d q mine i;
  }

  -- a record of a kind that keys have is no dictionary
  key_kind : (b : ℕ) → Has h b → KindIn (h b) (λ q. is_key_kind q ≡ true) → b ≢ d
  key_kind b t i e =
      let x : is_key_kind (decode w b).kind ≡ true = subst (λ o. KindIn o (λ q. is_key_kind q ≡ true)) (record_is b t) i
      in
      let y : is_key_kind Dict ≡ true = ap is_key_kind (sym (kind_is w b ∙ ap (kind_by w) e ∙ kind)) ∙ x in
      absurd (cc)

  key_avoids : (x : Value) → IsKey h x → KeyAvoids w (index_by w d) (index_size w d) x
  key_avoids Unset i = tt
  key_avoids NoneValue i = tt
  key_avoids (BoolValue b) i = tt
  key_avoids (Int n) i = tt
  key_avoids (Builtin n) i = tt
  key_avoids (Ref b) i =
      let t = has_kind (h b.0) (λ q. is_key_kind q ≡ true) i in avoids b.0 t (key_kind b.0 t i)

  pub dict_slots : HasSlots k d (index_by w d) (index_size w d) (table_of s.pages)
  dict_slots = record {
    segment = table_segment s k l;
    stands = (seen_shown s k).stands d there;
    kind = kind_is w d ∙ kind;
    at = refl;
    size = refl;
    within = dict_extent s k d there kind;
    keys = keys_seen s k d NoneValue l can_find;
    apart = ∥∥₁_elim s.sound.fine.sound (hlevel props) (λ x. own_by x.0 x.1.0 x.1.1);
    keys_apart = λ j. pairs_each h (KeyAvoids w (index_by w d) (index_size w d)) tt key_avoids
        (decode w d).values pairs j;
  }
