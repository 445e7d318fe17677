-- The index of a record with extents that were nobody's: other records have no place of it.
use Rattle.std.proofs.Common.{◌≡◌, ◌≢◌, ◌⊎◌, ℕ, suc, zero, ◌*◌, ◌<◌, ◌≤◌, true, ◌||◌, eqb, List, [], ◌∷◌, Option, None, Some, IsSome, inl, inr, refl, sym, ◌∙◌, ap, subst, arith}
use Rattle.std.proofs.lemmas.Bool.{cond-true}
use Rattle.std.proofs.lemmas.Bool.Decides.{eqb_tells}
use Rattle.py_data.specs.declared.value.Value.{Value}
use Rattle.py_data.specs.declared.value.Value.TheVariants.{Unset, None as NoneValue, Bool as BoolValue, Int, Ref, Builtin}
use Rattle.py_data.specs.Heap.{Rec, Heap, Has, value_at}
use Rattle.py_data.specs.Shape.{KindIn, is_key_kind, IsKey, ArePairs}
use Rattle.dict_index.proofs.Pairs.{later}
use Rattle.page_table.specs.Pages.{Table}
use Rattle.paged_store.specs.declared.sight.Seen.{Seen}
use Rattle.paged_store.specs.Words.{Words, index_by, index_size, in_index}
use Rattle.paged_store.specs.inner.Formed.{Lays, AgreeOn}
use Rattle.paged_store.specs.inner.Indexing.{Avoids, KeyAvoids}
use Rattle.paged_store.specs.inner.Sight.{Stands, CanRead, IsKeySeen}
use Rattle.paged_store.specs.State.{State}
use Rattle.paged_store.specs.inner.Sound.{Sound}
use Rattle.paged_store.specs.inner.Written.{Changed, owned_by, parted}
use Rattle.paged_store.proofs.FrameLemmas.{agree_on_own, formed_agrees, lays_agrees, places_agree}
use Rattle.paged_store.proofs.PartLemmas.{false_from, own_of_record, index_not_head, index_not_body}
use Rattle.paged_store.proofs.SightLemmas.{seen_lays, seen_formed, seen_reserved, seen_some}
use Rattle.paged_store.proofs.StandLemmas.{stands_by}
use Rattle.paged_store.proofs.StateLemmas.{none_or_some, reserved_place}

module _ (own role : Words) (s : State) (g : Sound own role s) (k a : ℕ) (some : a ≢ 0) (now : Words)
    (e part : ℕ → ℕ) (r : Rec) (c : Changed own role (s.now k).word now a e part r) (reserved : ℕ)
    (more : s.reserved ≤ reserved) (free : (q : ℕ) → 0 < e q → (own q ≡ 0) × (q < reserved)) where
  -- a place of the record was its own, or nobody's
  was_own : (q : ℕ) → owned_by own e a q ≡ a → (own q ≡ a) ⊎ (0 < e q)
  was_own q h = elim (none_or_some (e q)) [
    | inl z ↦ inl (sym (cond-true (eqb (e q) 0) (own q) a (ap (λ n. eqb n 0) z)) ∙ h)
    | inr z ↦ inr z
  ]

  pub new_stands : Stands now reserved a
  new_stands = stands_by now reserved a
      (λ q i. elim (was_own q (own_of_record (owned_by own e a) (parted role e part) now a q c.lays i)) [
        | inl o ↦ (let l = (reserved_place own role s g q (λ z. some (sym o ∙ z))).0 in omega (arith, l, more))
        | inr z ↦ (free q z).1
      ]) c.formed

  new_avoids : Avoids now (index_by now a) (index_size now a) a
  new_avoids = record {
    head = λ q i. index_not_head (owned_by own e a) (parted role e part) now a q c.lays i;
    body = λ q i. index_not_body (owned_by own e a) (parted role e part) now a q c.lays i;
  }

  module _ (b : ℕ) (there : (s.image b || (s.now k).holds b) ≡ true) where
    module _ (other : b ≢ a) where
      agrees : AgreeOn (s.now k).word now b
      agrees = agree_on_own own role (s.now k).word now b (seen_lays own role s k g b there)
          (λ q o. sym (c.others q (λ z. other (sym o ∙ z)) (elim (none_or_some (e q)) [
            | inl z ↦ z
            | inr z ↦ absurd (seen_some own role s k g b there (sym o ∙ (free q z).0))
          ])))

      lays_now : Lays own role now b
      lays_now = lays_agrees own role (s.now k).word now b agrees (seen_lays own role s k g b there)

      -- no place of the index is another record's
      not_own : (q : ℕ) → in_index now a q ≡ true → own q ≡ b → ⊥
      not_own q i o = elim (was_own q (c.lays.index q i).0) [
        | inl z ↦ other (sym o ∙ z)
        | inr z ↦ seen_some own role s k g b there (sym o ∙ (free q z).0)
      ]

      other_avoids : Avoids now (index_by now a) (index_size now a) b
      other_avoids = record {
        head = λ q i. false_from _ (λ h. not_own q i (lays_now.head q h).0);
        body = λ q i. false_from _ (λ h. not_own q i (lays_now.body q h).0);
      }

      other_stands : Stands now reserved b
      other_stands = stands_by now reserved b
          (λ q i. let l = seen_reserved own role s k g b q there (places_agree (s.now k).word now b q agrees ∙ i) in
          omega (arith, l, more)) (formed_agrees (s.now k).word now b agrees (seen_formed own role s k g b there))

    pub each_avoids : Avoids now (index_by now a) (index_size now a) b
    each_avoids = elim (eqb_tells b a) [
      | inl y ↦ subst (Avoids now (index_by now a) (index_size now a)) (sym y.1) new_avoids
      | inr n ↦ other_avoids n.1
    ]

    pub each_stands : Stands now reserved b
    each_stands = elim (eqb_tells b a) [
      | inl y ↦ subst (Stands now reserved) (sym y.1) new_stands
      | inr n ↦ other_stands n.1
    ]

-- ---- keys

-- what holds of each possible key, and of no value, holds of the key of each number
pub keys_each : (h : Heap) (vs : List Value) (P : Value → Type 0) → P Unset → ((v : Value) → IsKey h v → P v)
    → ArePairs h vs → (j : ℕ) → P (value_at vs (2 * j))
keys_each h [] P none each p j = none
keys_each h (k ∷ []) P none each p j = absurd p
keys_each h (k ∷ v ∷ rest) P none each p zero = each k p.0
keys_each h (k ∷ v ∷ rest) P none each p (suc j) = subst P (sym (later k v rest j))
    (keys_each h rest P none each p.1 j)

key_there : (o : Option Rec) → KindIn o (λ q. is_key_kind q ≡ true) → IsSome o
key_there None p = absurd p
key_there (Some r) p = refl

-- the record of a key is there
module _ (h : Heap) where
  pub key_avoids : (w : Words) (place n : ℕ) → ((b : ℕ) → Has h b → Avoids w place n b) → (v : Value) → IsKey h v
      → KeyAvoids w place n v
  key_avoids w place n each Unset k = tt
  key_avoids w place n each NoneValue k = tt
  key_avoids w place n each (BoolValue b) k = tt
  key_avoids w place n each (Int i) k = tt
  key_avoids w place n each (Ref a) k = each a.0 (key_there (h a.0) k)
  key_avoids w place n each (Builtin b) k = tt

  pub key_readable : (t : Table) (seen : Seen) → ((b : ℕ) → Has h b → CanRead t seen b) → (v : Value) → IsKey h v
      → IsKeySeen t seen v
  key_readable t seen each Unset k = tt
  key_readable t seen each NoneValue k = tt
  key_readable t seen each (BoolValue b) k = tt
  key_readable t seen each (Int i) k = tt
  key_readable t seen each (Ref a) k = each a.0 (key_there (h a.0) k)
  key_readable t seen each (Builtin b) k = tt
