-- A record whose words are written, and then those of its index besides.
use Rattle.std.proofs.Common.{◌≡◌, ◌≢◌, ℕ, Bool, true, false, eqb, ◌⊎◌, inl, inr, sym, ◌∙◌}
use Rattle.std.proofs.lemmas.Bool.{both_ways, cond-true}
use Rattle.std.proofs.lemmas.Bool.Decides.{eqb_tells}
use Rattle.py_data.specs.Heap.{Rec}
use Rattle.paged_store.specs.Words.{Words, in_head, in_body, in_index}
use Rattle.paged_store.specs.inner.Moves.{never}
use Rattle.paged_store.specs.inner.Written.{Changed, owned_by, parted}
use Rattle.paged_store.proofs.PartLemmas.{false_from, index_not_head, index_not_body}
use Rattle.paged_store.proofs.SpanLemmas.{in_third}
use Rattle.paged_store.proofs.FrameLemmas.{HeadSame, head_same, decode_same, places_same, formed_same, lays_same}
use Rattle.paged_store.proofs.ChangeCall.{InPlaceOf}

-- words v that differ from `now` in the places of the record's index alone
module _ (own role w now v : Words) (a : ℕ) (e part : ℕ → ℕ) (r : Rec) (c : Changed own role w now a e part r)
    (off : (q : ℕ) → in_index now a q ≡ false → v q ≡ now q) where
  head_off : (q : ℕ) → in_head a q ≡ true → now q ≡ v q
  head_off q h = sym (off q (false_from (in_index now a q) (λ i. both_ways (in_head a q)
      (index_not_head (owned_by own e a) (parted role e part) now a q c.lays i) h)))

  body_off : (q : ℕ) → in_body now a q ≡ true → now q ≡ v q
  body_off q h = sym (off q (false_from (in_index now a q) (λ i. both_ways (in_body now a q)
      (index_not_body (owned_by own e a) (parted role e part) now a q c.lays i) h)))

  others_off : (q : ℕ) → own q ≢ a → e q ≡ 0 → v q ≡ w q
  others_off q n z = off q (false_from (in_index now a q) (λ i. n (sym (own_still z) ∙ (c.lays.index q i).0))) ∙
      c.others q n z
    where
      own_still : e q ≡ 0 → owned_by own e a q ≡ own q
      own_still z = elim (eqb_tells (e q) 0) [
        | inl y ↦ cond-true (eqb (e q) 0) (own q) a y.0
        | inr m ↦ absurd (m.1 z)
      ]

  pub changed_again : Changed own role w v a e part r
  changed_again =
      let h : HeadSame now v a = head_same now v a head_off in
      record {
        means = sym (decode_same now v a head_off body_off) ∙ c.means;
        formed = formed_same now v a h c.formed;
        lays = lays_same (owned_by own e a) (parted role e part) now v a h c.lays;
        others = others_off;
      }

-- ---- changes in place

-- the words that a change leaves, and then those of the index besides
module _ (w now v : Words) (t u : ℕ → Bool) (a : ℕ) (r : Rec) (i : InPlaceOf w now t a r)
    (places : (q : ℕ) → in_index now a q ≡ in_index w a q) (off : (q : ℕ) → in_index w a q ≡ false → v q ≡ now q)
    (wide : (q : ℕ) → u q ≡ true → (in_index w a q ≡ true) ⊎ (t q ≡ true))
    (narrow : (q : ℕ) → u q ≡ false → (v q ≡ now q) × (t q ≡ false)) where
  pub index_after : InPlaceOf w v u a r
  index_after = record {
    inside = λ q x. elim (wide q x) [
      | inl y ↦ in_third (in_head a q) (in_body w a q) (in_index w a q) y
      | inr y ↦ i.inside q y
    ];
    off = λ q x. (let n = narrow q x in n.0 ∙ i.off q n.1);
    changed = λ own role l. changed_again own role w now v a never never r (i.changed own role l)
        (λ q n. off q (sym (places q) ∙ n));
  }

-- the words of the index, and then those that a change leaves of these
module _ (w words now : Words) (t u : ℕ → Bool) (a : ℕ) (r : Rec) (i : InPlaceOf words now t a r)
    (off : (q : ℕ) → in_index w a q ≡ false → words q ≡ w q) (same : HeadSame w words a)
    (wide : (q : ℕ) → u q ≡ true → (in_index w a q ≡ true) ⊎ (t q ≡ true))
    (narrow : (q : ℕ) → u q ≡ false → (in_index w a q ≡ false) × (t q ≡ false)) where
  pub index_before : InPlaceOf w now u a r
  index_before = record {
    inside = λ q x. elim (wide q x) [
      | inl y ↦ in_third (in_head a q) (in_body w a q) (in_index w a q) y
      | inr y ↦ places_same w words a q same ∙ i.inside q y
    ];
    off = λ q x. (let n = narrow q x in i.off q n.1 ∙ off q n.0);
    changed = λ own role l.
        let c = i.changed own role (lays_same own role w words a same l) in record {
          means = c.means;
          formed = c.formed;
          lays = c.lays;
          others = λ q n z. c.others q n z ∙ off q (false_from (in_index w a q) (λ y. n (l.index q y).0));
        };
  }
