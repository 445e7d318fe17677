-- Flags of addresses, with a list.
use Rattle.std.proofs.Common.{◌≡◌, inl, inr, ℕ, ◌<◌, Bool, true, false, ◌||◌, cond, eqb, List, [], ◌∷◌, ◌++◌, length, slice_set, slice_index_or, refl, sym, ◌∙◌, ap, subst}
use Rattle.std.proofs.lemmas.Bool.{or_cases}
use Rattle.std.proofs.lemmas.Bool.Decides.{eqb_tells}
use Rattle.std.proofs.lemmas.List.{length-set, get_or-set_same, get_or-set_other}
use Rattle.py_data.specs.Sight.{mem}
use Rattle.seg_store.specs.inner.Flags.{IsListed}
use Rattle.seg_store.proofs.Sees.{mem_last, same_number}

mem_more : (b a : ℕ) (xs : List ℕ) → mem b xs ≡ true → mem b (xs ++ a ∷ []) ≡ true
mem_more b a xs e = mem_last b a xs ∙ ap (λ t. eqb b a || t) e ∙ or_true (eqb b a)
  where
    or_true : (x : Bool) → (x || true) ≡ true
    or_true true = refl
    or_true false = refl

-- an address that is put in the list
pub record IsPut (flags : List Bool) (list : List ℕ) (a : ℕ) : Type 0 where
  pub listed : IsListed flags list
  pub there : mem a list ≡ true

pub listed_more : (flags : List Bool) (xs ys : List ℕ) (a : ℕ) → IsListed flags xs → a < length flags →
    ys ≡ xs ++ a ∷ [] → IsPut flags ys a
listed_more flags xs ys a w l e = rw e (record {
  listed = record {
    flagged = λ b f. mem_more b a xs (w.flagged b f);
    reached = λ b m. elim (or_cases (eqb b a) (mem b xs) (sym (mem_last b a xs) ∙ m)) [
      | inl y ↦ subst (λ i. i < length flags) (sym (is_same b a y)) l
      | inr n ↦ w.reached b n
    ];
  };
  there = mem_last a a xs ∙ ap (λ t. t || mem a xs) (same_number a);
})
  where
    is_same : (b a : ℕ) → eqb b a ≡ true → b ≡ a
    is_same b a e = elim (eqb_tells b a) [
      | inl y ↦ y.1
      | inr n ↦ cc
    ]

-- where there may have been no memory for it
pub listed_try : (flags : List Bool) (xs ys : List ℕ) (a : ℕ) (b : Bool) → IsListed flags xs → a < length flags →
    ys ≡ cond b (xs ++ a ∷ []) xs → IsListed flags ys
listed_try flags xs ys a true w l e = (listed_more flags xs ys a w l e).listed
listed_try flags xs ys a false w l e = rw e w

-- the last address of the list isn't flagged any more
pub unlisted : (flags : List Bool) (xs ys : List ℕ) (a : ℕ) → IsListed flags xs → xs ≡ ys ++ a ∷ [] →
    IsListed (slice_set flags a false) ys
unlisted flags xs ys a w e =
    let v : IsListed flags (ys ++ a ∷ []) = subst (IsListed flags) e w in
    record {
      flagged = λ b f. elim (eqb_tells b a) [
        | inl y ↦ let l = v.reached a (mem_last a a ys ∙ ap (λ t. t || mem a ys) (same_number a)) in
            let g : slice_index_or (slice_set flags a false) b false ≡ false =
            ap (λ i. slice_index_or (slice_set flags a false) i false) y.1 ∙
            get_or-set_same flags a false false l in cc
        | inr n ↦ elim (or_cases (eqb b a) (mem b ys)
            (sym (mem_last b a ys) ∙ v.flagged b (sym (get_or-set_other flags a b false false n.1) ∙ f))) [
              | inl y ↦ cc
              | inr m ↦ m
            ]
      ];
      reached = λ b m. subst (λ i. b < i) (sym (length-set flags a false)) (v.reached b (mem_more b a ys m));
    }

-- the last address of the list is within
pub last_within : (flags : List Bool) (xs ys : List ℕ) (a : ℕ) → IsListed flags xs → xs ≡ ys ++ a ∷ [] →
    a < length flags
last_within flags xs ys a w e = w.reached a (ap (mem a) e ∙ mem_last a a ys ∙ ap (λ t. t || mem a ys) (same_number a))
