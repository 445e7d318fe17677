-- One extent more that is given back.
use Rattle.std.proofs.Common.{◌≡◌, ◌≢◌, ◌⊎◌, ℕ, zero, suc, ◌+◌, ◌^◌, ◌<◌, ◌≤◌, eqb, List, [], ◌∷◌, ◌++◌, length, get_or, take, inl, inr, refl, sym, ◌∙◌, ap, subst, arith}
use Rattle.std.proofs.lemmas.Bool.Decides.{eqb_tells}
use Rattle.std.proofs.lemmas.List.{take_more, length_push}
use Rattle.page_table.specs.Pages.{Table, Shelf, in_span}
use Rattle.page_table.specs.Reserving.{after_give_back}
use Rattle.seg_store.proofs.Sees.{same_number}
use Rattle.paged_store.specs.declared.extent.Extent.{Extent}
use Rattle.paged_store.specs.Paged.{in_extent, extents_at, one_if, spare_in, spare_from, spare_at}
use Rattle.paged_store.specs.inner.Fine.{of_class}
use Rattle.paged_store.specs.inner.Ending.{HaveRoom, GivenBack}
use Rattle.paged_store.proofs.MeaningLemmas.{put_here, put_there}

-- ---- counts of one more

pub at_more : (xs : List Extent) (y : Extent) (p : ℕ) → extents_at (xs ++ y ∷ []) p ≡ extents_at xs p + one_if
    (in_extent y p)
at_more [] y p = omega arith
at_more (x ∷ xs) y p = let e = at_more xs y p in omega (arith, e)

pub class_more : (c : ℕ) (xs : List Extent) (y : Extent) →
    of_class c (xs ++ y ∷ []) ≡ of_class c xs + one_if (eqb c y.class)
class_more c [] y = omega arith
class_more c (x ∷ xs) y = let e = class_more c xs y in omega (arith, e)

pub class_take : (c i : ℕ) (xs : List Extent) → of_class c (take i xs) ≤ of_class c xs
class_take c zero xs = omega arith
class_take c (suc i) [] = omega arith
class_take c (suc i) (x ∷ xs) = let e = class_take c i xs in omega (arith, e)

spare_more : (n : ℕ) (xs : List ℕ) (y p : ℕ) → spare_in n (xs ++ y ∷ []) p ≡ spare_in n xs p + one_if (in_span y n p)
spare_more n [] y p = omega arith
spare_more n (x ∷ xs) y p = let e = spare_more n xs y p in omega (arith, e)

-- ---- what the shelves have

abbrev given_shelf : ℕ → ℕ → Table → Shelf
given_shelf c p t = record { spare = (t.shelf c).spare ++ p ∷ []; total = (t.shelf c).total }

shelf_here : (c p : ℕ) (t : Table) → (after_give_back c p t).shelf c ≡ given_shelf c p t
shelf_here c p t = put_here c (given_shelf c p t) t.shelf

shelf_there : (c p : ℕ) (t : Table) (j : ℕ) → j ≢ c → (after_give_back c p t).shelf j ≡ t.shelf j
shelf_there c p t j n = put_there c j (given_shelf c p t) t.shelf n

spare_off : (c p : ℕ) (t : Table) (q n from : ℕ) → (c < from) ⊎ (from + n ≤ c) →
    spare_from n from (after_give_back c p t) q ≡ spare_from n from t q
spare_off c p t q zero from o = refl
spare_off c p t q (suc n) from o =
    let here = ap (λ (s : Shelf). spare_in (2 ^ from) s.spare q) (shelf_there c p t from (apart o)) in
    let rest = spare_off c p t q n (from + 1) (further o) in
    omega (arith, here, rest)
  where
    apart : (c < from) ⊎ (from + suc n ≤ c) → from ≢ c
    apart (inl l) e = omega (arith, l, e)
    apart (inr l) e = omega (arith, l, e)

    further : (c < from) ⊎ (from + suc n ≤ c) → (c < from + 1) ⊎ (from + 1 + n ≤ c)
    further (inl l) = inl (omega (arith, l))
    further (inr l) = inr (omega (arith, l))

spare_on : (c p : ℕ) (t : Table) (q n from : ℕ) → from ≤ c → c < from + n →
    spare_from n from (after_give_back c p t) q ≡ spare_from n from t q + one_if (in_span p (2 ^ c) q)
spare_on c p t q zero from l r = absurd (omega arith)
spare_on c p t q (suc n) from l r = elim (eqb_tells from c) [
  | inl y ↦ (let e : from ≡ c = y.1 in
      let here : spare_in (2 ^ from) ((after_give_back c p t).shelf from).spare q ≡ spare_in (2 ^ from)
      (t.shelf from).spare q + one_if (in_span p (2 ^ c) q) =
      ap (λ i. spare_in (2 ^ i) ((after_give_back c p t).shelf i).spare q) e ∙
      ap (λ (s : Shelf). spare_in (2 ^ c) s.spare q) (shelf_here c p t) ∙ spare_more (2 ^ c) (t.shelf c).spare p q
      ∙ ap (λ i. spare_in (2 ^ i) (t.shelf i).spare q + one_if (in_span p (2 ^ c) q)) (sym e) in
      let rest = spare_off c p t q n (from + 1) (inl (omega (arith, e))) in
      omega (arith, here, rest))
  | inr m ↦ (let here = ap (λ (s : Shelf). spare_in (2 ^ from) s.spare q) (shelf_there c p t from m.1) in
      let apart = m.1 in
      let rest = spare_on c p t q n (from + 1) (omega (arith, l, apart)) (omega (arith, r)) in
      omega (arith, here, rest))
]

pub spare_given : (c p : ℕ) (t : Table) (q : ℕ) → 1 ≤ c → c ≤ 21 →
    spare_at (after_give_back c p t) q ≡ spare_at t q + one_if (in_span p (2 ^ c) q)
spare_given c p t q l r = spare_on c p t q 21 1 l (omega (arith, r))

-- ---- the loop's step

pub none_given : (t : Table) → GivenBack [] t t
none_given t = record { others = refl; total = λ c. refl; count = λ c. omega arith; spare = λ p. omega arith }

-- there is room for one more
pub room_left : (i : ℕ) (xs : List Extent) (d : Extent) (t u : Table) → i < length xs → HaveRoom xs t →
    GivenBack (take i xs) t u
    → length (u.shelf (get_or xs i d).class).spare < (u.shelf (get_or xs i d).class).total
room_left i xs d t u l room g =
    let c = (get_or xs i d).class in
    let more : of_class c (take (i + 1) xs) ≡ of_class c (take i xs) + one_if (eqb c c) =
    ap (of_class c) (take_more xs i d l) ∙ class_more c (take i xs) (get_or xs i d) in
    let one : one_if (eqb c c) ≡ 1 = ap one_if (same_number c) in
    let fewer = class_take c (i + 1) xs in
    let had = room c in
    let count = g.count c in
    let total = g.total c in
    omega (arith, more, one, fewer, had, count, total)

pub give_step : (i : ℕ) (xs : List Extent) (d : Extent) (t u v : Table) → i < length xs → 1 ≤ (get_or xs i d).class →
    (get_or xs i d).class ≤ 21 → GivenBack (take i xs) t u
    → v ≡ after_give_back (get_or xs i d).class (get_or xs i d).place u → GivenBack (take (i + 1) xs) t v
give_step i xs d t u v l low high g e =
    subst (λ ys. GivenBack ys t v) (sym (take_more xs i d l))
    (subst (GivenBack (take i xs ++ get_or xs i d ∷ []) t) (sym e) (more (get_or xs i d) low high))
  where
    more : (x : Extent) → 1 ≤ x.class → x.class ≤ 21 →
        GivenBack (take i xs ++ x ∷ []) t (after_give_back x.class x.place u)
    more x low high = record {
      others = λ j. record (g.others j) { shelf = (after_give_back x.class x.place u).shelf };
      total = λ c. total x c;
      count = λ c. count x c;
      spare = λ p. let a = spare_given x.class x.place u p low high in let b = g.spare p in let m =
          at_more (take i xs) x p in omega (arith, a, b, m);
    }
      where
        total : (x : Extent) (c : ℕ) → ((after_give_back x.class x.place u).shelf c).total ≡ (t.shelf c).total
        total x c = elim (eqb_tells c x.class) [
          | inl y ↦ ap (λ k. ((after_give_back x.class x.place u).shelf k).total) y.1 ∙
              ap (λ (s : Shelf). s.total) (shelf_here x.class x.place u) ∙ ap (λ k. (u.shelf k).total) (sym y.1) ∙
              g.total c
          | inr n ↦ ap (λ (s : Shelf). s.total) (shelf_there x.class x.place u c n.1) ∙ g.total c
        ]

        count : (x : Extent) (c : ℕ) → length ((after_give_back x.class x.place u).shelf c).spare ≡ length
            (t.shelf c).spare + of_class c (take i xs ++ x ∷ [])
        count x c = elim (eqb_tells c x.class) [
          | inl y ↦ (let is = ap (λ k. length ((after_give_back x.class x.place u).shelf k).spare) y.1 ∙
              ap (λ (s : Shelf). length s.spare) (shelf_here x.class x.place u) ∙
              length_push (u.shelf x.class).spare x.place ∙ ap (λ k. length (u.shelf k).spare + 1) (sym y.1) in
              let m = class_more c (take i xs) x in let one = ap one_if y.0 in let b = g.count c in
              omega (arith, is, m, one, b))
          | inr n ↦ (let is = ap (λ (s : Shelf). length s.spare) (shelf_there x.class x.place u c n.1) in
              let m = class_more c (take i xs) x in let none = ap one_if n.0 in let b = g.count c in
              omega (arith, is, m, none, b))
        ]
