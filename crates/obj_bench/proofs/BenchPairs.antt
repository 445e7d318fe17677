-- Dictionaries of the numbers from 0 on: their pairs are made one after another, and the record fits.
use Rattle.std.proofs.Common.{◌≡◌, ℕ, ℤ, zero, suc, ◌+◌, ◌*◌, ◌^◌, ◌<◌, ◌≤◌, Bool, true, false, cond, List, [], ◌∷◌, ◌++◌, length, Option, Some, None, refl, sym, ap, subst, ◌∙◌, arith, pos, append_assoc, to_z, of_z, w64}
use Rattle.std.specs.Ordering.{int_eq}
use Rattle.std.specs.Int.RustNames.{unsigned_abs}
use Rattle.std.proofs.lemmas.Int.{to_z-of_z, fits_signed_from_abs}
use Rattle.std.proofs.lemmas.Bool.Decides.{Decides-int_eq}
use Rattle.py_data.specs.declared.value.Value.{Value}
use Rattle.py_data.specs.declared.value.Value.TheVariants.{Int, Unset}
use Rattle.py_base.specs.declared.kind.Kind.{Kind}
use Rattle.py_base.specs.declared.kind.Kind.TheVariants.{Dict, Class, Function, Cell}
use Rattle.py_data.specs.Every.{Every}
use Rattle.py_data.specs.Heap.{Heap, new_rec}
use Rattle.py_data.specs.Closed.{IsItem}
use Rattle.py_data.specs.Shape.{ArePairs, KeysDiffer, find_from}
use Rattle.py_data.specs.Order.{FitsAt}
use Rattle.py_data.proofs.Making.{made_fits}
use Rattle.obj_bench.specs.Bench.{free, pairs_from}

pairs_more : (i n : ℕ) → pairs_from i (suc n) ≡ pairs_from i n ++ Int (pos (i + n)) ∷ Int (pos 0) ∷ []
pairs_more i zero = ap (λ j. Int (pos j) ∷ Int (pos 0) ∷ []) (omega arith)
pairs_more i (suc n) = let e : suc i + n ≡ i + suc n = omega arith in
    ap (λ vs. Int (pos i) ∷ Int (pos 0) ∷ vs)
    (pairs_more (suc i) n ∙ ap (λ j. pairs_from (suc i) n ++ Int (pos j) ∷ Int (pos 0) ∷ []) e)

-- a number as code has it
as_number : (n : ℕ) (i : ℤ) → n < 4_294_967_296 → i ≡ pos n → to_z w64 (of_z w64 i) ≡ pos n
as_number n i l e =
    let less : unsigned_abs (pos n) < 2 ^ 63 = omega (arith, l) in
    ap (λ z. to_z w64 (of_z w64 z)) e ∙ to_z-of_z w64 (pos n) (fits_signed_from_abs w64 (pos n) less)

-- one pair more
pub pairs_step : (n : ℕ) (i : ℤ) (vs ws xs : List Value) → n < 4_294_967_296 → i ≡ pos n → vs ≡ pairs_from 0 n →
    ws ≡ vs ++ Int (to_z w64 (of_z w64 i)) ∷ [] → xs ≡ ws ++ Int (pos 0) ∷ [] → xs ≡ pairs_from 0 (n + 1)
pairs_step n i vs ws xs l same e f g =
    let none : 0 + n ≡ n = omega arith in
    let next : suc n ≡ n + 1 = omega arith in
    let ends = Int (pos n) ∷ Int (pos 0) ∷ [] in
    let first : ws ≡ vs ++ Int (pos n) ∷ [] = f ∙ ap (λ z. vs ++ Int z ∷ []) (as_number n i l same) in
    g ∙ ap (λ zs. zs ++ Int (pos 0) ∷ []) first ∙ append_assoc vs (Int (pos n) ∷ []) (Int (pos 0) ∷ []) ∙
    ap (λ zs. zs ++ ends) e ∙ sym (pairs_more 0 n ∙ ap (λ m. pairs_from 0 n ++ Int (pos m) ∷ Int (pos 0) ∷ [])
    none) ∙ ap (pairs_from 0) next

pub pairs_length : (i n : ℕ) → length (pairs_from i n) ≡ 2 * n
pairs_length i zero = refl
pairs_length i (suc n) = omega (arith, pairs_length (suc i) n)

pub pairs_keys : (h : Heap) (i n : ℕ) → ArePairs h (pairs_from i n)
pairs_keys h i zero = tt
pairs_keys h i (suc n) = (tt, pairs_keys h (suc i) n)

pairs_items : (h : Heap) (i n : ℕ) → Every (IsItem h) (pairs_from i n)
pairs_items h i zero = tt
pairs_items h i (suc n) = (
  (tt, λ e. let z : Int (pos i) ≡ Unset = e in cc),
  ((tt, λ e. let z : Int (pos 0) ≡ Unset = e in cc), pairs_items h (suc i) n),
)

skip : (b : Bool) → (b ≡ true → ⊥) → (x o : Option ℕ) → cond b x o ≡ o
skip true n x o = absurd (n refl)
skip false n x o = refl

find_less : (h : Heap) (m i j n : ℕ) → j < i → find_from h m (pairs_from i n) (Int (pos j)) ≡ None
find_less h m i j zero l = refl
find_less h m i j (suc n) l =
    let differ : int_eq (pos i) (pos j) ≡ true → ⊥ = λ e. let f = (Decides-int_eq (pos i) (pos j)).0 e in
    let g : i ≡ j = cc in omega (arith, g, l) in
    skip (int_eq (pos i) (pos j)) differ (Some m) (find_from h (m + 1) (pairs_from (suc i) n) (Int (pos j))) ∙
    find_less h (m + 1) (suc i) j n (omega (arith, l))

pub pairs_differ : (h : Heap) (i n : ℕ) → KeysDiffer h (pairs_from i n)
pairs_differ h i zero = tt
pairs_differ h i (suc n) = (find_less h 0 (suc i) i n (omega arith), pairs_differ h (suc i) n)

-- a dictionary of these pairs may stand in each heap
pub pairs_fit : (h : Heap) (a n : ℕ) (vs : List Value) (bs : List ℕ) → vs ≡ pairs_from 0 n → bs ≡ [] → n ≤ 524_288 →
    FitsAt free h a (new_rec Dict vs bs)
pairs_fit h a n vs bs e f l = subst (λ bs. FitsAt free h a (new_rec Dict vs bs)) (sym f)
    (subst (λ vs. FitsAt free h a (new_rec Dict vs [])) (sym e) all)
  where
    all : FitsAt free h a (new_rec Dict (pairs_from 0 n) [])
    all =
        made_fits free h a Dict (pairs_from 0 n) [] (λ e. let z : Dict ≡ Class = e in cc)
        (λ e. let z : Dict ≡ Function = e in cc) (λ e. let z : Dict ≡ Cell = e in cc)
        (pairs_items h 0 n) (pairs_keys h 0 n, pairs_differ h 0 n) refl (omega (arith, pairs_length 0 n, l))
        (omega arith)
