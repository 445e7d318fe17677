-- Equality of lists and of dictionaries, part by part: what it says where it is true, and that it is symmetric and
-- transitive where that of the parts is.
use Rattle.std.proofs.Common.{arith, ◌≡◌, Bool, true, false, cond, List, [], ◌∷◌, length, Option, Some, None, refl, sym, ap, subst, ◌∙◌, ◌⊎◌, inl, inr}
use Rattle.std.specs.Prelude.{eqb}
use Rattle.std.proofs.lemmas.Bool.{eqb-true}
use Rattle.std.proofs.lemmas.Bool.Decides.{Decides-eqb}
use Rattle.py_data.specs.declared.value.Value.{Value}
use Rattle.py_data.specs.declared.record.Got.{Got}
use Rattle.py_data.specs.declared.record.Got.TheVariants.{Is, Raise}
use Rattle.py_data.specs.Fault.{depth_fault}
use Rattle.py_data.specs.Every.{Every}
use Rattle.py_data.specs.Heap.{Heap}
use Rattle.py_data.specs.Shape.{same_key, find, IsKey, ArePairs}
use Rattle.py_data.specs.Comparing.{and_then, equal_found, equal_items, equal_pairs, of_one_length}
use Rattle.obj_nest.proofs.KeyLemmas.{key_same, key_turned}
use Rattle.obj_nest.proofs.PairSearch.{has_for, met_by, met_found, EachPair, each_weaken, each_both, Apart, has_unlike, has_first, has_congr, found_pair, without, fewer, has_without, apart_without, unlike_without, put_back}

-- ---- answers
abbrev pub Fine : Got Bool → Type 0
Fine g = (g ≡ Is true) ⊎ (g ≡ Raise depth_fault)

fine_both : (g next : Got Bool) → Fine g → Fine next → Fine (and_then g next)
fine_both g next (inl e) n = subst (λ g. Fine (and_then g next)) (sym e) n
fine_both g next (inr e) n = inr (ap (λ g. and_then g next) e)

both_are : (g next : Got Bool) → and_then g next ≡ Is true → (g ≡ Is true) × (next ≡ Is true)
both_are (Is true) next e = (refl, e)
both_are (Is false) next e = absurd (let q : ◌≡◌ {A = Got Bool} (Is false) (Is true) = e in cc)
both_are (Raise f) next e = absurd (let q : ◌≡◌ {A = Got Bool} (Raise f) (Is true) = e in cc)

true_both : (g next : Got Bool) → g ≡ Is true → next ≡ Is true → and_then g next ≡ Is true
true_both g next e n = ap (λ g. and_then g next) e ∙ n

met_true : (u : Value → Value → Got Bool) (x : Value) (o : Option Value) → met_by u x o ≡ Is true →
    (y : Value) × (o ≡ Some y) × (u x y ≡ Is true)
unfolding met_by
met_true u x None e = absurd (let q : ◌≡◌ {A = Got Bool} (Is false) (Is true) = e in cc)
met_true u x (Some y) e = (y, refl, e)

pub same_lengths : (xs ys : List Value) (g : Got Bool) → of_one_length xs ys g ≡ Is true →
    (length xs ≡ length ys) × (g ≡ Is true)
same_lengths xs ys g e = by (eqb (length xs) (length ys)) refl e
  where
    by : (b : Bool) → eqb (length xs) (length ys) ≡ b → cond b g (Is false) ≡ Is true →
        (length xs ≡ length ys) × (g ≡ Is true)
    by true s f = (eqb-true (length xs) (length ys) s, f)
    by false s f = absurd (let q : ◌≡◌ {A = Got Bool} (Is false) (Is true) = f in cc)

pub one_length : (xs ys : List Value) (g : Got Bool) → length xs ≡ length ys → of_one_length xs ys g ≡ g
one_length xs ys g e = ap (λ b. cond b g (Is false)) ((Decides-eqb (length xs) (length ys)).1 e)

-- ---- dictionaries: for each pair, what the other one has for the key
abbrev pub Matched : Heap → (Value → Value → Got Bool) → List Value → List Value → Type 0
Matched h u xs ys = EachPair (λ k x. (y : Value) × (has_for h ys k ≡ Some y) × (u x y ≡ Is true)) xs

module _ (h : Heap) (u : Value → Value → Got Bool) where
  pub pairs_matched : (xs ys : List Value) → equal_pairs h u xs ys ≡ Is true → Matched h u xs ys
  unfolding EachPair
  pairs_matched [] ys e = tt
  pairs_matched (k ∷ []) ys e = tt
  pairs_matched (k ∷ x ∷ rest) ys e =
      let both = both_are (equal_found u ys x (find h ys k)) (equal_pairs h u rest ys) e in
      (met_true u x (has_for h ys k) (sym (met_found h u x k ys) ∙ both.0), pairs_matched rest ys both.1)

  pub matched_pairs : (xs ys : List Value) → Matched h u xs ys → equal_pairs h u xs ys ≡ Is true
  unfolding EachPair met_by
  matched_pairs [] ys m = refl
  matched_pairs (k ∷ []) ys m = refl
  matched_pairs (k ∷ x ∷ rest) ys m =
      true_both (equal_found u ys x (find h ys k)) (equal_pairs h u rest ys)
      (met_found h u x k ys ∙ (ap (met_by u x) m.0.1 ∙ m.0.2)) (matched_pairs rest ys m.1)

  -- of as many pairs, each of which is matched, each of the other one's is too
  pub matched_turned : ((x y : Value) → u x y ≡ Is true → u y x ≡ Is true) → (xs ys : List Value) → Apart h xs →
      Apart h ys → length xs ≡ length ys → Matched h u xs ys → Matched h u ys xs
  unfolding EachPair Apart
  matched_turned turn [] [] a b l m = tt
  matched_turned turn [] (j ∷ ys) a b l m = absurd (omega (arith, l))
  matched_turned turn (k ∷ []) ys a b l m = absurd a
  matched_turned turn (k ∷ x ∷ rest) ys a b l m =
      let y = m.0.0 in
      let others : Matched h u rest (without h ys k) =
      each_both (λ j v. same_key h k j ≡ false) (λ j v. (w : Value) × (has_for h ys j ≡ Some w) × (u v w ≡ Is true))
      (λ j v. (w : Value) × (has_for h (without h ys k) j ≡ Some w) × (u v w ≡ Is true))
      (λ j v e s. (s.0, has_without h k ys j e ∙ s.1, s.2)) rest a.0 m.1 in
      let shorter : length rest ≡ length (without h ys k) = let f = fewer h k ys y m.0.1 in omega (arith, l, f) in
      let back = matched_turned turn rest (without h ys k) a.1 (apart_without h k ys b) shorter others in
      let all = each_both (λ j v. same_key h k j ≡ false)
      (λ j v. (w : Value) × (has_for h rest j ≡ Some w) × (u v w ≡ Is true))
      (λ j v. (w : Value) × (has_for h (k ∷ x ∷ rest) j ≡ Some w) × (u v w ≡ Is true))
      (λ j v e s. (s.0, has_unlike h k x rest j e ∙ s.1, s.2)) (without h ys k) (unlike_without h k ys b) back in
      put_back h k (λ j v. (w : Value) × (has_for h (k ∷ x ∷ rest) j ≡ Some w) × (u v w ≡ Is true)) ys y m.0.1
      (λ j s. (x, has_first h k x rest j (key_turned h j k s), turn x y m.0.2)) all

  pub matched_joined : ((x y z : Value) → u x y ≡ Is true → u y z ≡ Is true → u x z ≡ Is true) →
      (xs ys zs : List Value) → Matched h u xs ys → Matched h u ys zs → Matched h u xs zs
  matched_joined join xs ys zs m n =
      each_weaken (λ k x. (y : Value) × (has_for h ys k ≡ Some y) × (u x y ≡ Is true))
      (λ k x. (z : Value) × (has_for h zs k ≡ Some z) × (u x z ≡ Is true))
      (λ k x s. let f = found_pair h (λ j y. (z : Value) × (has_for h zs j ≡ Some z) × (u y z ≡ Is true)) ys k s.0 n
      s.1 in (f.2.0, sym (has_congr h zs f.0 k f.1) ∙ f.2.1, join x s.0 f.2.0 s.2 f.2.2)) xs m

  -- in itself a dictionary has for each key what its pair has
  own_pairs : (xs : List Value) → Apart h xs → ArePairs h xs → EachPair (λ k x. has_for h xs k ≡ Some x) xs
  unfolding EachPair Apart
  own_pairs [] a p = tt
  own_pairs (k ∷ []) a p = absurd a
  own_pairs (k ∷ x ∷ rest) a p = (
    has_first h k x rest k (key_same h k (λ q. subst (IsKey h) q p.0)),
    each_both (λ j v. same_key h k j ≡ false) (λ j v. has_for h rest j ≡ Some v)
        (λ j v. has_for h (k ∷ x ∷ rest) j ≡ Some v) (λ j v e s. has_unlike h k x rest j e ∙ s) rest a.0
        (own_pairs rest a.1 p.1),
  )

  own_fine : (xs ys : List Value) → EachPair (λ k x. has_for h ys k ≡ Some x) xs → Every (λ x. Fine (u x x)) xs →
      Fine (equal_pairs h u xs ys)
  unfolding EachPair met_by
  own_fine [] ys m f = inl refl
  own_fine (k ∷ []) ys m f = inl refl
  own_fine (k ∷ x ∷ rest) ys m f =
      fine_both (equal_found u ys x (find h ys k)) (equal_pairs h u rest ys)
      (subst Fine (sym (met_found h u x k ys ∙ ap (met_by u x) m.0)) f.1.0) (own_fine rest ys m.1 f.1.1)

  pub pairs_fine : (xs : List Value) → Apart h xs → ArePairs h xs → Every (λ x. Fine (u x x)) xs →
      Fine (equal_pairs h u xs xs)
  pairs_fine xs a p f = own_fine xs xs (own_pairs xs a p) f

-- ---- items
module _ (u : Value → Value → Got Bool) where
  pub items_fine : (xs : List Value) → Every (λ x. Fine (u x x)) xs → Fine (equal_items u xs xs)
  items_fine [] f = inl refl
  items_fine (x ∷ xs) f = fine_both (u x x) (equal_items u xs xs) f.0 (items_fine xs f.1)

  pub items_turned : ((x y : Value) → u x y ≡ Is true → u y x ≡ Is true) → (xs ys : List Value) →
      equal_items u xs ys ≡ Is true → equal_items u ys xs ≡ Is true
  items_turned turn [] [] e = refl
  items_turned turn [] (y ∷ ys) e = refl
  items_turned turn (x ∷ xs) [] e = refl
  items_turned turn (x ∷ xs) (y ∷ ys) e = let b = both_are (u x y) (equal_items u xs ys) e in
      true_both (u y x) (equal_items u ys xs) (turn x y b.0) (items_turned turn xs ys b.1)

  pub items_joined : ((x y z : Value) → u x y ≡ Is true → u y z ≡ Is true → u x z ≡ Is true) → (xs ys zs : List Value)
      → length xs ≡ length ys → equal_items u xs ys ≡ Is true → equal_items u ys zs ≡ Is true →
      equal_items u xs zs ≡ Is true
  items_joined join [] ys zs l e f = refl
  items_joined join (x ∷ xs) ys [] l e f = refl
  items_joined join (x ∷ xs) [] (z ∷ zs) l e f = absurd (omega (arith, l))
  items_joined join (x ∷ xs) (y ∷ ys) (z ∷ zs) l e f =
      let b = both_are (u x y) (equal_items u xs ys) e in
      let c = both_are (u y z) (equal_items u ys zs) f in
      true_both (u x z) (equal_items u xs zs) (join x y z b.0 c.0)
      (items_joined join xs ys zs (omega (arith, l)) b.1 c.1)
