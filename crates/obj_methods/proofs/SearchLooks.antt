-- The search of a list only looks, and which place it answers.
use Rattle.std.proofs.Common.{arith, ◌≡◌, ℕ, zero, suc, ◌+◌, ◌<◌, ℤ, pos, Bool, true, false, cond, List, [], ◌∷◌, length, drop, Option, Some, None, refl, sym, ap, subst, ◌∙◌}
use Rattle.std.proofs.Math.ListN.{drop_of_length-le}
use Rattle.std.proofs.lemmas.List.{drop_more}
use Rattle.py_base.specs.declared.kind.Kind.TheVariants.{List as ListKind, Cell}
use Rattle.py_data.specs.declared.value.Value.{Value}
use Rattle.py_data.specs.declared.value.Value.TheVariants.{Unset}
use Rattle.py_data.specs.declared.record.Fault.{Fault}
use Rattle.py_data.specs.declared.record.Got.{Got}
use Rattle.py_data.specs.declared.record.Got.TheVariants.{Is, Raise}
use Rattle.py_data.specs.Answers.{IsGot}
use Rattle.py_data.specs.Closed.{IsItem}
use Rattle.py_data.specs.Comparing.{equal}
use Rattle.py_data.specs.Every.{Every}
use Rattle.py_data.specs.Heap.{Heap, Rec, value_at}
use Rattle.py_data.specs.Looking.{Looks, until_row, size_row, look_row}
use Rattle.py_data.specs.Order.{Rules, IsOrdered}
use Rattle.py_data.specs.Row.{Row, Ret, bind}
use Rattle.py_data.proofs.ItemLemmas.{item_at, fit_items}
use Rattle.py_data.proofs.Looking.{looks_ret, looks_then, size_looks, look_looks}
use Rattle.obj_nest.specs.Equal.{equal_row}
use Rattle.obj_nest.proofs.NestLooks.{equal_looks}
use Rattle.obj_ops.proofs.Faults.{IsAny, equal_can}
use Rattle.obj_methods.specs.Laws.{IsFirst, NoneBefore, SearchLaw}
use Rattle.obj_methods.specs.Lists.{first_of, found, goes_on, index_with, item_row, place_if, place_row, search_row}

-- an item's comparison decides, or what follows does
unfoldable pub then_place : ℕ → Got Bool → Got (Option ℤ) → Got (Option ℤ)
then_place i (Is true) next = Is (Some (pos i))
then_place i (Is false) next = next
then_place i (Raise e) next = Raise e

-- the first item that is equal, of items that are counted from i
unfoldable pub place_in : Heap → Value → ℕ → List Value → Got (Option ℤ)
place_in h x i [] = Is None
place_in h x i (y ∷ ys) = then_place i (equal h y x) (place_in h x (i + 1) ys)

-- ---- which it is
module _ (h : Heap) (x : Value) where
  pub first_is : (vs : List Value) (i k : ℕ) (g : Got Bool) → k < length vs → equal h (value_at vs k) x ≡ g →
      NoneBefore h x vs k → place_in h x i vs ≡ then_place (i + k) g (place_in h x (i + k + 1) (drop (k + 1) vs))
  unfolding place_in then_place
  first_is [] i k g l e n = absurd (omega (arith, l))
  first_is (y ∷ ys) i zero g l e n =
      let s : i + zero ≡ i = omega arith in
      ap (λ b. then_place i b (place_in h x (i + 1) ys)) e ∙ ap (λ m. then_place m g (place_in h x (m + 1) ys)) (sym s)
  first_is (y ∷ ys) i (suc k) g l e n =
      let s : i + 1 + k ≡ i + suc k = omega arith in
      let t : suc k + 1 ≡ suc (k + 1) = omega arith in
      ap (λ b. then_place i b (place_in h x (i + 1) ys)) (n 0 (omega arith))
      ∙ (first_is ys (i + 1) k g (omega (arith, l)) e (λ j m. n (suc j) (omega (arith, m)))
      ∙ (ap (λ m. then_place m g (place_in h x (m + 1) (drop (k + 1) ys))) s ∙
      ap (λ m. then_place (i + suc k) g (place_in h x (i + suc k + 1) (drop m (y ∷ ys)))) (sym t)))

  pub none_is : (vs : List Value) (i : ℕ) → NoneBefore h x vs (length vs) → place_in h x i vs ≡ Is None
  unfolding place_in then_place
  none_is [] i n = refl
  none_is (y ∷ ys) i n = ap (λ b. then_place i b (place_in h x (i + 1) ys)) (n 0 (omega arith)) ∙
      none_is ys (i + 1) (λ j m. n (suc j) (omega (arith, m)))

  pub first_found : (vs : List Value) (k : ℕ) → IsFirst h x vs k → place_in h x 0 vs ≡ Is (Some (pos k))
  unfolding then_place
  first_found vs k f =
      let s : 0 + k ≡ k = omega arith in
      first_is vs 0 k (Is true) f.within f.same f.before ∙ ap (λ m. Is (Some (pos m))) s

  pub first_raised : (vs : List Value) (k : ℕ) (e : Fault) → k < length vs → equal h (value_at vs k) x ≡ Raise e →
      NoneBefore h x vs k → place_in h x 0 vs ≡ Raise e
  unfolding then_place
  first_raised vs k e l q n = first_is vs 0 k (Raise e) l q n

  then_good : (i : ℕ) (g : Got Bool) (next : Got (Option ℤ)) → IsGot IsAny g h → IsGot IsAny next h →
      IsGot IsAny (then_place i g next) h
  unfolding then_place
  then_good i (Is true) next a b = tt
  then_good i (Is false) next a b = b
  then_good i (Raise e) next a b = a

  -- an exception that is met can be made
  pub place_good : (vs : List Value) (i : ℕ) → IsGot IsAny (place_in h x i vs) h
  unfolding place_in
  place_good [] i = tt
  place_good (y ∷ ys) i = then_good i (equal h y x) (place_in h x (i + 1) ys) (equal_can h h y x)
      (place_good ys (i + 1))

module _ (S : Type 0) (rules : Rules) (h : Heap) (order : IsOrdered rules h) (x : Value) (ix : IsItem h x) (a : ℕ)
    (r : Rec) (here : h a ≡ Some r) (list : r.kind ≡ ListKind) where
  items : Every (IsItem h) r.values
  items = fit_items rules h a r (order.each a r here) (λ e. let q : ListKind ≡ Cell = sym list ∙ e in cc)

  place_looks : (i : ℕ) → i < length r.values → Looks {S = S} (λ z. z ≡ place_if i (equal h (value_at r.values i) x))
      (place_row x a i) h
  unfolding place_row item_row
  place_looks i l =
      let y = value_at r.values i in
      looks_then (λ z. z ≡ equal h y x) (λ z. z ≡ place_if i (equal h y x)) (item_row x a i) (λ g. Ret (place_if i g)) h
      (looks_then (λ z. z ≡ y) (λ z. z ≡ equal h y x) (look_row a i) (λ y. equal_row y x) h (look_looks S h a r here i)
      (λ z e. subst (λ w. Looks {S = S} (λ g. g ≡ equal h y x) (equal_row w x) h) (sym e)
      (equal_looks S rules h y x order (item_at h r.values i l items) ix)))
      (λ g e. looks_ret S (λ z. z ≡ place_if i (equal h y x)) (place_if i g) h (ap (place_if i) e))

  -- what follows an item
  turn_looks : (i m : ℕ) (g : Got Bool) (next : Got (Option ℤ)) →
      Looks {S = S} (λ z. z ≡ next) (until_row (place_row x a) goes_on (Is None) (i + 1) m) h
      → Looks {S = S} (λ z. z ≡ then_place i g next)
      (cond (goes_on (place_if i g)) (until_row (place_row x a) goes_on (Is None) (i + 1) m) (Ret (place_if i g))) h
  unfolding then_place
  turn_looks i m (Is true) next n = looks_ret S (λ z. z ≡ Is (Some (pos i))) (Is (Some (pos i))) h refl
  turn_looks i m (Is false) next n = n
  turn_looks i m (Raise e) next n = looks_ret S (λ z. z ≡ Raise e) (Raise e) h refl

  until_looks : (m i : ℕ) → i + m ≡ length r.values → Looks {S = S} (λ z. z ≡ place_in h x i (drop i r.values))
      (until_row (place_row x a) goes_on (Is None) i m) h
  unfolding until_row place_in
  until_looks zero i l =
      let none : drop i r.values ≡ [] = drop_of_length-le r.values (omega (arith, l)) in
      looks_ret S (λ z. z ≡ place_in h x i (drop i r.values)) (Is None) h (sym (ap (place_in h x i) none))
  until_looks (suc m) i l =
      let y = value_at r.values i in
      let w : i < length r.values = omega (arith, l) in
      let f : Got (Option ℤ) → Row S (Got (Option ℤ)) = λ g.
      cond (goes_on g) (until_row (place_row x a) goes_on (Is None) (i + 1) m) (Ret g) in
      let next = place_in h x (i + 1) (drop (i + 1) r.values) in
      let whole : then_place i (equal h y x) next ≡ place_in h x i (drop i r.values) =
      sym (ap (place_in h x i) (drop_more r.values i Unset w)) in
      subst (λ p. Looks {S = S} (λ z. z ≡ p) (bind (place_row x a i) f) h) whole
      (looks_then (λ z. z ≡ place_if i (equal h y x)) (λ z. z ≡ then_place i (equal h y x) next) (place_row x a i) f h
      (place_looks i w)
      (λ g e. subst (λ z. Looks {S = S} (λ z. z ≡ then_place i (equal h y x) next) (f z) h) (sym e)
      (turn_looks i m (equal h y x) next (until_looks m (i + 1) (omega (arith, l))))))

  pub search_looks : Looks {S = S} (λ z. z ≡ place_in h x 0 r.values) (search_row a x) h
  unfolding search_row first_of
  search_looks =
      looks_then (λ n. n ≡ length r.values) (λ z. z ≡ place_in h x 0 r.values) (size_row a) (first_of x a) h
      (size_looks S h a r here)
      (λ n e. subst (λ k. Looks {S = S} (λ z. z ≡ place_in h x 0 r.values) (first_of x a k) h) (sym e)
      (until_looks (length r.values) 0 (omega arith)))

  -- what `index` answers
  pub index_looks : (p : Got (Option ℤ)) → place_in h x 0 r.values ≡ p →
      Looks {S = S} (λ z. z ≡ found p) (index_with a (Some x)) h
  unfolding index_with
  index_looks p e =
      looks_then (λ z. z ≡ place_in h x 0 r.values) (λ z. z ≡ found p) (search_row a x) (λ g. Ret (found g)) h
      search_looks (λ g q. looks_ret S (λ z. z ≡ found p) (found g) h (ap found (q ∙ e)))

pub search_law : (S : Type 0) (rules : Rules) → SearchLaw S rules
search_law S rules = record {
  found = λ h a r x k order here list ix f. index_looks S rules h order x ix a r here list (Is (Some (pos k)))
      (first_found h x r.values k f);
  missing = λ h a r x order here list ix n. index_looks S rules h order x ix a r here list (Is None)
      (none_is h x r.values 0 n);
  raised = λ h a r x k e order here list ix l q n. index_looks S rules h order x ix a r here list (Raise e)
      (first_raised h x r.values k e l q n);
}
