-- `min` and `max` of numbers are the first of the least and the first of the greatest.
use Rattle.std.proofs.Common.{arith, ◌≡◌, ℕ, ℤ, ◌+◌, Bool, true, false, cond, List, [], ◌∷◌, ◌++◌, length, Option, Some, None, refl, sym, ap, subst, ◌∙◌, append_assoc, append-nil, length-append, ◌<ℤ◌}
use Rattle.std.specs.Prelude.{int_lt}
use Rattle.std.specs.Ordering.{int_cmp}
use Rattle.std.specs.declared.cmp.Ordering.{Ordering}
use Rattle.std.specs.declared.cmp.Ordering.TheVariants.{Less, Equal, Greater as Above}
use Rattle.std.proofs.lemmas.Int.{ints}
use Rattle.std.proofs.lemmas.Bool.{cond-true, cond-false}
use Rattle.std.proofs.Math.Seq.{get_or-append_seam}
use Rattle.py_data.specs.declared.record.Got.{Got}
use Rattle.py_data.specs.declared.record.Got.TheVariants.{Is}
use Rattle.py_data.specs.declared.value.Value.{Value}
use Rattle.py_data.specs.declared.value.Value.TheVariants.{Unset, None as NoneValue, Bool as BoolValue, Int, Ref, Builtin}
use Rattle.py_data.specs.Closed.{IsItem}
use Rattle.py_data.specs.Comparing.{number_of, order}
use Rattle.py_data.specs.Every.{Every}
use Rattle.py_data.specs.Heap.{Heap, value_at}
use Rattle.py_data.specs.Looking.{Looks, each_row, got_row}
use Rattle.py_data.specs.Order.{Rules, IsOrdered}
use Rattle.py_data.specs.Row.{Row, Ret}
use Rattle.py_data.proofs.EveryLemmas.{every_and, every_weaken}
use Rattle.py_data.proofs.Looking.{looks_ret, looks_then}
use Rattle.obj_nest.specs.Laws.{IsNumber}
use Rattle.obj_nest.specs.Ordering.{order_row}
use Rattle.obj_nest.proofs.NestLooks as nest
use Rattle.obj_nest.proofs.NumberOrder.{number_order}
use Rattle.obj_ops.proofs.NumbersHold.{int_item, bool_item}
use Rattle.obj_builtins.specs.declared.best.Side.{Side}
use Rattle.obj_builtins.specs.declared.best.Side.TheVariants.{Least, Greatest}
use Rattle.obj_builtins.specs.Best.{is_better, better, better_row, best_from, best_of, best_by, best_row}
use Rattle.obj_builtins.specs.Functions.{later_row, function_row}
use Rattle.obj_builtins.specs.Laws.{wanted, IsBetter, IsBest, GivesBest, BestLaw}

number_item : (h : Heap) (x : Value) (i : ℤ) → number_of x ≡ Some i → IsItem h x
number_item h (Int n) i e = int_item h n
number_item h (BoolValue b) i e = bool_item h b
number_item h Unset i e = absurd (let q : ◌≡◌ {A = Option ℤ} None (Some i) = e in cc)
number_item h NoneValue i e = absurd (let q : ◌≡◌ {A = Option ℤ} None (Some i) = e in cc)
number_item h (Ref a) i e = absurd (let q : ◌≡◌ {A = Option ℤ} None (Some i) = e in cc)
number_item h (Builtin b) i e = absurd (let q : ◌≡◌ {A = Option ℤ} None (Some i) = e in cc)

-- ---- which of two numbers is better
abbrev Beats : Side → ℤ → ℤ → Type 0
Beats Least i j = int_lt i j ≡ true
Beats Greatest i j = int_lt j i ≡ true

lt_true : (i j : ℤ) → i <ℤ j → int_lt i j ≡ true
lt_true i j l = by (int_lt i j) refl
  where
    by : (t : Bool) → int_lt i j ≡ t → t ≡ true
    by true e = refl
    by false e = absurd (omega (arith, ints, l, e))

not_both : (i j : ℤ) → int_lt i j ≡ true → int_lt j i ≡ true → ⊥
not_both i j e f = omega (arith, ints, e, f)

chained : (i j k : ℤ) → int_lt i j ≡ true → int_lt j k ≡ true → int_lt i k ≡ true
chained i j k e f = lt_true i k (omega (arith, ints, e, f))

no_less : (i j : ℤ) → (int_lt i j ≡ true → ⊥) → int_lt i j ≡ false
no_less i j f = by (int_lt i j) refl
  where
    by : (t : Bool) → int_lt i j ≡ t → t ≡ false
    by true e = absurd (f e)
    by false e = refl

-- i is less than j, and k not
below_mixed : (i j k : ℤ) → int_lt i j ≡ true → (int_lt k j ≡ true → ⊥) → int_lt i k ≡ true
below_mixed i j k e f = let g = no_less k j f in lt_true i k (omega (arith, ints, e, g))

-- i is greater than j, and k not
above_mixed : (i j k : ℤ) → int_lt j i ≡ true → (int_lt j k ≡ true → ⊥) → int_lt k i ≡ true
above_mixed i j k e f = let g = no_less j k f in lt_true k i (omega (arith, ints, e, g))

beats_then : (side : Side) (i j k : ℤ) → Beats side i j → Beats side j k → Beats side i k
beats_then Least i j k e f = chained i j k e f
beats_then Greatest i j k e f = chained k j i f e

beats_mixed : (side : Side) (i j k : ℤ) → Beats side i j → (Beats side k j → ⊥) → Beats side i k
beats_mixed Least i j k e f = below_mixed i j k e f
beats_mixed Greatest i j k e f = above_mixed i j k e f

beats_is : (side : Side) (i j : ℤ) → is_better side (int_cmp i j) ≡ true → Beats side i j
beats_is side i j e = by side (int_lt i j) (int_lt j i) refl refl e
  where
    by : (side : Side) (s t : Bool) → int_lt i j ≡ s → int_lt j i ≡ t →
        is_better side (cond s Less (cond t Above Equal)) ≡ true → Beats side i j
    by Least true t p q f = p
    by Least false true p q f = absurd (let z : false ≡ true = f in cc)
    by Least false false p q f = absurd (let z : false ≡ true = f in cc)
    by Greatest true t p q f = absurd (let z : false ≡ true = f in cc)
    by Greatest false true p q f = q
    by Greatest false false p q f = absurd (let z : false ≡ true = f in cc)

beats_not : (side : Side) (i j : ℤ) → is_better side (int_cmp i j) ≡ false → Beats side i j → ⊥
beats_not side i j e b = by side (int_lt i j) (int_lt j i) refl refl e b
  where
    by : (side : Side) (s t : Bool) → int_lt i j ≡ s → int_lt j i ≡ t →
        is_better side (cond s Less (cond t Above Equal)) ≡ false → Beats side i j → ⊥
    by Least true t p q f b = let z : true ≡ false = f in cc
    by Least false t p q f b = let z : true ≡ false = sym b ∙ p in cc
    by Greatest true t p q f b = not_both i j p b
    by Greatest false true p q f b = let z : true ≡ false = f in cc
    by Greatest false false p q f b = let z : true ≡ false = sym b ∙ q in cc

wins : (side : Side) (i j : ℤ) → Beats side i j → int_cmp i j ≡ wanted side
wins Least i j e = cond-true (int_lt i j) Less (cond (int_lt j i) Above Equal) e
wins Greatest i j e = cond-false (int_lt i j) Less (cond (int_lt j i) Above Equal)
    (no_less i j (λ f. not_both i j f e)) ∙ cond-true (int_lt j i) Above Equal e

better_wanted : (side : Side) → is_better side (wanted side) ≡ true
better_wanted Least = refl
better_wanted Greatest = refl

-- ---- the best of those that were seen
abbrev Worse : Side → ℤ → Value → Type 0
Worse side j z = (k : ℤ) × (number_of z ≡ Some k) × Beats side j k

abbrev NoBetter : Side → ℤ → Value → Type 0
NoBetter side j z = (k : ℤ) × (number_of z ≡ Some k) × (Beats side k j → ⊥)

record Found (side : Side) (vs : List Value) (y : Value) (j : ℤ) : Type 0 where
  front : List Value
  back : List Value
  is : vs ≡ front ++ y ∷ back
  number : number_of y ≡ Some j
  before : Every (Worse side j) front
  behind : Every (NoBetter side j) back

next_found : (side : Side) (vs : List Value) (x y : Value) (i j : ℤ) → Found side vs y j → number_of x ≡ Some i →
    (b : Bool) → is_better side (int_cmp i j) ≡ b → Found side (vs ++ x ∷ []) (cond b x y) (cond b i j)
next_found side vs x y i j f e true t =
    let win = beats_is side i j t in
    record {
      front = f.front ++ y ∷ f.back;
      back = [];
      is = ap (λ l. l ++ x ∷ []) f.is;
      number = e;
      before =
          every_and (Worse side i) f.front (y ∷ f.back)
          (every_weaken (Worse side j) (Worse side i) (λ z w. (w.0, w.1, beats_then side i j w.0 win w.2)) f.front
          f.before) (
            (j, f.number, win),
            every_weaken (NoBetter side j) (Worse side i)
                (λ z w. (w.0, w.1, beats_mixed side i j w.0 win w.2)) f.back f.behind,
          );
      behind = tt;
    }
next_found side vs x y i j f e false t = record {
  front = f.front;
  back = f.back ++ x ∷ [];
  is = ap (λ l. l ++ x ∷ []) f.is ∙ append_assoc f.front (y ∷ f.back) (x ∷ []);
  number = f.number;
  before = f.before;
  behind = every_and (NoBetter side j) f.back (x ∷ []) f.behind ((i, e, beats_not side i j t), tt);
}

best_is : (h : Heap) (side : Side) (vs : List Value) (y : Value) (j : ℤ) → Found side vs y j → IsBest h side vs y
best_is h side vs y j f = record {
  front = f.front;
  back = f.back;
  is = f.is;
  before = every_weaken (Worse side j) (λ z. IsBetter h side y z) (λ z w. number_order h y z j w.0 f.number w.1 ∙
      ap Is (wins side j w.0 w.2)) f.front f.before;
  behind = every_weaken (NoBetter side j) (λ z. IsBetter h side z y → ⊥)
      (λ z w b. w.2 (beats_is side w.0 j (of (int_cmp w.0 j) (sym (number_order h z y w.0 j w.1 f.number) ∙ b)))) f.back
      f.behind;
}
  where
    of : (o : Ordering) → ◌≡◌ {A = Got Ordering} (Is o) (Is (wanted side)) → is_better side o ≡ true
    of o e = let q : o ≡ wanted side = cc in ap (is_better side) q ∙ better_wanted side

-- ---- the rows
module _ (S : Type 0) (rules : Rules) (h : Heap) (order1 : IsOrdered rules h) (side : Side) where
  -- the better of two, and its number
  abbrev Chooses : List Value → Got Value → Type 0
  Chooses vs g = (y : Value) × (j : ℤ) × (g ≡ Is y) × Found side vs y j

  turn_looks : (vs : List Value) (x y : Value) (i j : ℤ) → Found side vs y j → number_of x ≡ Some i →
      Looks {S = S} (Chooses (vs ++ x ∷ [])) (better_row side x y) h
  unfolding better_row
  turn_looks vs x y i j f e =
      let c = int_cmp i j in
      looks_then (λ g. g ≡ order h x y) (Chooses (vs ++ x ∷ [])) (order_row x y) (λ g. Ret (better side y x g)) h
      (nest.order_looks S rules h x y order1 (number_item h x i e) (number_item h y j f.number))
      (λ g q. looks_ret S (Chooses (vs ++ x ∷ [])) (better side y x g) h (
        cond (is_better side c) x y,
        cond (is_better side c) i j,
        ap (better side y x) (q ∙ number_order h x y i j e f.number),
        next_found side vs x y i j f e (is_better side c) refl,
      ))

  turns_look : (first : Value) (vs xs ys : List Value) (i : ℕ) (y : Value) (j : ℤ) → vs ≡ xs ++ ys → length xs ≡ i →
      Found side (first ∷ xs) y j → Every (IsNumber h) ys
      → Looks {S = S} (GivesBest h side (first ∷ vs))
      (each_row (λ i best. better_row side (value_at vs i) best) i (length ys) y) h
  unfolding each_row
  turns_look first vs xs [] i y j e l f ns =
      let same : first ∷ xs ≡ first ∷ vs = ap (λ zs. first ∷ zs) (sym (append-nil xs) ∙ sym e) in
      looks_ret S (GivesBest h side (first ∷ vs)) (Is y) h
      (y, refl, best_is h side (first ∷ vs) y j (subst (λ zs. Found side zs y j) same f))
  turns_look first vs xs (x ∷ ys) i y j e l f ns =
      let turn : ℕ → Value → Row S (Got Value) = λ i best. better_row side (value_at vs i) best in
      let here : value_at vs i ≡ x = ap (λ zs. value_at zs i) e ∙
      (ap (value_at (xs ++ x ∷ ys)) (sym l) ∙ get_or-append_seam xs x ys Unset) in
      let one : Looks {S = S} (Chooses (first ∷ xs ++ x ∷ [])) (turn i y) h =
      subst (λ z. Looks {S = S} (Chooses (first ∷ xs ++ x ∷ [])) (better_row side z y) h) (sym here)
      (turn_looks (first ∷ xs) x y ns.0.0 j f ns.0.1)
      in
      looks_then (Chooses (first ∷ xs ++ x ∷ [])) (GivesBest h side (first ∷ vs)) (turn i y)
      (got_row (each_row turn (i + 1) (length ys))) h one
      (λ g q. subst (λ z. Looks {S = S} (GivesBest h side (first ∷ vs)) (got_row (each_row turn (i + 1) (length ys)) z)
      h) (sym q.2)
      (turns_look first vs (xs ++ x ∷ []) ys (i + 1) q.0 q.1 (e ∙ sym (append_assoc xs (x ∷ []) ys))
      (length-append xs (x ∷ []) ∙ ap (λ n. n + 1) l) q.3 ns.1))

  best_looks : (x : Value) (xs : List Value) → Every (IsNumber h) (x ∷ xs) →
      Looks {S = S} (GivesBest h side (x ∷ xs)) (best_of side (x ∷ xs)) h
  unfolding best_of best_from
  best_looks x xs ns =
      turns_look x xs [] xs 0 x ns.0.0 refl refl
      (record { front = []; back = []; is = refl; number = ns.0.1; before = tt; behind = tt }) ns.1

pub best_law : (S : Type 0) (rules : Rules) → BestLaw S rules
unfolding function_row later_row best_row best_by
best_law S rules = record {
  min = λ h roots x y zs order1 ns. best_looks S rules h order1 Least x (y ∷ zs) ns;
  max = λ h roots x y zs order1 ns. best_looks S rules h order1 Greatest x (y ∷ zs) ns;
}
