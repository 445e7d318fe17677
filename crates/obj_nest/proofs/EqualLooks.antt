-- The row of equality only looks, may be begun over a heap in order, and answers what the definition of equality says.
use Rattle.std.proofs.Common.{arith, ◌≡◌, ℕ, zero, suc, ◌+◌, ◌*◌, ◌/◌, Bool, true, false, cond, eqb, List, [], ◌∷◌, length, drop, Option, Some, None, refl, sym, ap, subst, ◌∙◌}
use Rattle.std.specs.Prelude.{◌&&◌}
use Rattle.std.proofs.lemmas.Bool.{eqb-true}
use Rattle.py_data.specs.declared.value.Value.{Value}
use Rattle.py_data.specs.declared.value.Value.TheVariants.{Unset, None as NoneValue, Bool as BoolValue, Int, Ref, Builtin}
use Rattle.py_base.specs.declared.kind.Kind.{Kind}
use Rattle.py_base.specs.declared.kind.Kind.TheVariants.{Str, Tuple, List as ListKind, Dict, Method}
use Rattle.py_data.specs.declared.record.Got.{Got}
use Rattle.py_data.specs.declared.record.Got.TheVariants.{Is, Raise}
use Rattle.py_data.specs.Fault.{depth_fault}
use Rattle.py_data.specs.Every.{Every}
use Rattle.py_data.specs.Heap.{Rec, Heap, at, value_at}
use Rattle.py_data.specs.Shape.{same_bytes, same_text, same_key, text_by, text_in, find, ArePairs, IsKey}
use Rattle.py_data.specs.Closed.{Refers}
use Rattle.py_data.specs.Comparing.{Under, is_same, and_then, equal_items, equal_found, equal_pairs, of_one_length, one_level, equal_kinds, equal_by, equal_within}
use Rattle.py_data.specs.Row.{Row, Ret}
use Rattle.py_data.specs.Order.{Rules, IsOrdered}
use Rattle.py_data.specs.Looking.{Looks, size_row, look_row, bytes_row, until_row}
use Rattle.py_data.proofs.HoldingCalls.{pairs_of}
use Rattle.py_data.proofs.Steps.{at_is}
use Rattle.py_data.proofs.Looking.{looks_ret, looks_find, looks_then, looks_weaken, size_looks, look_looks, bytes_looks, some_of}
use Rattle.obj_nest.specs.Levels.{below, level_row, pairing_of, kinds_row}
use Rattle.obj_nest.specs.Equal.{Compares, is_equal, texts_row, texts_with, item_row, item_with, sized_row, items_row, items_from, found_row, sought_row, pair_row, pair_with, paired_row, pairs_row, pairs_from, methods_row, methods_with, owners_row, owner_with, by_pairing, records_row, equal_under, equal_levels}
use Rattle.obj_nest.proofs.Dropped.{drop_here, there_at, half_more}
use Rattle.obj_nest.proofs.KindLooks.{kinds_looks}

module _ (S : Type 0) (rules : Rules) (h : Heap) (order : IsOrdered rules h) where
  abbrev There : Value → Type 0
  There v = Refers h v

  all_there : (a : ℕ) (r : Rec) → h a ≡ Some r → Every There r.values
  all_there a r e = (order.each a r e).closed.refers

  -- a row of comparison answers what a pure comparison does
  abbrev Like : Compares S → (Value → Value → Got Bool) → Type 0
  Like u w = (x y : Value) → There x → There y → Looks (λ z. z ≡ w x y) (u x y) h

  Linked : Option (Compares S) → Under Bool → Type 0
  Linked None None = Unit {0}
  Linked (Some u) (Some w) = Like u w
  Linked _ _ = ⊥

  -- the rest of a loop, once a turn's answer is known
  goes : (f : ℕ → Row S (Got Bool)) (i m : ℕ) (first next : Got Bool) →
      Looks (λ z. z ≡ next) (until_row f is_equal (Is true) (i + 1) m) h
      → Looks (λ z. z ≡ and_then first next)
      (cond (is_equal first) (until_row f is_equal (Is true) (i + 1) m) (Ret first)) h
  goes f i m (Is true) next l = l
  goes f i m (Is false) next l = looks_ret S (λ z. z ≡ Is false) (Is false) h refl
  goes f i m (Raise e) next l = looks_ret S (λ z. z ≡ Raise e) (Raise e) h refl

  turn : (f : ℕ → Row S (Got Bool)) (i m : ℕ) (first next : Got Bool) → Looks (λ z. z ≡ first) (f i) h →
      Looks (λ z. z ≡ next) (until_row f is_equal (Is true) (i + 1) m) h
      → Looks (λ z. z ≡ and_then first next) (until_row f is_equal (Is true) i (suc m)) h
  unfolding until_row
  turn f i m first next t l =
      looks_then (λ z. z ≡ first) (λ z. z ≡ and_then first next) (f i)
      (λ a. cond (is_equal a) (until_row f is_equal (Is true) (i + 1) m) (Ret a)) h t
      (λ a e. subst (λ b. Looks (λ z. z ≡ and_then first next)
      (cond (is_equal b) (until_row f is_equal (Is true) (i + 1) m) (Ret b)) h) (sym e) (goes f i m first next l))

  module _ (u : Compares S) (w : Value → Value → Got Bool) (like : Like u w) (a b : ℕ) (r s : Rec) (ea : h a ≡ Some r)
      (eb : h b ≡ Some s) where
    -- ---- items
    item_looks : (i : ℕ) (x y : Value) → value_at r.values i ≡ x → value_at s.values i ≡ y → There x → There y →
        Looks (λ z. z ≡ w x y) (item_row u a b i) h
    unfolding item_row item_with
    item_looks i x y ex ey tx ty =
        looks_then (λ k. k ≡ value_at r.values i) (λ z. z ≡ w x y) (look_row a i) (λ k. item_with u b i k) h
        (look_looks S h a r ea i)
        (λ k ek. looks_then (λ l. l ≡ value_at s.values i) (λ z. z ≡ w x y) (look_row b i) (λ l. u k l) h
        (look_looks S h b s eb i)
        (λ l el. subst (λ k. Looks (λ z. z ≡ w x y) (u k l) h) (sym (ek ∙ ex))
        (subst (λ l. Looks (λ z. z ≡ w x y) (u x l) h) (sym (el ∙ ey)) (like x y tx ty))))

    items_loop : (i : ℕ) (xs ys : List Value) → drop i r.values ≡ xs → drop i s.values ≡ ys → length xs ≡ length ys →
        Every There xs → Every There ys
        → Looks (λ z. z ≡ equal_items w xs ys) (until_row (item_row u a b) is_equal (Is true) i (length xs)) h
    unfolding until_row
    items_loop i [] ys dx dy l tx ty = looks_ret S (λ z. z ≡ Is true) (Is true) h refl
    items_loop i (x ∷ xs) [] dx dy l tx ty = absurd (omega (arith, l))
    items_loop i (x ∷ xs) (y ∷ ys) dx dy l tx ty =
        let p = drop_here r.values i x xs dx in
        let q = drop_here s.values i y ys dy in
        turn (item_row u a b) i (length xs) (w x y) (equal_items w xs ys) (item_looks i x y p.0 q.0 tx.0 ty.0)
        (items_loop (i + 1) xs ys p.1 q.1 (omega (arith, l)) tx.1 ty.1)

    sized_looks : (f : ℕ → Row S (Got Bool)) (same : Got Bool) (n m : ℕ) →
        (n ≡ m → Looks (λ z. z ≡ same) (until_row f is_equal (Is true) 0 n) h)
        → (c : Bool) → eqb n m ≡ c → Looks (λ z. z ≡ cond c same (Is false))
        (cond c (until_row f is_equal (Is true) 0 n) (Ret (Is false))) h
    sized_looks f same n m l true e = l (eqb-true n m e)
    sized_looks f same n m l false e = looks_ret S (λ z. z ≡ Is false) (Is false) h refl

    pub items_looks : Looks (λ z. z ≡ of_one_length r.values s.values (equal_items w r.values s.values))
        (items_row u a b) h
    unfolding items_row items_from sized_row
    items_looks =
        let p = λ (z : Got Bool). z ≡ of_one_length r.values s.values (equal_items w r.values s.values) in
        looks_then (λ n. n ≡ length r.values) p (size_row a) (λ n. items_from u a b n) h (size_looks S h a r ea)
        (λ n en. looks_then (λ m. m ≡ length s.values) p (size_row b) (λ m. sized_row (item_row u a b) n m) h
        (size_looks S h b s eb)
        (λ m em. subst (λ n. Looks p (sized_row (item_row u a b) n m) h) (sym en)
        (subst (λ m. Looks p (sized_row (item_row u a b) (length r.values) m) h) (sym em)
        (sized_looks (item_row u a b) (equal_items w r.values s.values) (length r.values) (length s.values)
        (λ l. items_loop 0 r.values s.values refl refl l (all_there a r ea) (all_there b s eb))
        (eqb (length r.values) (length s.values)) refl))))

    -- ---- pairs
    module _ (dict : s.kind ≡ Dict) where
      found_looks : (x : Value) (o : Option ℕ) → There x →
          Looks (λ z. z ≡ equal_found w s.values x o) (found_row u b x o) h
      unfolding found_row
      found_looks x None t = looks_ret S (λ z. z ≡ Is false) (Is false) h refl
      found_looks x (Some i) t =
          let two : 2 * i + 1 ≡ i + (i + 1) = omega arith in
          looks_then (λ y. y ≡ value_at s.values (2 * i + 1)) (λ z. z ≡ w x (value_at s.values (i + (i + 1))))
          (look_row b (2 * i + 1)) (λ y. u x y) h (look_looks S h b s eb (2 * i + 1))
          (λ y ey. subst (λ y. Looks (λ z. z ≡ w x (value_at s.values (i + (i + 1)))) (u x y) h)
          (sym (ey ∙ ap (value_at s.values) two))
          (like x (value_at s.values (i + (i + 1))) t (there_at h s.values (i + (i + 1)) (all_there b s eb))))

      sought_looks : (k x : Value) → IsKey h k → There x →
          Looks (λ z. z ≡ equal_found w s.values x (find h s.values k)) (sought_row u b k x) h
      unfolding sought_row
      sought_looks k x key t =
          looks_find (λ z. z ≡ equal_found w s.values x (find h s.values k)) b k (λ o. found_row u b x o) h s eb
          (dict, key, pairs_of rules h b s order eb dict) (found_looks x (find h s.values k) t)

      pair_looks : (i : ℕ) (k x : Value) → value_at r.values (2 * i) ≡ k → value_at r.values (2 * i + 1) ≡ x →
          IsKey h k → There x → Looks (λ z. z ≡ equal_found w s.values x (find h s.values k)) (pair_row u a b i) h
      unfolding pair_row pair_with
      pair_looks i k x ek ex key t =
          let p = λ (z : Got Bool). z ≡ equal_found w s.values x (find h s.values k) in
          looks_then (λ j. j ≡ value_at r.values (2 * i)) p (look_row a (2 * i)) (λ j. pair_with u a b i j) h
          (look_looks S h a r ea (2 * i))
          (λ j ej. looks_then (λ y. y ≡ value_at r.values (2 * i + 1)) p (look_row a (2 * i + 1))
          (λ y. sought_row u b j y) h (look_looks S h a r ea (2 * i + 1))
          (λ y ey. subst (λ j. Looks p (sought_row u b j y) h) (sym (ej ∙ ek))
          (subst (λ y. Looks p (sought_row u b k y) h) (sym (ey ∙ ex)) (sought_looks k x key t))))

      pairs_loop : (i : ℕ) (xs : List Value) → drop (2 * i) r.values ≡ xs → ArePairs h xs → Every There xs →
          Looks (λ z. z ≡ equal_pairs h w xs s.values)
          (until_row (pair_row u a b) is_equal (Is true) i (length xs / 2)) h
      unfolding until_row
      pairs_loop i [] d p t = looks_ret S (λ z. z ≡ Is true) (Is true) h refl
      pairs_loop i (k ∷ []) d p t = absurd p
      pairs_loop i (k ∷ x ∷ rest) d p t =
          let one = drop_here r.values (2 * i) k (x ∷ rest) d in
          let two = drop_here r.values (2 * i + 1) x rest one.1 in
          let e : 2 * i + 1 + 1 ≡ 2 * (i + 1) = omega arith in
          rw half_more
          (turn (pair_row u a b) i (length rest / 2) (equal_found w s.values x (find h s.values k))
          (equal_pairs h w rest s.values) (pair_looks i k x one.0 two.0 p.0 t.1.0)
          (pairs_loop (i + 1) rest (ap (λ n. drop n r.values) (sym e) ∙ two.1) p.1 t.1.1))

      pub pairs_looks : r.kind ≡ Dict → Looks
          (λ z. z ≡ of_one_length r.values s.values (equal_pairs h w r.values s.values)) (pairs_row u a b) h
      unfolding pairs_row pairs_from paired_row
      pairs_looks er =
          let p = λ (z : Got Bool). z ≡ of_one_length r.values s.values (equal_pairs h w r.values s.values) in
          let same = λ (l : length r.values ≡ length s.values).
          pairs_loop 0 r.values refl (pairs_of rules h a r order ea er) (all_there a r ea) in
          looks_then (λ n. n ≡ length r.values) p (size_row a) (λ n. pairs_from u a b n) h (size_looks S h a r ea)
          (λ n en. looks_then (λ m. m ≡ length s.values) p (size_row b) (λ m. paired_row (pair_row u a b) n m) h
          (size_looks S h b s eb)
          (λ m em. subst (λ n. Looks p (paired_row (pair_row u a b) n m) h) (sym en)
          (subst (λ m. Looks p (paired_row (pair_row u a b) (length r.values) m) h) (sym em)
          (halved (eqb (length r.values) (length s.values)) refl same))))
        where
          halved : (c : Bool) → eqb (length r.values) (length s.values) ≡ c →
              (length r.values ≡ length s.values →
              Looks (λ z. z ≡ equal_pairs h w r.values s.values)
              (until_row (pair_row u a b) is_equal (Is true) 0 (length r.values / 2)) h)
              → Looks (λ z. z ≡ cond c (equal_pairs h w r.values s.values) (Is false))
              (cond c (until_row (pair_row u a b) is_equal (Is true) 0 (length r.values / 2)) (Ret (Is false))) h
          halved true e l = l (eqb-true (length r.values) (length s.values) e)
          halved false e l = looks_ret S (λ z. z ≡ Is false) (Is false) h refl

  -- ---- any two records
  module _ (a b : ℕ) (r s : Rec) (ea : h a ≡ Some r) (eb : h b ≡ Some s) where
    texts_looks : Looks {S = S} (λ z. z ≡ Is (same_bytes r.bytes s.bytes)) (texts_row a b) h
    unfolding texts_row texts_with
    texts_looks =
        let p = λ (z : Got Bool). z ≡ Is (same_bytes r.bytes s.bytes) in
        looks_then (λ x. x ≡ r.bytes) p (bytes_row a) (λ x. texts_with x b) h (bytes_looks S h a r ea)
        (λ x ex. looks_then (λ y. y ≡ s.bytes) p (bytes_row b) (λ y. Ret (Is (same_bytes x y))) h
        (bytes_looks S h b s eb)
        (λ y ey. looks_ret S p (Is (same_bytes x y)) h (ap (λ x. Is (same_bytes x y)) ex ∙
        ap (λ y. Is (same_bytes r.bytes y)) ey)))

    methods_looks : Looks {S = S} (λ z. z ≡ Is
        (is_same (value_at r.values 0) (value_at s.values 0) && is_same (value_at r.values 1) (value_at s.values 1)))
        (methods_row a b) h
    unfolding methods_row methods_with owners_row owner_with
    methods_looks =
        let p = λ (z : Got Bool). z ≡ Is
        (is_same (value_at r.values 0) (value_at s.values 0) && is_same (value_at r.values 1)
        (value_at s.values 1)) in
        looks_then (λ f. f ≡ value_at r.values 0) p (look_row a 0) (λ f. methods_with a b f) h (look_looks S h a r ea 0)
        (λ f ef. looks_then (λ g. g ≡ value_at s.values 0) p (look_row b 0) (λ g. owners_row a b (is_same f g)) h
        (look_looks S h b s eb 0)
        (λ g eg. looks_then (λ x. x ≡ value_at r.values 1) p (look_row a 1) (λ x. owner_with b (is_same f g) x) h
        (look_looks S h a r ea 1)
        (λ x ex. looks_then (λ y. y ≡ value_at s.values 1) p (look_row b 1)
        (λ y. Ret (Is (is_same f g && is_same x y))) h (look_looks S h b s eb 1)
        (λ y ey. looks_ret S p (Is (is_same f g && is_same x y)) h
        (ap (λ f. Is (is_same f g && is_same x y)) ef ∙
        (ap (λ g. Is (is_same (value_at r.values 0) g && is_same x y)) eg ∙
        (ap (λ x. Is (is_same (value_at r.values 0) (value_at s.values 0) && is_same x y)) ex ∙
        ap (λ y. Is (is_same (value_at r.values 0) (value_at s.values 0) && is_same (value_at r.values 1) y))
        ey)))))))

    module _ (under : Option (Compares S)) (pure : Under Bool) (link : Linked under pure) where
      level_items : (under : Option (Compares S)) (pure : Under Bool) → Linked under pure →
          Looks (λ z. z ≡ one_level pure (λ u. of_one_length r.values s.values (equal_items u r.values s.values)))
          (level_row under (λ u. items_row u a b)) h
      unfolding level_row Linked
      level_items None None l = looks_ret S (λ z. z ≡ Raise depth_fault) (Raise depth_fault) h refl
      level_items (Some u) (Some w) l = items_looks u w l a b r s ea eb
      level_items None (Some w) l = absurd l
      level_items (Some u) None l = absurd l

      level_pairs : r.kind ≡ Dict → s.kind ≡ Dict → (under : Option (Compares S)) (pure : Under Bool) →
          Linked under pure → Looks (λ z.
          z ≡ one_level pure (λ u. of_one_length r.values s.values (equal_pairs h u r.values s.values)))
          (level_row under (λ u. pairs_row u a b)) h
      unfolding level_row Linked
      level_pairs er es None None l = looks_ret S (λ z. z ≡ Raise depth_fault) (Raise depth_fault) h refl
      level_pairs er es (Some u) (Some w) l = pairs_looks u w l a b r s ea eb es er
      level_pairs er es None (Some w) l = absurd l
      level_pairs er es (Some u) None l = absurd l

      abbrev Says : Kind → Kind → Type 0
      Says k l = Looks (λ z. z ≡ equal_kinds h pure (same_text (eqb a b) (text_by k r.bytes) (text_by l s.bytes)) k l
          r.values s.values) (by_pairing under a b (pairing_of k l)) h

      by_kinds : (k l : Kind) → r.kind ≡ k → s.kind ≡ l → Says k l
      unfolding by_pairing
      by_kinds Str Str er es = texts_looks
      by_kinds Tuple Tuple er es = level_items under pure link
      by_kinds ListKind ListKind er es = level_items under pure link
      by_kinds Dict Dict er es = level_pairs er es under pure link
      by_kinds Method Method er es = methods_looks
      by_kinds k l er es = looks_ret S (λ z. z ≡ Is (same_text (eqb a b) (text_by k r.bytes) (text_by l s.bytes)))
          (Is (eqb a b)) h refl

      records_looks : Looks (λ z. z ≡ equal_by h pure (Ref (record { 0 = a })) (Ref (record { 0 = b })))
          (records_row under a b) h
      unfolding records_row
      records_looks =
          let p = λ (z : Got Bool). z ≡ equal_by h pure (Ref (record { 0 = a })) (Ref (record { 0 = b })) in
          let q : equal_kinds h pure (same_text (eqb a b) (text_by r.kind r.bytes) (text_by s.kind s.bytes)) r.kind
          s.kind r.values s.values ≡ equal_by h pure (Ref (record { 0 = a })) (Ref (record { 0 = b })) =
          sym (ap (λ o. equal_kinds h pure (same_text (eqb a b) (text_in o) (text_in (h b))) (at h a).kind
          (at h b).kind (at h a).values (at h b).values) ea
          ∙ (ap (λ o. equal_kinds h pure (same_text (eqb a b) (text_by r.kind r.bytes) (text_in o)) (at h a).kind
          (at h b).kind (at h a).values (at h b).values) eb
          ∙ (ap (λ z. equal_kinds h pure (same_text (eqb a b) (text_by r.kind r.bytes) (text_by s.kind s.bytes)) z.kind
          (at h b).kind z.values (at h b).values) (at_is h a r ea)
          ∙ ap (λ z. equal_kinds h pure (same_text (eqb a b) (text_by r.kind r.bytes) (text_by s.kind s.bytes)) r.kind
          z.kind r.values z.values) (at_is h b s eb)))) in
          looks_then (λ k. k ≡ pairing_of r.kind s.kind) p (kinds_row a b) (by_pairing under a b) h
          (kinds_looks S h a b r s ea eb)
          (λ k ek. subst (λ k. Looks p (by_pairing under a b k) h) (sym ek)
          (looks_weaken (λ z. z ≡ equal_kinds h pure
          (same_text (eqb a b) (text_by r.kind r.bytes) (text_by s.kind s.bytes)) r.kind s.kind r.values s.values)
          p (λ z e. e ∙ q) (by_pairing under a b (pairing_of r.kind s.kind)) h (by_kinds r.kind s.kind refl refl)))

  -- ---- any two values
  by_looks : (under : Option (Compares S)) (pure : Under Bool) → Linked under pure → (x y : Value) → There x →
      There y → Looks (λ z. z ≡ equal_by h pure x y) (equal_under under x y) h
  unfolding equal_under
  by_looks under pure link (Ref a) (Ref b) i j =
      let r = some_of (h a.0) i in
      let s = some_of (h b.0) j in
      records_looks a.0 b.0 r.0 s.0 r.1 s.1 under pure link
  by_looks under pure link Unset Unset ti tj =
      looks_ret S (λ z. z ≡ Is (same_key h Unset Unset)) (Is (same_key h Unset Unset)) h refl
  by_looks under pure link Unset NoneValue ti tj = looks_ret S (λ z. z ≡ Is (same_key h Unset NoneValue))
      (Is (same_key h Unset NoneValue)) h refl
  by_looks under pure link Unset (BoolValue c) ti tj = looks_ret S (λ z. z ≡ Is (same_key h Unset (BoolValue c)))
      (Is (same_key h Unset (BoolValue c))) h refl
  by_looks under pure link Unset (Int j) ti tj =
      looks_ret S (λ z. z ≡ Is (same_key h Unset (Int j))) (Is (same_key h Unset (Int j))) h refl
  by_looks under pure link Unset (Ref e) ti tj =
      looks_ret S (λ z. z ≡ Is (same_key h Unset (Ref e))) (Is (same_key h Unset (Ref e))) h refl
  by_looks under pure link Unset (Builtin m) ti tj = looks_ret S (λ z. z ≡ Is (same_key h Unset (Builtin m)))
      (Is (same_key h Unset (Builtin m))) h refl
  by_looks under pure link NoneValue Unset ti tj = looks_ret S (λ z. z ≡ Is (same_key h NoneValue Unset))
      (Is (same_key h NoneValue Unset)) h refl
  by_looks under pure link NoneValue NoneValue ti tj = looks_ret S (λ z. z ≡ Is (same_key h NoneValue NoneValue))
      (Is (same_key h NoneValue NoneValue)) h refl
  by_looks under pure link NoneValue (BoolValue c) ti tj =
      looks_ret S (λ z. z ≡ Is (same_key h NoneValue (BoolValue c))) (Is (same_key h NoneValue (BoolValue c))) h refl
  by_looks under pure link NoneValue (Int j) ti tj = looks_ret S (λ z. z ≡ Is (same_key h NoneValue (Int j)))
      (Is (same_key h NoneValue (Int j))) h refl
  by_looks under pure link NoneValue (Ref e) ti tj = looks_ret S (λ z. z ≡ Is (same_key h NoneValue (Ref e)))
      (Is (same_key h NoneValue (Ref e))) h refl
  by_looks under pure link NoneValue (Builtin m) ti tj = looks_ret S (λ z. z ≡ Is (same_key h NoneValue (Builtin m)))
      (Is (same_key h NoneValue (Builtin m))) h refl
  by_looks under pure link (BoolValue b) Unset ti tj = looks_ret S (λ z. z ≡ Is (same_key h (BoolValue b) Unset))
      (Is (same_key h (BoolValue b) Unset)) h refl
  by_looks under pure link (BoolValue b) NoneValue ti tj =
      looks_ret S (λ z. z ≡ Is (same_key h (BoolValue b) NoneValue)) (Is (same_key h (BoolValue b) NoneValue)) h refl
  by_looks under pure link (BoolValue b) (BoolValue c) ti tj =
      looks_ret S (λ z. z ≡ Is (same_key h (BoolValue b) (BoolValue c))) (Is (same_key h (BoolValue b) (BoolValue c)))
      h refl
  by_looks under pure link (BoolValue b) (Int j) ti tj = looks_ret S (λ z. z ≡ Is (same_key h (BoolValue b) (Int j)))
      (Is (same_key h (BoolValue b) (Int j))) h refl
  by_looks under pure link (BoolValue b) (Ref e) ti tj = looks_ret S (λ z. z ≡ Is (same_key h (BoolValue b) (Ref e)))
      (Is (same_key h (BoolValue b) (Ref e))) h refl
  by_looks under pure link (BoolValue b) (Builtin m) ti tj =
      looks_ret S (λ z. z ≡ Is (same_key h (BoolValue b) (Builtin m))) (Is (same_key h (BoolValue b) (Builtin m))) h
      refl
  by_looks under pure link (Int i) Unset ti tj =
      looks_ret S (λ z. z ≡ Is (same_key h (Int i) Unset)) (Is (same_key h (Int i) Unset)) h refl
  by_looks under pure link (Int i) NoneValue ti tj = looks_ret S (λ z. z ≡ Is (same_key h (Int i) NoneValue))
      (Is (same_key h (Int i) NoneValue)) h refl
  by_looks under pure link (Int i) (BoolValue c) ti tj = looks_ret S (λ z. z ≡ Is (same_key h (Int i) (BoolValue c)))
      (Is (same_key h (Int i) (BoolValue c))) h refl
  by_looks under pure link (Int i) (Int j) ti tj = looks_ret S (λ z. z ≡ Is (same_key h (Int i) (Int j)))
      (Is (same_key h (Int i) (Int j))) h refl
  by_looks under pure link (Int i) (Ref e) ti tj = looks_ret S (λ z. z ≡ Is (same_key h (Int i) (Ref e)))
      (Is (same_key h (Int i) (Ref e))) h refl
  by_looks under pure link (Int i) (Builtin m) ti tj = looks_ret S (λ z. z ≡ Is (same_key h (Int i) (Builtin m)))
      (Is (same_key h (Int i) (Builtin m))) h refl
  by_looks under pure link (Ref a) Unset ti tj =
      looks_ret S (λ z. z ≡ Is (same_key h (Ref a) Unset)) (Is (same_key h (Ref a) Unset)) h refl
  by_looks under pure link (Ref a) NoneValue ti tj = looks_ret S (λ z. z ≡ Is (same_key h (Ref a) NoneValue))
      (Is (same_key h (Ref a) NoneValue)) h refl
  by_looks under pure link (Ref a) (BoolValue c) ti tj = looks_ret S (λ z. z ≡ Is (same_key h (Ref a) (BoolValue c)))
      (Is (same_key h (Ref a) (BoolValue c))) h refl
  by_looks under pure link (Ref a) (Int j) ti tj = looks_ret S (λ z. z ≡ Is (same_key h (Ref a) (Int j)))
      (Is (same_key h (Ref a) (Int j))) h refl
  by_looks under pure link (Ref a) (Builtin m) ti tj = looks_ret S (λ z. z ≡ Is (same_key h (Ref a) (Builtin m)))
      (Is (same_key h (Ref a) (Builtin m))) h refl
  by_looks under pure link (Builtin n) Unset ti tj = looks_ret S (λ z. z ≡ Is (same_key h (Builtin n) Unset))
      (Is (same_key h (Builtin n) Unset)) h refl
  by_looks under pure link (Builtin n) NoneValue ti tj = looks_ret S (λ z. z ≡ Is (same_key h (Builtin n) NoneValue))
      (Is (same_key h (Builtin n) NoneValue)) h refl
  by_looks under pure link (Builtin n) (BoolValue c) ti tj =
      looks_ret S (λ z. z ≡ Is (same_key h (Builtin n) (BoolValue c))) (Is (same_key h (Builtin n) (BoolValue c))) h
      refl
  by_looks under pure link (Builtin n) (Int j) ti tj = looks_ret S (λ z. z ≡ Is (same_key h (Builtin n) (Int j)))
      (Is (same_key h (Builtin n) (Int j))) h refl
  by_looks under pure link (Builtin n) (Ref e) ti tj = looks_ret S (λ z. z ≡ Is (same_key h (Builtin n) (Ref e)))
      (Is (same_key h (Builtin n) (Ref e))) h refl
  by_looks under pure link (Builtin n) (Builtin m) ti tj =
      looks_ret S (λ z. z ≡ Is (same_key h (Builtin n) (Builtin m))) (Is (same_key h (Builtin n) (Builtin m))) h refl

  -- for each number of levels
  pub equal_at_looks : (d : ℕ) (x y : Value) → There x → There y →
      Looks (λ z. z ≡ equal_within h d x y) (equal_levels {S = S} d x y) h
  unfolding equal_within below Linked
  equal_at_looks zero x y i j = by_looks None None tt x y i j
  equal_at_looks (suc d) x y i j = by_looks (Some (equal_levels d)) (Some (equal_within h d))
      (λ x y i j. equal_at_looks d x y i j) x y i j
