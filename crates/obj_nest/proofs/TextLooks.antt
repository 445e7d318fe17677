-- The rows of texts only look, may be begun over a heap in order, and answer what the definitions of `repr` and `str`
-- say.
use Rattle.std.proofs.Common.{arith, ◌≡◌, ℕ, zero, suc, ◌+◌, ◌*◌, ◌/◌, ◌≤◌, false, cond, List, [], ◌∷◌, ◌++◌, length, drop, append_assoc, Option, Some, None, refl, sym, ap, subst, ◌∙◌}
use Rattle.std.specs.Prelude.{codes, is_some, eqb}
use Rattle.std.proofs.Math.Dec.{eqb-suc-zero}
use Rattle.std.proofs.lemmas.Bool.Decides.{nat_tests}
use Rattle.std.proofs.lemmas.List.{append-nil}
use Rattle.py_base.specs.declared.kind.Kind.{Kind}
use Rattle.py_base.specs.declared.kind.Kind.TheVariants.{Str, Tuple, List as ListKind, Dict, Cell, Function, Class, Instance, Method, Iter, Range, Lock, Thread}
use Rattle.py_text.specs.Repr.{repr_of}
use Rattle.py_data.specs.declared.value.Value.{Value}
use Rattle.py_data.specs.declared.value.Value.TheVariants.{Unset, None as NoneValue, Bool as BoolValue, Int, Ref, Builtin}
use Rattle.py_data.specs.declared.record.Got.{Got}
use Rattle.py_data.specs.declared.record.Got.TheVariants.{Is, Raise}
use Rattle.py_data.specs.Fault.{depth_fault}
use Rattle.py_data.specs.Every.{Every}
use Rattle.py_data.specs.Heap.{Rec, Heap, value_at}
use Rattle.py_data.specs.Shape.{HasShape, RefTo, ArePairs}
use Rattle.py_data.specs.Closed.{Refers}
use Rattle.py_data.specs.Texts.{got_then, more_texts, item_texts, pair_text, more_pairs, pair_texts, between, tuple_end, in_level, bytes_of, name_of, method_name, record_text, repr_by, repr_within}
use Rattle.py_data.specs.Texts as texts
use Rattle.py_data.specs.Row.{Row, Ret}
use Rattle.py_data.specs.Order.{Rules, IsOrdered}
use Rattle.py_data.specs.Looking.{Looks, size_row, look_row, bytes_row, each_row, got_row, kind_row}
use Rattle.py_data.proofs.HoldingCalls.{pairs_of}
use Rattle.py_data.proofs.Looking.{looks_ret, looks_then, looks_weaken, size_looks, look_looks, bytes_looks, some_of, kind_looks}
use Rattle.py_data.proofs.Steps.{at_is}
use Rattle.obj_nest.specs.Levels.{below, level_row}
use Rattle.obj_nest.specs.Text.{Writes, spelling, alone_by_kind, alone_within, leaf_text, spaced, part_row, mapped_row, keyed_row, couple_row, closed_row, parts_row, list_row, tuple_close, tuple_row, dict_row, string_row, name_row, name_by, named_row, between_row, quoted_row, plain_text, other_text, kind_text, record_row, write_under, write_levels, repr_row, alone_by, alone_at, alone_row}
use Rattle.obj_nest.proofs.Dropped.{drop_here, there_at, half_more}

-- behind a text
abbrev Behind : List ℕ → Got (List ℕ) → Got (List ℕ)
Behind out g = got_then g (λ t. Is (out ++ t))

not_first : (i : ℕ) (out : List ℕ) → 1 ≤ i → spaced i out ≡ out ++ codes ", "
not_first zero out l = absurd (omega (arith, l))
not_first (suc i) out l = ap (λ b. cond b out (out ++ codes ", ")) (eqb-suc-zero i)

four : (a b c d : List ℕ) → ((a ++ b) ++ c) ++ d ≡ a ++ ((b ++ c) ++ d)
four a b c d = append_assoc (a ++ b) c d ∙ (append_assoc a b (c ++ d) ∙ ap (λ l. a ++ l) (sym (append_assoc b c d)))

module _ (S : Type 0) (h : Heap) where
  -- ---- loops
  module _ (f : ℕ → List ℕ → Row S (Got (List ℕ))) where
    -- what follows a part
    after : (front out : List ℕ) (g more : Got (List ℕ)) (rest : List ℕ → Row S (Got (List ℕ))) →
        ((text : List ℕ) → Looks (λ z. z ≡ Behind text more) (rest text) h)
        → Looks (λ z. z ≡ Behind out (got_then g (λ t. got_then more (λ ts. Is (front ++ t ++ ts)))))
        (got_row rest (Behind (out ++ front) g)) h
    after front out (Raise e) more rest l = looks_ret S (λ z. z ≡ Raise e) (Raise e) h refl
    after front out (Is t) more rest l = looks_weaken (λ z. z ≡ Behind ((out ++ front) ++ t) more)
        (λ z. z ≡ Behind out (got_then more (λ ts. Is (front ++ t ++ ts)))) (λ z e. e ∙ one more)
        (rest ((out ++ front) ++ t)) h (l ((out ++ front) ++ t))
      where
        one : (more : Got (List ℕ)) → Behind ((out ++ front) ++ t) more ≡ Behind out
            (got_then more (λ ts. Is (front ++ t ++ ts)))
        one (Raise e) = refl
        one (Is ts) = ap Is (four out front t ts)

    turn : (front : List ℕ) (i m : ℕ) (out : List ℕ) (g more : Got (List ℕ)) → spaced i out ≡ out ++ front →
        Looks (λ z. z ≡ Behind (spaced i out) g) (f i out) h →
        ((text : List ℕ) → Looks (λ z. z ≡ Behind text more) (each_row f (i + 1) m text) h)
        → Looks (λ z. z ≡ Behind out (got_then g (λ t. got_then more (λ ts. Is (front ++ t ++ ts)))))
        (each_row f i (suc m) out) h
    unfolding each_row
    turn front i m out g more s t l =
        let p = λ (z : Got (List ℕ)). z ≡ Behind out (got_then g (λ t. got_then more (λ ts. Is (front ++ t ++ ts)))) in
        looks_then (λ z. z ≡ Behind (spaced i out) g) p (f i out) (got_row (each_row f (i + 1) m)) h t
        (λ z e. subst (λ z. Looks p (got_row (each_row f (i + 1) m) z) h) (sym (e ∙ ap (λ o. Behind o g) s))
        (after front out g more (each_row f (i + 1) m) l))

    done : (i : ℕ) (out : List ℕ) → Looks {S = S} (λ z. z ≡ Is (out ++ [])) (each_row f i 0 out) h
    unfolding each_row
    done i out = looks_ret S (λ z. z ≡ Is (out ++ [])) (Is out) h (ap Is (sym (append-nil out)))

    -- all parts, between what opens and what closes them
    parts_looks : (opening close out : List ℕ) (n : ℕ) (g : Got (List ℕ)) →
        Looks (λ z. z ≡ Behind (out ++ opening) g) (each_row f 0 n (out ++ opening)) h →
        Looks (λ z. z ≡ Behind out (between opening close g)) (parts_row f n close (out ++ opening)) h
    unfolding parts_row closed_row
    parts_looks opening close out n g l =
        let p = λ (z : Got (List ℕ)). z ≡ Behind out (between opening close g) in
        looks_then (λ z. z ≡ Behind (out ++ opening) g) p (each_row f 0 n (out ++ opening))
        (got_row (closed_row close)) h l
        (λ z e. subst (λ z. Looks p (got_row (closed_row {S = S} close) z) h) (sym e) (closing g))
      where
        closing : (g : Got (List ℕ)) → Looks {S = S} (λ z. z ≡ Behind out (between opening close g))
            (got_row (closed_row close) (Behind (out ++ opening) g)) h
        closing (Raise e) = looks_ret S (λ z. z ≡ Raise e) (Raise e) h refl
        closing (Is t) = looks_ret S (λ z. z ≡ Is (out ++ (opening ++ t ++ close)))
            (Is (((out ++ opening) ++ t) ++ close)) h (ap Is (four out opening t close))

  -- ---- the parts of one record
  abbrev Likes : Writes S → (Value → Got (List ℕ)) → Type 0
  Likes u w = (out : List ℕ) (x : Value) → Refers h x → Looks (λ z. z ≡ Behind out (w x)) (u out x) h

  module _ (u : Writes S) (w : Value → Got (List ℕ)) (like : Likes u w) (a : ℕ) (r : Rec) (ea : h a ≡ Some r) where
    part_looks : (i : ℕ) (out : List ℕ) (x : Value) → value_at r.values i ≡ x → Refers h x →
        Looks (λ z. z ≡ Behind (spaced i out) (w x)) (part_row u a i out) h
    unfolding part_row
    part_looks i out x ex t =
        let p = λ (z : Got (List ℕ)). z ≡ Behind (spaced i out) (w x) in
        looks_then (λ k. k ≡ value_at r.values i) p (look_row a i) (λ k. u (spaced i out) k) h
        (look_looks S h a r ea i) (λ k ek. subst (λ k. Looks p (u (spaced i out) k) h) (sym (ek ∙ ex))
        (like (spaced i out) x t))

    more_looks : (i : ℕ) (xs : List Value) → 1 ≤ i → drop i r.values ≡ xs → Every (Refers h) xs → (out : List ℕ) →
        Looks (λ z. z ≡ Behind out (more_texts w xs)) (each_row (part_row u a) i (length xs) out) h
    more_looks i [] l d t out = done (part_row u a) i out
    more_looks i (x ∷ xs) l d t out =
        let p = drop_here r.values i x xs d in
        turn (part_row u a) (codes ", ") i (length xs) out (w x) (more_texts w xs) (not_first i out l)
        (part_looks i out x p.0 t.0) (more_looks (i + 1) xs (omega arith) p.1 t.1)

    items_look : (xs : List Value) → r.values ≡ xs → Every (Refers h) xs → (out : List ℕ) →
        Looks (λ z. z ≡ Behind out (item_texts w xs)) (each_row (part_row u a) 0 (length xs) out) h
    items_look [] d t out = done (part_row u a) 0 out
    items_look (x ∷ xs) d t out =
        let p = drop_here r.values 0 x xs d in
        turn (part_row u a) [] 0 (length xs) out (w x) (more_texts w xs) (sym (append-nil out))
        (part_looks 0 out x p.0 t.0) (more_looks 1 xs (omega arith) p.1 t.1)

    -- ---- pairs
    mapped_looks : (i : ℕ) (out : List ℕ) (x : Value) → value_at r.values (2 * i + 1) ≡ x → Refers h x →
        Looks (λ z. z ≡ Behind (out ++ codes ": ") (w x)) (mapped_row u a i out) h
    unfolding mapped_row
    mapped_looks i out x ex t =
        let p = λ (z : Got (List ℕ)). z ≡ Behind (out ++ codes ": ") (w x) in
        looks_then (λ k. k ≡ value_at r.values (2 * i + 1)) p (look_row a (2 * i + 1)) (λ k. u (out ++ codes ": ") k) h
        (look_looks S h a r ea (2 * i + 1))
        (λ k ek. subst (λ k. Looks p (u (out ++ codes ": ") k) h) (sym (ek ∙ ex)) (like (out ++ codes ": ") x t))

    keyed_looks : (i : ℕ) (out : List ℕ) (k x : Value) → value_at r.values (2 * i + 1) ≡ x → Refers h k → Refers h x →
        Looks (λ z. z ≡ Behind out (pair_text w k x)) (keyed_row u a i out k) h
    unfolding keyed_row
    keyed_looks i out k x ex tk tx =
        let p = λ (z : Got (List ℕ)). z ≡ Behind out (pair_text w k x) in
        looks_then (λ z. z ≡ Behind out (w k)) p (u out k) (got_row (mapped_row u a i)) h (like out k tk)
        (λ z e. subst (λ z. Looks p (got_row (mapped_row u a i) z) h) (sym e) (valued (w k)))
      where
        behind_key : (t : List ℕ) (g : Got (List ℕ)) →
            Behind ((out ++ t) ++ codes ": ") g ≡ Behind out (got_then g (λ y. Is (t ++ codes ": " ++ y)))
        behind_key t (Raise e) = refl
        behind_key t (Is y) = ap Is (four out t (codes ": ") y)

        valued : (g : Got (List ℕ)) → Looks
            (λ z. z ≡ Behind out (got_then g (λ t. got_then (w x) (λ y. Is (t ++ codes ": " ++ y)))))
            (got_row (mapped_row u a i) (Behind out g)) h
        valued (Raise e) = looks_ret S (λ z. z ≡ Raise e) (Raise e) h refl
        valued (Is t) = looks_weaken (λ z. z ≡ Behind ((out ++ t) ++ codes ": ") (w x))
            (λ z. z ≡ Behind out (got_then (w x) (λ y. Is (t ++ codes ": " ++ y)))) (λ z e. e ∙ behind_key t (w x))
            (mapped_row u a i (out ++ t)) h (mapped_looks i (out ++ t) x ex tx)

    couple_looks : (i : ℕ) (out : List ℕ) (k x : Value) → value_at r.values (2 * i) ≡ k →
        value_at r.values (2 * i + 1) ≡ x → Refers h k → Refers h x →
        Looks (λ z. z ≡ Behind (spaced i out) (pair_text w k x)) (couple_row u a i out) h
    unfolding couple_row
    couple_looks i out k x ek ex tk tx =
        let p = λ (z : Got (List ℕ)). z ≡ Behind (spaced i out) (pair_text w k x) in
        looks_then (λ j. j ≡ value_at r.values (2 * i)) p (look_row a (2 * i)) (λ j. keyed_row u a i (spaced i out) j)
        h (look_looks S h a r ea (2 * i))
        (λ j ej. subst (λ j. Looks p (keyed_row u a i (spaced i out) j) h) (sym (ej ∙ ek))
        (keyed_looks i (spaced i out) k x ex tk tx))

    more_couples : (i : ℕ) (xs : List Value) → 1 ≤ i → drop (2 * i) r.values ≡ xs → ArePairs h xs → Every (Refers h) xs
        → (out : List ℕ) → Looks (λ z. z ≡ Behind out (more_pairs w xs))
        (each_row (couple_row u a) i (length xs / 2) out) h
    more_couples i [] l d p t out = done (couple_row u a) i out
    more_couples i (k ∷ []) l d p t out = absurd p
    more_couples i (k ∷ x ∷ rest) l d p t out =
        let one = drop_here r.values (2 * i) k (x ∷ rest) d in
        let two = drop_here r.values (2 * i + 1) x rest one.1 in
        let e : 2 * i + 1 + 1 ≡ 2 * (i + 1) = omega arith in
        rw half_more
        (turn (couple_row u a) (codes ", ") i (length rest / 2) out (pair_text w k x) (more_pairs w rest)
        (not_first i out l) (couple_looks i out k x one.0 two.0 t.0 t.1.0)
        (more_couples (i + 1) rest (omega arith) (ap (λ n. drop n r.values) (sym e) ∙ two.1) p.1 t.1.1))

    couples_look : (xs : List Value) → r.values ≡ xs → ArePairs h xs → Every (Refers h) xs → (out : List ℕ) →
        Looks (λ z. z ≡ Behind out (pair_texts w xs)) (each_row (couple_row u a) 0 (length xs / 2) out) h
    couples_look [] d p t out = done (couple_row u a) 0 out
    couples_look (k ∷ []) d p t out = absurd p
    couples_look (k ∷ x ∷ rest) d p t out =
        let one = drop_here r.values 0 k (x ∷ rest) d in
        let two = drop_here r.values 1 x rest one.1 in
        rw half_more
        (turn (couple_row u a) [] 0 (length rest / 2) out (pair_text w k x) (more_pairs w rest) (sym (append-nil out))
        (couple_looks 0 out k x one.0 two.0 t.0 t.1.0)
        (more_couples 1 rest (omega arith) two.1 p.1 t.1.1))

    -- ---- the three kinds
    module _ (out : List ℕ) (there : Every (Refers h) r.values) where
      list_looks : Looks (λ z. z ≡ Behind out (between (codes "[") (codes "]") (item_texts w r.values)))
          (list_row u a out) h
      unfolding list_row
      list_looks =
          let p = λ (z : Got (List ℕ)). z ≡ Behind out (between (codes "[") (codes "]") (item_texts w r.values)) in
          looks_then (λ n. n ≡ length r.values) p (size_row a)
          (λ n. parts_row (part_row u a) n (codes "]") (out ++ codes "[")) h (size_looks S h a r ea)
          (λ n en. subst (λ n. Looks p (parts_row (part_row u a) n (codes "]") (out ++ codes "[")) h) (sym en)
          (parts_looks (part_row u a) (codes "[") (codes "]") out (length r.values) (item_texts w r.values)
          (items_look r.values refl there (out ++ codes "["))))

      tuple_ends : (vs : List Value) → tuple_close (length vs) ≡ tuple_end vs
      tuple_ends [] = refl
      tuple_ends (x ∷ []) = refl
      tuple_ends (x ∷ y ∷ vs) = let e : eqb (suc (suc (length vs))) 1 ≡ false = grind (arith, nat_tests) in
          ap (λ b. cond b (codes ",)") (codes ")")) e

      tuple_looks : Looks (λ z. z ≡ Behind out (between (codes "(") (tuple_end r.values) (item_texts w r.values)))
          (tuple_row u a out) h
      unfolding tuple_row
      tuple_looks =
          let p = λ (z : Got (List ℕ)). z ≡ Behind out
          (between (codes "(") (tuple_end r.values) (item_texts w r.values)) in
          looks_then (λ n. n ≡ length r.values) p (size_row a)
          (λ n. parts_row (part_row u a) n (tuple_close n) (out ++ codes "(")) h (size_looks S h a r ea)
          (λ n en. subst (λ n. Looks p (parts_row (part_row u a) n (tuple_close n) (out ++ codes "(")) h) (sym en)
          (subst (λ c. Looks p (parts_row (part_row u a) (length r.values) c (out ++ codes "(")) h)
          (sym (tuple_ends r.values))
          (parts_looks (part_row u a) (codes "(") (tuple_end r.values) out (length r.values) (item_texts w r.values)
          (items_look r.values refl there (out ++ codes "(")))))

      dict_looks : ArePairs h r.values →
          Looks (λ z. z ≡ Behind out (between (codes "{") (codes "}") (pair_texts w r.values))) (dict_row u a out) h
      unfolding dict_row
      dict_looks pairs =
          let p = λ (z : Got (List ℕ)). z ≡ Behind out (between (codes "{") (codes "}") (pair_texts w r.values)) in
          looks_then (λ n. n ≡ length r.values) p (size_row a)
          (λ n. parts_row (couple_row u a) (n / 2) (codes "}") (out ++ codes "{")) h (size_looks S h a r ea)
          (λ n en. subst (λ n. Looks p (parts_row (couple_row u a) (n / 2) (codes "}") (out ++ codes "{")) h) (sym en)
          (parts_looks (couple_row u a) (codes "{") (codes "}") out (length r.values / 2) (pair_texts w r.values)
          (couples_look r.values refl pairs there (out ++ codes "{"))))

module _ (S : Type 0) (rules : Rules) (h : Heap) (order : IsOrdered rules h) where
  all_there : (a : ℕ) (r : Rec) → h a ≡ Some r → Every (Refers h) r.values
  all_there a r e = (order.each a r e).closed.refers

  -- ---- names
  string_looks : (x : Value) → Refers h x → Looks {S = S} (λ b. b ≡ bytes_of h x) (string_row x) h
  unfolding string_row
  string_looks (Ref a) i =
      let r = some_of (h a.0) i in
      looks_weaken (λ b. b ≡ r.0.bytes) (λ b. b ≡ bytes_of h (Ref a))
      (λ b e. e ∙ sym (ap (λ q. q.bytes) (at_is h a.0 r.0 r.1))) (bytes_row a.0) h (bytes_looks S h a.0 r.0 r.1)
  string_looks Unset i = looks_ret S (λ b. b ≡ []) [] h refl
  string_looks NoneValue i = looks_ret S (λ b. b ≡ []) [] h refl
  string_looks (BoolValue b) i = looks_ret S (λ b. b ≡ []) [] h refl
  string_looks (Int n) i = looks_ret S (λ b. b ≡ []) [] h refl
  string_looks (Builtin n) i = looks_ret S (λ b. b ≡ []) [] h refl

  name_looks : (a : ℕ) (r : Rec) → h a ≡ Some r → Looks {S = S} (λ b. b ≡ name_of h (Ref (record { 0 = a })))
      (name_row a) h
  unfolding name_row
  name_looks a r e =
      let p = λ (b : List ℕ). b ≡ name_of h (Ref (record { 0 = a })) in
      let q : bytes_of h (value_at r.values 0) ≡ name_of h (Ref (record { 0 = a })) =
      sym (ap (λ q. bytes_of h (value_at q.values 0)) (at_is h a r e)) in
      looks_then (λ x. x ≡ value_at r.values 0) p (look_row a 0) (λ x. string_row x) h (look_looks S h a r e 0)
      (λ x ex. subst (λ x. Looks {S = S} p (string_row x) h) (sym ex)
      (looks_weaken (λ b. b ≡ bytes_of h (value_at r.values 0)) p (λ b e. e ∙ q) (string_row (value_at r.values 0))
      h (string_looks (value_at r.values 0) (there_at h r.values 0 (all_there a r e)))))

  name_by_looks : (x : Value) → Refers h x → Looks {S = S} (λ b. b ≡ method_name spelling h x) (name_by x) h
  unfolding name_by
  name_by_looks (Ref a) i = let r = some_of (h a.0) i in name_looks a.0 r.0 r.1
  name_by_looks Unset i = looks_ret S (λ b. b ≡ method_name spelling h Unset) (method_name spelling h Unset) h refl
  name_by_looks NoneValue i = looks_ret S (λ b. b ≡ method_name spelling h NoneValue)
      (method_name spelling h NoneValue) h refl
  name_by_looks (BoolValue c) i = looks_ret S (λ b. b ≡ method_name spelling h (BoolValue c))
      (method_name spelling h (BoolValue c)) h refl
  name_by_looks (Int n) i = looks_ret S (λ b. b ≡ method_name spelling h (Int n)) (method_name spelling h (Int n)) h
      refl
  name_by_looks (Builtin n) i = looks_ret S (λ b. b ≡ method_name spelling h (Builtin n))
      (method_name spelling h (Builtin n)) h refl

  named_looks : (a : ℕ) (r : Rec) → h a ≡ Some r →
      Looks {S = S} (λ b. b ≡ method_name spelling h (value_at r.values 0)) (named_row a) h
  unfolding named_row
  named_looks a r e =
      let p = λ (b : List ℕ). b ≡ method_name spelling h (value_at r.values 0) in
      looks_then (λ x. x ≡ value_at r.values 0) p (look_row a 0) (λ x. name_by x) h (look_looks S h a r e 0)
      (λ x ex. subst (λ x. Looks {S = S} p (name_by x) h) (sym ex)
      (name_by_looks (value_at r.values 0) (there_at h r.values 0 (all_there a r e))))

  between_looks : (front close out n : List ℕ) (name : Row S (List ℕ)) → Looks (λ b. b ≡ n) name h →
      Looks (λ z. z ≡ Is (out ++ (front ++ n ++ close))) (between_row front close name out) h
  unfolding between_row
  between_looks front close out n name l =
      let p = λ (z : Got (List ℕ)). z ≡ Is (out ++ (front ++ n ++ close)) in
      looks_then (λ b. b ≡ n) p name (λ n. Ret (Is (out ++ front ++ n ++ close))) h l
      (λ b e. looks_ret S p (Is (out ++ front ++ b ++ close)) h
      (ap Is (four out front b close) ∙ ap (λ b. Is (out ++ (front ++ b ++ close))) e))

  -- a class is no builtin
  class_name : (x : Value) → RefTo h Class x → method_name spelling h x ≡ name_of h x
  class_name (Ref a) i = refl
  class_name x i = absurd i

  instance_of : (vs : List Value) → HasShape h Instance vs →
      method_name spelling h (value_at vs 0) ≡ name_of h (value_at vs 0)
  instance_of (c ∷ own ∷ []) i = class_name c i.0
  instance_of [] i = absurd i
  instance_of (c ∷ []) i = absurd i
  instance_of (c ∷ own ∷ x ∷ more) i = absurd i

  -- ---- any record, any value
  Linked : Option (Writes S) → texts.Parts → Type 0
  Linked None None = Unit {0}
  Linked (Some u) (Some w) = Likes S h u w
  Linked _ _ = ⊥

  module _ (a : ℕ) (r : Rec) (e : h a ≡ Some r) (out : List ℕ) where
    quoted_looks : Looks {S = S} (λ z. z ≡ Is (out ++ repr_of r.bytes)) (quoted_row a out) h
    unfolding quoted_row
    quoted_looks =
        let p = λ (z : Got (List ℕ)). z ≡ Is (out ++ repr_of r.bytes) in
        looks_then (λ b. b ≡ r.bytes) p (bytes_row a) (λ b. Ret (Is (out ++ repr_of b))) h (bytes_looks S h a r e)
        (λ b eb. looks_ret S p (Is (out ++ repr_of b)) h (ap (λ b. Is (out ++ repr_of b)) eb))

    level_looks : (f : Writes S → Row S (Got (List ℕ))) (g : (Value → Got (List ℕ)) → Got (List ℕ)) →
        ((u : Writes S) (w : Value → Got (List ℕ)) → Likes S h u w → Looks (λ z. z ≡ Behind out (g w)) (f u) h)
        → (under : Option (Writes S)) (pure : texts.Parts) → Linked under pure →
        Looks (λ z. z ≡ Behind out (in_level pure g)) (level_row under f) h
    unfolding level_row Linked
    level_looks f g each None None l = looks_ret S (λ z. z ≡ Raise depth_fault) (Raise depth_fault) h refl
    level_looks f g each (Some u) (Some w) l = each u w l
    level_looks f g each None (Some w) l = absurd l
    level_looks f g each (Some u) None l = absurd l

    module _ (under : Option (Writes S)) (pure : texts.Parts) (link : Linked under pure) where
      abbrev Says : Kind → Type 0
      Says k = Looks (λ z. z ≡ Behind out (record_text spelling h pure (Ref (record { 0 = a })) k r))
          (kind_text under a out k) h

      by_kind : (k : Kind) → r.kind ≡ k → HasShape h k r.values → Says k
      unfolding kind_text other_text
      by_kind Str q i = quoted_looks
      by_kind Tuple q i = level_looks (λ u. tuple_row u a out)
          (λ u. between (codes "(") (tuple_end r.values) (item_texts u r.values))
          (λ u w l. tuple_looks S h u w l a r e out (all_there a r e)) under pure link
      by_kind ListKind q i = level_looks (λ u. list_row u a out)
          (λ u. between (codes "[") (codes "]") (item_texts u r.values))
          (λ u w l. list_looks S h u w l a r e out (all_there a r e)) under pure link
      by_kind Dict q i = level_looks (λ u. dict_row u a out)
          (λ u. between (codes "{") (codes "}") (pair_texts u r.values))
          (λ u w l. dict_looks S h u w l a r e out (all_there a r e) (pairs_of rules h a r order e q)) under pure link
      by_kind Function q i = between_looks (codes "<function ") (codes ">") out (name_of h (Ref (record { 0 = a })))
          (name_row a) (name_looks a r e)
      by_kind Class q i = between_looks (codes "<class ") (codes ">") out (name_of h (Ref (record { 0 = a })))
          (name_row a) (name_looks a r e)
      by_kind Instance q i =
          subst (λ n. Looks {S = S} (λ z. z ≡ Is (out ++ (codes "<" ++ n ++ codes " instance>")))
          (between_row (codes "<") (codes " instance>") (named_row a) out) h) (instance_of r.values i)
          (between_looks (codes "<") (codes " instance>") out (method_name spelling h (value_at r.values 0))
          (named_row a) (named_looks a r e))
      by_kind Method q i = between_looks (codes "<method ") (codes ">") out
          (method_name spelling h (value_at r.values 0)) (named_row a) (named_looks a r e)
      by_kind Cell q i = looks_ret S (λ z. z ≡ Is (out ++ plain_text Cell)) (Is (out ++ plain_text Cell)) h refl
      by_kind Iter q i = looks_ret S (λ z. z ≡ Is (out ++ plain_text Iter)) (Is (out ++ plain_text Iter)) h refl
      by_kind Range q i = looks_ret S (λ z. z ≡ Is (out ++ plain_text Range)) (Is (out ++ plain_text Range)) h refl
      by_kind Lock q i = looks_ret S (λ z. z ≡ Is (out ++ plain_text Lock)) (Is (out ++ plain_text Lock)) h refl
      by_kind Thread q i = looks_ret S (λ z. z ≡ Is (out ++ plain_text Thread)) (Is (out ++ plain_text Thread)) h refl

      record_looks : Looks (λ z. z ≡ Behind out (repr_by spelling h pure (Ref (record { 0 = a }))))
          (record_row under a out) h
      unfolding record_row
      record_looks =
          let p = λ (z : Got (List ℕ)). z ≡ Behind out (repr_by spelling h pure (Ref (record { 0 = a }))) in
          let q = sym (ap (λ z. Behind out (record_text spelling h pure (Ref (record { 0 = a })) z.kind z))
          (at_is h a r e)) in
          looks_then (λ k. k ≡ r.kind) p (kind_row a) (λ k. kind_text under a out k) h (kind_looks S h a r e)
          (λ k ek. subst (λ k. Looks p (kind_text under a out k) h) (sym ek)
          (looks_weaken (λ z. z ≡ Behind out (record_text spelling h pure (Ref (record { 0 = a })) r.kind r)) p
          (λ z e. e ∙ q) (kind_text under a out r.kind) h (by_kind r.kind refl (order.each a r e).closed.shaped.0)))

  by_looks : (under : Option (Writes S)) (pure : texts.Parts) → Linked under pure → (out : List ℕ) (x : Value) →
      Refers h x → Looks (λ z. z ≡ Behind out (repr_by spelling h pure x)) (write_under under out x) h
  unfolding write_under
  by_looks under pure link out (Ref a) i = let r = some_of (h a.0) i in record_looks a.0 r.0 r.1 out under pure link
  by_looks under pure link out Unset i =
      looks_ret S (λ z. z ≡ Is (out ++ leaf_text Unset)) (Is (out ++ leaf_text Unset)) h refl
  by_looks under pure link out NoneValue i = looks_ret S (λ z. z ≡ Is (out ++ leaf_text NoneValue))
      (Is (out ++ leaf_text NoneValue)) h refl
  by_looks under pure link out (BoolValue b) i = looks_ret S (λ z. z ≡ Is (out ++ leaf_text (BoolValue b)))
      (Is (out ++ leaf_text (BoolValue b))) h refl
  by_looks under pure link out (Int n) i =
      looks_ret S (λ z. z ≡ Is (out ++ leaf_text (Int n))) (Is (out ++ leaf_text (Int n))) h refl
  by_looks under pure link out (Builtin n) i = looks_ret S (λ z. z ≡ Is (out ++ leaf_text (Builtin n)))
      (Is (out ++ leaf_text (Builtin n))) h refl

  -- for each number of levels
  pub write_at_looks : (d : ℕ) (out : List ℕ) (x : Value) → Refers h x →
      Looks (λ z. z ≡ Behind out (repr_within spelling h d x)) (write_levels {S = S} d out x) h
  unfolding repr_within below Linked
  write_at_looks zero out x i = by_looks None None tt out x i
  write_at_looks (suc d) out x i = by_looks (Some (write_levels d)) (Some (repr_within spelling h d))
      (λ out x i. write_at_looks d out x i) out x i

  behind_none : (g : Got (List ℕ)) → Behind [] g ≡ g
  behind_none (Is t) = refl
  behind_none (Raise e) = refl

  module _ (d : ℕ) where
    pub repr_looks : (x : Value) → Refers h x → Looks {S = S} (λ z. z ≡ repr_within spelling h d x) (repr_row d x) h
    unfolding repr_row
    repr_looks x i =
        looks_weaken (λ z. z ≡ Behind [] (repr_within spelling h d x)) (λ z. z ≡ repr_within spelling h d x)
        (λ z e. e ∙ behind_none (repr_within spelling h d x)) (write_levels d [] x) h (write_at_looks d [] x i)

    module _ (a : ℕ) (r : Rec) (e : h a ≡ Some r) where
      alone_by_looks : (k : Kind) → Looks {S = S} (λ z. z ≡ alone_by_kind h d (Ref (record { 0 = a })) k r)
          (alone_by d a k) h
      unfolding alone_by
      alone_by_looks Str = looks_then (λ b. b ≡ r.bytes) (λ z. z ≡ Is r.bytes) (bytes_row a) (λ b. Ret (Is b)) h
          (bytes_looks S h a r e) (λ b eb. looks_ret S (λ z. z ≡ Is r.bytes) (Is b) h (ap Is eb))
      alone_by_looks k = repr_looks (Ref (record { 0 = a })) (ap is_some e)

      alone_at_looks : Looks {S = S} (λ z. z ≡ alone_within h d (Ref (record { 0 = a }))) (alone_at d a) h
      unfolding alone_at
      alone_at_looks =
          let p = λ (z : Got (List ℕ)). z ≡ alone_within h d (Ref (record { 0 = a })) in
          let q = sym (ap (λ z. alone_by_kind h d (Ref (record { 0 = a })) z.kind z) (at_is h a r e)) in
          looks_then (λ k. k ≡ r.kind) p (kind_row a) (λ k. alone_by d a k) h (kind_looks S h a r e)
          (λ k ek. subst (λ k. Looks {S = S} p (alone_by d a k) h) (sym ek)
          (looks_weaken (λ z. z ≡ alone_by_kind h d (Ref (record { 0 = a })) r.kind r) p (λ z e. e ∙ q)
          (alone_by d a r.kind) h (alone_by_looks r.kind)))

    pub alone_looks : (x : Value) → Refers h x → Looks {S = S} (λ z. z ≡ alone_within h d x) (alone_row d x) h
    unfolding alone_row
    alone_looks (Ref a) i = let r = some_of (h a.0) i in alone_at_looks a.0 r.0 r.1
    alone_looks Unset i = repr_looks Unset i
    alone_looks NoneValue i = repr_looks NoneValue i
    alone_looks (BoolValue b) i = repr_looks (BoolValue b) i
    alone_looks (Int n) i = repr_looks (Int n) i
    alone_looks (Builtin n) i = repr_looks (Builtin n) i
