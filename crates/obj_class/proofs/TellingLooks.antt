-- The rows of texts, those of exceptions among them, only look, may be begun over a heap in order with its list of
-- roots, and answer what is meant.
use Rattle.std.proofs.Common.{arith, ◌≡◌, ℕ, zero, suc, ◌+◌, ◌*◌, ◌/◌, ◌<◌, Bool, true, false, cond, codes, List, [], ◌∷◌, length, drop, Option, Some, None, refl, sym, ap, subst, ◌∙◌, lit<}
use Rattle.std.specs.Prelude.{IfSome, is_some, eqb}
use Rattle.std.specs.Str.{bytes_eq}
use Rattle.std.proofs.lemmas.Bool.Decides.{nat_tests}
use Rattle.py_base.specs.declared.kind.Kind.{Kind}
use Rattle.py_base.specs.declared.kind.Kind.TheVariants.{Str, Tuple, Dict, Class, Instance}
use Rattle.py_base.specs.Numbers.{class_count, class_number}
use Rattle.py_data.specs.declared.value.Addr.{Addr}
use Rattle.py_data.specs.declared.value.Value.{Value}
use Rattle.py_data.specs.declared.value.Value.TheVariants.{Unset, None as NoneValue, Bool as BoolValue, Int, Ref, Builtin}
use Rattle.py_data.specs.declared.record.Got.{Got}
use Rattle.py_data.specs.declared.record.Got.TheVariants.{Is, Raise}
use Rattle.py_data.specs.Closed.{Refers, IsItem}
use Rattle.py_data.specs.Comparing.{DEPTH_LIMIT}
use Rattle.py_data.specs.Every.{Every}
use Rattle.py_data.specs.Fault.{depth_fault}
use Rattle.py_data.specs.Heap.{Heap, Rec, value_at}
use Rattle.py_data.specs.Looking.{Looks, kind_row, size_row, look_row, bytes_row, until_row}
use Rattle.py_data.specs.Order.{Rules, IsOrdered}
use Rattle.py_data.specs.Row.{Ret}
use Rattle.py_data.specs.Shape.{RefTo, ArePairs}
use Rattle.py_data.proofs.HoldingCalls.{pairs_of}
use Rattle.py_data.proofs.Looking.{looks_ret, looks_then, kind_looks, size_looks, look_looks, bytes_looks, some_of}
use Rattle.obj_nest.specs.Levels.{level_row}
use Rattle.obj_nest.specs.Text.{text_row, text_within}
use Rattle.obj_nest.proofs.Dropped.{drop_here, half_more}
use Rattle.obj_nest.proofs.TextLooks as nest
use Rattle.obj_class.specs.declared.args.Part.{Part}
use Rattle.obj_class.specs.Attributes.{values_in}
use Rattle.obj_class.specs.Bases.{ref, is_sub_row}
use Rattle.obj_class.specs.Roots.{IsRoots, class_place}
use Rattle.obj_class.specs.Telling.{Tells, TellsBy, alone_at, alone_at_row, alone_by, alone_by_row, alone_row, args_among, args_at_row, args_by_row, args_in, args_in_row, args_pair_row, args_row, class_under_row, dict_args_row, exception_text, exception_text_row, if_exception_row, instance_text, instance_text_row, is_args, is_args_in, is_args_row, is_missing, is_of_row, is_under, left, names_args, part, part_among, part_at, part_at_row, part_by, part_by_row, part_of, part_of_row, part_one_row, part_sized_row, part_text, part_text_row, part_tuple_row, part_value_row, part_with_row, text_of, told_levels, told_part, told_part_row, told_row, told_under, told_under_row, told_within, under_row, value_by_row, value_if_row, value_under_row}
use Rattle.obj_class.proofs.AttrLooks.{sub_looks}
use Rattle.obj_class.proofs.Parts.{Is as There, is_at, of_instance_at}

-- what has a property still has it where it is found
abbrev Told : Heap → Option Part → Type 0
Told h o = IfSome o (λ p. Refers h p.value)

module _ (S : Type 0) (rules : Rules) (h : Heap) (order : IsOrdered rules h) (roots : ℕ) (r : IsRoots h roots) where
  abbrev vs : List Value
  vs = r.list.values

  all_there : (a : ℕ) (q : Rec) → h a ≡ Some q → Every (Refers h) q.values
  all_there a q e = (order.each a q e).closed.refers

  -- ---- which class it is
  module _ (n : ℕ) (less : n < class_count) where
    abbrev base : Value
    base = value_at vs (class_place n)

    by_address : (c : Addr) → RefTo h Class (Ref c) → (b : Value) → base ≡ b → b ≡ ref (r.classes n less).address →
        Looks {S = S} (λ z. z ≡ is_under h (Ref c) base) (under_row c.0 b) h
    unfolding under_row
    by_address c i b e f =
        let k = r.classes n less in
        subst (λ w. Looks {S = S} (λ z. z ≡ is_under h (Ref c) base) (under_row c.0 w) h) (sym f)
        (subst (λ w. Looks {S = S} (λ z. z ≡ is_under h (Ref c) w) (is_sub_row c.0 k.address) h) (sym (e ∙ f))
        (sub_looks S rules h order c.0 k.address i))

    class_looks : (c : Addr) → RefTo h Class (Ref c) →
        Looks {S = S} (λ z. z ≡ is_under h (Ref c) base) (class_under_row roots n c.0) h
    unfolding class_under_row
    class_looks c i =
        let k = r.classes n less in
        looks_then (λ b. b ≡ base) (λ z. z ≡ is_under h (Ref c) base) (look_row roots (class_place n))
        (λ b. under_row c.0 b) h (look_looks S h roots r.list r.here (class_place n))
        (λ b e. by_address c i b (sym e) (e ∙ k.is))

    value_looks : (c : Value) → RefTo h Class c →
        Looks {S = S} (λ z. z ≡ is_under h c base) (value_under_row roots n c) h
    unfolding value_under_row
    value_looks (Ref c) i = class_looks c i
    value_looks Unset i = absurd i
    value_looks NoneValue i = absurd i
    value_looks (BoolValue b) i = absurd i
    value_looks (Int j) i = absurd i
    value_looks (Builtin b) i = absurd i

    pub of_looks : (a : ℕ) (i : There h Instance a) →
        Looks {S = S} (λ z. z ≡ is_under h (value_at i.rec.values 0) base) (is_of_row roots n a) h
    unfolding is_of_row
    of_looks a i =
        let c = value_at i.rec.values 0 in
        let p : Bool → Type 0 = λ z. z ≡ is_under h c base in
        looks_then (λ x. x ≡ c) p (look_row a 0) (λ c. value_under_row roots n c) h (look_looks S h a i.rec i.here 0)
        (λ x e. subst (λ x. Looks {S = S} p (value_under_row roots n x) h) (sym e)
        (value_looks c (of_instance_at rules h order a i).0))

  -- ---- its attribute `args`
  args_by_looks : (a : ℕ) (q : Rec) → h a ≡ Some q → (k : Kind) →
      Looks {S = S} (λ z. z ≡ names_args k q.bytes) (args_by_row a k) h
  unfolding args_by_row
  args_by_looks a q e Str =
      let p : Bool → Type 0 = λ z. z ≡ bytes_eq (codes "args") q.bytes in
      looks_then (λ t. t ≡ q.bytes) p (bytes_row a) (λ t. Ret (bytes_eq (codes "args") t)) h (bytes_looks S h a q e)
      (λ t f. looks_ret S p (bytes_eq (codes "args") t) h (ap (bytes_eq (codes "args")) f))
  args_by_looks a q e k = looks_ret S (λ z. z ≡ false) false h refl

  is_args_looks : (x : Value) → Refers h x → Looks {S = S} (λ z. z ≡ is_args h x) (is_args_row x) h
  unfolding is_args_row args_at_row
  is_args_looks (Ref a) i =
      let t = some_of (h a.0) i in
      let p : Bool → Type 0 = λ z. z ≡ is_args_in (h a.0) in
      looks_then (λ k. k ≡ t.0.kind) p (kind_row a.0) (λ k. args_by_row a.0 k) h (kind_looks S h a.0 t.0 t.1)
      (λ k e. subst (λ k. Looks {S = S} p (args_by_row a.0 k) h) (sym e)
      (subst (λ o. Looks {S = S} (λ z. z ≡ is_args_in o) (args_by_row a.0 t.0.kind) h) (sym t.1)
      (args_by_looks a.0 t.0 t.1 t.0.kind)))
  is_args_looks Unset i = looks_ret S (λ z. z ≡ false) false h refl
  is_args_looks NoneValue i = looks_ret S (λ z. z ≡ false) false h refl
  is_args_looks (BoolValue b) i = looks_ret S (λ z. z ≡ false) false h refl
  is_args_looks (Int n) i = looks_ret S (λ z. z ≡ false) false h refl
  is_args_looks (Builtin b) i = looks_ret S (λ z. z ≡ false) false h refl

  module _ (d : ℕ) (q : Rec) (e : h d ≡ Some q) where
    value_if_looks : (i : ℕ) (x : Value) → value_at q.values (2 * i + 1) ≡ x → (b : Bool) →
        Looks {S = S} (λ z. z ≡ cond b (Some x) None) (value_if_row d i b) h
    unfolding value_if_row
    value_if_looks i x ex true =
        let p : Option Value → Type 0 = λ z. z ≡ Some x in
        looks_then (λ y. y ≡ value_at q.values (2 * i + 1)) p (look_row d (2 * i + 1)) (λ y. Ret (Some y)) h
        (look_looks S h d q e (2 * i + 1)) (λ y f. looks_ret S p (Some y) h (ap Some (f ∙ ex)))
    value_if_looks i x ex false = looks_ret S (λ z. z ≡ None) None h refl

    by_key_looks : (i : ℕ) (k x : Value) → value_at q.values (2 * i + 1) ≡ x → Refers h k →
        Looks {S = S} (λ z. z ≡ cond (is_args h k) (Some x) None) (value_by_row d i k) h
    unfolding value_by_row
    by_key_looks i k x ex t =
        let p : Option Value → Type 0 = λ z. z ≡ cond (is_args h k) (Some x) None in
        looks_then (λ b. b ≡ is_args h k) p (is_args_row k) (λ b. value_if_row d i b) h (is_args_looks k t)
        (λ b f. subst (λ b. Looks {S = S} p (value_if_row d i b) h) (sym f) (value_if_looks i x ex (is_args h k)))

    pair_looks : (i : ℕ) (k x : Value) → value_at q.values (2 * i) ≡ k → value_at q.values (2 * i + 1) ≡ x →
        Refers h k → Looks {S = S} (λ z. z ≡ cond (is_args h k) (Some x) None) (args_pair_row d i) h
    unfolding args_pair_row
    pair_looks i k x ek ex t =
        let p : Option Value → Type 0 = λ z. z ≡ cond (is_args h k) (Some x) None in
        looks_then (λ y. y ≡ value_at q.values (2 * i)) p (look_row d (2 * i)) (λ k. value_by_row d i k) h
        (look_looks S h d q e (2 * i))
        (λ y f. subst (λ y. Looks {S = S} p (value_by_row d i y) h) (sym (f ∙ ek)) (by_key_looks i k x ex t))

    -- a pair, and those behind it
    turn : (i m : ℕ) (x : Value) (more : Option Value) (b : Bool) →
        Looks {S = S} (λ z. z ≡ cond b (Some x) None) (args_pair_row d i) h →
        Looks {S = S} (λ z. z ≡ more) (until_row (args_pair_row d) is_missing None (i + 1) m) h
        → Looks {S = S} (λ z. z ≡ cond b (Some x) more) (until_row (args_pair_row d) is_missing None i (suc m)) h
    unfolding until_row
    turn i m x more true l n =
        let p : Option Value → Type 0 = λ z. z ≡ Some x in
        looks_then p p (args_pair_row d i)
        (λ a. cond (is_missing a) (until_row (args_pair_row d) is_missing None (i + 1) m) (Ret a)) h l
        (λ z f. subst (λ z. Looks {S = S} p
        (cond (is_missing z) (until_row (args_pair_row d) is_missing None (i + 1) m) (Ret z)) h) (sym f)
        (looks_ret S p (Some x) h refl))
    turn i m x more false l n =
        looks_then (λ z. z ≡ None) (λ z. z ≡ more) (args_pair_row d i)
        (λ a. cond (is_missing a) (until_row (args_pair_row d) is_missing None (i + 1) m) (Ret a)) h l
        (λ z f. subst (λ z. Looks {S = S} (λ z. z ≡ more)
        (cond (is_missing z) (until_row (args_pair_row d) is_missing None (i + 1) m) (Ret z)) h) (sym f) n)

    among_looks : (i : ℕ) (xs : List Value) → drop (2 * i) q.values ≡ xs → ArePairs h xs → Every (Refers h) xs →
        Looks {S = S} (λ z. z ≡ args_among h xs) (until_row (args_pair_row d) is_missing None i (length xs / 2)) h
    unfolding until_row
    among_looks i [] dr pairs t = looks_ret S (λ z. z ≡ None) None h refl
    among_looks i (k ∷ []) dr pairs t = absurd pairs
    among_looks i (k ∷ x ∷ rest) dr pairs t =
        let one = drop_here q.values (2 * i) k (x ∷ rest) dr in
        let two = drop_here q.values (2 * i + 1) x rest one.1 in
        let f : 2 * i + 1 + 1 ≡ 2 * (i + 1) = omega arith in
        rw half_more
        (turn i (length rest / 2) x (args_among h rest) (is_args h k) (pair_looks i k x one.0 two.0 t.0)
        (among_looks (i + 1) rest (ap (λ n. drop n q.values) (sym f) ∙ two.1) pairs.1 t.1.1))

    dict_looks : q.kind ≡ Dict → Looks {S = S} (λ z. z ≡ args_among h q.values) (dict_args_row d) h
    unfolding dict_args_row
    dict_looks kind =
        let p : Option Value → Type 0 = λ z. z ≡ args_among h q.values in
        looks_then (λ n. n ≡ length q.values) p (size_row d)
        (λ n. until_row (args_pair_row d) is_missing None 0 (n / 2)) h (size_looks S h d q e)
        (λ n f. subst (λ n. Looks {S = S} p (until_row (args_pair_row d) is_missing None 0 (n / 2)) h) (sym f)
        (among_looks 0 q.values refl (pairs_of rules h d q order e kind) (all_there d q e)))

  args_in_looks : (x : Value) → RefTo h Dict x → Looks {S = S} (λ z. z ≡ args_in h x) (args_in_row x) h
  unfolding args_in_row
  args_in_looks (Ref d) i =
      let t = is_at h Dict d.0 i in
      subst (λ o. Looks {S = S} (λ z. z ≡ args_among h (values_in o)) (dict_args_row d.0) h) (sym t.here)
      (dict_looks d.0 t.rec t.here t.kind)
  args_in_looks Unset i = absurd i
  args_in_looks NoneValue i = absurd i
  args_in_looks (BoolValue b) i = absurd i
  args_in_looks (Int n) i = absurd i
  args_in_looks (Builtin b) i = absurd i

  args_looks : (a : ℕ) (i : There h Instance a) → Looks {S = S} (λ z. z ≡ args_in h (value_at i.rec.values 1))
      (args_row a) h
  unfolding args_row
  args_looks a i =
      let d = value_at i.rec.values 1 in
      let p : Option Value → Type 0 = λ z. z ≡ args_in h d in
      looks_then (λ x. x ≡ d) p (look_row a 1) (λ d. args_in_row d) h (look_looks S h a i.rec i.here 1)
      (λ x e. subst (λ x. Looks {S = S} p (args_in_row x) h) (sym e)
      (args_in_looks d (of_instance_at rules h order a i).1))

  -- what is found stands in the heap
  if_refers : (b : Bool) (x : Value) (o : Option Value) → Refers h x → IfSome o (Refers h) →
      IfSome (cond b (Some x) o) (Refers h)
  if_refers true x o i j = i
  if_refers false x o i j = j

  among_refers : (xs : List Value) → Every (Refers h) xs → IfSome (args_among h xs) (Refers h)
  among_refers [] t = tt
  among_refers (k ∷ []) t = tt
  among_refers (k ∷ x ∷ rest) t = if_refers (is_args h k) x (args_among h rest) t.1.0 (among_refers rest t.1.1)

  in_refers : (x : Value) → RefTo h Dict x → IfSome (args_in h x) (Refers h)
  in_refers (Ref d) i = let t = is_at h Dict d.0 i in subst (λ o. IfSome (args_among h (values_in o)) (Refers h))
      (sym t.here) (among_refers t.rec.values (all_there d.0 t.rec t.here))
  in_refers Unset i = absurd i
  in_refers NoneValue i = absurd i
  in_refers (BoolValue b) i = absurd i
  in_refers (Int n) i = absurd i
  in_refers (Builtin b) i = absurd i

  -- ---- what of an exception is told
  module _ (a : ℕ) (i : There h Instance a) where
    abbrev key : Bool
    key = is_under h (value_at i.rec.values 0) (value_at vs (class_place (class_number (codes "KeyError"))))

    with_looks : (x : Value) → Looks {S = S} (λ z. z ≡ Some (part key x)) (part_with_row roots a x) h
    unfolding part_with_row
    with_looks x =
        let p : Option Part → Type 0 = λ z. z ≡ Some (part key x) in
        looks_then (λ b. b ≡ key) p (is_of_row roots (class_number (codes "KeyError")) a)
        (λ key. Ret (Some (part key x))) h (of_looks (class_number (codes "KeyError")) (lit< tt) a i)
        (λ b e. looks_ret S p (Some (part b x)) h (ap (λ b. Some (part b x)) e))

    module _ (t : ℕ) (q : Rec) (e : h t ≡ Some q) where
      one_looks : (x : Value) → value_at q.values 0 ≡ x →
          Looks {S = S} (λ z. z ≡ Some (part key x)) (part_one_row roots a t) h
      unfolding part_one_row
      one_looks x ex =
          let p : Option Part → Type 0 = λ z. z ≡ Some (part key x) in
          looks_then (λ y. y ≡ value_at q.values 0) p (look_row t 0) (λ x. part_with_row roots a x) h
          (look_looks S h t q e 0)
          (λ y f. subst (λ y. Looks {S = S} p (part_with_row roots a y) h) (sym (f ∙ ex)) (with_looks x))

      sized_looks : (xs : List Value) → q.values ≡ xs →
          Looks {S = S} (λ z. z ≡ part_among key (ref t) xs) (part_sized_row roots a t (length xs)) h
      unfolding part_sized_row
      sized_looks [] f = looks_ret S (λ z. z ≡ None) None h refl
      sized_looks (x ∷ []) f = one_looks x (ap (λ vs. value_at vs 0) f)
      sized_looks (x ∷ y ∷ xs) f =
          let none : eqb (suc (suc (length xs))) 0 ≡ false = grind (arith, nat_tests) in
          let more : eqb (suc (suc (length xs))) 1 ≡ false = grind (arith, nat_tests) in
          let p : Option Part → Type 0 = λ z. z ≡ Some (part true (ref t)) in
          subst (λ b. Looks {S = S} p (cond b (Ret None)
          (cond (eqb (suc (suc (length xs))) 1) (part_one_row roots a t) (Ret (Some (part true (ref t)))))) h)
          (sym none)
          (subst (λ b. Looks {S = S} p (cond b (part_one_row roots a t) (Ret (Some (part true (ref t))))) h) (sym more)
          (looks_ret S p (Some (part true (ref t))) h refl))

      tuple_looks : Looks {S = S} (λ z. z ≡ part_among key (ref t) q.values) (part_tuple_row roots a t) h
      unfolding part_tuple_row
      tuple_looks =
          let p : Option Part → Type 0 = λ z. z ≡ part_among key (ref t) q.values in
          looks_then (λ n. n ≡ length q.values) p (size_row t) (λ n. part_sized_row roots a t n) h
          (size_looks S h t q e) (λ n f. subst (λ n. Looks {S = S} p (part_sized_row roots a t n) h) (sym f)
          (sized_looks q.values refl))

      part_by_looks : (k : Kind) → Looks {S = S} (λ z. z ≡ part_by key (ref t) k q.values) (part_by_row roots a t k) h
      unfolding part_by_row
      part_by_looks Tuple = tuple_looks
      part_by_looks k = looks_ret S (λ z. z ≡ None) None h refl

      among_told : (xs : List Value) → Every (Refers h) xs → Told h (part_among key (ref t) xs)
      among_told [] j = tt
      among_told (x ∷ []) j = j.0
      among_told (x ∷ y ∷ xs) j = ap is_some e

      by_told : (k : Kind) → Told h (part_by key (ref t) k q.values)
      by_told Tuple = among_told q.values (all_there t q e)
      by_told k = tt

    part_value_looks : (x : Value) → Refers h x →
        Looks {S = S} (λ z. z ≡ part_of h key (Some x)) (part_value_row roots a x) h
    unfolding part_value_row part_at_row
    part_value_looks (Ref t) j =
        let q = some_of (h t.0) j in
        let p : Option Part → Type 0 = λ z. z ≡ part_at key (Ref t) (h t.0) in
        looks_then (λ k. k ≡ q.0.kind) p (kind_row t.0) (λ k. part_by_row roots a t.0 k) h (kind_looks S h t.0 q.0 q.1)
        (λ k f. subst (λ k. Looks {S = S} p (part_by_row roots a t.0 k) h) (sym f)
        (subst (λ o. Looks {S = S} (λ z. z ≡ part_at key (Ref t) o) (part_by_row roots a t.0 q.0.kind) h) (sym q.1)
        (part_by_looks t.0 q.0 q.1 q.0.kind)))
    part_value_looks Unset j = looks_ret S (λ z. z ≡ None) None h refl
    part_value_looks NoneValue j = looks_ret S (λ z. z ≡ None) None h refl
    part_value_looks (BoolValue b) j = looks_ret S (λ z. z ≡ None) None h refl
    part_value_looks (Int n) j = looks_ret S (λ z. z ≡ None) None h refl
    part_value_looks (Builtin b) j = looks_ret S (λ z. z ≡ None) None h refl

    value_told : (x : Value) → Refers h x → Told h (part_of h key (Some x))
    value_told (Ref t) j = let q = some_of (h t.0) j in subst (λ o. Told h (part_at key (Ref t) o)) (sym q.1)
        (by_told t.0 q.0 q.1 q.0.kind)
    value_told Unset j = tt
    value_told NoneValue j = tt
    value_told (BoolValue b) j = tt
    value_told (Int n) j = tt
    value_told (Builtin b) j = tt

    of_option : (o : Option Value) → IfSome o (Refers h) →
        Looks {S = S} (λ z. z ≡ part_of h key o) (part_of_row roots a o) h
    unfolding part_of_row
    of_option None j = looks_ret S (λ z. z ≡ None) None h refl
    of_option (Some x) j = part_value_looks x j

    option_told : (o : Option Value) → IfSome o (Refers h) → Told h (part_of h key o)
    option_told None j = tt
    option_told (Some x) j = value_told x j

    abbrev found : Option Value
    found = args_in h (value_at i.rec.values 1)

    pub told_part_looks : Looks {S = S} (λ z. z ≡ told_part h vs i.rec.values) (told_part_row roots a) h
    unfolding told_part_row
    told_part_looks =
        let p : Option Part → Type 0 = λ z. z ≡ part_of h key found in
        looks_then (λ o. o ≡ found) p (args_row a) (λ o. part_of_row roots a o) h (args_looks a i)
        (λ o e. subst (λ o. Looks {S = S} p (part_of_row roots a o) h) (sym e)
        (of_option found (in_refers (value_at i.rec.values 1) (of_instance_at rules h order a i).1)))

    part_told : Told h (told_part h vs i.rec.values)
    part_told = option_told found (in_refers (value_at i.rec.values 1) (of_instance_at rules h order a i).1)

  -- ---- texts
  plain_looks : (d : ℕ) (x : Value) (q : Bool) → Refers h x →
      Looks {S = S} (λ z. z ≡ text_within h d x q) (text_row d x q) h
  unfolding text_row
  plain_looks d x true i = nest.repr_looks S rules h order d x i
  plain_looks d x false i = nest.alone_looks S rules h order d x i

  abbrev Likes : TellsBy S → Tells → Type 0
  Likes u w = (q : Bool) (x : Value) → Refers h x → Looks (λ z. z ≡ w q x) (u q x) h

  Linked : Option (TellsBy S) → Option Tells → Type 0
  Linked None None = Unit {0}
  Linked (Some u) (Some w) = Likes u w
  Linked _ _ = ⊥

  text_looks : (u : TellsBy S) (w : Tells) → Likes u w → (o : Option Part) → Told h o →
      Looks (λ z. z ≡ part_text w o) (part_text_row u o) h
  unfolding part_text_row
  text_looks u w like None i = looks_ret S (λ z. z ≡ Is []) (Is []) h refl
  text_looks u w like (Some p) i = like p.quoted p.value i

  exception_looks : (u : TellsBy S) (w : Tells) → Likes u w → (a : ℕ) (i : There h Instance a) →
      Looks (λ z. z ≡ part_text w (told_part h vs i.rec.values)) (exception_text_row roots u a) h
  unfolding exception_text_row
  exception_looks u w like a i =
      let p : Got (List ℕ) → Type 0 = λ z. z ≡ part_text w (told_part h vs i.rec.values) in
      looks_then (λ o. o ≡ told_part h vs i.rec.values) p (told_part_row roots a) (λ o. part_text_row u o) h
      (told_part_looks a i)
      (λ o e. subst (λ o. Looks p (part_text_row u o) h) (sym e)
      (text_looks u w like (told_part h vs i.rec.values) (part_told a i)))

  module _ (under : Option (TellsBy S)) (pure : Option Tells) (link : Linked under pure) (d : ℕ) where
    leveled_looks : (a : ℕ) (i : There h Instance a) → (under : Option (TellsBy S)) (pure : Option Tells) →
        Linked under pure → Looks (λ z. z ≡ exception_text h vs pure i.rec.values)
        (level_row under (λ u. exception_text_row roots u a)) h
    unfolding level_row Linked
    leveled_looks a i None None l = looks_ret S (λ z. z ≡ Raise depth_fault) (Raise depth_fault) h refl
    leveled_looks a i (Some u) (Some w) l = exception_looks u w l a i
    leveled_looks a i None (Some w) l = absurd l
    leveled_looks a i (Some u) None l = absurd l

    if_looks : (a : ℕ) (i : There h Instance a) (b : Bool) →
        Looks (λ z. z ≡ cond b (exception_text h vs pure i.rec.values) (text_within h d (ref a) false))
        (if_exception_row roots under d a b) h
    unfolding if_exception_row
    if_looks a i true = leveled_looks a i under pure link
    if_looks a i false = plain_looks d (ref a) false (ap is_some i.here)

    instance_looks : (a : ℕ) (i : There h Instance a) → Looks (λ z. z ≡ instance_text h vs pure d (ref a) i.rec.values)
        (instance_text_row roots under d a) h
    unfolding instance_text_row
    instance_looks a i =
        let b = is_under h (value_at i.rec.values 0) (value_at vs (class_place (class_number (codes "BaseException"))))
        in
        let p : Got (List ℕ) → Type 0 = λ z. z ≡ instance_text h vs pure d (ref a) i.rec.values in
        looks_then (λ z. z ≡ b) p (is_of_row roots (class_number (codes "BaseException")) a)
        (λ b. if_exception_row roots under d a b) h (of_looks (class_number (codes "BaseException")) (lit< tt) a i)
        (λ z e. subst (λ z. Looks p (if_exception_row roots under d a z) h) (sym e) (if_looks a i b))

    alone_by_looks : (a : ℕ) (q : Rec) → h a ≡ Some q → (k : Kind) → q.kind ≡ k →
        Looks (λ z. z ≡ alone_by h vs pure d (ref a) k q.values) (alone_by_row roots under d a k) h
    unfolding alone_by_row
    alone_by_looks a q e Instance f = instance_looks a (record { rec = q; here = e; kind = f })
    alone_by_looks a q e k f = plain_looks d (ref a) false (ap is_some e)

    alone_looks : (x : Value) → Refers h x →
        Looks (λ z. z ≡ told_under h vs pure d false x) (alone_row roots under d x) h
    unfolding alone_row alone_at_row
    alone_looks (Ref a) i =
        let q = some_of (h a.0) i in
        let p : Got (List ℕ) → Type 0 = λ z. z ≡ alone_at h vs pure d (Ref a) (h a.0) in
        looks_then (λ k. k ≡ q.0.kind) p (kind_row a.0) (λ k. alone_by_row roots under d a.0 k) h
        (kind_looks S h a.0 q.0 q.1)
        (λ k e. subst (λ k. Looks p (alone_by_row roots under d a.0 k) h) (sym e)
        (subst (λ o. Looks (λ z. z ≡ alone_at h vs pure d (Ref a) o) (alone_by_row roots under d a.0 q.0.kind) h)
        (sym q.1) (alone_by_looks a.0 q.0 q.1 q.0.kind refl)))
    alone_looks Unset i = plain_looks d Unset false i
    alone_looks NoneValue i = plain_looks d NoneValue false i
    alone_looks (BoolValue b) i = plain_looks d (BoolValue b) false i
    alone_looks (Int n) i = plain_looks d (Int n) false i
    alone_looks (Builtin b) i = plain_looks d (Builtin b) false i

    under_looks : Likes (told_under_row roots under d) (told_under h vs pure d)
    unfolding told_under_row
    under_looks true x i = plain_looks d x true i
    under_looks false x i = alone_looks x i

  -- for each number of levels
  levels_look : (d : ℕ) → Likes (told_levels {S = S} roots d) (told_within h vs d)
  unfolding left told_within Linked
  levels_look zero = under_looks None None tt 0
  levels_look (suc d) = under_looks (Some (told_levels roots d)) (Some (told_within h vs d)) (levels_look d) (suc d)

  pub told_looks : (x : Value) (quoted : Bool) → IsItem h x →
      Looks {S = S} (λ z. z ≡ text_of h roots x quoted) (told_row roots x quoted) h
  unfolding told_row
  told_looks x quoted i = subst (λ o. Looks {S = S} (λ z. z ≡ told_within h (values_in o) DEPTH_LIMIT quoted x)
      (told_levels roots DEPTH_LIMIT quoted x) h) (sym r.here) (levels_look DEPTH_LIMIT quoted x i.0)
