-- `isinstance` takes looks alone; and what it answers of a class.
use Rattle.std.proofs.Common.{◌≡◌, ℕ, zero, suc, ◌+◌, ◌==◌, Bool, true, false, not, cond, List, [], ◌∷◌, length, Option, Some, None, codes, lit<, sym, subst}
use Rattle.std.specs.Prelude.{IfSome}
use Rattle.py_base.specs.Numbers.{builtin_number, class_number}
use Rattle.py_base.specs.declared.kind.Kind.TheVariants.{Tuple, Class as ClassKind, Instance}
use Rattle.py_data.specs.declared.value.Addr.{Addr}
use Rattle.py_data.specs.declared.value.Value.{Value}
use Rattle.py_data.specs.declared.value.Value.TheVariants.{Unset, None as NoneValue, Bool as BoolValue, Int, Ref, Builtin}
use Rattle.py_data.specs.declared.record.Fault.{Fault}
use Rattle.py_data.specs.declared.record.Got.{Got}
use Rattle.py_data.specs.declared.record.Got.TheVariants.{Is, Raise}
use Rattle.py_data.specs.Answers.{IsGot, IsFault, IsAnswer}
use Rattle.py_data.specs.Closed.{Refers, IsItem}
use Rattle.py_data.specs.Every.{Every}
use Rattle.py_data.specs.Fault.{argument_fault}
use Rattle.py_data.specs.Heap.{Rec, Heap, value_at}
use Rattle.py_data.specs.Looking.{Looks, size_row, look_row, until_row, each_row, got_row}
use Rattle.py_data.specs.Order.{Rules, IsOrdered}
use Rattle.py_data.specs.Row.{Row, Ret}
use Rattle.py_data.specs.Shape.{RefTo}
use Rattle.py_data.proofs.EveryLemmas.{every_and}
use Rattle.py_data.proofs.Looking.{looks_ret, looks_then, looks_weaken, size_looks, look_looks}
use Rattle.obj_class.specs.Bases.{MOST_BASES, is_below}
use Rattle.obj_class.specs.Roots.{IsRoots, class_place}
use Rattle.obj_class.proofs.AttrLooks.{sub_looks}
use Rattle.obj_class.proofs.Parts.{Is as IsRecord, is_at, of_instance_at}
use Rattle.obj_ops.proofs.NumbersHold.{bool_item}
use Rattle.obj_builtins.specs.declared.arguments.Form.{Form}
use Rattle.obj_builtins.specs.declared.arguments.Form.TheVariants.{Number, Truth, Text, Items, ListOf, Pairs, Class as ClassForm, Object, Named, Other}
use Rattle.obj_builtins.specs.declared.kinds.Class.{Class}
use Rattle.obj_builtins.specs.declared.kinds.Class.TheVariants.{Own, Numbers, Truths, Texts, Lists, Tuples, Dicts}
use Rattle.obj_builtins.specs.Arguments.{form_row}
use Rattle.obj_builtins.specs.Kinds.{builtin_class, class_of, with_class, item_form, class_turn, classes_in, classes_at, classes_row, is_ref, below_row, object_below, form_below, own_test, own_row, is_number, is_truth, is_text, is_list, is_tuple, is_dict, class_row, class_at, any_row, form_told, value_told, told_of, told_by, isinstance_row}
use Rattle.obj_builtins.proofs.FormLooks.{IsForm, form_looks, refers_at}

-- a class stands at the address
unfoldable pub IsClass : Heap → Class → Type 0
IsClass h (Own c) = RefTo h ClassKind (Ref c)
IsClass h _ = Unit {0}

abbrev AreClasses : List Class → Heap → Type 0
AreClasses cs h = Every (IsClass h) cs

-- ---- what is asked for
module _ (h : Heap) where
  some_or : (b : Bool) (c : Class) (o : Option Class) → IsClass h c → IfSome o (IsClass h) →
      IfSome (cond b (Some c) o) (IsClass h)
  some_or true c o i j = i
  some_or false c o i j = j

  module _ (b : ℕ) where
    abbrev from_dict : Option Class
    from_dict = cond (b == builtin_number (codes "dict")) (Some Dicts) None

    abbrev from_tuple : Option Class
    from_tuple = cond (b == builtin_number (codes "tuple")) (Some Tuples) from_dict

    abbrev from_list : Option Class
    from_list = cond (b == builtin_number (codes "list")) (Some Lists) from_tuple

    abbrev from_str : Option Class
    from_str = cond (b == builtin_number (codes "str")) (Some Texts) from_list

    abbrev from_bool : Option Class
    from_bool = cond (b == builtin_number (codes "bool")) (Some Truths) from_str

    builtin_good : IfSome (builtin_class b) (IsClass h)
    unfolding IsClass
    builtin_good =
        some_or (b == builtin_number (codes "int")) Numbers from_bool tt
        (some_or (b == builtin_number (codes "bool")) Truths from_str tt
        (some_or (b == builtin_number (codes "str")) Texts from_list tt
        (some_or (b == builtin_number (codes "list")) Lists from_tuple tt
        (some_or (b == builtin_number (codes "tuple")) Tuples from_dict tt
        (some_or (b == builtin_number (codes "dict")) Dicts None tt tt)))))

  class_good : (f : Form) → IsForm h f → IfSome (class_of f) (IsClass h)
  unfolding IsForm IsClass
  class_good (ClassForm c) i = i
  class_good (Named b) i = builtin_good b
  class_good f i = tt

  with_good : (cs : List Class) (o : Option Class) → Every (IsClass h) cs → IfSome o (IsClass h) →
      IsGot AreClasses (with_class cs o) h
  with_good cs (Some c) i j = every_and (IsClass h) cs (c ∷ []) i (j, tt)
  with_good cs None i j = (lit< tt, lit< tt, tt)

-- ---- looks
abbrev Anything : {A : Type 0} → A → Type 0
Anything a = Unit {0}

module _ (S : Type 0) (rules : Rules) (h : Heap) (order : IsOrdered rules h) where
  abbrev Classes : Got (List Class) → Type 0
  Classes g = IsGot AreClasses g h

  item_looks : (a : ℕ) (r : Rec) → h a ≡ Some r → (i : ℕ) → Looks {S = S} (IsForm h) (item_form a i) h
  unfolding item_form
  item_looks a r e i =
      looks_then (λ x. x ≡ value_at r.values i) (IsForm h) (look_row a i) (λ x. form_row x) h (look_looks S h a r e i)
      (λ x q. form_looks S h x (subst (Refers h) (sym q) (refers_at h r.values i (order.each a r e).closed.refers)))

  turn_looks : (a : ℕ) (r : Rec) → h a ≡ Some r → (i : ℕ) (cs : List Class) → Every (IsClass h) cs →
      Looks {S = S} Classes (class_turn a i cs) h
  unfolding class_turn
  turn_looks a r e i cs good =
      looks_then (IsForm h) Classes (item_form a i) (λ f. Ret (with_class cs (class_of f))) h (item_looks a r e i)
      (λ f g. looks_ret S Classes (with_class cs (class_of f)) h (with_good h cs (class_of f) good (class_good h f g)))

  got_looks : {B : Type 0} (q : Got B → Type 0) (f : List Class → Row S (Got B)) (g : Got (List Class)) →
      IsGot AreClasses g h → ((cs : List Class) → Every (IsClass h) cs → Looks q (f cs) h) →
      ((e : Fault) → IsFault h e → q (Raise e))
      → Looks q (got_row f g) h
  got_looks q f (Is cs) i n m = n cs i
  got_looks q f (Raise e) i n m = looks_ret S q (Raise e) h (m e i)

  turns_look : (a : ℕ) (r : Rec) → h a ≡ Some r → (m i : ℕ) (cs : List Class) → Every (IsClass h) cs →
      Looks {S = S} Classes (each_row (class_turn a) i m cs) h
  unfolding each_row
  turns_look a r e zero i cs good = looks_ret S Classes (Is cs) h good
  turns_look a r e (suc m) i cs good =
      looks_then Classes Classes (class_turn a i cs) (got_row (each_row (class_turn a) (i + 1) m)) h
      (turn_looks a r e i cs good)
      (λ g t. got_looks Classes (each_row (class_turn a) (i + 1) m) g t (λ ds u. turns_look a r e m (i + 1) ds u)
      (λ x u. u))

  tuple_looks : (a : ℕ) (t : IsRecord h Tuple a) → Looks {S = S} Classes (classes_at a) h
  unfolding classes_at classes_in
  tuple_looks a t = looks_then (λ n. n ≡ length t.rec.values) Classes (size_row a) (λ n. classes_in a n) h
      (size_looks S h a t.rec t.here) (λ n q. turns_look a t.rec t.here n 0 [] tt)

  classes_look : (f : Form) → IsForm h f → Looks {S = S} Classes (classes_row f) h
  unfolding classes_row IsForm
  classes_look (Items a) i = tuple_looks a.0 (is_at h Tuple a.0 i)
  classes_look (Number n) i = looks_ret S Classes (with_class [] None) h (with_good h [] None tt tt)
  classes_look (Truth b) i = looks_ret S Classes (with_class [] None) h (with_good h [] None tt tt)
  classes_look (Text a) i = looks_ret S Classes (with_class [] None) h (with_good h [] None tt tt)
  classes_look ListOf i = looks_ret S Classes (with_class [] None) h (with_good h [] None tt tt)
  classes_look Pairs i = looks_ret S Classes (with_class [] None) h (with_good h [] None tt tt)
  classes_look (ClassForm c) i = looks_ret S Classes (with_class [] (Some (Own c))) h
      (with_good h [] (Some (Own c)) tt (class_good h (ClassForm c) i))
  classes_look (Object a) i = looks_ret S Classes (with_class [] None) h (with_good h [] None tt tt)
  classes_look (Named b) i = looks_ret S Classes (with_class [] (builtin_class b)) h
      (with_good h [] (builtin_class b) tt (builtin_good h b))
  classes_look Other i = looks_ret S Classes (with_class [] None) h (with_good h [] None tt tt)

  -- ---- whether a value is one
  below_looks : (k : Value) (c : Addr) → RefTo h ClassKind k →
      Looks {S = S} (λ z. z ≡ is_below h c.0 MOST_BASES k) (below_row k c) h
  unfolding below_row
  below_looks (Ref k) c i = sub_looks S rules h order k.0 c.0 i
  below_looks Unset c i = absurd i
  below_looks NoneValue c i = absurd i
  below_looks (BoolValue b) c i = absurd i
  below_looks (Int n) c i = absurd i
  below_looks (Builtin b) c i = absurd i

  pub object_looks : (a : ℕ) (t : IsRecord h Instance a) (c : Addr) →
      Looks {S = S} (λ z. z ≡ is_below h c.0 MOST_BASES (value_at t.rec.values 0)) (object_below a c) h
  unfolding object_below
  object_looks a t c =
      let k = value_at t.rec.values 0 in
      let q : Bool → Type 0 = λ z. z ≡ is_below h c.0 MOST_BASES k in
      looks_then (λ x. x ≡ k) q (look_row a 0) (λ k. below_row k c) h (look_looks S h a t.rec t.here 0)
      (λ x e. subst (λ z. Looks {S = S} q (below_row z c) h) (sym e)
      (below_looks k c (of_instance_at rules h order a t).0))

  form_told_below : (f : Form) (c : Addr) → IsForm h f → Looks {S = S} Anything (form_below f c) h
  unfolding form_below IsForm
  form_told_below (Object a) c i =
      let t = is_at h Instance a.0 i in
      looks_weaken (λ z. z ≡ is_below h c.0 MOST_BASES (value_at t.rec.values 0)) Anything (λ z e. tt)
      (object_below a.0 c) h (object_looks a.0 t c)
  form_told_below f c i = looks_ret S Anything false h tt

  own_test_looks : (f : Form) (c : Addr) (b : Bool) → IsForm h f → Looks {S = S} Anything (own_test f c b) h
  unfolding own_test
  own_test_looks f c true i = looks_ret S Anything true h tt
  own_test_looks f c false i = form_told_below f c i

  module _ (roots : ℕ) (known : IsRoots h roots) where
    abbrev OBJECT : ℕ
    OBJECT = class_place (class_number (codes "object"))

    own_looks : (f : Form) (c : Addr) → IsForm h f → Looks {S = S} Anything (own_row roots f c) h
    unfolding own_row
    own_looks f c i =
        looks_then (λ x. x ≡ value_at known.list.values OBJECT) Anything (look_row roots OBJECT)
        (λ o. own_test f c (is_ref o c)) h (look_looks S h roots known.list known.here OBJECT)
        (λ x q. own_test_looks f c (is_ref x c) i)

    class_looks : (f : Form) (c : Class) → IsForm h f → Looks {S = S} Anything (class_row roots f c) h
    unfolding class_row
    class_looks f (Own c) i = own_looks f c i
    class_looks f Numbers i = looks_ret S Anything (is_number f) h tt
    class_looks f Truths i = looks_ret S Anything (is_truth f) h tt
    class_looks f Texts i = looks_ret S Anything (is_text f) h tt
    class_looks f Lists i = looks_ret S Anything (is_list f) h tt
    class_looks f Tuples i = looks_ret S Anything (is_tuple f) h tt
    class_looks f Dicts i = looks_ret S Anything (is_dict f) h tt

    cond_looks : (b : Bool) (p q : Row S Bool) → Looks Anything p h → Looks Anything q h → Looks Anything (cond b p q) h
    cond_looks true p q s t = s
    cond_looks false p q s t = t

    each_looks : (f : Form) (cs : List Class) → IsForm h f → (m i : ℕ) →
        Looks {S = S} Anything (until_row (λ i. class_row roots f (class_at cs i)) not false i m) h
    unfolding until_row
    each_looks f cs k zero i = looks_ret S Anything false h tt
    each_looks f cs k (suc m) i =
        let turn : ℕ → Row S Bool = λ i. class_row roots f (class_at cs i) in
        looks_then Anything Anything (turn i) (λ b. cond (not b) (until_row turn not false (i + 1) m) (Ret b)) h
        (class_looks f (class_at cs i) k)
        (λ b t. cond_looks (not b) (until_row turn not false (i + 1) m) (Ret b) (each_looks f cs k m (i + 1))
        (looks_ret S Anything b h tt))

    abbrev Tells : Row S (Got Value) → Type 0
    Tells row = Looks (λ g. IsAnswer g h) row h

    form_tells : (cs : List Class) (f : Form) → IsForm h f → Tells (form_told roots cs f)
    unfolding form_told any_row
    form_tells cs f i =
        looks_then Anything (λ g. IsAnswer g h) (any_row roots f cs) (λ b. Ret (Is (BoolValue b))) h
        (each_looks f cs i (length cs) 0)
        (λ b t. looks_ret S (λ g. IsAnswer g h) (Is (BoolValue b)) h (bool_item h b))

    value_tells : (x : Value) (cs : List Class) → IsItem h x → Tells (value_told roots x cs)
    unfolding value_told
    value_tells x cs i = looks_then (IsForm h) (λ g. IsAnswer g h) (form_row x) (λ f. form_told roots cs f) h
        (form_looks S h x i.0) (λ f k. form_tells cs f k)

    of_tells : (x : Value) (f : Form) → IsItem h x → IsForm h f → Tells (told_of roots x f)
    unfolding told_of
    of_tells x f i k =
        looks_then Classes (λ g. IsAnswer g h) (classes_row f) (got_row (value_told roots x)) h (classes_look f k)
        (λ g t. got_looks (λ g. IsAnswer g h) (value_told roots x) g t (λ cs u. value_tells x cs i) (λ e u. u))

    by_tells : (x c : Value) → IsItem h x → IsItem h c → Tells (told_by roots x c)
    unfolding told_by
    by_tells x c i j = looks_then (IsForm h) (λ g. IsAnswer g h) (form_row c) (λ f. told_of roots x f) h
        (form_looks S h c j.0) (λ f k. of_tells x f i k)

    pub isinstance_tells : (o : Option (Value × Value)) → IfSome o (λ p. IsItem h p.0 × IsItem h p.1) →
        Tells (isinstance_row roots o)
    unfolding isinstance_row
    isinstance_tells (Some p) i = by_tells p.0 p.1 i.0 i.1
    isinstance_tells None i = looks_ret S (λ g. IsAnswer g h) (Raise argument_fault) h (lit< tt, lit< tt, tt)
