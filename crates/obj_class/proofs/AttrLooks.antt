-- The rows of `is_sub` and `find_attr` only look, may be begun over a heap in order, and answer what is meant.
use Rattle.std.proofs.Common.{◌≡◌, ℕ, zero, suc, ◌+◌, ◌*◌, Bool, true, false, cond, eqb, List, codes, Option, Some, None, Result, Ok, Err, refl, sym, ap, subst, ◌∙◌}
use Rattle.std.specs.Prelude.{option_map}
use Rattle.py_base.specs.Numbers.{class_number}
use Rattle.py_base.specs.declared.kind.Kind.{Kind}
use Rattle.py_base.specs.declared.kind.Kind.TheVariants.{Str, Tuple, List as ListKind, Dict, Cell, Function, Class, Instance, Method, Iter, Range, Lock, Thread}
use Rattle.py_data.specs.declared.value.Addr.{Addr}
use Rattle.py_data.specs.declared.value.Value.{Value}
use Rattle.py_data.specs.declared.value.Value.TheVariants.{Unset, None as NoneValue, Bool as BoolValue, Int, Ref, Builtin}
use Rattle.py_data.specs.Answers.{IfItem}
use Rattle.py_data.specs.Closed.{Refers, base_of}
use Rattle.py_data.specs.Heap.{Heap, Rec, value_at}
use Rattle.py_data.specs.Looking.{Looks, look_row, bytes_row, walk_row, walk_on, kind_row}
use Rattle.py_data.specs.Order.{Rules, IsOrdered}
use Rattle.py_data.specs.Row.{Ret, Do, Find, bind}
use Rattle.py_data.specs.Shape.{KindIn, RefTo, NoneOr, IsKey, find, is_key_kind}
use Rattle.py_data.proofs.HoldingCalls.{pairs_of}
use Rattle.py_data.proofs.Looking.{looks_ret, looks_read, looks_find, looks_then, look_looks, bytes_looks, some_of, kind_looks}
use Rattle.obj_class.specs.declared.lookup.Found.{Found}
use Rattle.obj_class.specs.declared.lookup.Found.TheVariants.{Plain}
use Rattle.obj_class.specs.Attributes.{attribute, bound, bound_in, bound_of, bytes_in, inherited, kept, nearer, of_builtin, of_class, of_instance, of_kind, of_methods, of_pair, of_record, own_first, values_in}
use Rattle.obj_class.specs.AttrRows.{bound_row, builtin_row, class_row, class_step, error_row, find_attr_row, found_by, from_class, heir_step, held_row, if_found, inherited_row, instance_row, kept_row, member_row, methods_row, next_class, own_or_class, own_row, pair_row}
use Rattle.obj_class.specs.Bases.{MOST_BASES, ref, base_step, sub_step, is_below, is_sub_row}
use Rattle.obj_class.specs.Named.{is_error, member_of}
use Rattle.obj_class.specs.Roots.{IsRoots, class_place, root_class}
use Rattle.obj_class.proofs.Parts.{Is, is_at, of_class_at, of_instance_at, inherited_item, some_class}

module _ (S : Type 0) (rules : Rules) (h : Heap) (order : IsOrdered rules h) where
  -- ---- bases
  stepped : (base m : ℕ) (c : Addr) (r : Rec) → h c.0 ≡ Some r →
      Looks (λ z. z ≡ is_below h base m (value_at r.values 1))
      (walk_row (sub_step {S = S} base) false m (value_at r.values 1)) h
      → (b : Bool) → Looks (λ z. z ≡ cond b true (is_below h base m (value_at r.values 1)))
      (bind (cond b (Ret (Err true)) (bind (look_row c.0 1) (λ b. Ret (Ok b))))
      (walk_on (walk_row (sub_step {S = S} base) false m))) h
  unfolding bind
  stepped base m c r e l true = looks_ret S (λ z. z ≡ true) true h refl
  stepped base m c r e l false =
      looks_then (λ z. z ≡ Ok (value_at r.values 1)) (λ z. z ≡ is_below h base m (value_at r.values 1))
      (bind (look_row c.0 1) (λ b. Ret (Ok b))) (walk_on (walk_row (sub_step {S = S} base) false m)) h
      (looks_then (λ x. x ≡ value_at r.values 1) (λ z. z ≡ Ok (value_at r.values 1)) (look_row c.0 1) (λ b. Ret (Ok b))
      h (look_looks S h c.0 r e 1) (λ x f. looks_ret S (λ z. z ≡ Ok (value_at r.values 1)) (Ok x) h (ap Ok f)))
      (λ z f. subst (λ z. Looks (λ z. z ≡ is_below h base m (value_at r.values 1))
      (walk_on (walk_row (sub_step {S = S} base) false m) z) h) (sym f) l)

  sub_from : (base m : ℕ) (v : Value) → NoneOr (RefTo h Class) v →
      Looks (λ z. z ≡ is_below h base m v) (walk_row (sub_step {S = S} base) false m v) h
  unfolding walk_row sub_step base_step bind
  sub_from base zero v i = looks_ret S (λ z. z ≡ false) false h refl
  sub_from base (suc m) NoneValue i = looks_ret S (λ z. z ≡ false) false h refl
  sub_from base (suc m) (Ref c) i =
      let t = is_at h Class c.0 i in
      subst (λ o. Looks (λ z. z ≡ cond (eqb c.0 base) true (is_below h base m (base_of o)))
      (bind (cond (eqb c.0 base) (Ret (Err true)) (bind (look_row c.0 1) (λ b. Ret (Ok b))))
      (walk_on (walk_row (sub_step {S = S} base) false m))) h) (sym t.here)
      (stepped base m c t.rec t.here (sub_from base m (value_at t.rec.values 1) (of_class_at rules h order c.0 t).0)
      (eqb c.0 base))
  sub_from base (suc m) Unset i = absurd i
  sub_from base (suc m) (BoolValue b) i = absurd i
  sub_from base (suc m) (Int n) i = absurd i
  sub_from base (suc m) (Builtin b) i = absurd i

  pub sub_looks : (c base : ℕ) → RefTo h Class (ref c) → Looks {S = S} (λ z. z ≡ is_below h base MOST_BASES (ref c))
      (is_sub_row c base) h
  sub_looks c base i = sub_from base MOST_BASES (ref c) i

  -- ---- dictionaries
  pair_looks : (d : ℕ) (r : Rec) → h d ≡ Some r → (o : Option ℕ) →
      Looks {S = S} (λ z. z ≡ of_pair r.values o) (pair_row d o) h
  unfolding pair_row
  pair_looks d r e None = looks_ret S (λ z. z ≡ None) None h refl
  pair_looks d r e (Some i) =
      let is : Option Value → Type 0 = λ z. z ≡ Some (value_at r.values (2 * i + 1)) in
      looks_read is d (λ r. Ret (Some (value_at r.values (2 * i + 1)))) h r e
      (looks_ret S is (Some (value_at r.values (2 * i + 1))) h refl)

  kept_looks : (v key : Value) → RefTo h Dict v → IsKey h key → Looks {S = S} (λ z. z ≡ kept h v key) (kept_row v key) h
  unfolding kept_row held_row
  kept_looks (Ref d) key i k =
      let t = is_at h Dict d.0 i in
      subst (λ o. Looks {S = S} (λ z. z ≡ of_pair (values_in o) (find h (values_in o) key))
      (Do (Find d.0 key) (pair_row d.0)) h) (sym t.here)
      (looks_find (λ z. z ≡ of_pair t.rec.values (find h t.rec.values key)) d.0 key (pair_row d.0) h t.rec t.here
      (t.kind, k, pairs_of rules h d.0 t.rec order t.here t.kind)
      (pair_looks d.0 t.rec t.here (find h t.rec.values key)))
  kept_looks Unset key i k = absurd i
  kept_looks NoneValue key i k = absurd i
  kept_looks (BoolValue b) key i k = absurd i
  kept_looks (Int n) key i k = absurd i
  kept_looks (Builtin b) key i k = absurd i

  own_looks : (a i : ℕ) (key : Value) (r : Rec) → h a ≡ Some r → RefTo h Dict (value_at r.values i) → IsKey h key →
      Looks {S = S} (λ z. z ≡ kept h (value_at r.values i) key) (own_row a i key) h
  unfolding own_row
  own_looks a i key r e dict k =
      let p : Option Value → Type 0 = λ z. z ≡ kept h (value_at r.values i) key in
      looks_then (λ d. d ≡ value_at r.values i) p (look_row a i) (λ d. kept_row d key) h (look_looks S h a r e i)
      (λ d f. subst (λ d. Looks {S = S} p (kept_row d key) h) (sym f) (kept_looks (value_at r.values i) key dict k))

  -- ---- classes
  module _ (key : Value) (is_key : IsKey h key) where
    -- where a turn goes on, or what it has found
    abbrev turned : Option Value → Value → Result Value (Option Value)
    turned (Some x) base = Err (Some x)
    turned None base = Ok base

    next_looks : (c : ℕ) (r : Rec) → h c ≡ Some r → (o : Option Value) →
        Looks {S = S} (λ z. z ≡ turned o (value_at r.values 1)) (next_class c o) h
    unfolding next_class
    next_looks c r e (Some x) = looks_ret S (λ z. z ≡ Err (Some x)) (Err (Some x)) h refl
    next_looks c r e None =
        let p : Result Value (Option Value) → Type 0 = λ z. z ≡ Ok (value_at r.values 1) in
        looks_then (λ b. b ≡ value_at r.values 1) p (look_row c 1) (λ b. Ret (Ok b)) h (look_looks S h c r e 1)
        (λ b f. looks_ret S p (Ok b) h (ap Ok f))

    step_looks : (c : ℕ) (r : Rec) → h c ≡ Some r → RefTo h Dict (value_at r.values 2) →
        Looks {S = S} (λ z. z ≡ turned (kept h (value_at r.values 2) key) (value_at r.values 1)) (class_step key c) h
    unfolding class_step
    step_looks c r e dict =
        let p : Result Value (Option Value) → Type 0 = λ z.
        z ≡ turned (kept h (value_at r.values 2) key) (value_at r.values 1) in
        looks_then (λ o. o ≡ kept h (value_at r.values 2) key) p (own_row c 2 key) (λ o. next_class c o) h
        (own_looks c 2 key r e dict is_key)
        (λ o f. subst (λ o. Looks {S = S} p (next_class c o) h) (sym f)
        (next_looks c r e (kept h (value_at r.values 2) key)))

    walked : (m : ℕ) (base : Value) → Looks {S = S} (λ z. z ≡ inherited h key m base)
        (walk_row (heir_step key) None m base) h
        → (o : Option Value) → Looks {S = S} (λ z. z ≡ nearer o (inherited h key m base))
        (walk_on (walk_row (heir_step key) None m) (turned o base)) h
    walked m base l (Some x) = looks_ret S (λ z. z ≡ Some x) (Some x) h refl
    walked m base l None = l

    turn_looks : (m : ℕ) (c : Addr) (r : Rec) → h c.0 ≡ Some r → RefTo h Dict (value_at r.values 2) →
        Looks {S = S} (λ z. z ≡ inherited h key m (value_at r.values 1))
        (walk_row (heir_step key) None m (value_at r.values 1)) h
        → Looks {S = S} (λ z. z ≡ nearer (kept h (value_at r.values 2) key) (inherited h key m (value_at r.values 1)))
        (bind (class_step key c.0) (walk_on (walk_row (heir_step key) None m))) h
    turn_looks m c r e dict l =
        let o = kept h (value_at r.values 2) key in
        let base = value_at r.values 1 in
        let p : Option Value → Type 0 = λ z. z ≡ nearer o (inherited h key m base) in
        looks_then (λ z. z ≡ turned o base) p (class_step key c.0) (walk_on (walk_row (heir_step key) None m)) h
        (step_looks c.0 r e dict)
        (λ z f. subst (λ z. Looks {S = S} p (walk_on (walk_row (heir_step key) None m) z) h) (sym f)
        (walked m base l o))

    heirs : (m : ℕ) (v : Value) → NoneOr (RefTo h Class) v →
        Looks {S = S} (λ z. z ≡ inherited h key m v) (walk_row (heir_step key) None m v) h
    unfolding walk_row heir_step inherited bind
    heirs zero v i = looks_ret S (λ z. z ≡ None) None h refl
    heirs (suc m) (Ref c) i =
        let t = is_at h Class c.0 i in
        let k = of_class_at rules h order c.0 t in
        subst (λ o. Looks {S = S} (λ z. z ≡ nearer (kept h (value_at (values_in o) 2) key)
        (inherited h key m (base_of o))) (bind (class_step key c.0) (walk_on (walk_row (heir_step key) None m))) h)
        (sym t.here)
        (turn_looks m c t.rec t.here k.1 (heirs m (value_at t.rec.values 1) k.0))
    heirs (suc m) NoneValue i = looks_ret S (λ z. z ≡ None) None h refl
    heirs (suc m) Unset i = absurd i
    heirs (suc m) (BoolValue b) i = absurd i
    heirs (suc m) (Int n) i = absurd i
    heirs (suc m) (Builtin b) i = absurd i

    pub inherited_looks : (c : Value) → NoneOr (RefTo h Class) c →
        Looks {S = S} (λ z. z ≡ inherited h key MOST_BASES c) (inherited_row key c) h
    unfolding inherited_row
    inherited_looks c i = heirs MOST_BASES c i

    -- ---- instances
    bound_looks : (x : Value) → Refers h x → Looks {S = S} (λ z. z ≡ Some (bound h x)) (bound_row x) h
    unfolding bound_row
    bound_looks (Ref f) i =
        let t = some_of (h f.0) i in
        let p : Option Found → Type 0 = λ z. z ≡ Some (bound_in (Ref f) (h f.0)) in
        looks_then (λ k. k ≡ t.0.kind) p (kind_row f.0) (λ k. Ret (Some (bound_of (Ref f) k))) h
        (kind_looks S h f.0 t.0 t.1)
        (λ k e. looks_ret S p (Some (bound_of (Ref f) k)) h (ap (λ k. Some (bound_of (Ref f) k)) e ∙
        ap (λ o. Some (bound_in (Ref f) o)) (sym t.1)))
    bound_looks Unset i = looks_ret S (λ z. z ≡ Some (Plain Unset)) (Some (Plain Unset)) h refl
    bound_looks NoneValue i = looks_ret S (λ z. z ≡ Some (Plain NoneValue)) (Some (Plain NoneValue)) h refl
    bound_looks (BoolValue b) i = looks_ret S (λ z. z ≡ Some (Plain (BoolValue b))) (Some (Plain (BoolValue b))) h refl
    bound_looks (Int n) i = looks_ret S (λ z. z ≡ Some (Plain (Int n))) (Some (Plain (Int n))) h refl
    bound_looks (Builtin b) i = looks_ret S (λ z. z ≡ Some (Plain (Builtin b))) (Some (Plain (Builtin b))) h refl

    if_looks : (o : Option Value) → IfItem o h → Looks {S = S} (λ z. z ≡ option_map (bound h) o) (if_found o) h
    unfolding if_found
    if_looks None i = looks_ret S (λ z. z ≡ None) None h refl
    if_looks (Some x) i = bound_looks x i.0

    from_looks : (c : Value) → NoneOr (RefTo h Class) c →
        Looks {S = S} (λ z. z ≡ option_map (bound h) (inherited h key MOST_BASES c)) (from_class key c) h
    unfolding from_class
    from_looks c i =
        let o = inherited h key MOST_BASES c in
        let p : Option Found → Type 0 = λ z. z ≡ option_map (bound h) o in
        looks_then (λ z. z ≡ o) p (inherited_row key c) (λ o. if_found o) h (inherited_looks c i)
        (λ z e. subst (λ z. Looks {S = S} p (if_found z) h) (sym e)
        (if_looks o (inherited_item rules h order key MOST_BASES c i)))

    or_class_looks : (a : ℕ) (i : Is h Instance a) (o : Option Value) →
        Looks {S = S} (λ z. z ≡ own_first o
        (option_map (bound h) (inherited h key MOST_BASES (value_at i.rec.values 0)))) (own_or_class a key o) h
    unfolding own_or_class
    or_class_looks a i (Some x) = looks_ret S (λ z. z ≡ Some (Plain x)) (Some (Plain x)) h refl
    or_class_looks a i None =
        let c = value_at i.rec.values 0 in
        let p : Option Found → Type 0 = λ z. z ≡ option_map (bound h) (inherited h key MOST_BASES c) in
        looks_then (λ z. z ≡ c) p (look_row a 0) (λ c. from_class key c) h (look_looks S h a i.rec i.here 0)
        (λ z e. subst (λ z. Looks {S = S} p (from_class key z) h) (sym e)
        (from_looks c (some_class h c (of_instance_at rules h order a i).0)))

    instance_looks : (a : ℕ) (i : Is h Instance a) → Looks {S = S} (λ z. z ≡ of_instance h i.rec.values key)
        (instance_row a key) h
    unfolding instance_row
    instance_looks a i =
        let o = kept h (value_at i.rec.values 1) key in
        let p : Option Found → Type 0 = λ z. z ≡ of_instance h i.rec.values key in
        looks_then (λ z. z ≡ o) p (own_row a 1 key) (λ o. own_or_class a key o) h
        (own_looks a 1 key i.rec i.here (of_instance_at rules h order a i).1 is_key)
        (λ z e. subst (λ z. Looks {S = S} p (own_or_class a key z) h) (sym e) (or_class_looks a i o))

    class_looks : (c : Value) → NoneOr (RefTo h Class) c → Looks {S = S} (λ z. z ≡ of_class h c key) (class_row c key) h
    unfolding class_row
    class_looks c i =
        let o = inherited h key MOST_BASES c in
        let p : Option Found → Type 0 = λ z. z ≡ option_map Plain o in
        looks_then (λ z. z ≡ o) p (inherited_row key c) (λ o. Ret (option_map Plain o)) h (inherited_looks c i)
        (λ z e. looks_ret S p (option_map Plain z) h (ap (option_map Plain) e))

  -- ---- names
  module _ (name : ℕ) (text : Is h Str name) where
    abbrev is_name : IsKey h (ref name)
    is_name = subst (λ o. KindIn o (λ k. is_key_kind k ≡ true)) (sym text.here) (ap is_key_kind text.kind)

    named_looks : {A : Type 0} (f : List ℕ → A) →
        Looks {S = S} (λ z. z ≡ f (bytes_in (h name))) (bind (bytes_row name) (λ t. Ret (f t))) h
    named_looks {A} f =
        let p : A → Type 0 = λ z. z ≡ f (bytes_in (h name)) in
        looks_then (λ t. t ≡ text.rec.bytes) p (bytes_row name) (λ t. Ret (f t)) h
        (bytes_looks S h name text.rec text.here)
        (λ t e. looks_ret S p (f t) h (ap f (e ∙ ap bytes_in (sym text.here))))

    error_looks : (roots : ℕ) (i : IsRoots h roots) →
        Looks {S = S} (λ z. z ≡ Some (Plain (root_class (values_in (h roots)) (codes "thread.error"))))
        (error_row roots) h
    unfolding error_row
    error_looks roots i =
        let n = class_place (class_number (codes "thread.error")) in
        let p : Option Found → Type 0 = λ z. z ≡ Some (Plain (value_at (values_in (h roots)) n)) in
        looks_then (λ c. c ≡ value_at i.list.values n) p (look_row roots n) (λ c. Ret (Some (Plain c))) h
        (look_looks S h roots i.list i.here n)
        (λ c e. looks_ret S p (Some (Plain c)) h
        (ap (λ c. Some (Plain c)) (e ∙ ap (λ o. value_at (values_in o) n) (sym i.here))))

    member_looks : (roots b : ℕ) (i : IsRoots h roots) (t : List ℕ) (c : Bool)
        → Looks {S = S} (λ z. z ≡ cond c (Some (Plain (root_class (values_in (h roots)) (codes "thread.error"))))
        (option_map (λ n. Plain (Builtin n)) (member_of b t)))
        (cond c (error_row roots) (Ret (option_map (λ n. Plain (Builtin n)) (member_of b t)))) h
    member_looks roots b i t true = error_looks roots i
    member_looks roots b i t false = looks_ret S (λ z. z ≡ option_map (λ n. Plain (Builtin n)) (member_of b t))
        (option_map (λ n. Plain (Builtin n)) (member_of b t)) h refl

    builtin_looks : (roots b : ℕ) (i : IsRoots h roots) →
        Looks {S = S} (λ z. z ≡ of_builtin (values_in (h roots)) b (bytes_in (h name))) (builtin_row roots b name) h
    unfolding builtin_row member_row
    builtin_looks roots b i =
        let p : Option Found → Type 0 = λ z. z ≡ of_builtin (values_in (h roots)) b (bytes_in (h name)) in
        looks_then (λ t. t ≡ text.rec.bytes) p (bytes_row name) (λ t. member_row roots b t) h
        (bytes_looks S h name text.rec text.here)
        (λ t e. subst (λ t. Looks {S = S} p (member_row roots b t) h) (sym (e ∙ ap bytes_in (sym text.here)))
        (member_looks roots b i (bytes_in (h name)) (is_error b (bytes_in (h name)))))

    by_looks : (a : Addr) (r : Rec) → h a.0 ≡ Some r → (k : Kind) → r.kind ≡ k →
        Looks {S = S} (λ z. z ≡ of_kind h (Ref a) name r.values k) (found_by a name k) h
    unfolding found_by methods_row
    by_looks a r e Instance f = instance_looks (ref name) is_name a.0 (record { rec = r; here = e; kind = f })
    by_looks a r e Class f = class_looks (ref name) is_name (Ref a) (subst (λ o. KindIn o (λ q. q ≡ Class)) (sym e) f)
    by_looks a r e Str f = named_looks (of_methods Str)
    by_looks a r e Tuple f = named_looks (of_methods Tuple)
    by_looks a r e ListKind f = named_looks (of_methods ListKind)
    by_looks a r e Dict f = named_looks (of_methods Dict)
    by_looks a r e Cell f = named_looks (of_methods Cell)
    by_looks a r e Function f = named_looks (of_methods Function)
    by_looks a r e Method f = named_looks (of_methods Method)
    by_looks a r e Iter f = named_looks (of_methods Iter)
    by_looks a r e Range f = named_looks (of_methods Range)
    by_looks a r e Lock f = named_looks (of_methods Lock)
    by_looks a r e Thread f = named_looks (of_methods Thread)

    pub find_looks : (roots : ℕ) (x : Value) → IsRoots h roots → Refers h x →
        Looks {S = S} (λ z. z ≡ attribute h roots x name) (find_attr_row roots x name) h
    unfolding find_attr_row
    find_looks roots (Ref a) i j =
        let t = some_of (h a.0) j in
        let p : Option Found → Type 0 = λ z. z ≡ of_record h (Ref a) name (h a.0) in
        looks_then (λ k. k ≡ t.0.kind) p (kind_row a.0) (λ k. found_by a name k) h (kind_looks S h a.0 t.0 t.1)
        (λ k e. subst (λ k. Looks {S = S} p (found_by a name k) h) (sym e)
        (subst (λ o. Looks {S = S} (λ z. z ≡ of_record h (Ref a) name o) (found_by a name t.0.kind) h) (sym t.1)
        (by_looks a t.0 t.1 t.0.kind refl)))
    find_looks roots (Builtin b) i j = builtin_looks roots b i
    find_looks roots Unset i j = looks_ret S (λ z. z ≡ None) None h refl
    find_looks roots NoneValue i j = looks_ret S (λ z. z ≡ None) None h refl
    find_looks roots (BoolValue b) i j = looks_ret S (λ z. z ≡ None) None h refl
    find_looks roots (Int n) i j = looks_ret S (λ z. z ≡ None) None h refl
