-- Over a heap in order: what can be called by a thread, the count of threads, and a start. These rows only look.
use Rattle.std.proofs.Common.{◌≡◌, ℕ, zero, suc, Bool, true, false, List, [], ◌∷◌, Option, Some, None, inl, inr, refl, sym, ap, subst, ◌∙◌, lit<}
use Rattle.std.specs.Prelude.{is_some, IfSome}
use Rattle.py_base.specs.declared.kind.Kind.{Kind}
use Rattle.py_base.specs.declared.kind.Kind.TheVariants.{Tuple, Function, Method}
use Rattle.py_data.specs.declared.value.Addr.{Addr}
use Rattle.py_data.specs.declared.value.Value.{Value}
use Rattle.py_data.specs.declared.value.Value.TheVariants.{Unset, None as NoneValue, Bool as BoolValue, Int, Ref, Builtin}
use Rattle.py_data.specs.declared.record.Got.{Got}
use Rattle.py_data.specs.declared.record.Got.TheVariants.{Raise}
use Rattle.py_data.specs.Answers.{IsGot}
use Rattle.py_data.specs.Closed.{Refers, IsItem}
use Rattle.py_data.specs.Every.{Every}
use Rattle.py_data.specs.Fault.{argument_fault}
use Rattle.py_data.specs.Heap.{Heap, Rec, value_at}
use Rattle.py_data.specs.Looking.{Looks, kind_row, look_row}
use Rattle.py_data.specs.Order.{Rules, IsOrdered}
use Rattle.py_data.specs.Row.{Ret}
use Rattle.py_data.specs.Shape.{KindIn, RefTo}
use Rattle.py_data.proofs.Looking.{looks_ret, looks_then, looks_weaken, kind_looks, look_looks, some_of}
use Rattle.obj_class.specs.Attributes.{values_in}
use Rattle.obj_class.specs.Roots.{IsRoots}
use Rattle.obj_threads.specs.declared.answer.Answer.{Answer}
use Rattle.obj_threads.specs.HoldsLaws.{IsTarget, IsUnstarted, IsCalled}
use Rattle.obj_threads.specs.Starting.{has_room, first_in, thread_count, cell_row, count_row, tuple_by, tuple_row, is_function, function_row, method_row, target_by, target_at, target_row, answer_row, room_row, start_by, start_called, start_with, begin_row, start_answer}

-- the values of a record of a heap in order refer to what is there, and so does what is missing
pub refers_at : (h : Heap) (vs : List Value) (i : ℕ) → Every (Refers h) vs → Refers h (value_at vs i)
refers_at h [] i e = tt
refers_at h (v ∷ vs) zero e = e.0
refers_at h (v ∷ vs) (suc i) e = refers_at h vs i e.1

-- a record of a kind is there
pub ref_is : (h : Heap) (a : Addr) (r : Rec) (k : Kind) → h a.0 ≡ Some r → r.kind ≡ k → RefTo h k (Ref a)
ref_is h a r k e f = subst (λ o. KindIn o (λ q. q ≡ k)) (sym e) f

kind_there : (k : Kind) (o : Option Rec) → KindIn o (λ q. q ≡ k) → is_some o ≡ true
kind_there k None i = absurd i
kind_there k (Some r) i = refl

pub ref_refers : (h : Heap) (k : Kind) (x : Value) → RefTo h k x → Refers h x
ref_refers h k (Ref a) i = kind_there k (h a.0) i
ref_refers h k Unset i = absurd i
ref_refers h k NoneValue i = absurd i
ref_refers h k (BoolValue b) i = absurd i
ref_refers h k (Int n) i = absurd i
ref_refers h k (Builtin b) i = absurd i

module _ (S : Type 0) (rules : Rules) (h : Heap) (order : IsOrdered rules h) where
  pub values_refer : (a : ℕ) (r : Rec) → h a ≡ Some r → (i : ℕ) → Refers h (value_at r.values i)
  values_refer a r e i = refers_at h r.values i (order.each a r e).closed.refers

  -- ---- tuples
  abbrev pub IfTuple : Option Addr → Type 0
  IfTuple o = IfSome o (λ a. RefTo h Tuple (Ref a))

  tuple_kind : (a : Addr) (r : Rec) → h a.0 ≡ Some r → (k : Kind) → k ≡ r.kind → IfTuple (tuple_by a k)
  tuple_kind a r e Tuple f = ref_is h a r Tuple e (sym f)
  tuple_kind a r e _ f = tt

  pub tuple_looks : (x : Value) → Refers h x → Looks {S = S} IfTuple (tuple_row x) h
  unfolding tuple_row
  tuple_looks (Ref a) i =
      let r = some_of (h a.0) i in
      looks_then (λ k. k ≡ r.0.kind) IfTuple (kind_row a.0) (λ k. Ret (tuple_by a k)) h (kind_looks S h a.0 r.0 r.1)
      (λ k f. looks_ret S IfTuple (tuple_by a k) h (tuple_kind a r.0 r.1 k f))
  tuple_looks _ i = looks_ret S IfTuple None h tt

  -- ---- targets
  abbrev IsIf : Type 0 → Bool → Type 0
  IsIf P b = b ≡ true → P

  function_kind : (a : Addr) (r : Rec) → h a.0 ≡ Some r → (k : Kind) → k ≡ r.kind →
      IsIf (RefTo h Function (Ref a)) (is_function k)
  function_kind a r e Function f t = ref_is h a r Function e (sym f)
  function_kind a r e _ f t = absurd (let z : false ≡ true = t in cc)

  function_looks : (x : Value) → Refers h x → Looks {S = S} (IsIf (RefTo h Function x)) (function_row x) h
  unfolding function_row
  function_looks (Ref a) i =
      let r = some_of (h a.0) i in
      looks_then (λ k. k ≡ r.0.kind) (IsIf (RefTo h Function (Ref a))) (kind_row a.0) (λ k. Ret (is_function k)) h
      (kind_looks S h a.0 r.0 r.1)
      (λ k f. looks_ret S (IsIf (RefTo h Function (Ref a))) (is_function k) h (function_kind a r.0 r.1 k f))
  function_looks x i = looks_ret S (IsIf (RefTo h Function x)) false h (λ t. absurd (let z : false ≡ true = t in cc))

  method_looks : (a : Addr) (r : Rec) → h a.0 ≡ Some r → r.kind ≡ Method →
      Looks {S = S} (IsIf (IsTarget h (Ref a))) (method_row a.0) h
  unfolding method_row
  method_looks a r e k =
      let f = value_at r.values 0 in
      let p = IsIf (IsTarget h (Ref a)) in
      looks_then (λ x. x ≡ f) p (look_row a.0 0) (λ x. function_row x) h (look_looks S h a.0 r e 0)
      (λ x g.
      subst (λ x. Looks {S = S} p (function_row x) h) (sym g)
      (looks_weaken (IsIf (RefTo h Function f)) p
      (λ b i t. inr (record { address = a.0; is = refl; method = r; here = e; kind = k; function = i t }))
      (function_row f) h (function_looks f (values_refer a.0 r e 0))))

  target_kind : (a : Addr) (r : Rec) → h a.0 ≡ Some r → (k : Kind) → k ≡ r.kind →
      Looks {S = S} (IsIf (IsTarget h (Ref a))) (target_by a.0 k) h
  unfolding target_by
  target_kind a r e Function f = looks_ret S (IsIf (IsTarget h (Ref a))) true h
      (λ t. inl (ref_is h a r Function e (sym f)))
  target_kind a r e Method f = method_looks a r e (sym f)
  target_kind a r e _ f = looks_ret S (IsIf (IsTarget h (Ref a))) false h (λ t. absurd (let z : false ≡ true = t in cc))

  target_looks : (x : Value) → Refers h x → Looks {S = S} (IsIf (IsTarget h x)) (target_row x) h
  unfolding target_row target_at
  target_looks (Ref a) i =
      let r = some_of (h a.0) i in
      looks_then (λ k. k ≡ r.0.kind) (IsIf (IsTarget h (Ref a))) (kind_row a.0) (λ k. target_by a.0 k) h
      (kind_looks S h a.0 r.0 r.1) (target_kind a r.0 r.1)
  target_looks x i = looks_ret S (IsIf (IsTarget h x)) false h (λ t. absurd (let z : false ≡ true = t in cc))

  -- ---- the count
  cell_looks : (x : Value) → Refers h x → Looks {S = S} (λ z. z ≡ first_in h x) (cell_row x) h
  unfolding cell_row
  cell_looks (Ref c) i =
      let r = some_of (h c.0) i in
      looks_weaken (λ z. z ≡ value_at r.0.values 0) (λ z. z ≡ first_in h (Ref c))
      (λ z e. e ∙ ap (λ o. value_at (values_in o) 0) (sym r.1)) (look_row c.0 0) h (look_looks S h c.0 r.0 r.1 0)
  cell_looks Unset i = looks_ret S (λ z. z ≡ Unset) Unset h refl
  cell_looks NoneValue i = looks_ret S (λ z. z ≡ Unset) Unset h refl
  cell_looks (BoolValue b) i = looks_ret S (λ z. z ≡ Unset) Unset h refl
  cell_looks (Int n) i = looks_ret S (λ z. z ≡ Unset) Unset h refl
  cell_looks (Builtin b) i = looks_ret S (λ z. z ≡ Unset) Unset h refl

  count_looks : (roots : ℕ) → IsRoots h roots → Looks {S = S} (λ z. z ≡ thread_count h roots) (count_row roots) h
  unfolding count_row
  count_looks roots i =
      let cell = value_at i.list.values 0 in
      let same : thread_count h roots ≡ first_in h cell = ap (λ o. first_in h (value_at (values_in o) 0)) i.here in
      looks_then (λ z. z ≡ cell) (λ z. z ≡ thread_count h roots) (look_row roots 0) (λ x. cell_row x) h
      (look_looks S h roots i.list i.here 0)
      (λ x e.
      subst (λ x. Looks {S = S} (λ z. z ≡ thread_count h roots) (cell_row x) h) (sym e)
      (looks_weaken (λ z. z ≡ first_in h cell) (λ z. z ≡ thread_count h roots) (λ z f. f ∙ sym same) (cell_row cell) h
      (cell_looks cell (values_refer roots i.list i.here 0))))

  -- ---- a start
  module _ (roots : ℕ) (is_roots : IsRoots h roots) where
    abbrev pub IsGood : Got Answer → Type 0
    IsGood z = IsGot (IsCalled roots) z h

    pub wrong_looks : Looks {S = S} IsGood (Ret (Raise argument_fault)) h
    wrong_looks = looks_ret S IsGood (Raise argument_fault) h (lit< tt, lit< tt, tt)

    module _ (f : Value) (item : IsItem h f) (thread : Option Addr) (fresh : IfSome thread (λ a. IsUnstarted h a.0))
      where
        answer_good : (t : Addr) → RefTo h Tuple (Ref t) → IsTarget h f → (b : Bool) →
            has_room (thread_count h roots) ≡ b → IsGood (start_answer f t thread b)
        answer_good t tuple target true e = (item, target, tuple, fresh, e)
        answer_good t tuple target false e = (lit< tt, lit< tt, tt)

        room_looks : (t : Addr) → RefTo h Tuple (Ref t) → IsTarget h f →
            Looks {S = S} IsGood (room_row roots f t thread) h
        unfolding room_row answer_row
        room_looks t tuple target =
            looks_then (λ z. z ≡ thread_count h roots) IsGood (count_row roots)
            (λ n. answer_row f t thread (has_room n))
            h (count_looks roots is_roots)
            (λ n e. looks_ret S IsGood (start_answer f t thread (has_room n)) h
            (answer_good t tuple target (has_room n) (ap has_room (sym e))))

        by_target : (t : Addr) → RefTo h Tuple (Ref t) → (good : Bool) → IsIf (IsTarget h f) good →
            Looks {S = S} IsGood (start_by roots f t thread good) h
        unfolding start_by
        by_target t tuple true i = room_looks t tuple (i refl)
        by_target t tuple false i = wrong_looks

        with_looks : (o : Option Addr) → IfTuple o → Looks {S = S} IsGood (start_with roots f thread o) h
        unfolding start_with start_called
        with_looks (Some t) tuple = looks_then (IsIf (IsTarget h f)) IsGood (target_row f)
            (λ good. start_by roots f t thread good) h (target_looks f item.0) (by_target t tuple)
        with_looks None tuple = wrong_looks

        pub begin_looks : (args : Value) → Refers h args → Looks {S = S} IsGood (begin_row roots f args thread) h
        unfolding begin_row
        begin_looks args i = looks_then IfTuple IsGood (tuple_row args) (λ o. start_with roots f thread o) h
            (tuple_looks args i) with_looks
