-- Classes, instances and functions that are made over a heap in order, and what looks at classes answer.
use Rattle.std.proofs.Common.{arith, ◌≡◌, ℕ, zero, suc, ◌+◌, ◌<◌, List, [], ◌∷◌, drop, Some, Ok, refl, sym, ap, subst, ◌∙◌, pos}
use Rattle.std.specs.Prelude.{Option, None, true, is_some}
use Rattle.py_base.specs.Numbers.{class_count}
use Rattle.py_base.specs.declared.kind.Kind.{Kind}
use Rattle.py_base.specs.declared.kind.Kind.TheVariants.{Class, Function, Instance, Cell, Dict, Str, Tuple}
use Rattle.py_data.specs.declared.value.Value.{Value}
use Rattle.py_data.specs.declared.value.Value.TheVariants.{Unset, None as NoneValue, Bool as BoolValue, Int, Ref, Builtin}
use Rattle.py_data.specs.declared.record.Fault.{Fault}
use Rattle.py_data.specs.declared.record.Got.{Got}
use Rattle.py_data.specs.Answers.{IsFault, IsGot}
use Rattle.py_data.specs.Closed.{IsItem, Refers}
use Rattle.py_data.specs.Every.{Every}
use Rattle.py_data.specs.Heap.{Heap, Rec, new_rec, value_at}
use Rattle.py_data.specs.Holds.{Holds}
use Rattle.py_data.specs.Looking.{Looks, look_row}
use Rattle.py_data.specs.Order.{FitsAt, IsOrdered}
use Rattle.py_data.specs.Row.{Row}
use Rattle.py_data.specs.Sense.{Sense, Lawful, Safe, Meets}
use Rattle.py_data.specs.Shape.{KindIn, NoneOr, RefTo}
use Rattle.py_data.proofs.Holding.{holds_weaken}
use Rattle.py_data.proofs.Looking.{look_looks, looks_held, looks_weaken}
use Rattle.obj_class.specs.Bases.{ref}
use Rattle.obj_class.specs.Exceptions.{IsRaised, fault_row}
use Rattle.obj_class.specs.Roots.{IsRoots, class_place}
use Rattle.obj_class.proofs.FaultHolds.{fault_holds, instance_fits}
use Rattle.obj_class.proofs.RootsHold.{class_fits}
use Rattle.obj_builtins.specs.Calls.{call_row}
use Rattle.obj_builtins.specs.CallLaws.{CallHolds}
use Rattle.obj_threads.specs.declared.answer.Answer.{Answer}
use Rattle.obj_threads.specs.HoldsLaws.{IsCalled}
use Rattle.obj_dict.specs.HoldsLaws.{IsDictAt}
use Rattle.obj_str.specs.HoldsLaws.{IsStrAt}
use Rattle.obj_bench.specs.Bench.{free, any_state, Good, GoodWith, IsClassAt, IsTupleAt}
use Rattle.obj_bench.proofs.BenchSteps.{good_safe, good_done, look_safe}

there : (o : Option Rec) (p : Kind → Type 0) → KindIn o p → is_some o ≡ true
there None p i = absurd i
there (Some r) p i = refl

module _ (h : Heap) where
  -- a record of some kind is an item
  kind_item : (a : ℕ) (p : Kind → Type 0) → KindIn (h a) p → IsItem h (ref a)
  kind_item a p i = (there (h a) p i, λ q. let z : ref a ≡ Unset = q in cc)

  base_item : (x : Value) → NoneOr (RefTo h Class) x → IsItem h x
  base_item NoneValue i = (tt, λ q. let z : NoneValue ≡ Unset = q in cc)
  base_item (Ref a) i = kind_item a.0 (λ k. k ≡ Class) i
  base_item Unset i = absurd i
  base_item (BoolValue b) i = absurd i
  base_item (Int n) i = absurd i
  base_item (Builtin b) i = absurd i

  pub class_fit : (order : IsOrdered free h) (a name dict : ℕ) (base : Value) (vs : List Value) (bs : List ℕ) →
      vs ≡ ref name ∷ base ∷ ref dict ∷ [] → bs ≡ [] → IsStrAt h name → NoneOr (RefTo h Class) base → IsDictAt h dict →
      FitsAt free h a (new_rec Class vs bs)
  class_fit order a name dict base vs bs e f n b d =
      subst (λ bs. FitsAt free h a (new_rec Class vs bs)) (sym f)
      (subst (λ vs. FitsAt free h a (new_rec Class vs [])) (sym e)
      (class_fits free h order a (ref name) base (ref dict) n b d (kind_item name (λ k. k ≡ Str) n)
      (base_item base b) (kind_item dict (λ k. k ≡ Dict) d)))

  pub instance_fit : (a class dict : ℕ) (vs : List Value) (bs : List ℕ) → vs ≡ ref class ∷ ref dict ∷ [] → bs ≡ [] →
      IsClassAt h class → IsDictAt h dict → FitsAt free h a (new_rec Instance vs bs)
  instance_fit a class dict vs bs e f c d =
      subst (λ bs. FitsAt free h a (new_rec Instance vs bs)) (sym f)
      (subst (λ vs. FitsAt free h a (new_rec Instance vs [])) (sym e)
      (instance_fits {S = Unit {0}} free any_state h a (ref class) (ref dict) c
      (kind_item class (λ k. k ≡ Class) c) d (kind_item dict (λ k. k ≡ Dict) d)))

  function_here : (a name defaults : ℕ) → IsStrAt h name → IsTupleAt h defaults →
      FitsAt free h a (new_rec Function (ref name ∷ Int (pos 0) ∷ ref defaults ∷ []) [])
  function_here a name defaults n d =
      let i = kind_item name (λ k. k ≡ Str) n in
      let j = kind_item defaults (λ k. k ≡ Tuple) d in
      record {
        closed = record {
          refers = (i.0, (tt, (j.0, tt)));
          shaped =
              ((n, tt, d), refl, (i.1, ((λ q. let z : Int (pos 0) ≡ Unset = q in cc), (j.1, tt))));
          bases = λ e.
              absurd (let q : Function ≡ Class = e in cc);
        };
        short = (omega arith, omega arith);
        function = λ e. tt;
        cell = λ e. absurd (let q : Function ≡ Cell = e in cc);
      }

  pub function_fit : (a name defaults : ℕ) (vs : List Value) (bs : List ℕ) →
      vs ≡ ref name ∷ Int (pos 0) ∷ ref defaults ∷ [] → bs ≡ [] → IsStrAt h name → IsTupleAt h defaults →
      FitsAt free h a (new_rec Function vs bs)
  function_fit a name defaults vs bs e f n d =
      subst (λ bs. FitsAt free h a (new_rec Function vs bs)) (sym f)
      (subst (λ vs. FitsAt free h a (new_rec Function vs [])) (sym e) (function_here a name defaults n d))

module _ {S X : Type 0} {u : Sense S X} {roots : ℕ} {stack : List Value} {v : X} (good : Good u roots stack v) where
  -- what a look answers has its property
  pub look_with : {A : Type 0} (p : A → Heap → Type 0) (row : Row S A) → Looks (λ a. p a (u.heap v)) row (u.heap v) →
      (L : Lawful u) (w : X) (y : A) → Meets u row v w (Ok y) → GoodWith u roots p stack y w
  look_with p row looks L w y m =
      good_done p row good
      (holds_weaken free any_state (λ a h1. (h1 ≡ u.heap v) × p a (u.heap v)) p (λ a h1 t. subst (p a) (sym t.0) t.1)
      row (u.heap v) (looks_held free any_state (λ a. p a (u.heap v)) (u.heap v) row looks)) L w y m

  module _ (n : ℕ) (less : n < class_count) where
    root_looks : Looks {S = S} (λ x. IsItem (u.heap v) x) (look_row roots (class_place n)) (u.heap v)
    root_looks =
        let r = good.listed in
        let c = r.classes n less in
        looks_weaken (λ x. x ≡ value_at r.list.values (class_place n)) (λ x. IsItem (u.heap v) x)
        (λ x e. subst (IsItem (u.heap v)) (sym (e ∙ c.is)) (
          ap is_some c.here,
          λ q. let z : ref c.address ≡ Unset =
              q in cc,
        )) (look_row roots (class_place n)) (u.heap v)
        (look_looks S (u.heap v) roots r.list r.here (class_place n))

    pub root_safe : Safe u.partial (look_row {S = S} roots (class_place n)) (u.heap v)
    root_safe = look_safe (λ x. IsItem (u.heap v) x) (look_row roots (class_place n)) good root_looks

    pub root_done : (L : Lawful u) (w : X) (x : Value) → Meets u (look_row roots (class_place n)) v w (Ok x) →
        GoodWith u roots (λ x h. IsItem h x) stack x w
    root_done L w x m = look_with (λ x h. IsItem h x) (look_row roots (class_place n)) root_looks L w x m

  -- what an exception makes is an item
  pub fault_done : (L : Lawful u) (e : Fault) → IsFault (u.heap v) e → (w : X) (x : Value) →
      Meets u (fault_row roots e) v w (Ok x) → GoodWith u roots (λ x h. IsItem h x) stack x w
  fault_done L e i w x m =
      let p = IsRaised good.listed.list.values e in
      let d = good_done p (fault_row roots e) good
      (fault_holds free any_state (u.heap v) roots e good.order good.listed i) L w x m in
      let raised = d.answer in
      record {
        good = d.good;
        answer = subst (IsItem (u.heap w)) (sym raised.is)
            (ap is_some raised.of, λ q. let z : ref raised.instance ≡ Unset = q in cc);
      }

-- the values from a place on
every_drop : {A : Type 0} (P : A → Type 0) (n : ℕ) (xs : List A) → Every P xs → Every P (drop n xs)
every_drop P zero xs e = e
every_drop P (suc n) [] e = tt
every_drop P (suc n) (x ∷ xs) e = every_drop P n xs e.1

module _ {S X : Type 0} {u : Sense S X} {roots : ℕ} {stack : List Value} {v : X} (good : Good u roots stack v) where
  good_rest : (n : ℕ) (args : List Value) → args ≡ drop n stack → Every (IsItem (u.heap v)) args
  good_rest n args e = subst (Every (IsItem (u.heap v))) (sym e) (every_drop (IsItem (u.heap v)) n stack good.items)

  module _ (law : CallHolds {S = S} free any_state) (b n : ℕ) (own : Value) (args : List Value)
      (e : args ≡ drop n stack) (i : Refers (u.heap v) own) where
    call_hold : Holds free any_state (IsGot (IsCalled roots)) (call_row {S = S} roots None b own args []) (u.heap v)
    call_hold = law.call (u.heap v) roots None b own args [] good.order good.listed i (good_rest n args e) tt

    pub call_safe : Safe u.partial (call_row {S = S} roots None b own args []) (u.heap v)
    call_safe = good_safe (IsGot (IsCalled roots)) (call_row roots None b own args []) good call_hold

    pub call_done : (L : Lawful u) (w : X) (g : Got Answer) → Meets u (call_row roots None b own args []) v w (Ok g) →
        GoodWith u roots (IsGot (IsCalled roots)) stack g w
    call_done L w g m = good_done (IsGot (IsCalled roots)) (call_row roots None b own args []) good call_hold L w g m
