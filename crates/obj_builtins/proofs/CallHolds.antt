-- Over each heap in order the call of any builtin holds, and is steady.
use Rattle.std.proofs.Common.{◌≡◌, ℕ, ◌==◌, Bool, true, false, cond, List, length, codes, Option, Some, sym, subst, lit<}
use Rattle.py_base.specs.declared.kind.Kind.{Kind}
use Rattle.py_base.specs.declared.kind.Kind.TheVariants.{Str, List as ListKind, Dict}
use Rattle.py_base.specs.Numbers.{builtin_number}
use Rattle.py_data.specs.declared.value.Value.{Value}
use Rattle.py_data.specs.declared.value.Value.TheVariants.{Ref}
use Rattle.py_data.specs.declared.record.Fault.{Fault}
use Rattle.py_data.specs.declared.record.Got.{Got}
use Rattle.py_data.specs.declared.record.Got.TheVariants.{Is, Raise}
use Rattle.py_data.specs.Answers.{IsAnswer, IsGot, IsFault}
use Rattle.py_data.specs.Closed.{Refers, IsItem}
use Rattle.py_data.specs.Every.{Every}
use Rattle.py_data.specs.Fault.{argument_fault, operand_fault}
use Rattle.py_data.specs.Heap.{Heap, Rec}
use Rattle.py_data.specs.Holds.{Holds}
use Rattle.py_data.specs.Looking.{kind_row}
use Rattle.py_data.specs.Order.{Rules, IsOrdered}
use Rattle.py_data.specs.Row.{Row, Ret, bind}
use Rattle.py_data.specs.Shape.{KindIn}
use Rattle.py_data.specs.Steady.{Steady}
use Rattle.py_data.proofs.CalmRows.{ret_calm, bind_steady}
use Rattle.py_data.proofs.Holding.{holds_ret, holds_bind}
use Rattle.py_data.proofs.HoldingCalls.{holds_looks}
use Rattle.py_data.proofs.Looking.{kind_looks, some_of}
use Rattle.py_data.proofs.OnlyLooks.{only_kind, looks_steady}
use Rattle.obj_class.specs.Roots.{IsRoots}
use Rattle.obj_str.specs.HoldsLaws.{StrHolds, StrSteady}
use Rattle.obj_str.specs.Methods.{method_row}
use Rattle.obj_methods.specs.Dicts.{dict_method_row}
use Rattle.obj_methods.specs.HoldsLaws.{MethodsHold, MethodsSteady}
use Rattle.obj_methods.specs.Lists.{list_method_row}
use Rattle.obj_threads.specs.declared.answer.Answer.{Answer}
use Rattle.obj_threads.specs.Arguments.{answered, is_method_of}
use Rattle.obj_threads.specs.HoldsLaws.{IsCalled, ThreadsHold, ThreadsSteady}
use Rattle.obj_threads.specs.Threads.{thread_call_row}
use Rattle.obj_builtins.specs.Calls.{valued, str_call, list_call, dict_call, method_by, method_keyed, method_of, method_at, object_row, function_call, function_keyed, input_call, input_keyed, is_function, is_object_method, other_row, call_row}
use Rattle.obj_builtins.specs.CallLaws.{CallHolds, CallSteady}
use Rattle.obj_builtins.specs.Functions.{function_row}
use Rattle.obj_builtins.specs.HoldsLaws.{FunctionsHold, FunctionsSteady}
use Rattle.obj_builtins.specs.Input.{input_row}
use Rattle.obj_builtins.proofs.InputHolds.{input_holds, input_calm}

-- what the crates below show of their rows
module _ {S : Type 0} (rules : Rules) (stands : Heap → S → Type 0) (functions : FunctionsHold rules stands)
    (methods : MethodsHold rules stands) (strings : StrHolds rules stands) (threads : ThreadsHold rules stands) where
  module _ (roots : ℕ) where
    abbrev IsGood : Got Answer → Heap → Type 0
    IsGood = IsGot (IsCalled roots)

    raise_holds : (e : Fault) (h : Heap) → IsFault h e → Holds rules stands IsGood (Ret (Raise e)) h
    raise_holds e h i = holds_ret rules stands IsGood (Raise e) h i

    wrong_holds : (h : Heap) → Holds rules stands IsGood (Ret (Raise argument_fault)) h
    wrong_holds h = raise_holds argument_fault h (lit< tt, lit< tt, tt)

    wrong_kind_holds : (h : Heap) → Holds rules stands IsGood (Ret (Raise operand_fault)) h
    wrong_kind_holds h = raise_holds operand_fault h (lit< tt, lit< tt, tt)

    cond_holds : (b : Bool) (p q : Row S (Got Answer)) (h : Heap) → Holds rules stands IsGood p h →
        Holds rules stands IsGood q h → Holds rules stands IsGood (cond b p q) h
    cond_holds true p q h i j = i
    cond_holds false p q h i j = j

    -- a value is the answer
    got_holds : (g : Got Value) (h : Heap) → IsAnswer g h → Holds rules stands IsGood (Ret (valued g)) h
    got_holds (Is x) h i = holds_ret rules stands IsGood (answered x) h i
    got_holds (Raise e) h i = raise_holds e h i

    valued_holds : (row : Row S (Got Value)) (h : Heap) → IsOrdered rules h → Holds rules stands IsAnswer row h →
        Holds rules stands IsGood (bind row (λ g. Ret (valued g))) h
    valued_holds row h order i = holds_bind rules stands IsAnswer IsGood row (λ g. Ret (valued g)) h order i
        (λ g h1 order1 x j. got_holds g h1 j)

    module _ (h : Heap) (order : IsOrdered rules h) (is_roots : IsRoots h roots) (args keys : List Value)
        (items : Every (IsItem h) args) where
      -- ---- methods
      by_holds : (m a : ℕ) (r : Rec) → h a ≡ Some r → (k : Kind) → k ≡ r.kind →
          Holds rules stands IsGood (method_by m a args k) h
      unfolding method_by str_call list_call dict_call
      by_holds m a r e Str f = valued_holds (method_row m a args) h order
          (strings.method h m a args order (subst (λ o. KindIn o (λ k. k ≡ Str)) (sym e) (sym f)) items)
      by_holds m a r e ListKind f = valued_holds (list_method_row m a args) h order
          (methods.list_method h m a args order (subst (λ o. KindIn o (λ k. k ≡ ListKind)) (sym e) (sym f)) items)
      by_holds m a r e Dict f = valued_holds (dict_method_row m a args) h order
          (methods.dict_method h m a args order (subst (λ o. KindIn o (λ k. k ≡ Dict)) (sym e) (sym f)) items)
      by_holds m a r e _ f = wrong_kind_holds h

      of_holds : (m a : ℕ) (r : Rec) → h a ≡ Some r → (k : Kind) → k ≡ r.kind →
          Holds rules stands IsGood (method_of m a args keys k) h
      unfolding method_of method_keyed
      of_holds m a r e k f =
          cond_holds (is_method_of k m) (method_keyed m a args keys k) (Ret (Raise operand_fault)) h
          (cond_holds (length keys == 0) (method_by m a args k) (Ret (Raise argument_fault)) h
          (by_holds m a r e k f) (wrong_holds h)) (wrong_kind_holds h)

      object_holds : (m : ℕ) (own : Value) → Refers h own → Holds rules stands IsGood (object_row m own args keys) h
      unfolding object_row method_at
      object_holds m (Ref a) there =
          let r = some_of (h a.0) there in
          holds_looks rules stands IsGood (λ k. k ≡ r.0.kind) (kind_row a.0) (λ k. method_of m a.0 args keys k) h order
          (kind_looks S h a.0 r.0 r.1) (of_holds m a.0 r.0 r.1)
      object_holds m _ there = wrong_kind_holds h

      -- ---- functions
      function_holds : (b : ℕ) → Holds rules stands IsGood (function_keyed roots b args keys) h
      unfolding function_keyed function_call
      function_holds b = cond_holds (length keys == 0) (function_call roots b args) (Ret (Raise argument_fault)) h
          (valued_holds (function_row roots b args) h order (functions.function h roots b args order is_roots items))
          (wrong_holds h)

      keyed_input_holds : Holds rules stands IsGood (input_keyed roots args keys) h
      unfolding input_keyed input_call
      keyed_input_holds = cond_holds (length keys == 0) (input_call roots args) (Ret (Raise argument_fault)) h
          (valued_holds (input_row roots args) h order
          (input_holds rules stands strings h roots args order is_roots items)) (wrong_holds h)

      -- ---- all
      any_holds : (me : Option ℕ) (b : ℕ) (own : Value) → Refers h own → Every (IsItem h) keys →
          Holds rules stands IsGood (call_row roots me b own args keys) h
      unfolding call_row other_row
      any_holds me b own there named =
          cond_holds (is_object_method b) (object_row b own args keys) _ h (object_holds b own there)
          (cond_holds (is_function b) (function_keyed roots b args keys) (other_row roots me b own args keys) h
          (function_holds b)
          (cond_holds (b == builtin_number (codes "raw_input")) (input_keyed roots args keys)
          (thread_call_row roots me b own args keys) h keyed_input_holds
          (threads.call h roots me b own args keys order is_roots there items named)))

  pub call_holds : CallHolds rules stands
  call_holds = record {
    call = λ h roots me b own args keys order is_roots there items named.
        any_holds roots h order is_roots args keys items me b own there named;
  }

module _ (S : Type 0) (functions : FunctionsSteady S) (methods : MethodsSteady S) (strings : StrSteady S)
    (threads : ThreadsSteady S) where
  cond_steady : {A : Type 0} (b : Bool) (p q : Row S A) → Steady false p → Steady false q → Steady false (cond b p q)
  cond_steady true p q i j = i
  cond_steady false p q i j = j

  ret_steady : (x : Got Answer) → Steady {S = S} false (Ret x)
  ret_steady x = ret_calm S x false

  valued_steady : (row : Row S (Got Value)) → Steady false row → Steady false (bind row (λ g. Ret (valued g)))
  valued_steady row i = bind_steady S false row (λ g. Ret (valued g)) i (λ g. ret_calm S (valued g))

  by_steady : (m a : ℕ) (args : List Value) (k : Kind) → Steady {S = S} false (method_by m a args k)
  unfolding method_by str_call list_call dict_call
  by_steady m a args Str = valued_steady (method_row m a args) (strings.method m a args)
  by_steady m a args ListKind = valued_steady (list_method_row m a args) (methods.list_method m a args)
  by_steady m a args Dict = valued_steady (dict_method_row m a args) (methods.dict_method m a args)
  by_steady m a args _ = ret_steady _

  of_steady : (m a : ℕ) (args keys : List Value) (k : Kind) → Steady {S = S} false (method_of m a args keys k)
  unfolding method_of method_keyed
  of_steady m a args keys k =
      cond_steady (is_method_of k m) (method_keyed m a args keys k) (Ret (Raise operand_fault))
      (cond_steady (length keys == 0) (method_by m a args k) (Ret (Raise argument_fault)) (by_steady m a args k)
      (ret_steady _)) (ret_steady _)

  object_steady : (m : ℕ) (own : Value) (args keys : List Value) → Steady {S = S} false (object_row m own args keys)
  unfolding object_row method_at
  object_steady m (Ref a) args keys = looks_steady (kind_row a.0) (λ k. method_of m a.0 args keys k) (only_kind S a.0)
      (of_steady m a.0 args keys)
  object_steady m _ args keys = ret_steady _

  any_steady : (roots : ℕ) (me : Option ℕ) (b : ℕ) (own : Value) (args keys : List Value) →
      Steady {S = S} false (call_row roots me b own args keys)
  unfolding call_row other_row function_keyed function_call input_keyed input_call
  any_steady roots me b own args keys =
      cond_steady (is_object_method b) (object_row b own args keys) _ (object_steady b own args keys)
      (cond_steady (is_function b) (function_keyed roots b args keys) (other_row roots me b own args keys)
      (cond_steady (length keys == 0) (function_call roots b args) (Ret (Raise argument_fault))
      (valued_steady (function_row roots b args) (functions.function roots b args)) (ret_steady _))
      (cond_steady (b == builtin_number (codes "raw_input")) (input_keyed roots args keys)
      (thread_call_row roots me b own args keys)
      (cond_steady (length keys == 0) (input_call roots args) (Ret (Raise argument_fault))
      (valued_steady (input_row roots args) (input_calm S roots args false)) (ret_steady _))
      (threads.call roots me b own args keys)))

  pub call_steady : CallSteady S
  call_steady = record { call = any_steady }
