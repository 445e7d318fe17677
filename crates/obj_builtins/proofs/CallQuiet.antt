-- A call that waits, or that lets a thread start, has done nothing but look.
use Rattle.std.proofs.Common.{ℕ, ◌==◌, Bool, true, false, cond, List, length, codes, Option, inl, inr}
use Rattle.py_base.specs.declared.kind.Kind.{Kind}
use Rattle.py_base.specs.declared.kind.Kind.TheVariants.{Str, List as ListKind, Dict}
use Rattle.py_base.specs.Numbers.{builtin_number}
use Rattle.py_data.specs.declared.value.Value.{Value}
use Rattle.py_data.specs.declared.value.Value.TheVariants.{Ref}
use Rattle.py_data.specs.declared.record.Got.{Got}
use Rattle.py_data.specs.declared.record.Got.TheVariants.{Is, Raise}
use Rattle.py_data.specs.Fault.{argument_fault, operand_fault}
use Rattle.py_data.specs.Looking.{kind_row}
use Rattle.py_data.specs.Row.{Row, Ret, Do, bind}
use Rattle.py_data.proofs.OnlyLooks.{OnlyLooks, only_kind}
use Rattle.obj_str.specs.Methods.{method_row}
use Rattle.obj_methods.specs.Dicts.{dict_method_row}
use Rattle.obj_methods.specs.Lists.{list_method_row}
use Rattle.obj_threads.specs.declared.answer.Answer.{Answer}
use Rattle.obj_threads.specs.Arguments.{is_method_of}
use Rattle.obj_threads.specs.Quiet.{IsGotPending, Never, BehindLooks, ThreadsQuiet}
use Rattle.obj_threads.specs.Threads.{thread_call_row}
use Rattle.obj_builtins.specs.Calls.{valued, str_call, list_call, dict_call, method_by, method_keyed, method_of, method_at, object_row, function_call, function_keyed, input_call, input_keyed, is_function, is_object_method, other_row, call_row}
use Rattle.obj_builtins.specs.CallLaws.{CallQuiet}
use Rattle.obj_builtins.specs.Functions.{function_row}
use Rattle.obj_builtins.specs.Input.{input_row}

module _ (S : Type 0) where
  -- ---- how it is put together
  behind_ret : (x : Got Answer) → BehindLooks {S = S} IsGotPending (Ret x)
  unfolding BehindLooks
  behind_ret x = tt

  behind_cond : (b : Bool) (p q : Row S (Got Answer)) → BehindLooks IsGotPending p → BehindLooks IsGotPending q →
      BehindLooks IsGotPending (cond b p q)
  behind_cond true p q i j = i
  behind_cond false p q i j = j

  behind_looks : {A : Type 0} (row : Row S A) (f : A → Row S (Got Answer)) → OnlyLooks row →
      ((a : A) → BehindLooks IsGotPending (f a)) → BehindLooks IsGotPending (bind row f)
  unfolding OnlyLooks BehindLooks bind
  behind_looks (Ret a) f i n = n a
  behind_looks (Do c k) f i n = inl (i.0, λ r. behind_looks (k r) f (i.1 r) n)

  -- a row of values answers neither
  not_pending : (g : Got Value) → IsGotPending (valued g) → ⊥
  not_pending (Is x) i = i
  not_pending (Raise e) i = i

  never_valued : (row : Row S (Got Value)) → Never IsGotPending (bind row (λ g. Ret (valued g)))
  unfolding Never bind
  never_valued (Ret g) = not_pending g
  never_valued (Do c k) = λ r. never_valued (k r)

  behind_valued : (row : Row S (Got Value)) → BehindLooks IsGotPending (bind row (λ g. Ret (valued g)))
  unfolding BehindLooks bind
  behind_valued (Ret g) = tt
  behind_valued (Do c k) = inr (λ r. never_valued (k r))

  -- ---- calls
  by_quiet : (m a : ℕ) (args : List Value) (k : Kind) → BehindLooks {S = S} IsGotPending (method_by m a args k)
  unfolding method_by str_call list_call dict_call
  by_quiet m a args Str = behind_valued (method_row m a args)
  by_quiet m a args ListKind = behind_valued (list_method_row m a args)
  by_quiet m a args Dict = behind_valued (dict_method_row m a args)
  by_quiet m a args _ = behind_ret _

  of_quiet : (m a : ℕ) (args keys : List Value) (k : Kind) →
      BehindLooks {S = S} IsGotPending (method_of m a args keys k)
  unfolding method_of method_keyed
  of_quiet m a args keys k =
      behind_cond (is_method_of k m) (method_keyed m a args keys k) (Ret (Raise operand_fault))
      (behind_cond (length keys == 0) (method_by m a args k) (Ret (Raise argument_fault)) (by_quiet m a args k)
      (behind_ret _)) (behind_ret _)

  object_quiet : (m : ℕ) (own : Value) (args keys : List Value) →
      BehindLooks {S = S} IsGotPending (object_row m own args keys)
  unfolding object_row method_at
  object_quiet m (Ref a) args keys = behind_looks (kind_row a.0) (λ k. method_of m a.0 args keys k) (only_kind S a.0)
      (of_quiet m a.0 args keys)
  object_quiet m _ args keys = behind_ret _

  module _ (threads : ThreadsQuiet S) where
    any_quiet : (roots : ℕ) (me : Option ℕ) (b : ℕ) (own : Value) (args keys : List Value) →
        BehindLooks {S = S} IsGotPending (call_row roots me b own args keys)
    unfolding call_row other_row function_keyed function_call input_keyed input_call
    any_quiet roots me b own args keys =
        behind_cond (is_object_method b) (object_row b own args keys) _ (object_quiet b own args keys)
        (behind_cond (is_function b) (function_keyed roots b args keys) (other_row roots me b own args keys)
        (behind_cond (length keys == 0) (function_call roots b args) (Ret (Raise argument_fault))
        (behind_valued (function_row roots b args)) (behind_ret _))
        (behind_cond (b == builtin_number (codes "raw_input")) (input_keyed roots args keys)
        (thread_call_row roots me b own args keys)
        (behind_cond (length keys == 0) (input_call roots args) (Ret (Raise argument_fault))
        (behind_valued (input_row roots args)) (behind_ret _)) (threads.pending roots me b own args keys)))

    pub call_quiet : CallQuiet S
    call_quiet = record { pending = any_quiet }
