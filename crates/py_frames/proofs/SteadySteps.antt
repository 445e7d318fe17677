-- In the course of a step no record is longer than before it, or than at its end, and a step that asks whether the
-- output is in mid line goes on to write.
use Rattle.std.proofs.Common.{ℕ, zero, suc, Bool, true, false, cond, List, [], ◌∷◌, Option, Some, None, refl}
use Rattle.std.specs.Prelude.{option_map}
use Rattle.py_base.specs.declared.kind.Kind.{Kind}
use Rattle.py_base.specs.declared.kind.Kind.TheVariants.{Str, Tuple, Cell, Function, Class, Instance, Method}
use Rattle.py_data.specs.declared.value.Addr.{Addr}
use Rattle.py_data.specs.declared.value.Value.{Value}
use Rattle.py_data.specs.declared.value.Value.TheVariants.{Unset, None as NoneValue, Bool as BoolValue, Int, Ref, Builtin}
use Rattle.py_data.specs.declared.record.Got.{Got}
use Rattle.py_data.specs.declared.record.Got.TheVariants.{Is, Raise}
use Rattle.py_data.specs.Fault.{operand_fault}
use Rattle.py_data.specs.Looking.{look_row, kind_row}
use Rattle.py_data.specs.Row.{Row, bind}
use Rattle.py_data.proofs.OnlyLooks.{OnlyLooks, only_look, only_kind}
use Rattle.py_code.specs.declared.instr.Instr.{Instr}
use Rattle.py_code.specs.declared.instr.Instr.TheVariants.{Setup, Const, Pop, Dup, Rot2, Dup2, Rot3, LoadLocal, StoreLocal, DelLocal, LoadGlobal, StoreGlobal, DelGlobal, LoadName, StoreName, DelName, LoadAttr, StoreAttr, DelAttr, LoadMethod, LoadItem, StoreItem, DelItem, Slice, Unary, Not, Binary, InPlace, Compare, Jump, JumpFalse, KeepFalse, KeepTrue, BuildTuple, BuildList, BuildDict, Unpack, Iter as IterInstr, Next as NextInstr, Call as CallInstr, CallMethod, Return, MakeFunction, ClassBody, Try, PopTry, ExcMatch, MakeRaised, Raise as RaiseInstr, PrintItem, PrintNewline}
use Rattle.py_code.specs.declared.program.Program.{Program}
use Rattle.obj_threads.specs.declared.answer.Answer.{Answer}
use Rattle.obj_threads.specs.declared.answer.Answer.TheVariants.{Value as ValueAnswer, Waits as WaitsAnswer, Start as StartAnswer}
use Rattle.obj_builtins.specs.Calls.{call_row}
use Rattle.py_frames.specs.declared.state.Dying.{Dying}
use Rattle.py_frames.specs.declared.state.Frame.{Frame}
use Rattle.py_frames.specs.Binding.{Given, with_own}
use Rattle.py_frames.specs.CallRows.{counted_row, started_row, numbered_start, thread_row, function_start, owned_start, target_start, kind_start, start_row, answered, keyed_call, keys_row, builtin_call, owned_call, method_of, method_call, record_call, value_call}
use Rattle.py_frames.specs.ClassCalls.{Site}
use Rattle.py_frames.specs.FunctionRows.{function_of, named_function, new_function, make_function_row, new_body, body_by, class_body_row, leave_row, class_of, new_class, class_row, instance_row, value_or_instance, return_by}
use Rattle.py_frames.specs.PrintRows.{put_row, written_row, write_or_raise, print_item_row, print_newline_row, dying_row}
use Rattle.py_frames.specs.RaiseRows.{told_match, class_match, match_by, exc_match_row, raise_if, raise_of, raise_instance, raise_by, raise_value, call_if, class_raised, alone_by, made_alone, called_with, same_or_called, class_with, class_with_if, class_valued, instance_valued, valued_by, made_valued}
use Rattle.py_frames.specs.Raising.{place_of, values_row}
use Rattle.py_frames.specs.SetupRows.{begun_row, setup_row}
use Rattle.py_frames.specs.State.{State, instr_at, pops, operands}
use Rattle.py_frames.specs.Steps.{made_raised_row, instr_row, guarded_row, site_of, step_at, step_by, step_row}
use Rattle.std.specs.Prelude.{ℕ, not}
use Rattle.std.proofs.Common.{not, false, true}
use Rattle.py_data.specs.Looking.{size_row}
use Rattle.py_data.specs.Steady.{Steady, Calm}
use Rattle.py_data.proofs.SteadyLemmas.{asking_law}
use Rattle.lock_run.specs.declared.client.Outcome.{Outcome}
use Rattle.py_data.proofs.CalmRows.{do_calm, bind_steady, size_calm, bytes_calm, until_calm}
use Rattle.py_data.proofs.OnlyLooks.{OnlyLooks, only_look, only_kind, looks_steady}
use Rattle.obj_class.specs.Telling.{told_row}
use Rattle.obj_class.proofs.TellingCalm.{told_calm}
use Rattle.obj_str.proofs.StrHolds.{str_steady}
use Rattle.obj_methods.proofs.SteadyMethods.{methods_steady}
use Rattle.obj_threads.specs.HoldsLaws.{ThreadsSteady}
use Rattle.obj_threads.proofs.Quiet.{calls_calm}
use Rattle.obj_builtins.proofs.CallHolds.{call_steady}
use Rattle.obj_builtins.proofs.SteadyRows.{functions_steady}
use Rattle.py_frames.specs.Binding.{plainly, bound_row as bound_call}
use Rattle.py_frames.specs.ClassCalls.{exception_class_row}
use Rattle.py_frames.specs.FunctionRows.{ended_row}
use Rattle.py_frames.specs.Laws.{AskLaw, SteadyStepLaw}
use Rattle.py_frames.specs.PrintRows.{name_of_class, class_name_row, last_words, named_words}
use Rattle.py_frames.specs.RaiseRows.{catches_if, class_catches, item_by as exception_item, item_catches, place_catches, some_catches, tuple_catches, record_catches, catches_row, below_row, instance_by, is_instance_row, items_by, raised_args}
use Rattle.py_frames.specs.SetupRows.{named_class, class_dict, class_root, root_by, roots_row}
use Rattle.py_code.specs.declared.program.Root.{Root}
use Rattle.py_frames.proofs.CalmInstrs.{ret, both, one_of, look_then, kind_then, values_calm, made_calm, made_then, raise_calm, fail_calm, const_calm, load_local_calm, del_local_calm, load_global_calm, store_global_calm, del_global_calm, load_name_calm, sub_calm, exception_calm, bound_to_calm, class_call_calm, function_call_calm}
use Rattle.py_frames.proofs.SteadyInstrs.{store_name_steady, del_name_steady, load_attr_steady, store_attr_steady, del_attr_steady, load_method_steady, load_item_steady, store_item_steady, del_item_steady, slice_steady, unary_instr_steady, binary_instr_steady, in_place_instr_steady, compare_instr_steady, not_steady, jump_false_steady, keep_false_steady, keep_true_steady, build_calm, build_dict_calm, unpack_steady, iter_steady, next_instr_steady}

-- ---- what makes nothing shorter

module _ (S : Type 0) where
  function_of_calm : (n : ℕ) (name d : Value) → Calm (function_of {S = S} n name d)
  unfolding function_of
  function_of_calm n name d = made_then S _ _ (λ f. ret S _)

  make_function_calm : (roots : ℕ) (name : List ℕ) (n : ℕ) (ds : List Value) →
      Calm (make_function_row {S = S} roots name n ds)
  unfolding make_function_row new_function named_function
  make_function_calm roots name n ds = one_of S _ _ _
      (made_then S _ _ (λ a. made_then S _ _ (λ d. function_of_calm n a d))) (raise_calm S roots _)

  body_calm : (s : Site) (n : ℕ) (base : Value) (k : Kind) → Calm (body_by {S = S} s n base k)
  unfolding body_by new_body
  body_calm s n base Class = one_of S _ _ _ (made_then S _ _ (λ d. ret S _)) (raise_calm S s.roots _)
  body_calm s n base _ = raise_calm S s.roots _

  class_body_calm : (s : Site) (n : ℕ) (base : Value) → Calm (class_body_row {S = S} s n base)
  unfolding class_body_row
  class_body_calm s n (Ref a) = kind_then S a.0 _ (λ k. body_calm s n (Ref a) k)
  class_body_calm s n _ = raise_calm S s.roots _

  ended_calm : (thread : Option Addr) → Calm (ended_row {S = S} thread)
  unfolding ended_row
  ended_calm (Some t) = do_calm _ _ refl tt (λ u. ret S tt)
  ended_calm None = ret S tt

  leave_calm : (thread : Option Addr) (n : ℕ) (x : Value) → Calm (leave_row {S = S} thread n x)
  unfolding leave_row
  leave_calm thread zero x = both S (ended_row thread) _ (ended_calm thread) (λ u. ret S _)
  leave_calm thread (suc n) x = ret S _

  class_row_calm : (roots : ℕ) (name : List ℕ) (base : Value) (d : Addr) → Calm (class_row {S = S} roots name base d)
  unfolding class_row new_class class_of
  class_row_calm roots name base d = one_of S _ _ _ (made_then S _ _ (λ a. made_then S _ _ (λ c. ret S _)))
      (fail_calm S roots _)

  instance_calm : (roots : ℕ) (made x : Value) → Calm (instance_row {S = S} roots made x)
  unfolding instance_row
  instance_calm roots made NoneValue = ret S _
  instance_calm roots made _ = raise_calm S roots _

  value_calm : (roots : ℕ) (thread : Option Addr) (n : ℕ) (x made : Value) →
      Calm (value_or_instance {S = S} roots thread n x made)
  unfolding value_or_instance
  value_calm roots thread n x Unset = leave_calm thread n x
  value_calm roots thread n x NoneValue = instance_calm roots _ x
  value_calm roots thread n x (BoolValue b) = instance_calm roots _ x
  value_calm roots thread n x (Int m) = instance_calm roots _ x
  value_calm roots thread n x (Ref a) = instance_calm roots _ x
  value_calm roots thread n x (Builtin b) = instance_calm roots _ x

  return_calm : (roots : ℕ) (thread : Option Addr) (name : List ℕ) (n : ℕ) (x made : Value) (names : Option Addr) →
      Calm (return_by {S = S} roots thread name n x made names)
  unfolding return_by
  return_calm roots thread name n x made (Some d) = class_row_calm roots name made d
  return_calm roots thread name n x made None = value_calm roots thread n x made

  -- ---- exceptions
  catches_if_calm : (e c : ℕ) (b : Bool) → Calm (catches_if {S = S} e c b)
  unfolding catches_if
  catches_if_calm e c true = sub_calm S e c
  catches_if_calm e c false = ret S false

  class_catches_calm : (roots e c : ℕ) → Calm (class_catches {S = S} roots e c)
  unfolding class_catches
  class_catches_calm roots e c = both S (exception_class_row roots c) _ (exception_calm S roots c)
      (λ b. catches_if_calm e c b)

  item_by_calm : (roots e c : ℕ) (k : Kind) → Calm (exception_item {S = S} roots e c k)
  unfolding exception_item
  item_by_calm roots e c Class = class_catches_calm roots e c
  item_by_calm roots e c _ = ret S false

  item_calm : (roots e : ℕ) (x : Value) → Calm (item_catches {S = S} roots e x)
  unfolding item_catches
  item_calm roots e (Ref c) = kind_then S c.0 _ (λ k. item_by_calm roots e c.0 k)
  item_calm roots e _ = ret S false

  place_calm : (roots e t i : ℕ) → Calm (place_catches {S = S} roots e t i)
  unfolding place_catches
  place_calm roots e t i = look_then S t i _ (λ x. item_calm roots e x)

  tuple_calm : (roots e t : ℕ) → Calm (tuple_catches {S = S} roots e t)
  unfolding tuple_catches some_catches
  tuple_calm roots e t = both S (size_row t) _ (size_calm S t)
      (λ n. until_calm S (place_catches roots e t) not false (place_calm roots e t) 0 n)

  record_catches_calm : (roots e c : ℕ) (k : Kind) → Calm (record_catches {S = S} roots e c k)
  unfolding record_catches
  record_catches_calm roots e c Class = class_catches_calm roots e c
  record_catches_calm roots e c Tuple = tuple_calm roots e c
  record_catches_calm roots e c _ = ret S false

  catches_calm : (roots e : ℕ) (x : Value) → Calm (catches_row {S = S} roots e x)
  unfolding catches_row
  catches_calm roots e (Ref c) = kind_then S c.0 _ (λ k. record_catches_calm roots e c.0 k)
  catches_calm roots e _ = ret S false

  match_calm : (roots : ℕ) (c : Value) (a : ℕ) (k : Kind) → Calm (match_by {S = S} roots c a k)
  unfolding match_by class_match told_match
  match_calm roots c a Instance = look_then S a 0 _
      (λ e. both S (catches_row roots _ c) _ (catches_calm roots _ c) (λ b. ret S _))
  match_calm roots c a _ = raise_calm S roots _

  exc_match_calm : (roots : ℕ) (e c : Value) → Calm (exc_match_row {S = S} roots e c)
  unfolding exc_match_row
  exc_match_calm roots (Ref a) c = kind_then S a.0 _ (λ k. match_calm roots c a.0 k)
  exc_match_calm roots _ c = raise_calm S roots _

  raise_if_calm : (roots : ℕ) (x : Value) (b : Bool) → Calm (raise_if {S = S} roots x b)
  unfolding raise_if
  raise_if_calm roots x true = ret S _
  raise_if_calm roots x false = raise_calm S roots _

  raise_by_calm : (roots a : ℕ) (k : Kind) → Calm (raise_by {S = S} roots a k)
  unfolding raise_by raise_instance raise_of
  raise_by_calm roots a Instance = look_then S a 0 _
      (λ c. both S (exception_class_row roots _) _ (exception_calm S roots _) (λ b. raise_if_calm roots _ b))
  raise_by_calm roots a _ = raise_calm S roots _

  raise_value_calm : (roots : ℕ) (x : Value) → Calm (raise_value {S = S} roots x)
  unfolding raise_value
  raise_value_calm roots (Ref a) = kind_then S a.0 _ (λ k. raise_by_calm roots a.0 k)
  raise_value_calm roots _ = raise_calm S roots _

  call_if_calm : (s : Site) (c : ℕ) (b : Bool) → Calm (call_if {S = S} s c b)
  unfolding call_if
  call_if_calm s c true = class_call_calm S s _ c
  call_if_calm s c false = raise_calm S s.roots _

  alone_calm : (s : Site) (a : ℕ) (k : Kind) → Calm (alone_by {S = S} s a k)
  unfolding alone_by class_raised
  alone_calm s a Class = both S (exception_class_row s.roots a) _ (exception_calm S s.roots a) (λ b. call_if_calm s a b)
  alone_calm s a Instance = ret S _
  alone_calm s a _ = raise_calm S s.roots _

  made_alone_calm : (s : Site) (x : Value) → Calm (made_alone {S = S} s x)
  unfolding made_alone
  made_alone_calm s (Ref a) = kind_then S a.0 _ (λ k. alone_calm s a.0 k)
  made_alone_calm s _ = raise_calm S s.roots _

  instance_by_calm : (e a : ℕ) (k : Kind) → Calm (instance_by {S = S} e a k)
  unfolding instance_by below_row
  instance_by_calm e a Instance = look_then S a 0 _ (λ c. sub_calm S _ e)
  instance_by_calm e a _ = ret S false

  is_instance_calm : (e : ℕ) (x : Value) → Calm (is_instance_row {S = S} e x)
  unfolding is_instance_row
  is_instance_calm e (Ref a) = kind_then S a.0 _ (λ k. instance_by_calm e a.0 k)
  is_instance_calm e _ = ret S false

  items_calm : (a : ℕ) (k : Kind) → Calm (items_by {S = S} a k)
  unfolding items_by
  items_calm a Tuple = values_calm S a
  items_calm a _ = ret S _

  raised_args_calm : (x : Value) → Calm (raised_args {S = S} x)
  unfolding raised_args
  raised_args_calm NoneValue = ret S _
  raised_args_calm (Ref a) = kind_then S a.0 _ (λ k. items_calm a.0 k)
  raised_args_calm Unset = ret S _
  raised_args_calm (BoolValue b) = ret S _
  raised_args_calm (Int n) = ret S _
  raised_args_calm (Builtin b) = ret S _

  same_calm : (s : Site) (c : ℕ) (x : Value) (b : Bool) → Calm (same_or_called {S = S} s c x b)
  unfolding same_or_called called_with
  same_calm s c x true = ret S _
  same_calm s c x false = both S (raised_args x) _ (raised_args_calm x) (λ args. class_call_calm S s _ c)

  class_with_calm : (s : Site) (c : ℕ) (x : Value) (b : Bool) → Calm (class_with_if {S = S} s c x b)
  unfolding class_with_if class_with
  class_with_calm s c x true = both S (is_instance_row c x) _ (is_instance_calm c x) (λ b. same_calm s c x b)
  class_with_calm s c x false = raise_calm S s.roots _

  instance_valued_calm : (s : Site) (a : ℕ) (x : Value) → Calm (instance_valued {S = S} s a x)
  unfolding instance_valued
  instance_valued_calm s a NoneValue = ret S _
  instance_valued_calm s a _ = raise_calm S s.roots _

  valued_calm : (s : Site) (a : ℕ) (x : Value) (k : Kind) → Calm (valued_by {S = S} s a x k)
  unfolding valued_by class_valued
  valued_calm s a x Class = both S (exception_class_row s.roots a) _ (exception_calm S s.roots a)
      (λ b. class_with_calm s a x b)
  valued_calm s a x Instance = instance_valued_calm s a x
  valued_calm s a x _ = raise_calm S s.roots _

  made_valued_calm : (s : Site) (e x : Value) → Calm (made_valued {S = S} s e x)
  unfolding made_valued
  made_valued_calm s (Ref a) x = kind_then S a.0 _ (λ k. valued_calm s a.0 x k)
  made_valued_calm s _ x = raise_calm S s.roots _

  made_raised_calm : (s : Site) (xs : List Value) (n : ℕ) → Calm (made_raised_row {S = S} s xs n)
  made_raised_calm s xs zero = made_alone_calm s _
  made_raised_calm s xs (suc n) = made_valued_calm s _ _

  -- ---- what is written
  write_calm : (roots : ℕ) (g : Got (List ℕ)) → Calm (write_or_raise {S = S} roots g)
  unfolding write_or_raise written_row put_row
  write_calm roots (Is t) = do_calm _ _ refl (λ mid. tt)
      (λ mid. do_calm _ _ refl tt (λ u. do_calm _ _ refl tt (λ v. ret S _)))
  write_calm roots (Raise e) = raise_calm S roots e

  print_item_calm : (roots : ℕ) (x : Value) → Calm (print_item_row {S = S} roots x)
  unfolding print_item_row
  print_item_calm roots x = both S (told_row roots x false) _ (told_calm S roots x false) (λ g. write_calm roots g)

  newline_calm : Calm (print_newline_row {S = S})
  unfolding print_newline_row
  newline_calm = do_calm _ _ refl tt (λ u. do_calm _ _ refl tt (λ v. ret S _))

  dying_calm : (roots number : ℕ) (thread : Option Addr) (d : Dying) → Calm (dying_row {S = S} roots number thread d)
  unfolding dying_row class_name_row name_of_class named_words last_words
  dying_calm roots number thread d =
      both S _ _ (look_then S _ 0 _ (λ c. look_then S _ 0 _ (λ name. bytes_calm S _)))
      (λ name. both S (told_row roots d.exc false) _ (told_calm S roots d.exc false)
      (λ text. do_calm _ _ refl tt (λ u. ended_calm thread)))

  -- ---- SETUP
  class_root_calm : (n : ℕ) (vs : List Value) → Calm (class_root {S = S} n vs)
  unfolding class_root class_dict named_class
  class_root_calm n vs = made_then S _ _ (λ name. made_then S _ _ (λ d. made_calm S _))

  root_calm : (r : Root) (vs : List Value) (k : Kind) → Calm (root_by {S = S} r vs k)
  unfolding root_by
  root_calm r vs Cell = made_calm S _
  root_calm r vs Class = class_root_calm r.number vs
  root_calm r vs Str = made_calm S _
  root_calm r vs _ = ret S _

  roots_calm : (rs : List Root) (vs : List Value) → Calm (roots_row {S = S} rs vs)
  unfolding roots_row
  roots_calm [] vs = ret S vs
  roots_calm (r ∷ rs) vs = both S (root_by r vs r.kind) _ (root_calm r vs r.kind) (λ x. roots_calm rs _)

  setup_calm : (p : Program) → Calm (setup_row {S = S} p)
  unfolding setup_row begun_row
  setup_calm p = both S (roots_row p.roots []) _ (roots_calm p.roots []) (λ vs. do_calm _ _ refl tt (λ a. ret S _))

-- ---- calls

counted_calm : (roots : ℕ) (thread : Option Addr) (f : Frame) (count n : ℕ) (x : Value) →
    Calm (counted_row roots thread f count n x)
unfolding counted_row
counted_calm roots thread f count n x = do_calm _ _ refl tt (λ u. do_calm _ _ refl tt (λ v. ret State _))

started_calm : (roots : ℕ) (thread : Option Addr) (f : Frame) (count n : ℕ) → Calm (started_row roots thread f count n)
unfolding started_row
started_calm roots (Some t) f count n = do_calm _ _ refl tt (λ u. counted_calm roots (Some t) f count n NoneValue)
started_calm roots None f count n = counted_calm roots None f count n _

thread_calm : (roots : ℕ) (thread : Option Addr) (g : Got Frame) → Calm (thread_row roots thread g)
unfolding thread_row numbered_start
thread_calm roots thread (Is f) = look_then State roots 0 _
    (λ c. look_then State _ 0 _ (λ v. started_calm roots thread f _ _))
thread_calm roots thread (Raise e) = raise_calm State roots e

function_start_calm : (s : Site) (thread : Option Addr) (args : List Value) (f : ℕ) →
    Calm (function_start s thread args f)
unfolding function_start
function_start_calm s thread args f = both State (bound_call s.program (plainly args) f) _
    (bound_to_calm State s.program (plainly args) f) (λ g. thread_calm s.roots thread g)

target_calm : (s : Site) (thread : Option Addr) (args : List Value) (a : ℕ) (k : Kind) →
    Calm (target_start s thread args a k)
unfolding target_start owned_start
target_calm s thread args a Method = look_then State a 0 _
    (λ f. look_then State a 1 _ (λ own. function_start_calm s thread _ _))
target_calm s thread args a _ = function_start_calm s thread args a

start_calm : (s : Site) (thread : Option Addr) (target : Value) (args : ℕ) → Calm (start_row s thread target args)
unfolding start_row kind_start
start_calm s thread target args = both State (values_row args) _ (values_calm State args)
    (λ vs. kind_then State _ _ (λ k. target_calm s thread vs _ k))

answered_calm : (s : Site) (g : Got Answer) → Calm (answered s g)
unfolding answered
answered_calm s (Is (ValueAnswer x)) = ret State _
answered_calm s (Is WaitsAnswer) = ret State _
answered_calm s (Is (StartAnswer target args thread)) = start_calm s thread target args.0
answered_calm s (Raise e) = raise_calm State s.roots e

keys_only : (roots : ℕ) (ns : List ℕ) (vs : List Value) → OnlyLooks {S = State} (keys_row roots ns vs)
unfolding keys_row values_row OnlyLooks bind
keys_only roots [] vs = tt
keys_only roots (n ∷ ns) vs = (tt, λ r. tt)

threads_steady : ThreadsSteady State
threads_steady = record { call = λ roots me b own args keys. calls_calm State roots me b own args keys false }

builtin_steady : (s : Site) (own : Value) (g : Given) (b : ℕ) → Steady false (builtin_call s own g b)
unfolding builtin_call keyed_call
builtin_steady s own g b =
    let me = option_map (λ a. a.0) s.thread in
    let c = call_steady State (functions_steady State) (methods_steady State) (str_steady State) threads_steady in
    looks_steady (keys_row s.roots g.names g.values) _ (keys_only s.roots g.names g.values)
    (λ keys. bind_steady State false (call_row s.roots me b own g.args keys) _
    (c.call s.roots me b own g.args keys) (answered_calm s))

owned_steady : (s : Site) (f : Value) (g : Given) (own : Value) → Steady false (owned_call s f g own)
unfolding owned_call
owned_steady s (Builtin b) g own = builtin_steady s own g b
owned_steady s Unset g own = function_call_calm State s _ _ false
owned_steady s NoneValue g own = function_call_calm State s _ _ false
owned_steady s (BoolValue b) g own = function_call_calm State s _ _ false
owned_steady s (Int n) g own = function_call_calm State s _ _ false
owned_steady s (Ref a) g own = function_call_calm State s _ _ false

method_steady : (s : Site) (g : Given) (a : ℕ) → Steady false (method_call s g a)
unfolding method_call method_of
method_steady s g a = looks_steady (look_row a 0) _ (only_look State a 0)
    (λ f. looks_steady (look_row a 1) _ (only_look State a 1) (λ own. owned_steady s f g own))

record_steady : (s : Site) (g : Given) (a : ℕ) (k : Kind) → Steady false (record_call s g a k)
unfolding record_call
record_steady s g a Function = function_call_calm State s g a false
record_steady s g a Method = method_steady s g a
record_steady s g a Class = class_call_calm State s g a false
record_steady s g a _ = raise_calm State s.roots _ false

value_steady : (s : Site) (own : Value) (g : Given) (x : Value) → Steady false (value_call s own g x)
unfolding value_call
value_steady s own g (Ref a) = looks_steady (kind_row a.0) _ (only_kind State a.0)
    (λ k. record_steady s (with_own own g) a.0 k)
value_steady s own g (Builtin b) = builtin_steady s own g b
value_steady s own g _ = raise_calm State s.roots _ false

-- ---- every instruction

instr_steady : (s : Site) (f : Frame) (xs : List Value) (i : Instr) → Steady false (instr_row s f xs i)
unfolding instr_row
instr_steady s f xs Setup = setup_calm State s.program false
instr_steady s f xs (Const c) = const_calm State s.roots c false
instr_steady s f xs Pop = ret State _ false
instr_steady s f xs Dup = ret State _ false
instr_steady s f xs Rot2 = ret State _ false
instr_steady s f xs Dup2 = ret State _ false
instr_steady s f xs Rot3 = ret State _ false
instr_steady s f xs (LoadLocal i) = load_local_calm State s.roots _ _ false
instr_steady s f xs (StoreLocal i) = ret State _ false
instr_steady s f xs (DelLocal i) = del_local_calm State s.roots _ i _ false
instr_steady s f xs (LoadGlobal g) = load_global_calm State s.roots g _ _ false
instr_steady s f xs (StoreGlobal g) = store_global_calm State s.roots g _ false
instr_steady s f xs (DelGlobal g) = del_global_calm State s.roots g _ false
instr_steady s f xs (LoadName n) = load_name_calm State s.roots _ n _ _ _ false
instr_steady s f xs (StoreName n) = store_name_steady State s.roots _ n _
instr_steady s f xs (DelName n) = del_name_steady State s.roots _ n _
instr_steady s f xs (LoadAttr n) = load_attr_steady State s.roots n _
instr_steady s f xs (StoreAttr n) = store_attr_steady State s.roots n _ _
instr_steady s f xs (DelAttr n) = del_attr_steady State s.roots n _
instr_steady s f xs (LoadMethod n) = load_method_steady State s.roots n _ _
instr_steady s f xs LoadItem = load_item_steady State s.roots _ _
instr_steady s f xs StoreItem = store_item_steady State s.roots _ _ _
instr_steady s f xs DelItem = del_item_steady State s.roots _ _
instr_steady s f xs Slice = slice_steady State s.roots _ _ _
instr_steady s f xs (Unary o) = unary_instr_steady State s.roots o _
instr_steady s f xs Not = not_steady State _
instr_steady s f xs (Binary o) = binary_instr_steady State s.roots o _ _
instr_steady s f xs (InPlace o) = in_place_instr_steady State s.roots o _ _
instr_steady s f xs (Compare o) = compare_instr_steady State s.roots o _ _
instr_steady s f xs (Jump t) = ret State _ false
instr_steady s f xs (JumpFalse t) = jump_false_steady State t _
instr_steady s f xs (KeepFalse t) = keep_false_steady State t _
instr_steady s f xs (KeepTrue t) = keep_true_steady State t _
instr_steady s f xs (BuildTuple n) = build_calm State s.roots _ xs false
instr_steady s f xs (BuildList n) = build_calm State s.roots _ xs false
instr_steady s f xs (BuildDict n) = build_dict_calm State s.roots xs false
instr_steady s f xs (Unpack n) = unpack_steady State s.roots n _
instr_steady s f xs IterInstr = iter_steady State s.roots _
instr_steady s f xs (NextInstr t) = next_instr_steady State s.roots t _
instr_steady s f xs (CallInstr m l) = value_steady s _ _ _
instr_steady s f xs (CallMethod m l) = value_steady s _ _ _
instr_steady s f xs Return = return_calm State s.roots s.thread _ _ _ f.made f.names false
instr_steady s f xs (MakeFunction c n) = make_function_calm State s.roots _ c xs false
instr_steady s f xs (ClassBody c) = class_body_calm State s c _ false
instr_steady s f xs (Try t) = ret State _ false
instr_steady s f xs PopTry = ret State _ false
instr_steady s f xs ExcMatch = exc_match_calm State s.roots _ _ false
instr_steady s f xs (MakeRaised n) = made_raised_calm State s xs n false
instr_steady s f xs RaiseInstr = raise_value_calm State s.roots _ false
instr_steady s f xs PrintItem = print_item_calm State s.roots _ false
instr_steady s f xs PrintNewline = newline_calm State false

cond_steady : {A : Type 0} (b : Bool) (p q : Row State A) → Steady false p → Steady false q → Steady false (cond b p q)
cond_steady true p q i j = i
cond_steady false p q i j = j

guarded_steady : (s : Site) (f : Frame) (xs : List Value) (i : Instr) → Steady false (guarded_row s f xs i)
unfolding guarded_row
guarded_steady s f xs i = cond_steady _ _ _ (raise_calm State s.roots operand_fault false) (instr_steady s f xs i)

at_steady : (p : Program) (s : State) (f : Frame) (fs : List Frame) (o : Option Instr) →
    Steady false (step_at p s f fs o)
unfolding step_at
at_steady p s f fs (Some i) = bind_steady State false (guarded_row (site_of p s fs) f (operands (pops p f i) f) i) _
    (guarded_steady (site_of p s fs) f (operands (pops p f i) f) i) (λ next. ret State _)
at_steady p s f fs None = ret State _ false

by_steady : (p : Program) (s : State) (d : Option Dying) (fs : List Frame) → Steady false (step_by p s d fs)
unfolding step_by
by_steady p s d [] = ret State _ false
by_steady p s (Some d) (f ∷ fs) = both State (dying_row (place_of s.roots) s.number s.thread d) _
    (dying_calm State (place_of s.roots) s.number s.thread d) (λ u. ret State _) false
by_steady p s None (f ∷ fs) = at_steady p s f fs (instr_at p f)

pub steady_law : SteadyStepLaw
unfolding step_row
steady_law p s = by_steady p s s.dying s.frames

pub ask_law : AskLaw
ask_law p s = asking_law State (Outcome × State) false (step_row p s) (steady_law p s)
