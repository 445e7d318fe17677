-- Instructions that call nothing never wait.
use Rattle.std.proofs.Common.{◌≡◌, ℕ, zero, suc, Bool, true, false, cond, List, [], ◌∷◌, Option, Some, None}
use Rattle.py_base.specs.declared.kind.Kind.{Kind}
use Rattle.py_base.specs.declared.kind.Kind.TheVariants.{Function, Class, Instance}
use Rattle.py_data.specs.declared.value.Addr.{Addr}
use Rattle.py_data.specs.declared.value.Value.{Value}
use Rattle.py_data.specs.declared.value.Value.TheVariants.{Unset, None as NoneValue, Bool as BoolValue, Int, Ref, Builtin}
use Rattle.py_data.specs.declared.record.Fault.{Fault}
use Rattle.py_data.specs.declared.record.Got.{Got}
use Rattle.py_data.specs.declared.record.Got.TheVariants.{Is, Raise}
use Rattle.py_data.specs.Looking.{look_row}
use Rattle.py_data.specs.Row.{Call, Reply, Row, Ret, Do, bind}
use Rattle.py_code.specs.declared.instr.Constant.{Constant}
use Rattle.py_code.specs.declared.instr.Constant.TheVariants.{None as NoneConstant, Truth, Int as IntConstant, Builtin as BuiltinConstant, Root as RootConstant}
use Rattle.py_code.specs.declared.program.Program.{Program}
use Rattle.obj_class.specs.declared.lookup.Found.{Found}
use Rattle.obj_class.specs.declared.lookup.Found.TheVariants.{Plain, Bound}
use Rattle.obj_class.specs.Exceptions.{fault_row}
use Rattle.obj_class.specs.Named.{method_of}
use Rattle.obj_threads.specs.Quiet.{Never}
use Rattle.py_frames.specs.declared.state.Frame.{Frame}
use Rattle.py_frames.specs.declared.next.Next.{Next}
use Rattle.py_frames.specs.declared.next.Next.TheVariants.{Goes, Jumps, Stores, Enters, Leaves, Fails, Begins, Throws, Waits}
use Rattle.py_frames.specs.AttrInstrs.{loaded_attr, load_attr_row, stored_attr, store_attr_row, dropped_attr, del_attr_instr, missing_method, found_method, loaded_method, attr_or_method, method_or_attr, load_method_row}
use Rattle.py_frames.specs.Binding.{Given}
use Rattle.py_frames.specs.BuildRows.{built_row, build_row, dict_or_raise, filled_dict, new_dict, too_many_pairs, build_dict_row, spread, spread_row, unpack_row, iter_instr, next_or_end, next_instr}
use Rattle.py_frames.specs.CallRows.{function_call}
use Rattle.py_frames.specs.ClassCalls.{Site, entered_row, given_instance, bare_call, with_instance, making_row, init_entered, function_init, record_init, value_init, init_or_bare, known_class, class_call}
use Rattle.py_frames.specs.FunctionRows.{function_of, named_function, new_function, make_function_row, new_body, body_by, class_body_row, leave_row, class_of, new_class, class_row, instance_row, value_or_instance, return_by}
use Rattle.py_frames.specs.GlobalRows.{unbound_row, bound_row, load_cell_row, load_global_row, set_cell_row, store_global_row, cleared_row, clear_cell_row, del_global_row, outer_row, named_row, own_or_outer, load_name_row, put_name_row, store_name_row, gone_row, drop_name_row, del_name_row}
use Rattle.py_frames.specs.ItemRows.{load_item_row, store_item_row, del_item_instr, slice_instr}
use Rattle.py_frames.specs.LocalRows.{const_row, load_local_row, del_local_row}
use Rattle.py_frames.specs.OperatorRows.{unary_instr, not_row, binary_instr, in_place_instr, compare_instr, fall_or_jump, jump_false_row, pop_or_keep, keep_false_row, keep_true_row}
use Rattle.py_frames.specs.PrintRows.{put_row, written_row, write_or_raise, print_item_row, print_newline_row}
use Rattle.py_frames.specs.RaiseRows.{told_match, class_match, match_by, exc_match_row, raise_if, raise_of, raise_instance, raise_by, raise_value, call_if, class_raised, alone_by, made_alone, called_with, same_or_called, class_with, class_with_if, class_valued, instance_valued, valued_by, made_valued}
use Rattle.py_frames.specs.Raising.{raise_row, fail_row, give, done}
use Rattle.py_frames.specs.SetupRows.{begun_row, setup_row}
use Rattle.py_frames.specs.Steps.{made_raised_row}

-- the thread must wait
abbrev pub Waiting : Next → Type 0
Waiting next = next ≡ Waits

-- what an instruction that doesn't call leads to is no wait
abbrev pub Works : {S : Type 0} → Row S Next → Type 0
Works row = Never Waiting row

module _ (S : Type 0) where
  pub never_ret : {A : Type 0} (p : A → Type 0) (a : A) → (p a → ⊥) → Never {S = S} p (Ret a)
  unfolding Never
  never_ret p a n = n

  pub never_do : {A : Type 0} (p : A → Type 0) (c : Call S) (k : Reply c → Row S A) → ((r : Reply c) → Never p (k r)) →
      Never p (Do c k)
  unfolding Never
  never_do p c k n = n

  pub never_bind : {A B : Type 0} (p : B → Type 0) (row : Row S A) (f : A → Row S B) → ((a : A) → Never p (f a)) →
      Never p (bind row f)
  unfolding Never bind
  never_bind p (Ret a) f n = n a
  never_bind p (Do c k) f n = λ r. never_bind p (k r) f n

  pub then_works : {A : Type 0} (row : Row S A) (f : A → Row S Next) → ((a : A) → Works (f a)) → Works (bind row f)
  then_works row f n = never_bind Waiting row f n

  pub cond_works : (b : Bool) (p q : Row S Next) → Works p → Works q → Works (cond b p q)
  cond_works true p q i j = i
  cond_works false p q i j = j

  pub works : (next : Next) → (next ≡ Waits → ⊥) → Works {S = S} (Ret next)
  works next n = never_ret Waiting next n

  pub goes : (ys : List Value) → Works {S = S} (Ret (Goes ys))
  goes ys = works (Goes ys) (λ e. let z : Goes ys ≡ Waits = e in cc)

  pub jumps : (t : ℕ) (ys : List Value) → Works {S = S} (Ret (Jumps t ys))
  jumps t ys = works (Jumps t ys) (λ e. let z : Jumps t ys ≡ Waits = e in cc)

  pub enters : (f : Frame) → Works {S = S} (Ret (Enters f))
  enters f = works (Enters f) (λ e. let z : Enters f ≡ Waits = e in cc)

  pub stores : (i : ℕ) (x : Value) → Works {S = S} (Ret (Stores i x))
  stores i x = works (Stores i x) (λ e. let z : Stores i x ≡ Waits = e in cc)

  pub leaves : (x : Value) → Works {S = S} (Ret (Leaves x))
  leaves x = works (Leaves x) (λ e. let z : Leaves x ≡ Waits = e in cc)

  pub raises : (roots : ℕ) (e : Fault) → Works {S = S} (raise_row roots e)
  unfolding raise_row
  raises roots e = then_works (fault_row roots e) (λ x. Ret (Throws x))
      (λ x. works (Throws x) (λ q. let z : Throws x ≡ Waits = q in cc))

  pub fails : (roots : ℕ) (e : Fault) → Works {S = S} (fail_row roots e)
  unfolding fail_row
  fails roots e = then_works (fault_row roots e) (λ x. Ret (Fails x))
      (λ x. works (Fails x) (λ q. let z : Fails x ≡ Waits = q in cc))

  pub gives : (roots : ℕ) (g : Got Value) → Works {S = S} (give roots g)
  unfolding give
  gives roots (Is x) = goes (x ∷ [])
  gives roots (Raise e) = raises roots e

  pub does : {A : Type 0} (roots : ℕ) (g : Got A) → Works {S = S} (done roots g)
  unfolding done
  does roots (Is x) = goes []
  does roots (Raise e) = raises roots e

  -- ---- names
  pub const_works : (roots : ℕ) (c : Constant) → Works {S = S} (const_row roots c)
  unfolding const_row
  const_works roots NoneConstant = goes (NoneValue ∷ [])
  const_works roots (Truth b) = goes (BoolValue b ∷ [])
  const_works roots (IntConstant n) = goes (Int n ∷ [])
  const_works roots (BuiltinConstant b) = goes (Builtin b ∷ [])
  const_works roots (RootConstant n) = then_works (look_row roots n) (λ x. Ret (Goes (x ∷ []))) (λ x. goes (x ∷ []))

  pub load_local_works : (roots : ℕ) (name : List ℕ) (x : Value) → Works {S = S} (load_local_row roots name x)
  unfolding load_local_row
  load_local_works roots name Unset = raises roots _
  load_local_works roots name NoneValue = goes _
  load_local_works roots name (BoolValue b) = goes _
  load_local_works roots name (Int n) = goes _
  load_local_works roots name (Ref a) = goes _
  load_local_works roots name (Builtin b) = goes _

  pub del_local_works : (roots : ℕ) (name : List ℕ) (i : ℕ) (x : Value) → Works {S = S} (del_local_row roots name i x)
  unfolding del_local_row
  del_local_works roots name i Unset = raises roots _
  del_local_works roots name i NoneValue = stores i Unset
  del_local_works roots name i (BoolValue b) = stores i Unset
  del_local_works roots name i (Int n) = stores i Unset
  del_local_works roots name i (Ref a) = stores i Unset
  del_local_works roots name i (Builtin b) = stores i Unset

  pub unbound_works : (roots : ℕ) (name : List ℕ) (o : Option Constant) → Works {S = S} (unbound_row roots name o)
  unfolding unbound_row
  unbound_works roots name (Some c) = const_works roots c
  unbound_works roots name None = raises roots _

  pub bound_works : (roots : ℕ) (name : List ℕ) (o : Option Constant) (x : Value) →
      Works {S = S} (bound_row roots name o x)
  unfolding bound_row
  bound_works roots name o Unset = unbound_works roots name o
  bound_works roots name o NoneValue = goes _
  bound_works roots name o (BoolValue b) = goes _
  bound_works roots name o (Int n) = goes _
  bound_works roots name o (Ref a) = goes _
  bound_works roots name o (Builtin b) = goes _

  pub load_global_works : (roots g : ℕ) (name : List ℕ) (o : Option Constant) →
      Works {S = S} (load_global_row roots g name o)
  unfolding load_global_row load_cell_row
  load_global_works roots g name o = then_works _ _ (λ c. then_works _ _ (λ x. bound_works roots name o x))

  pub set_cell_works : (a : ℕ) (x : Value) → Works {S = S} (set_cell_row a x)
  unfolding set_cell_row
  set_cell_works a x = never_do Waiting _ _ (λ r. goes [])

  pub store_global_works : (roots g : ℕ) (x : Value) → Works {S = S} (store_global_row roots g x)
  unfolding store_global_row
  store_global_works roots g x = then_works _ _ (λ c. set_cell_works _ x)

  pub cleared_works : (roots : ℕ) (name : List ℕ) (a : ℕ) (x : Value) → Works {S = S} (cleared_row roots name a x)
  unfolding cleared_row
  cleared_works roots name a Unset = raises roots _
  cleared_works roots name a NoneValue = set_cell_works a Unset
  cleared_works roots name a (BoolValue b) = set_cell_works a Unset
  cleared_works roots name a (Int n) = set_cell_works a Unset
  cleared_works roots name a (Ref b) = set_cell_works a Unset
  cleared_works roots name a (Builtin b) = set_cell_works a Unset

  pub del_global_works : (roots g : ℕ) (name : List ℕ) → Works {S = S} (del_global_row roots g name)
  unfolding del_global_row clear_cell_row
  del_global_works roots g name = then_works _ _ (λ c. then_works _ _ (λ x. cleared_works roots name _ x))

  pub outer_works : (roots : ℕ) (name : List ℕ) (o : Option Constant) (g : Option ℕ) →
      Works {S = S} (outer_row roots name o g)
  unfolding outer_row
  outer_works roots name o (Some g) = load_global_works roots g name o
  outer_works roots name o None = unbound_works roots name o

  pub named_works : (roots : ℕ) (name : List ℕ) (o : Option Constant) (g : Option ℕ) (x : Option Value) →
      Works {S = S} (named_row roots name o g x)
  unfolding named_row
  named_works roots name o g (Some x) = goes _
  named_works roots name o g None = outer_works roots name o g

  pub load_name_works : (roots d n : ℕ) (name : List ℕ) (o : Option Constant) (g : Option ℕ) →
      Works {S = S} (load_name_row roots d n name o g)
  unfolding load_name_row own_or_outer
  load_name_works roots d n name o g = then_works _ _ (λ key. then_works _ _ (λ x. named_works roots name o g x))

  pub store_name_works : (roots d n : ℕ) (x : Value) → Works {S = S} (store_name_row roots d n x)
  unfolding store_name_row put_name_row
  store_name_works roots d n x = then_works _ _ (λ key. then_works _ _ (λ g. does roots g))

  pub gone_works : (roots : ℕ) (name : List ℕ) (g : Got Value) → Works {S = S} (gone_row roots name g)
  unfolding gone_row
  gone_works roots name (Is x) = goes []
  gone_works roots name (Raise e) = raises roots _

  pub del_name_works : (roots d n : ℕ) (name : List ℕ) → Works {S = S} (del_name_row roots d n name)
  unfolding del_name_row drop_name_row
  del_name_works roots d n name = then_works _ _ (λ key. then_works _ _ (λ g. gone_works roots name g))

  -- ---- members
  pub load_attr_works : (roots n : ℕ) (o : Value) → Works {S = S} (load_attr_row roots n o)
  unfolding load_attr_row loaded_attr
  load_attr_works roots n o = then_works _ _ (λ name. then_works _ _ (λ g. gives roots g))

  pub store_attr_works : (roots n : ℕ) (x o : Value) → Works {S = S} (store_attr_row roots n x o)
  unfolding store_attr_row stored_attr
  store_attr_works roots n x o = then_works _ _ (λ name. then_works _ _ (λ g. does roots g))

  pub del_attr_works : (roots n : ℕ) (o : Value) → Works {S = S} (del_attr_instr roots n o)
  unfolding del_attr_instr dropped_attr
  del_attr_works roots n o = then_works _ _ (λ name. then_works _ _ (λ g. does roots g))

  pub found_works : (roots : ℕ) (o : Value) (name : ℕ) (found : Option Found) →
      Works {S = S} (found_method roots o name found)
  unfolding found_method missing_method
  found_works roots o name None = then_works _ _ (λ g. gives roots g)
  found_works roots o name (Some (Plain x)) = goes _
  found_works roots o name (Some (Bound x)) = goes _

  attr_or_method_works : (roots n : ℕ) (o : Value) → Works {S = S} (attr_or_method roots n o)
  unfolding attr_or_method loaded_method
  attr_or_method_works roots n o = then_works _ _ (λ name. then_works _ _ (λ z. found_works roots o _ z))

  method_or_attr_works : (roots n : ℕ) (o : Value) (b : Option ℕ) → Works {S = S} (method_or_attr roots n o b)
  unfolding method_or_attr
  method_or_attr_works roots n o (Some b) = goes _
  method_or_attr_works roots n o None = attr_or_method_works roots n o

  pub load_method_works : (roots n : ℕ) (text : List ℕ) (o : Value) → Works {S = S} (load_method_row roots n text o)
  unfolding load_method_row
  load_method_works roots n text (Ref a) = then_works _ _
      (λ k. method_or_attr_works roots n (Ref a) (method_of k text))
  load_method_works roots n text o = attr_or_method_works roots n o

  pub load_item_works : (roots : ℕ) (o i : Value) → Works {S = S} (load_item_row roots o i)
  unfolding load_item_row
  load_item_works roots o i = then_works _ _ (λ g. gives roots g)

  pub store_item_works : (roots : ℕ) (x o i : Value) → Works {S = S} (store_item_row roots x o i)
  unfolding store_item_row
  store_item_works roots x o i = then_works _ _ (λ g. does roots g)

  pub del_item_works : (roots : ℕ) (o i : Value) → Works {S = S} (del_item_instr roots o i)
  unfolding del_item_instr
  del_item_works roots o i = then_works _ _ (λ g. does roots g)

  pub slice_works : (roots : ℕ) (o i j : Value) → Works {S = S} (slice_instr roots o i j)
  unfolding slice_instr
  slice_works roots o i j = then_works _ _ (λ g. gives roots g)

  -- ---- operators and jumps
  pub unary_works : (roots op : ℕ) (x : Value) → Works {S = S} (unary_instr roots op x)
  unfolding unary_instr
  unary_works roots op x = then_works _ _ (λ g. gives roots g)

  pub not_works : (x : Value) → Works {S = S} (not_row x)
  unfolding not_row
  not_works x = then_works _ _ (λ b. goes _)

  pub binary_works : (roots op : ℕ) (x y : Value) → Works {S = S} (binary_instr roots op x y)
  unfolding binary_instr
  binary_works roots op x y = then_works _ _ (λ g. gives roots g)

  pub in_place_works : (roots op : ℕ) (x y : Value) → Works {S = S} (in_place_instr roots op x y)
  unfolding in_place_instr
  in_place_works roots op x y = then_works _ _ (λ g. gives roots g)

  pub compare_works : (roots op : ℕ) (x y : Value) → Works {S = S} (compare_instr roots op x y)
  unfolding compare_instr
  compare_works roots op x y = then_works _ _ (λ g. gives roots g)

  pub fall_works : (t : ℕ) (b : Bool) → Works {S = S} (Ret (fall_or_jump t b))
  unfolding fall_or_jump
  fall_works t true = goes []
  fall_works t false = jumps t []

  pub keep_works : (t : ℕ) (x : Value) (b : Bool) → Works {S = S} (Ret (pop_or_keep t x b))
  unfolding pop_or_keep
  keep_works t x true = goes []
  keep_works t x false = jumps t (x ∷ [])

  pub jump_false_works : (t : ℕ) (x : Value) → Works {S = S} (jump_false_row t x)
  unfolding jump_false_row
  jump_false_works t x = then_works _ _ (λ b. fall_works t b)

  pub keep_false_works : (t : ℕ) (x : Value) → Works {S = S} (keep_false_row t x)
  unfolding keep_false_row
  keep_false_works t x = then_works _ _ (λ b. keep_works t x b)

  pub keep_true_works : (t : ℕ) (x : Value) → Works {S = S} (keep_true_row t x)
  unfolding keep_true_row
  keep_true_works t x = then_works _ _ (λ b. keep_works t x _)

  -- ---- what is built
  pub build_works : (roots : ℕ) (k : Kind) (xs : List Value) → Works {S = S} (build_row roots k xs)
  unfolding build_row built_row
  build_works roots k xs = cond_works _ _ _ (then_works _ _ (λ x. goes _)) (raises roots _)

  pub dict_works : (roots : ℕ) (d : Value) (g : Got (Unit {0})) → Works {S = S} (dict_or_raise roots d g)
  unfolding dict_or_raise
  dict_works roots d (Is u) = goes _
  dict_works roots d (Raise e) = raises roots e

  pub build_dict_works : (roots : ℕ) (xs : List Value) → Works {S = S} (build_dict_row roots xs)
  unfolding build_dict_row new_dict filled_dict too_many_pairs
  build_dict_works roots xs = cond_works _ _ _ (then_works _ _ (λ d. then_works _ _ (λ g. dict_works roots d g)))
      (then_works _ _ (λ b. raises roots _))

  pub spread_works : (roots n : ℕ) (g : Got (List Value)) → Works {S = S} (spread roots n g)
  unfolding spread
  spread_works roots n (Is xs) = cond_works _ _ _ (goes _) (raises roots _)
  spread_works roots n (Raise e) = raises roots e

  pub unpack_works : (roots n : ℕ) (x : Value) → Works {S = S} (unpack_row roots n x)
  unfolding unpack_row spread_row
  unpack_works roots n x = cond_works _ _ _ (then_works _ _ (λ g. spread_works roots n g)) (raises roots _)

  pub iter_works : (roots : ℕ) (x : Value) → Works {S = S} (iter_instr roots x)
  unfolding iter_instr
  iter_works roots x = then_works _ _ (λ g. gives roots g)

  pub next_end_works : (roots t : ℕ) (it : Value) (g : Got (Option Value)) → Works {S = S} (next_or_end roots t it g)
  unfolding next_or_end
  next_end_works roots t it (Is (Some y)) = goes _
  next_end_works roots t it (Is None) = jumps t []
  next_end_works roots t it (Raise e) = raises roots e

  pub next_works : (roots t : ℕ) (x : Value) → Works {S = S} (next_instr roots t x)
  unfolding next_instr
  next_works roots t (Ref a) = then_works _ _ (λ g. next_end_works roots t _ g)
  next_works roots t _ = raises roots _

  -- ---- functions and classes
  pub make_function_works : (roots : ℕ) (name : List ℕ) (n : ℕ) (ds : List Value) →
      Works {S = S} (make_function_row roots name n ds)
  unfolding make_function_row new_function named_function function_of
  make_function_works roots name n ds = cond_works _ _ _
      (then_works _ _ (λ a. then_works _ _ (λ d. then_works _ _ (λ f. goes _)))) (raises roots _)

  pub body_works : (s : Site) (n : ℕ) (base : Value) (k : Kind) → Works {S = S} (body_by s n base k)
  unfolding body_by new_body
  body_works s n base Class = cond_works _ _ _ (then_works _ _ (λ d. enters _)) (raises s.roots _)
  body_works s n base _ = raises s.roots _

  pub class_body_works : (s : Site) (n : ℕ) (base : Value) → Works {S = S} (class_body_row s n base)
  unfolding class_body_row
  class_body_works s n (Ref a) = then_works _ _ (λ k. body_works s n (Ref a) k)
  class_body_works s n _ = raises s.roots _

  pub leave_works : (thread : Option Addr) (n : ℕ) (x : Value) → Works {S = S} (leave_row thread n x)
  unfolding leave_row
  leave_works thread zero x = then_works _ _ (λ u. leaves x)
  leave_works thread (suc n) x = leaves x

  pub class_row_works : (roots : ℕ) (name : List ℕ) (base : Value) (d : Addr) →
      Works {S = S} (class_row roots name base d)
  unfolding class_row new_class class_of
  class_row_works roots name base d = cond_works _ _ _ (then_works _ _ (λ a. then_works _ _ (λ c. leaves c)))
      (fails roots _)

  pub instance_works : (roots : ℕ) (made x : Value) → Works {S = S} (instance_row roots made x)
  unfolding instance_row
  instance_works roots made NoneValue = leaves made
  instance_works roots made _ = raises roots _

  pub value_works : (roots : ℕ) (thread : Option Addr) (n : ℕ) (x made : Value) →
      Works {S = S} (value_or_instance roots thread n x made)
  unfolding value_or_instance
  value_works roots thread n x Unset = leave_works thread n x
  value_works roots thread n x NoneValue = instance_works roots _ x
  value_works roots thread n x (BoolValue b) = instance_works roots _ x
  value_works roots thread n x (Int m) = instance_works roots _ x
  value_works roots thread n x (Ref a) = instance_works roots _ x
  value_works roots thread n x (Builtin b) = instance_works roots _ x

  pub return_works : (roots : ℕ) (thread : Option Addr) (name : List ℕ) (n : ℕ) (x made : Value) (names : Option Addr)
      → Works {S = S} (return_by roots thread name n x made names)
  unfolding return_by
  return_works roots thread name n x made (Some d) = class_row_works roots name made d
  return_works roots thread name n x made None = value_works roots thread n x made

  pub entered_works : (s : Site) (x : Got Frame) → Works {S = S} (entered_row s x)
  unfolding entered_row
  entered_works s (Is f) = cond_works _ _ _ (enters f) (raises s.roots _)
  entered_works s (Raise e) = raises s.roots e

  pub with_works : (s : Site) (f : Frame) (x : Got Value) → Works {S = S} (with_instance s f x)
  unfolding with_instance
  with_works s f (Is x) = enters _
  with_works s f (Raise e) = raises s.roots e

  pub init_entered_works : (s : Site) (c : ℕ) (g : Given) (b : Bool) (x : Got Frame) →
      Works {S = S} (init_entered s c g b x)
  unfolding init_entered making_row
  init_entered_works s c g b (Is f) = cond_works _ _ _ (then_works _ _ (λ x. with_works s f x)) (raises s.roots _)
  init_entered_works s c g b (Raise e) = raises s.roots e

  pub record_init_works : (s : Site) (c : ℕ) (g : Given) (b : Bool) (f : ℕ) (k : Kind) →
      Works {S = S} (record_init s c g b f k)
  unfolding record_init function_init
  record_init_works s c g b f Function = then_works _ _ (λ x. init_entered_works s c g b x)
  record_init_works s c g b f _ = raises s.roots _

  pub value_init_works : (s : Site) (c : ℕ) (g : Given) (b : Bool) (x : Value) → Works {S = S} (value_init s c g b x)
  unfolding value_init
  value_init_works s c g b (Ref a) = then_works _ _ (λ k. record_init_works s c g b a.0 k)
  value_init_works s c g b _ = raises s.roots _

  pub init_or_works : (s : Site) (c : ℕ) (g : Given) (o : Option Value) (b : Bool) →
      Works {S = S} (init_or_bare s c g o b)
  unfolding init_or_bare bare_call given_instance
  init_or_works s c g (Some x) b = value_init_works s c g b x
  init_or_works s c g None b = cond_works _ _ _ (then_works _ _ (λ x. gives s.roots x)) (raises s.roots _)

  pub class_call_works : (s : Site) (g : Given) (c : ℕ) → Works {S = S} (class_call s g c)
  unfolding class_call known_class
  class_call_works s g c = then_works _ _ (λ o. then_works _ _ (λ b. init_or_works s c g o b))

  pub function_call_works : (s : Site) (g : Given) (f : ℕ) → Works {S = S} (function_call s g f)
  unfolding function_call
  function_call_works s g f = then_works _ _ (λ x. entered_works s x)

  -- ---- exceptions
  pub match_works : (roots : ℕ) (c : Value) (a : ℕ) (k : Kind) → Works {S = S} (match_by roots c a k)
  unfolding match_by class_match told_match
  match_works roots c a Instance = then_works _ _ (λ e. then_works _ _ (λ b. goes _))
  match_works roots c a _ = raises roots _

  pub exc_match_works : (roots : ℕ) (e c : Value) → Works {S = S} (exc_match_row roots e c)
  unfolding exc_match_row
  exc_match_works roots (Ref a) c = then_works _ _ (λ k. match_works roots c a.0 k)
  exc_match_works roots _ c = raises roots _

  pub raise_if_works : (roots : ℕ) (x : Value) (b : Bool) → Works {S = S} (raise_if roots x b)
  unfolding raise_if
  raise_if_works roots x true = works (Throws x) (λ q. let z : Throws x ≡ Waits = q in cc)
  raise_if_works roots x false = raises roots _

  pub raise_by_works : (roots a : ℕ) (k : Kind) → Works {S = S} (raise_by roots a k)
  unfolding raise_by raise_instance raise_of
  raise_by_works roots a Instance = then_works _ _ (λ c. then_works _ _ (λ b. raise_if_works roots _ b))
  raise_by_works roots a _ = raises roots _

  pub raise_works : (roots : ℕ) (x : Value) → Works {S = S} (raise_value roots x)
  unfolding raise_value
  raise_works roots (Ref a) = then_works _ _ (λ k. raise_by_works roots a.0 k)
  raise_works roots _ = raises roots _

  pub call_if_works : (s : Site) (c : ℕ) (b : Bool) → Works {S = S} (call_if s c b)
  unfolding call_if
  call_if_works s c true = class_call_works s _ c
  call_if_works s c false = raises s.roots _

  pub alone_works : (s : Site) (a : ℕ) (k : Kind) → Works {S = S} (alone_by s a k)
  unfolding alone_by class_raised
  alone_works s a Class = then_works _ _ (λ b. call_if_works s a b)
  alone_works s a Instance = goes _
  alone_works s a _ = raises s.roots _

  pub made_alone_works : (s : Site) (x : Value) → Works {S = S} (made_alone s x)
  unfolding made_alone
  made_alone_works s (Ref a) = then_works _ _ (λ k. alone_works s a.0 k)
  made_alone_works s _ = raises s.roots _

  pub same_works : (s : Site) (c : ℕ) (x : Value) (b : Bool) → Works {S = S} (same_or_called s c x b)
  unfolding same_or_called called_with
  same_works s c x true = goes _
  same_works s c x false = then_works _ _ (λ args. class_call_works s _ c)

  pub class_with_works : (s : Site) (c : ℕ) (x : Value) (b : Bool) → Works {S = S} (class_with_if s c x b)
  unfolding class_with_if class_with
  class_with_works s c x true = then_works _ _ (λ b. same_works s c x b)
  class_with_works s c x false = raises s.roots _

  pub instance_valued_works : (s : Site) (a : ℕ) (x : Value) → Works {S = S} (instance_valued s a x)
  unfolding instance_valued
  instance_valued_works s a NoneValue = goes _
  instance_valued_works s a _ = raises s.roots _

  pub valued_works : (s : Site) (a : ℕ) (x : Value) (k : Kind) → Works {S = S} (valued_by s a x k)
  unfolding valued_by class_valued
  valued_works s a x Class = then_works _ _ (λ b. class_with_works s a x b)
  valued_works s a x Instance = instance_valued_works s a x
  valued_works s a x _ = raises s.roots _

  pub made_valued_works : (s : Site) (e x : Value) → Works {S = S} (made_valued s e x)
  unfolding made_valued
  made_valued_works s (Ref a) x = then_works _ _ (λ k. valued_works s a.0 x k)
  made_valued_works s _ x = raises s.roots _

  pub made_raised_works : (s : Site) (xs : List Value) (n : ℕ) → Works {S = S} (made_raised_row s xs n)
  made_raised_works s xs zero = made_alone_works s _
  made_raised_works s xs (suc n) = made_valued_works s _ _

  -- ---- printing
  pub write_works : (roots : ℕ) (g : Got (List ℕ)) → Works {S = S} (write_or_raise roots g)
  unfolding write_or_raise written_row put_row
  write_works roots (Is t) = never_do Waiting _ _
      (λ mid. never_do Waiting _ _ (λ u. never_do Waiting _ _ (λ v. goes [])))
  write_works roots (Raise e) = raises roots e

  pub print_item_works : (roots : ℕ) (x : Value) → Works {S = S} (print_item_row roots x)
  unfolding print_item_row
  print_item_works roots x = then_works _ _ (λ g. write_works roots g)

  pub newline_works : Works {S = S} print_newline_row
  unfolding print_newline_row
  newline_works = never_do Waiting _ _ (λ u. never_do Waiting _ _ (λ v. goes []))

  pub setup_works : (p : Program) → Works {S = S} (setup_row p)
  unfolding setup_row begun_row
  setup_works p = then_works _ _ (λ vs. never_do Waiting _ _
      (λ a. works (Begins _) (λ q. let z : Begins (record { 0 = a }) ≡ Waits = q in cc)))
