-- Rows of instructions that make nothing shorter.
use Rattle.std.proofs.Common.{◌≡◌, ℕ, zero, suc, Bool, true, false, cond, List, [], ◌∷◌, Option, Some, None, refl, ap, ◌∙◌}
use Rattle.py_base.specs.declared.kind.Kind.{Kind}
use Rattle.py_base.specs.declared.kind.Kind.TheVariants.{Function}
use Rattle.py_data.specs.declared.value.Value.{Value}
use Rattle.py_data.specs.declared.value.Value.TheVariants.{Unset, None as NoneValue, Bool as BoolValue, Int, Ref, Builtin}
use Rattle.py_data.specs.declared.record.Fault.{Fault}
use Rattle.py_data.specs.declared.record.Got.{Got}
use Rattle.py_data.specs.declared.record.Got.TheVariants.{Is, Raise}
use Rattle.py_data.specs.Looking.{look_row, kind_row}
use Rattle.py_data.specs.Row.{Row, Ret, Read, Find, Edit, Make, bind}
use Rattle.py_code.specs.declared.instr.Constant.{Constant}
use Rattle.py_code.specs.declared.instr.Constant.TheVariants.{None as NoneConstant, Truth, Int as IntConstant, Builtin as BuiltinConstant, Root as RootConstant}
use Rattle.py_code.specs.declared.program.Program.{Program}
use Rattle.py_frames.specs.declared.state.Frame.{Frame}
use Rattle.py_frames.specs.declared.next.Next.TheVariants.{Goes, Fails, Throws}
use Rattle.py_frames.specs.Binding.{Given, with_first}
use Rattle.py_frames.specs.CallRows.{function_call}
use Rattle.py_frames.specs.ClassCalls.{Site, entered_row, given_instance, bare_call, with_instance, making_row, init_entered, function_init, record_init, value_init, init_or_bare, known_class, class_call}
use Rattle.py_frames.specs.GlobalRows.{unbound_row, bound_row, load_cell_row, load_global_row, set_cell_row, store_global_row, cleared_row, clear_cell_row, del_global_row, outer_row, named_row, own_or_outer, load_name_row}
use Rattle.py_frames.specs.LocalRows.{const_row, load_local_row, del_local_row}
use Rattle.py_frames.specs.Raising.{values_row, raise_row, fail_row, give, done}
use Rattle.py_data.specs.declared.change.Change.TheVariants as change
use Rattle.py_data.specs.Heap.{Rec}
use Rattle.py_data.specs.Looking.{walk_row}
use Rattle.py_data.specs.Steady.{Calm}
use Rattle.py_data.proofs.CalmRows.{ret_calm, do_calm, cond_calm, bind_calm, kind_calm, look_calm}
use Rattle.py_data.proofs.OnlyLooks.{only_calm}
use Rattle.std.specs.Prelude.{Result, Ok, Err}
use Rattle.obj_class.specs.AttrRows.{held_row, pair_row, kept_row, own_row, next_class, class_step, heir_step, inherited_row}
use Rattle.obj_class.specs.Bases.{ref, MOST_BASES, is_sub_row, sub_step}
use Rattle.obj_class.specs.Exceptions.{fault_row, numbered_row, exception_row, keyed_row, args_row, dict_of_args, made_row, told_row as with_row, is_tellable}
use Rattle.py_data.specs.declared.record.With.{With}
use Rattle.py_data.specs.declared.record.With.TheVariants.{Nothing, Text, Held}
use Rattle.obj_class.proofs.SteadyRows.{only_sub}
use Rattle.py_frames.specs.Binding.{defaulted_row, numbered_row as numbered_bound, bound_row as bound_call}
use Rattle.py_frames.specs.ClassCalls.{init_by, init_row, exception_class_row, plain_instance, args_instance, instance_of, new_instance}
use Rattle.py_data.specs.Looking.{walk_on}

module _ (S : Type 0) where
  abbrev pub C : {A : Type 0} → Row S A → Type 0
  C row = Calm row

  pub ret : {A : Type 0} (a : A) → C (Ret a)
  ret a = ret_calm S a

  pub both : {A B : Type 0} (row : Row S A) (f : A → Row S B) → C row → ((a : A) → C (f a)) → C (bind row f)
  both row f i n = bind_calm S row f i n

  pub one_of : {A : Type 0} (b : Bool) (p q : Row S A) → C p → C q → C (cond b p q)
  one_of b p q i j = cond_calm S b p q i j

  pub look_then : {B : Type 0} (a i : ℕ) (f : Value → Row S B) → ((x : Value) → C (f x)) → C (bind (look_row a i) f)
  look_then a i f n = both (look_row a i) f (look_calm S a i) n

  pub kind_then : {B : Type 0} (a : ℕ) (f : Kind → Row S B) → ((k : Kind) → C (f k)) → C (bind (kind_row a) f)
  kind_then a f n = both (kind_row a) f (kind_calm S a) n

  pub values_calm : (a : ℕ) → C (values_row a)
  unfolding values_row
  values_calm a = do_calm (Read a) _ refl tt (λ r. ret r.values)

  pub made_calm : (r : Rec) → C (made_row r)
  unfolding made_row
  made_calm r = do_calm (Make r) _ refl tt (λ a. ret (ref a))

  pub made_then : {B : Type 0} (r : Rec) (f : Value → Row S B) → ((x : Value) → C (f x)) → C (bind (made_row r) f)
  made_then r f n = both (made_row r) f (made_calm r) n

  -- ---- exceptions
  pub args_calm : (class key : Value) (args : List Value) → C (args_row class key args)
  unfolding args_row dict_of_args
  args_calm class key args = made_then _ _ (λ t. made_then _ _ (λ d. made_calm _))

  pub with_calm : (w : With) → C (with_row w)
  unfolding with_row
  with_calm Nothing = ret []
  with_calm (Text t) = made_then _ _ (λ a. ret (a ∷ []))
  with_calm (Held x) = ret (x ∷ [])

  pub fault_calm : (roots : ℕ) (e : Fault) → C (fault_row roots e)
  unfolding fault_row numbered_row exception_row keyed_row
  fault_calm roots e =
      one_of (is_tellable e.with) _ _ (look_then roots _ _
      (λ class. made_then _ _ (λ key.
      both (with_row e.with) _ (with_calm e.with) (λ args. args_calm class key args))))
      (look_then roots _ _ (λ class. made_then _ _
      (λ key. both (with_row Nothing) _ (with_calm Nothing) (λ args. args_calm class key args))))

  pub raise_calm : (roots : ℕ) (e : Fault) → C (raise_row roots e)
  unfolding raise_row
  raise_calm roots e = both (fault_row roots e) _ (fault_calm roots e) (λ x. ret (Throws x))

  pub fail_calm : (roots : ℕ) (e : Fault) → C (fail_row roots e)
  unfolding fail_row
  fail_calm roots e = both (fault_row roots e) _ (fault_calm roots e) (λ x. ret (Fails x))

  pub give_calm : (roots : ℕ) (g : Got Value) → C (give roots g)
  unfolding give
  give_calm roots (Is x) = ret (Goes (x ∷ []))
  give_calm roots (Raise e) = raise_calm roots e

  pub done_calm : {A : Type 0} (roots : ℕ) (g : Got A) → C (done roots g)
  unfolding done
  done_calm roots (Is x) = ret (Goes [])
  done_calm roots (Raise e) = raise_calm roots e

  -- ---- names
  pub const_calm : (roots : ℕ) (c : Constant) → C (const_row roots c)
  unfolding const_row
  const_calm roots NoneConstant = ret _
  const_calm roots (Truth b) = ret _
  const_calm roots (IntConstant n) = ret _
  const_calm roots (BuiltinConstant b) = ret _
  const_calm roots (RootConstant n) = look_then roots n _ (λ x. ret _)

  pub load_local_calm : (roots : ℕ) (name : List ℕ) (x : Value) → C (load_local_row roots name x)
  unfolding load_local_row
  load_local_calm roots name Unset = raise_calm roots _
  load_local_calm roots name NoneValue = ret _
  load_local_calm roots name (BoolValue b) = ret _
  load_local_calm roots name (Int n) = ret _
  load_local_calm roots name (Ref a) = ret _
  load_local_calm roots name (Builtin b) = ret _

  pub del_local_calm : (roots : ℕ) (name : List ℕ) (i : ℕ) (x : Value) → C (del_local_row roots name i x)
  unfolding del_local_row
  del_local_calm roots name i Unset = raise_calm roots _
  del_local_calm roots name i NoneValue = ret _
  del_local_calm roots name i (BoolValue b) = ret _
  del_local_calm roots name i (Int n) = ret _
  del_local_calm roots name i (Ref a) = ret _
  del_local_calm roots name i (Builtin b) = ret _

  pub unbound_calm : (roots : ℕ) (name : List ℕ) (o : Option Constant) → C (unbound_row roots name o)
  unfolding unbound_row
  unbound_calm roots name (Some c) = const_calm roots c
  unbound_calm roots name None = raise_calm roots _

  pub bound_calm : (roots : ℕ) (name : List ℕ) (o : Option Constant) (x : Value) → C (bound_row roots name o x)
  unfolding bound_row
  bound_calm roots name o Unset = unbound_calm roots name o
  bound_calm roots name o NoneValue = ret _
  bound_calm roots name o (BoolValue b) = ret _
  bound_calm roots name o (Int n) = ret _
  bound_calm roots name o (Ref a) = ret _
  bound_calm roots name o (Builtin b) = ret _

  pub load_global_calm : (roots g : ℕ) (name : List ℕ) (o : Option Constant) → C (load_global_row roots g name o)
  unfolding load_global_row load_cell_row
  load_global_calm roots g name o = look_then roots g _ (λ c. look_then _ 0 _ (λ x. bound_calm roots name o x))

  pub set_cell_calm : (a : ℕ) (x : Value) → C (set_cell_row a x)
  unfolding set_cell_row
  set_cell_calm a x = do_calm (Edit a (change.Set 0 x)) _ refl tt (λ u. ret (Goes []))

  pub store_global_calm : (roots g : ℕ) (x : Value) → C (store_global_row roots g x)
  unfolding store_global_row
  store_global_calm roots g x = look_then roots g _ (λ c. set_cell_calm _ x)

  pub cleared_calm : (roots : ℕ) (name : List ℕ) (a : ℕ) (x : Value) → C (cleared_row roots name a x)
  unfolding cleared_row
  cleared_calm roots name a Unset = raise_calm roots _
  cleared_calm roots name a NoneValue = set_cell_calm a Unset
  cleared_calm roots name a (BoolValue b) = set_cell_calm a Unset
  cleared_calm roots name a (Int n) = set_cell_calm a Unset
  cleared_calm roots name a (Ref b) = set_cell_calm a Unset
  cleared_calm roots name a (Builtin b) = set_cell_calm a Unset

  pub del_global_calm : (roots g : ℕ) (name : List ℕ) → C (del_global_row roots g name)
  unfolding del_global_row clear_cell_row
  del_global_calm roots g name = look_then roots g _ (λ c. look_then _ 0 _ (λ x. cleared_calm roots name _ x))

  pub pair_calm : (d : ℕ) (o : Option ℕ) → C (pair_row d o)
  unfolding pair_row
  pair_calm d None = ret None
  pair_calm d (Some i) = do_calm (Read d) _ refl tt (λ r. ret _)

  pub held_calm : (d : ℕ) (key : Value) → C (held_row d key)
  unfolding held_row
  held_calm d key = do_calm (Find d key) _ refl tt (λ o. pair_calm d o)

  pub outer_calm : (roots : ℕ) (name : List ℕ) (o : Option Constant) (g : Option ℕ) → C (outer_row roots name o g)
  unfolding outer_row
  outer_calm roots name o (Some g) = load_global_calm roots g name o
  outer_calm roots name o None = unbound_calm roots name o

  pub named_calm : (roots : ℕ) (name : List ℕ) (o : Option Constant) (g : Option ℕ) (x : Option Value) →
      C (named_row roots name o g x)
  unfolding named_row
  named_calm roots name o g (Some x) = ret _
  named_calm roots name o g None = outer_calm roots name o g

  pub load_name_calm : (roots d n : ℕ) (name : List ℕ) (o : Option Constant) (g : Option ℕ) →
      C (load_name_row roots d n name o g)
  unfolding load_name_row own_or_outer
  load_name_calm roots d n name o g = look_then roots n _
      (λ key. both (held_row d key) _ (held_calm d key) (λ x. named_calm roots name o g x))

  -- ---- classes
  pub kept_calm : (v key : Value) → C (kept_row v key)
  unfolding kept_row
  kept_calm (Ref d) key = held_calm d.0 key
  kept_calm Unset key = ret None
  kept_calm NoneValue key = ret None
  kept_calm (BoolValue b) key = ret None
  kept_calm (Int n) key = ret None
  kept_calm (Builtin b) key = ret None

  pub next_class_calm : (c : ℕ) (o : Option Value) → C (next_class c o)
  unfolding next_class
  next_class_calm c (Some x) = ret _
  next_class_calm c None = look_then c 1 _ (λ b. ret _)

  pub heir_calm : (key v : Value) → C (heir_step key v)
  unfolding heir_step class_step own_row
  heir_calm key (Ref c) = both (bind (look_row c.0 2) (λ d. kept_row d key)) _
      (look_then c.0 2 _ (λ d. kept_calm d key)) (λ o. next_class_calm c.0 o)
  heir_calm key Unset = ret _
  heir_calm key NoneValue = ret _
  heir_calm key (BoolValue b) = ret _
  heir_calm key (Int n) = ret _
  heir_calm key (Builtin b) = ret _

  pub walk_calm : {A B : Type 0} (f : A → Row S (Result A B)) (end : B) → ((a : A) → C (f a)) → (m : ℕ) (a : A) →
      C (walk_row f end m a)
  unfolding walk_row
  walk_calm f end i zero a = ret end
  walk_calm {A} {B} f end i (suc m) a = both (f a) (walk_on (walk_row f end m)) (i a) (walked (walk_calm f end i m))
    where
      walked : ((a : A) → C (walk_row f end m a)) → (r : Result A B) → C (walk_on (walk_row f end m) r)
      walked more (Ok a) = more a
      walked more (Err b) = ret b

  pub inherited_calm : (key c : Value) → C (inherited_row key c)
  unfolding inherited_row
  inherited_calm key c = walk_calm (heir_step key) None (heir_calm key) MOST_BASES c

  pub sub_calm : (c base : ℕ) → C (is_sub_row c base)
  sub_calm c base = walk_calm (sub_step base) false (λ v. only_calm (sub_step base v) (only_sub S base v)) MOST_BASES
      (ref c)

  pub init_calm : (roots c : ℕ) (o : Option ℕ) → C (init_by roots c o)
  unfolding init_by
  init_calm roots c (Some n) = look_then roots n _ (λ key. inherited_calm key (ref c))
  init_calm roots c None = ret None

  pub exception_calm : (roots c : ℕ) → C (exception_class_row roots c)
  unfolding exception_class_row
  exception_calm roots c = look_then roots _ _ (λ b. sub_calm c _)

  pub instance_of_calm : (c : ℕ) (args : List Value) (b : Bool) → C (instance_of c args b)
  unfolding instance_of plain_instance args_instance
  instance_of_calm c args true = made_then _ _ (λ key. args_calm _ key args)
  instance_of_calm c args false = made_then _ _ (λ d. made_calm _)

  pub new_instance_calm : (c : ℕ) (args : List Value) (b : Bool) → C (new_instance c args b)
  unfolding new_instance
  new_instance_calm c args b = one_of _ _ _
      (both (instance_of c args b) _ (instance_of_calm c args b) (λ x. ret (Is x))) (ret _)

  pub bound_to_calm : (p : Program) (g : Given) (f : ℕ) → C (bound_call p g f)
  unfolding bound_call numbered_bound defaulted_row
  bound_to_calm p g f = look_then f 1 _ (λ n.
      look_then f 2 _ (λ d. both (values_row _) _ (values_calm _) (λ ds. ret _)))

  pub entered_calm : (s : Site) (x : Got Frame) → C (entered_row s x)
  unfolding entered_row
  entered_calm s (Is f) = one_of _ _ _ (ret _) (raise_calm s.roots _)
  entered_calm s (Raise e) = raise_calm s.roots e

  pub with_instance_calm : (s : Site) (f : Frame) (x : Got Value) → C (with_instance s f x)
  unfolding with_instance
  with_instance_calm s f (Is x) = ret _
  with_instance_calm s f (Raise e) = raise_calm s.roots e

  pub init_entered_calm : (s : Site) (c : ℕ) (g : Given) (b : Bool) (x : Got Frame) → C (init_entered s c g b x)
  unfolding init_entered making_row
  init_entered_calm s c g b (Is f) = one_of _ _ _
      (both (new_instance c g.args b) _ (new_instance_calm c g.args b) (λ x. with_instance_calm s f x))
      (raise_calm s.roots _)
  init_entered_calm s c g b (Raise e) = raise_calm s.roots e

  pub record_init_calm : (s : Site) (c : ℕ) (g : Given) (b : Bool) (f : ℕ) (k : Kind) → C (record_init s c g b f k)
  unfolding record_init function_init
  record_init_calm s c g b f Function = both (bound_call s.program (with_first Unset g) f) _
      (bound_to_calm s.program (with_first Unset g) f) (λ x. init_entered_calm s c g b x)
  record_init_calm s c g b f _ = raise_calm s.roots _

  pub value_init_calm : (s : Site) (c : ℕ) (g : Given) (b : Bool) (x : Value) → C (value_init s c g b x)
  unfolding value_init
  value_init_calm s c g b (Ref a) = kind_then a.0 _ (λ k. record_init_calm s c g b a.0 k)
  value_init_calm s c g b _ = raise_calm s.roots _

  pub init_or_calm : (s : Site) (c : ℕ) (g : Given) (o : Option Value) (b : Bool) → C (init_or_bare s c g o b)
  unfolding init_or_bare bare_call given_instance
  init_or_calm s c g (Some x) b = value_init_calm s c g b x
  init_or_calm s c g None b = one_of _ _ _
      (both (new_instance c g.args b) _ (new_instance_calm c g.args b) (λ x. give_calm s.roots x))
      (raise_calm s.roots _)

  pub class_call_calm : (s : Site) (g : Given) (c : ℕ) → C (class_call s g c)
  unfolding class_call known_class init_row
  class_call_calm s g c = both (init_by s.roots c _) _ (init_calm s.roots c _)
      (λ o. both (exception_class_row s.roots c) _ (exception_calm s.roots c) (λ b. init_or_calm s c g o b))

  pub function_call_calm : (s : Site) (g : Given) (f : ℕ) → C (function_call s g f)
  unfolding function_call
  function_call_calm s g f = both (bound_call s.program g f) _ (bound_to_calm s.program g f) (λ x. entered_calm s x)
