-- In the course of an operation on classes, attributes or exceptions no record is longer than before it or at its end.
use Rattle.std.proofs.Common.{ℕ, ◌+◌, ◌*◌, Bool, true, false, cond, eqb, List, [], ◌∷◌, codes, Option, Some, None, Result, Ok, Err, refl}
use Rattle.std.specs.Prelude.{option_map}
use Rattle.py_base.specs.declared.kind.Kind.{Kind}
use Rattle.py_base.specs.declared.kind.Kind.TheVariants.{Str, Tuple, List as ListKind, Dict, Cell, Function, Class, Instance, Method, Iter, Range, Lock, Thread}
use Rattle.py_base.specs.Numbers.{class_number}
use Rattle.py_data.specs.declared.value.Addr.{Addr}
use Rattle.py_data.specs.declared.value.Value.{Value}
use Rattle.py_data.specs.declared.value.Value.TheVariants.{Unset, None as NoneValue, Bool as BoolValue, Int, Ref, Builtin}
use Rattle.py_data.specs.declared.record.Fault.{Fault}
use Rattle.py_data.specs.declared.record.Got.{Got}
use Rattle.py_data.specs.declared.record.Got.TheVariants.{Is, Raise}
use Rattle.py_data.specs.declared.record.With.{With}
use Rattle.py_data.specs.declared.record.With.TheVariants.{Nothing, Text, Held}
use Rattle.py_data.specs.Fault.{hash_fault, key_fault}
use Rattle.py_data.specs.Heap.{value_at}
use Rattle.py_data.specs.Looking.{look_row, bytes_row, kind_row}
use Rattle.py_data.specs.Row.{Ret, Do, Find, bind}
use Rattle.py_data.specs.Shape.{is_key_kind}
use Rattle.py_data.specs.Steady.{Steady}
use Rattle.py_data.proofs.OnlyLooks.{OnlyLooks, only_bind, only_bytes, only_kind, only_look, only_ret, only_steady, only_walk, looks_steady}
use Rattle.obj_dict.specs.Dict.{key_row, if_key, del_row, drop_found}
use Rattle.obj_dict.proofs.SteadyRows.{dict_steady}
use Rattle.obj_class.specs.declared.lookup.Found.{Found}
use Rattle.obj_class.specs.declared.lookup.Found.TheVariants.{Plain, Bound}
use Rattle.obj_class.specs.Attributes.{address_in, attribute_fault, bound_of, of_methods}
use Rattle.obj_class.specs.AttrRows.{attr_row, bound_row, builtin_row, class_row, class_step, del_attr_row, del_in, dict_at, dict_by, dict_row, error_row, find_attr_row, found_by, from_class, given_row, gone_row, heir_step, held_row, if_found, inherited_row, instance_row, kept_row, member_row, method_row, methods_row, missing_row, next_class, own_or_class, own_row, pair_row, set_attr_row, set_in, taken_row}
use Rattle.obj_class.specs.Bases.{MOST_BASES, ref, base_step, sub_step}
use Rattle.obj_class.specs.Exceptions.{args_row, dict_of_args, exception_row, fault_row, is_tellable, keyed_row, made_row, numbered_row, told_row}
use Rattle.obj_class.specs.Named.{is_error, member_of}
use Rattle.obj_class.specs.Roots.{class_place}

module _ (S : Type 0) where
  -- ---- bases
  only_base : (c : ℕ) (b : Bool) → OnlyLooks {S = S} {A = Result Value Bool}
      (cond b (Ret (Err true)) (bind (look_row c 1) (λ b. Ret (Ok b))))
  only_base c true = only_ret S (Err true)
  only_base c false = only_bind (look_row c 1) (λ b. Ret (Ok b)) (only_look S c 1) (λ b. only_ret S (Ok b))

  pub only_sub : (base : ℕ) (v : Value) → OnlyLooks {S = S} (sub_step base v)
  unfolding sub_step base_step
  only_sub base (Ref c) = only_base c.0 (eqb c.0 base)
  only_sub base Unset = only_ret S (Err false)
  only_sub base NoneValue = only_ret S (Err false)
  only_sub base (BoolValue b) = only_ret S (Err false)
  only_sub base (Int n) = only_ret S (Err false)
  only_sub base (Builtin b) = only_ret S (Err false)

  -- ---- attributes
  only_pair : (d : ℕ) (o : Option ℕ) → OnlyLooks {S = S} (pair_row d o)
  unfolding pair_row OnlyLooks
  only_pair d None = tt
  only_pair d (Some i) = (tt, λ r. tt)

  only_kept : (v key : Value) → OnlyLooks {S = S} (kept_row v key)
  unfolding kept_row held_row OnlyLooks
  only_kept (Ref d) key = (tt, λ o. only_pair d.0 o)
  only_kept Unset key = tt
  only_kept NoneValue key = tt
  only_kept (BoolValue b) key = tt
  only_kept (Int n) key = tt
  only_kept (Builtin b) key = tt

  only_own : (a i : ℕ) (key : Value) → OnlyLooks {S = S} (own_row a i key)
  unfolding own_row
  only_own a i key = only_bind (look_row a i) (λ d. kept_row d key) (only_look S a i) (λ d. only_kept d key)

  only_next : (c : ℕ) (o : Option Value) → OnlyLooks {S = S} (next_class c o)
  unfolding next_class
  only_next c (Some x) = only_ret S (Err (Some x))
  only_next c None = only_bind (look_row c 1) (λ b. Ret (Ok b)) (only_look S c 1) (λ b. only_ret S (Ok b))

  only_heir : (key v : Value) → OnlyLooks {S = S} (heir_step key v)
  unfolding heir_step class_step
  only_heir key (Ref c) = only_bind (own_row c.0 2 key) (λ o. next_class c.0 o) (only_own c.0 2 key)
      (λ o. only_next c.0 o)
  only_heir key Unset = only_ret S (Err None)
  only_heir key NoneValue = only_ret S (Err None)
  only_heir key (BoolValue b) = only_ret S (Err None)
  only_heir key (Int n) = only_ret S (Err None)
  only_heir key (Builtin b) = only_ret S (Err None)

  only_inherited : (key c : Value) → OnlyLooks {S = S} (inherited_row key c)
  unfolding inherited_row
  only_inherited key c = only_walk (heir_step key) None (only_heir key) MOST_BASES c

  only_bound : (x : Value) → OnlyLooks {S = S} (bound_row x)
  unfolding bound_row
  only_bound (Ref f) = only_bind (kind_row f.0) (λ k. Ret (Some (bound_of (Ref f) k))) (only_kind S f.0)
      (λ k. only_ret S (Some (bound_of (Ref f) k)))
  only_bound Unset = only_ret S (Some (Plain Unset))
  only_bound NoneValue = only_ret S (Some (Plain NoneValue))
  only_bound (BoolValue b) = only_ret S (Some (Plain (BoolValue b)))
  only_bound (Int n) = only_ret S (Some (Plain (Int n)))
  only_bound (Builtin b) = only_ret S (Some (Plain (Builtin b)))

  only_if : (o : Option Value) → OnlyLooks {S = S} (if_found o)
  unfolding if_found
  only_if None = only_ret S None
  only_if (Some x) = only_bound x

  only_from : (key c : Value) → OnlyLooks {S = S} (from_class key c)
  unfolding from_class
  only_from key c = only_bind (inherited_row key c) (λ o. if_found o) (only_inherited key c) only_if

  only_or_class : (a : ℕ) (key : Value) (o : Option Value) → OnlyLooks {S = S} (own_or_class a key o)
  unfolding own_or_class
  only_or_class a key (Some x) = only_ret S (Some (Plain x))
  only_or_class a key None = only_bind (look_row a 0) (λ c. from_class key c) (only_look S a 0) (λ c. only_from key c)

  only_instance : (a : ℕ) (key : Value) → OnlyLooks {S = S} (instance_row a key)
  unfolding instance_row
  only_instance a key = only_bind (own_row a 1 key) (λ o. own_or_class a key o) (only_own a 1 key)
      (λ o. only_or_class a key o)

  only_class : (c key : Value) → OnlyLooks {S = S} (class_row c key)
  unfolding class_row
  only_class c key = only_bind (inherited_row key c) (λ o. Ret (option_map Plain o)) (only_inherited key c)
      (λ o. only_ret S (option_map Plain o))

  only_methods : (k : Kind) (name : ℕ) → OnlyLooks {S = S} (methods_row k name)
  unfolding methods_row
  only_methods k name = only_bind (bytes_row name) (λ t. Ret (of_methods k t)) (only_bytes S name)
      (λ t. only_ret S (of_methods k t))

  only_error : (roots : ℕ) → OnlyLooks {S = S} (error_row roots)
  unfolding error_row
  only_error roots =
      let n = class_place (class_number (codes "thread.error")) in
      only_bind (look_row roots n) (λ c. Ret (Some (Plain c))) (only_look S roots n) (λ c. only_ret S (Some (Plain c)))

  only_member : (roots b : ℕ) (t : List ℕ) (c : Bool) →
      OnlyLooks {S = S} (cond c (error_row roots) (Ret (option_map (λ n. Plain (Builtin n)) (member_of b t))))
  only_member roots b t true = only_error roots
  only_member roots b t false = only_ret S (option_map (λ n. Plain (Builtin n)) (member_of b t))

  only_builtin : (roots b name : ℕ) → OnlyLooks {S = S} (builtin_row roots b name)
  unfolding builtin_row member_row
  only_builtin roots b name = only_bind (bytes_row name) (λ t. member_row roots b t) (only_bytes S name)
      (λ t. only_member roots b t (is_error b t))

  only_by : (a : Addr) (name : ℕ) (k : Kind) → OnlyLooks {S = S} (found_by a name k)
  unfolding found_by
  only_by a name Instance = only_instance a.0 (ref name)
  only_by a name Class = only_class (Ref a) (ref name)
  only_by a name Str = only_methods Str name
  only_by a name Tuple = only_methods Tuple name
  only_by a name ListKind = only_methods ListKind name
  only_by a name Dict = only_methods Dict name
  only_by a name Cell = only_methods Cell name
  only_by a name Function = only_methods Function name
  only_by a name Method = only_methods Method name
  only_by a name Iter = only_methods Iter name
  only_by a name Range = only_methods Range name
  only_by a name Lock = only_methods Lock name
  only_by a name Thread = only_methods Thread name

  pub only_find : (roots name : ℕ) (x : Value) → OnlyLooks {S = S} (find_attr_row roots x name)
  unfolding find_attr_row
  only_find roots name (Ref a) = only_bind (kind_row a.0) (λ k. found_by a name k) (only_kind S a.0)
      (λ k. only_by a name k)
  only_find roots name (Builtin b) = only_builtin roots b name
  only_find roots name Unset = only_ret S None
  only_find roots name NoneValue = only_ret S None
  only_find roots name (BoolValue b) = only_ret S None
  only_find roots name (Int n) = only_ret S None

  missing_steady : (A : Type 0) (name : ℕ) → Steady {S = S} {A = Got A} false (missing_row name)
  unfolding missing_row
  missing_steady A name = only_steady (bind (bytes_row name) (λ t. Ret (Raise (attribute_fault t))))
      (only_bind (bytes_row name) (λ t. Ret (Raise (attribute_fault t))) (only_bytes S name)
      (λ t. only_ret S (Raise (attribute_fault t))))

  given_steady : (x : Value) (name : ℕ) (o : Option Found) → Steady {S = S} false (given_row x name o)
  unfolding given_row method_row Steady
  given_steady x name None = missing_steady Value name
  given_steady x name (Some (Plain y)) = tt
  given_steady x name (Some (Bound f)) = ((refl, tt), λ a. tt)

  pub attr_steady : (roots name : ℕ) (x : Value) → Steady {S = S} false (attr_row roots x name)
  unfolding attr_row
  attr_steady roots name x = looks_steady (find_attr_row roots x name) (λ o. given_row x name o)
      (only_find roots name x) (λ o. given_steady x name o)

  -- ---- set and del
  only_at : (a i : ℕ) → OnlyLooks {S = S} (dict_at a i)
  unfolding dict_at
  only_at a i = only_bind (look_row a i) (λ d. Ret (address_in d)) (only_look S a i) (λ d. only_ret S (address_in d))

  only_dict_by : (a : ℕ) (k : Kind) → OnlyLooks {S = S} (dict_by a k)
  unfolding dict_by
  only_dict_by a Instance = only_at a 1
  only_dict_by a Class = only_at a 2
  only_dict_by a Str = only_ret S None
  only_dict_by a Tuple = only_ret S None
  only_dict_by a ListKind = only_ret S None
  only_dict_by a Dict = only_ret S None
  only_dict_by a Cell = only_ret S None
  only_dict_by a Function = only_ret S None
  only_dict_by a Method = only_ret S None
  only_dict_by a Iter = only_ret S None
  only_dict_by a Range = only_ret S None
  only_dict_by a Lock = only_ret S None
  only_dict_by a Thread = only_ret S None

  only_dict : (x : Value) → OnlyLooks {S = S} (dict_row x)
  unfolding dict_row
  only_dict (Ref a) = only_bind (kind_row a.0) (λ k. dict_by a.0 k) (only_kind S a.0) (λ k. only_dict_by a.0 k)
  only_dict Unset = only_ret S None
  only_dict NoneValue = only_ret S None
  only_dict (BoolValue b) = only_ret S None
  only_dict (Int n) = only_ret S None
  only_dict (Builtin b) = only_ret S None

  set_in_steady : (name : ℕ) (y : Value) (o : Option Addr) → Steady {S = S} false (set_in name y o)
  unfolding set_in
  set_in_steady name y None = missing_steady (Unit {0}) name
  set_in_steady name y (Some d) = let s = dict_steady S in s.set d.0 (ref name) y

  pub set_steady : (name : ℕ) (x y : Value) → Steady {S = S} false (set_attr_row x name y)
  unfolding set_attr_row
  set_steady name x y = looks_steady (dict_row x) (λ o. set_in name y o) (only_dict x) (λ o. set_in_steady name y o)

  gone_steady : (name : ℕ) (g : Got Value) → Steady {S = S} false (gone_row name g)
  unfolding gone_row Steady
  gone_steady name (Is x) = tt
  gone_steady name (Raise e) = missing_steady (Unit {0}) name

  -- a pair is taken out, and then nothing grows
  drop_steady : (name d : ℕ) (o : Option ℕ) →
      Steady {S = S} false (bind (drop_found d (ref name) o) (λ g. gone_row name g))
  unfolding drop_found bind Steady
  drop_steady name d None = gone_steady name (Raise (key_fault (ref name)))
  drop_steady name d (Some i) = (
    (refl, tt),
    λ r.
        ((refl, tt), λ u. gone_steady name (Is (value_at r.values (2 * i + 1)))),
  )

  key_steady : (name d : ℕ) (b : Bool) →
      Steady {S = S} false (bind (if_key (Do (Find d (ref name)) (drop_found d (ref name))) b) (λ g. gone_row name g))
  unfolding if_key bind Steady
  key_steady name d true = ((refl, tt), λ o. drop_steady name d o)
  key_steady name d false = gone_steady name (Raise hash_fault)

  taken_steady : (name d : ℕ) → Steady {S = S} false (taken_row name d)
  unfolding taken_row del_row key_row bind Steady
  taken_steady name d = ((refl, tt), λ r. key_steady name d (is_key_kind r.kind))

  del_in_steady : (name : ℕ) (o : Option Addr) → Steady {S = S} false (del_in name o)
  unfolding del_in
  del_in_steady name None = missing_steady (Unit {0}) name
  del_in_steady name (Some d) = taken_steady name d.0

  pub del_steady : (name : ℕ) (x : Value) → Steady {S = S} false (del_attr_row x name)
  unfolding del_attr_row
  del_steady name x = looks_steady (dict_row x) (λ o. del_in name o) (only_dict x) (λ o. del_in_steady name o)

  -- ---- exceptions
  args_steady : (class key : Value) (args : List Value) → Steady {S = S} true (args_row class key args)
  unfolding args_row dict_of_args made_row bind Steady
  args_steady class key args = ((refl, tt), λ t. ((refl, tt), λ d. ((refl, tt), λ n. tt)))

  told_steady : (class key : Value) (w : With) → Steady {S = S} true (keyed_row class w key)
  unfolding keyed_row told_row made_row bind Steady
  told_steady class key Nothing = args_steady class key []
  told_steady class key (Text t) = ((refl, tt), λ a. args_steady class key (ref a ∷ []))
  told_steady class key (Held x) = args_steady class key (x ∷ [])

  exception_steady : (class : Value) (w : With) → Steady {S = S} false (exception_row class w)
  unfolding exception_row made_row bind Steady
  exception_steady class w = ((refl, tt), λ k. told_steady class (ref k) w)

  numbered_steady : (roots n : ℕ) (w : With) → Steady {S = S} false (numbered_row roots n w)
  unfolding numbered_row
  numbered_steady roots n w = looks_steady (look_row roots (class_place n)) (λ class. exception_row class w)
      (only_look S roots (class_place n)) (λ class. exception_steady class w)

  fault_by : (roots : ℕ) (e : Fault) (b : Bool) →
      Steady {S = S} false (cond b (numbered_row roots e.exc e.with)
      (numbered_row roots (class_number (codes "MemoryError")) Nothing))
  fault_by roots e true = numbered_steady roots e.exc e.with
  fault_by roots e false = numbered_steady roots (class_number (codes "MemoryError")) Nothing

  pub fault_steady : (roots : ℕ) (e : Fault) → Steady {S = S} false (fault_row roots e)
  unfolding fault_row
  fault_steady roots e = fault_by roots e (is_tellable e.with)
