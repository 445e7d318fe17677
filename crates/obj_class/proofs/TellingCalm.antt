-- The rows of texts make nothing shorter.
use Rattle.std.proofs.Common.{◌≡◌, ℕ, zero, suc, ◌+◌, ◌*◌, ◌/◌, ◌==◌, Bool, true, false, codes, [], Option, Some, None, refl}
use Rattle.std.specs.Prelude.{◌||◌, ◌&&◌, IfSome}
use Rattle.std.specs.Str.{bytes_eq}
use Rattle.py_base.specs.declared.kind.Kind.{Kind}
use Rattle.py_base.specs.declared.kind.Kind.TheVariants.{Str, Tuple, List as ListKind, Dict, Cell, Function, Class, Instance, Method, Iter, Range, Lock, Thread}
use Rattle.py_base.specs.Numbers.{class_number}
use Rattle.py_data.specs.declared.value.Value.{Value}
use Rattle.py_data.specs.declared.value.Value.TheVariants.{Unset, None as NoneValue, Bool as BoolValue, Int, Ref, Builtin}
use Rattle.py_data.specs.declared.record.Got.TheVariants.{Is, Raise}
use Rattle.py_data.specs.Comparing.{DEPTH_LIMIT}
use Rattle.py_data.specs.Fault.{depth_fault}
use Rattle.py_data.specs.Looking.{kind_row, size_row, look_row, bytes_row}
use Rattle.py_data.specs.Row.{Row, Ret, Do, Read}
use Rattle.py_data.specs.Steady.{Calm}
use Rattle.py_data.proofs.CalmRows.{ret_calm, bind_calm, cond_calm, until_calm, kind_calm, size_calm, look_calm, bytes_calm}
use Rattle.py_data.proofs.OnlyLooks.{only_calm, only_walk}
use Rattle.obj_nest.specs.Levels.{level_row}
use Rattle.obj_nest.proofs.CalmRows.{text_calm}
use Rattle.obj_class.specs.declared.args.Part.{Part}
use Rattle.obj_class.specs.Bases.{MOST_BASES, ref, sub_step, is_sub_row}
use Rattle.obj_class.specs.Roots.{class_place}
use Rattle.obj_class.specs.Telling.{TellsBy, alone_at_row, alone_by_row, alone_row, args_at_row, args_by_row, args_in_row, args_pair_row, args_row, class_under_row, dict_args_row, exception_text_row, if_exception_row, instance_text_row, is_args_row, is_missing, is_of_row, left, part, part_at_row, part_by_row, part_of_row, part_one_row, part_sized_row, part_text_row, part_tuple_row, part_value_row, part_with_row, told_part_row, told_row, told_under_row, under_row, value_by_row, value_if_row, value_under_row}
use Rattle.obj_class.proofs.SteadyRows.{only_sub}

module _ (S : Type 0) where
  -- ---- which class it is
  under_calm : (c : ℕ) (x : Value) → Calm {S = S} (under_row c x)
  unfolding under_row
  under_calm c (Ref b) = only_calm (is_sub_row c b.0)
      (only_walk (sub_step b.0) false (only_sub S b.0) MOST_BASES (ref c))
  under_calm c Unset = ret_calm S false
  under_calm c NoneValue = ret_calm S false
  under_calm c (BoolValue b) = ret_calm S false
  under_calm c (Int n) = ret_calm S false
  under_calm c (Builtin b) = ret_calm S false

  value_calm : (roots n : ℕ) (x : Value) → Calm {S = S} (value_under_row roots n x)
  unfolding value_under_row class_under_row
  value_calm roots n (Ref c) = bind_calm S (look_row roots (class_place n)) (λ b. under_row c.0 b)
      (look_calm S roots (class_place n)) (λ b. under_calm c.0 b)
  value_calm roots n Unset = ret_calm S false
  value_calm roots n NoneValue = ret_calm S false
  value_calm roots n (BoolValue b) = ret_calm S false
  value_calm roots n (Int i) = ret_calm S false
  value_calm roots n (Builtin b) = ret_calm S false

  of_calm : (roots n a : ℕ) → Calm {S = S} (is_of_row roots n a)
  unfolding is_of_row
  of_calm roots n a = bind_calm S (look_row a 0) (λ c. value_under_row roots n c) (look_calm S a 0)
      (λ c. value_calm roots n c)

  -- ---- its attribute `args`
  args_by_calm : (a : ℕ) (k : Kind) → Calm {S = S} (args_by_row a k)
  unfolding args_by_row
  args_by_calm a Str = bind_calm S (bytes_row a) (λ t. Ret (bytes_eq (codes "args") t)) (bytes_calm S a)
      (λ t. ret_calm S _)
  args_by_calm a Tuple = ret_calm S false
  args_by_calm a ListKind = ret_calm S false
  args_by_calm a Dict = ret_calm S false
  args_by_calm a Cell = ret_calm S false
  args_by_calm a Function = ret_calm S false
  args_by_calm a Class = ret_calm S false
  args_by_calm a Instance = ret_calm S false
  args_by_calm a Method = ret_calm S false
  args_by_calm a Iter = ret_calm S false
  args_by_calm a Range = ret_calm S false
  args_by_calm a Lock = ret_calm S false
  args_by_calm a Thread = ret_calm S false

  is_args_calm : (x : Value) → Calm {S = S} (is_args_row x)
  unfolding is_args_row args_at_row
  is_args_calm (Ref a) = bind_calm S (kind_row a.0) (λ k. args_by_row a.0 k) (kind_calm S a.0) (λ k. args_by_calm a.0 k)
  is_args_calm Unset = ret_calm S false
  is_args_calm NoneValue = ret_calm S false
  is_args_calm (BoolValue b) = ret_calm S false
  is_args_calm (Int n) = ret_calm S false
  is_args_calm (Builtin b) = ret_calm S false

  value_if_calm : (d i : ℕ) (b : Bool) → Calm {S = S} (value_if_row d i b)
  unfolding value_if_row
  value_if_calm d i true = bind_calm S (look_row d (2 * i + 1)) (λ x. Ret (Some x)) (look_calm S d (2 * i + 1))
      (λ x. ret_calm S _)
  value_if_calm d i false = ret_calm S None

  pair_calm : (d i : ℕ) → Calm {S = S} (args_pair_row d i)
  unfolding args_pair_row value_by_row
  pair_calm d i = bind_calm S (look_row d (2 * i)) (λ k. value_by_row d i k) (look_calm S d (2 * i))
      (λ k. bind_calm S (is_args_row k) (λ b. value_if_row d i b) (is_args_calm k) (λ b. value_if_calm d i b))

  args_in_calm : (x : Value) → Calm {S = S} (args_in_row x)
  unfolding args_in_row dict_args_row
  args_in_calm (Ref d) = bind_calm S (size_row d.0) _ (size_calm S d.0)
      (λ n. until_calm S (args_pair_row d.0) is_missing None (pair_calm d.0) 0 (n / 2))
  args_in_calm Unset = ret_calm S None
  args_in_calm NoneValue = ret_calm S None
  args_in_calm (BoolValue b) = ret_calm S None
  args_in_calm (Int n) = ret_calm S None
  args_in_calm (Builtin b) = ret_calm S None

  args_calm : (a : ℕ) → Calm {S = S} (args_row a)
  unfolding args_row
  args_calm a = bind_calm S (look_row a 1) (λ d. args_in_row d) (look_calm S a 1) (λ d. args_in_calm d)

  -- ---- what of an exception is told
  with_calm : (roots a : ℕ) (x : Value) → Calm {S = S} (part_with_row roots a x)
  unfolding part_with_row
  with_calm roots a x = bind_calm S (is_of_row roots (class_number (codes "KeyError")) a)
      (λ key. Ret (Some (part key x))) (of_calm roots (class_number (codes "KeyError")) a) (λ key. ret_calm S _)

  one_calm : (roots a t : ℕ) → Calm {S = S} (part_one_row roots a t)
  unfolding part_one_row
  one_calm roots a t = bind_calm S (look_row t 0) (λ x. part_with_row roots a x) (look_calm S t 0)
      (λ x. with_calm roots a x)

  sized_calm : (roots a t n : ℕ) → Calm {S = S} (part_sized_row roots a t n)
  unfolding part_sized_row
  sized_calm roots a t n = cond_calm S (n == 0) (Ret None) _ (ret_calm S None)
      (cond_calm S (n == 1) (part_one_row roots a t) (Ret (Some (part true (ref t)))) (one_calm roots a t)
      (ret_calm S _))

  tuple_calm : (roots a t : ℕ) → Calm {S = S} (part_tuple_row roots a t)
  unfolding part_tuple_row
  tuple_calm roots a t = bind_calm S (size_row t) (λ n. part_sized_row roots a t n) (size_calm S t)
      (λ n. sized_calm roots a t n)

  part_by_calm : (roots a t : ℕ) (k : Kind) → Calm {S = S} (part_by_row roots a t k)
  unfolding part_by_row
  part_by_calm roots a t Tuple = tuple_calm roots a t
  part_by_calm roots a t Str = ret_calm S None
  part_by_calm roots a t ListKind = ret_calm S None
  part_by_calm roots a t Dict = ret_calm S None
  part_by_calm roots a t Cell = ret_calm S None
  part_by_calm roots a t Function = ret_calm S None
  part_by_calm roots a t Class = ret_calm S None
  part_by_calm roots a t Instance = ret_calm S None
  part_by_calm roots a t Method = ret_calm S None
  part_by_calm roots a t Iter = ret_calm S None
  part_by_calm roots a t Range = ret_calm S None
  part_by_calm roots a t Lock = ret_calm S None
  part_by_calm roots a t Thread = ret_calm S None

  part_value_calm : (roots a : ℕ) (x : Value) → Calm {S = S} (part_value_row roots a x)
  unfolding part_value_row part_at_row
  part_value_calm roots a (Ref t) = bind_calm S (kind_row t.0) (λ k. part_by_row roots a t.0 k) (kind_calm S t.0)
      (λ k. part_by_calm roots a t.0 k)
  part_value_calm roots a Unset = ret_calm S None
  part_value_calm roots a NoneValue = ret_calm S None
  part_value_calm roots a (BoolValue b) = ret_calm S None
  part_value_calm roots a (Int n) = ret_calm S None
  part_value_calm roots a (Builtin b) = ret_calm S None

  part_of_calm : (roots a : ℕ) (o : Option Value) → Calm {S = S} (part_of_row roots a o)
  unfolding part_of_row
  part_of_calm roots a None = ret_calm S None
  part_of_calm roots a (Some x) = part_value_calm roots a x

  told_part_calm : (roots a : ℕ) → Calm {S = S} (told_part_row roots a)
  unfolding told_part_row
  told_part_calm roots a = bind_calm S (args_row a) (λ o. part_of_row roots a o) (args_calm a)
      (λ o. part_of_calm roots a o)

  -- ---- texts
  abbrev TellsCalm : TellsBy S → Type 0
  TellsCalm u = (q : Bool) (x : Value) → Calm (u q x)

  part_text_calm : (u : TellsBy S) → TellsCalm u → (o : Option Part) → Calm (part_text_row u o)
  unfolding part_text_row
  part_text_calm u i None = ret_calm S (Is [])
  part_text_calm u i (Some p) = i p.quoted p.value

  exception_calm : (roots : ℕ) (u : TellsBy S) → TellsCalm u → (a : ℕ) → Calm (exception_text_row roots u a)
  unfolding exception_text_row
  exception_calm roots u i a = bind_calm S (told_part_row roots a) (λ o. part_text_row u o) (told_part_calm roots a)
      (λ o. part_text_calm u i o)

  leveled_calm : (roots : ℕ) (o : Option (TellsBy S)) → IfSome o TellsCalm → (a : ℕ) →
      Calm (level_row o (λ u. exception_text_row roots u a))
  unfolding level_row
  leveled_calm roots None i a = ret_calm S (Raise depth_fault)
  leveled_calm roots (Some u) i a = exception_calm roots u i a

  module _ (roots : ℕ) (o : Option (TellsBy S)) (i : IfSome o TellsCalm) (d : ℕ) where
    if_calm : (a : ℕ) (b : Bool) → Calm (if_exception_row roots o d a b)
    unfolding if_exception_row
    if_calm a true = leveled_calm roots o i a
    if_calm a false = text_calm S d (ref a) false

    alone_by_calm : (a : ℕ) (k : Kind) → Calm (alone_by_row roots o d a k)
    unfolding alone_by_row instance_text_row
    alone_by_calm a Instance = bind_calm S (is_of_row roots (class_number (codes "BaseException")) a)
        (λ b. if_exception_row roots o d a b) (of_calm roots (class_number (codes "BaseException")) a)
        (λ b. if_calm a b)
    alone_by_calm a Str = text_calm S d (ref a) false
    alone_by_calm a Tuple = text_calm S d (ref a) false
    alone_by_calm a ListKind = text_calm S d (ref a) false
    alone_by_calm a Dict = text_calm S d (ref a) false
    alone_by_calm a Cell = text_calm S d (ref a) false
    alone_by_calm a Function = text_calm S d (ref a) false
    alone_by_calm a Class = text_calm S d (ref a) false
    alone_by_calm a Method = text_calm S d (ref a) false
    alone_by_calm a Iter = text_calm S d (ref a) false
    alone_by_calm a Range = text_calm S d (ref a) false
    alone_by_calm a Lock = text_calm S d (ref a) false
    alone_by_calm a Thread = text_calm S d (ref a) false

    alone_calm : (x : Value) → Calm (alone_row roots o d x)
    unfolding alone_row alone_at_row
    alone_calm (Ref a) = bind_calm S (kind_row a.0) (λ k. alone_by_row roots o d a.0 k) (kind_calm S a.0)
        (λ k. alone_by_calm a.0 k)
    alone_calm Unset = text_calm S d Unset false
    alone_calm NoneValue = text_calm S d NoneValue false
    alone_calm (BoolValue b) = text_calm S d (BoolValue b) false
    alone_calm (Int n) = text_calm S d (Int n) false
    alone_calm (Builtin b) = text_calm S d (Builtin b) false

    under_told_calm : TellsCalm (told_under_row roots o d)
    unfolding told_under_row
    under_told_calm true x = text_calm S d x true
    under_told_calm false x = alone_calm x

  left_calm : (roots d : ℕ) → IfSome (left {S = S} roots d) TellsCalm
  unfolding left
  left_calm roots zero = tt
  left_calm roots (suc d) = under_told_calm roots (left roots d) (left_calm roots d) d

  pub told_calm : (roots : ℕ) (x : Value) (quoted : Bool) → Calm {S = S} (told_row roots x quoted)
  unfolding told_row
  told_calm roots x quoted = under_told_calm roots (left roots DEPTH_LIMIT) (left_calm roots DEPTH_LIMIT) DEPTH_LIMIT
      quoted x
