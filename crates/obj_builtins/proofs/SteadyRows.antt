-- In the course of a builtin function no record is longer than before it or at its end.
use Rattle.std.proofs.Common.{ℕ, zero, suc, Bool, true, false, not, leb, List, [], ◌∷◌, length, Option, Some, None, Result, Ok, Err, codes, pos, ◌/◌, eqb, refl}
use Rattle.std.specs.Ordering.{int_eq}
use Rattle.py_base.specs.Numbers.{class_number}
use Rattle.py_base.specs.declared.kind.Kind.{Kind}
use Rattle.py_base.specs.declared.kind.Kind.TheVariants.{Str, Tuple, List as ListKind, Dict, Range}
use Rattle.py_data.specs.declared.value.Addr.{Addr}
use Rattle.py_data.specs.declared.value.Value.{Value}
use Rattle.py_data.specs.declared.value.Value.TheVariants.{Unset, None as NoneValue, Bool as BoolValue, Int, Ref, Builtin}
use Rattle.py_data.specs.declared.record.Got.{Got}
use Rattle.py_data.specs.declared.record.Got.TheVariants.{Is, Raise}
use Rattle.py_data.specs.declared.record.TheConstants.{LENGTH_LIMIT}
use Rattle.py_data.specs.Fault.{memory_fault}
use Rattle.py_data.specs.Heap.{new_rec, value_at}
use Rattle.py_data.specs.Looking.{got_row, walk_row, walk_on, kind_row, size_row, look_row, bytes_row}
use Rattle.py_data.specs.Row.{Row, Ret, bind}
use Rattle.py_data.specs.Steady.{Steady, Calm}
use Rattle.py_data.proofs.CalmRows.{ret_calm, read_calm, make_calm, cond_calm, bind_steady, bind_calm, got_calm, until_calm, each_calm, kind_calm, size_calm, look_calm, bytes_calm}
use Rattle.obj_seq.specs.Gather.{gather_row, numbers}
use Rattle.obj_seq.proofs.HoldingGather.{gather_steady}
use Rattle.obj_str.specs.Methods.{only, both}
use Rattle.obj_str.specs.Strings.{new_text}
use Rattle.obj_str.proofs.StrHolds.{new_text_calm}
use Rattle.obj_nest.specs.Ordering.{order_row}
use Rattle.obj_nest.specs.Truth.{truth_row}
use Rattle.obj_nest.proofs.CalmRows.{order_calm, truth_calm}
use Rattle.obj_ops.specs.Format.{number_in}
use Rattle.obj_ops.specs.Numbers.{overflow_fault}
use Rattle.obj_ops.specs.Sequences.{made_row, new_items}
use Rattle.obj_class.specs.Bases.{MOST_BASES, ref, base_step, sub_step}
use Rattle.obj_class.specs.Roots.{class_place}
use Rattle.obj_class.specs.Telling.{told_row}
use Rattle.obj_methods.specs.Sorting.{sorted_row}
use Rattle.obj_builtins.specs.declared.arguments.Few.{Few}
use Rattle.obj_builtins.specs.declared.arguments.Few.TheVariants.{Nothing, One, Many}
use Rattle.obj_builtins.specs.declared.arguments.Form.{Form}
use Rattle.obj_builtins.specs.declared.arguments.Form.TheVariants.{Number, Truth, Text, Items, Object}
use Rattle.obj_builtins.specs.declared.best.Side.{Side}
use Rattle.obj_builtins.specs.declared.best.Side.TheVariants.{Least, Greatest}
use Rattle.obj_builtins.specs.declared.kinds.Class.{Class}
use Rattle.obj_builtins.specs.declared.kinds.Class.TheVariants.{Own, Numbers, Truths, Texts, Lists, Tuples, Dicts}
use Rattle.obj_builtins.specs.declared.ranges.Bounds.{Bounds}
use Rattle.obj_builtins.specs.Arguments.{few, form_of, form_at, form_row}
use Rattle.obj_builtins.specs.Lengths.{is_counted, range_count, counted, step_count, stop_count, numbers_length, byte_count, bytes_length, items_length, pairs_length, length_by, length_at, length_row, len_row}
use Rattle.obj_builtins.specs.Ranges.{step_fault, bounds_of, count_in, numbers_made, numbers_within, range_row, range_values, range_made, range_within, xrange_row}
use Rattle.obj_builtins.specs.Literals.{text_number}
use Rattle.obj_builtins.specs.Numbers.{read_row, int_of, int_alone, int_row, bool_alone, bool_row, abs_row, byte_of, letter_row, letter_of, chr_row}
use Rattle.obj_builtins.specs.Texts.{written_row, str_of, str_alone, str_row, repr_row, byte_value, byte_row, ord_of, ord_alone, ord_row}
use Rattle.obj_builtins.specs.Gathering.{items_made, gathered_row, list_row, tuple_of, tuple_alone, tuple_row, dict_row, sorted_items, sorted_alone, sorted_by}
use Rattle.obj_builtins.specs.Kinds.{class_of, with_class, item_form, class_turn, classes_in, classes_at, classes_row, is_ref, below_row, object_below, form_below, own_test, own_row, class_row, class_at, any_row, form_told, value_told, told_of, told_by, isinstance_row}
use Rattle.obj_builtins.specs.Best.{better, better_row, best_from, best_of, best_in, best_by, best_row}
use Rattle.obj_builtins.specs.Sums.{sum_value, sum_items, sum_alone, sum_row}
use Rattle.obj_builtins.specs.Functions.{function_row}
use Rattle.obj_builtins.specs.HoldsLaws.{FunctionsSteady}
use Rattle.obj_methods.proofs.SteadyMethods.{sorted_calm}
use Rattle.obj_builtins.proofs.Told.{told_calm}
use Rattle.obj_builtins.proofs.EachFunction.{Each, each_function}

module _ (S : Type 0) where
  -- ---- forms
  form_calm : (x : Value) → Calm {S = S} (form_row x)
  unfolding form_row form_at
  form_calm (Ref a) = bind_calm S (kind_row a.0) (λ k. Ret (form_of k a)) (kind_calm S a.0) (λ k. ret_calm S _)
  form_calm Unset = ret_calm S _
  form_calm NoneValue = ret_calm S _
  form_calm (BoolValue b) = ret_calm S _
  form_calm (Int i) = ret_calm S _
  form_calm (Builtin b) = ret_calm S _

  formed : (x : Value) (f : Form → Row S (Got Value)) → ((k : Form) → Calm (f k)) → Calm (bind (form_row x) f)
  formed x f n = bind_calm S (form_row x) f (form_calm x) n

  -- all items of a value come first
  gathers : (x : Value) (f : List Value → Row S (Got Value)) → ((vs : List Value) → Calm (f vs)) →
      Steady false (bind (gather_row x) (got_row f))
  gathers x f n = bind_steady S false (gather_row x) (got_row f) (gather_steady S x) (got_calm S f n)

  -- ---- new records
  makes : (k : Kind) (vs : List Value) → Calm {S = S} (made_row k vs)
  unfolding made_row
  makes k vs = make_calm S (new_rec k vs []) (λ a. Ret (Is (Ref (record { 0 = a })))) (λ a. ret_calm S _)

  news : (k : Kind) (n : ℕ) (vs : List Value) → Calm {S = S} (new_items k n vs)
  unfolding new_items
  news k n vs = cond_calm S (leb n LENGTH_LIMIT) (made_row k vs) (Ret (Raise memory_fault)) (makes k vs) (ret_calm S _)

  -- ---- len
  counts : (a : ℕ) → Calm {S = S} (byte_count a)
  unfolding byte_count
  counts a = read_calm S a (λ r. Ret (length r.bytes)) (λ r. ret_calm S _)

  numbers_calm : (a : ℕ) → Calm {S = S} (numbers_length a)
  unfolding numbers_length stop_count step_count
  numbers_calm a =
      bind_calm S (look_row a 0) (λ start. stop_count a start) (look_calm S a 0)
      (λ start. bind_calm S (look_row a 1) (λ stop. step_count a start stop) (look_calm S a 1)
      (λ stop. bind_calm S (look_row a 2) (λ step. Ret (counted (range_count start stop step))) (look_calm S a 2)
      (λ step. ret_calm S _)))

  length_calm : (a : ℕ) (k : Kind) → Calm {S = S} (length_by a k)
  unfolding length_by bytes_length items_length pairs_length
  length_calm a Str = bind_calm S (byte_count a) (λ n. Ret (Is (Int (pos n)))) (counts a) (λ n. ret_calm S _)
  length_calm a Tuple = bind_calm S (size_row a) (λ n. Ret (Is (Int (pos n)))) (size_calm S a) (λ n. ret_calm S _)
  length_calm a ListKind = bind_calm S (size_row a) (λ n. Ret (Is (Int (pos n)))) (size_calm S a) (λ n. ret_calm S _)
  length_calm a Dict = bind_calm S (size_row a) (λ n. Ret (Is (Int (pos (n / 2))))) (size_calm S a) (λ n. ret_calm S _)
  length_calm a Range = numbers_calm a
  length_calm a _ = ret_calm S _

  length_row_calm : (x : Value) → Calm {S = S} (length_row x)
  unfolding length_row length_at
  length_row_calm (Ref a) = bind_calm S (kind_row a.0) (λ k. length_by a.0 k) (kind_calm S a.0) (length_calm a.0)
  length_row_calm Unset = ret_calm S _
  length_row_calm NoneValue = ret_calm S _
  length_row_calm (BoolValue b) = ret_calm S _
  length_row_calm (Int i) = ret_calm S _
  length_row_calm (Builtin b) = ret_calm S _

  len_calm : (o : Option Value) → Calm {S = S} (len_row o)
  unfolding len_row
  len_calm (Some x) = length_row_calm x
  len_calm None = ret_calm S _

  -- ---- ranges
  range_calm : (o : Option Bounds) → Calm {S = S} (range_row o)
  unfolding range_row numbers_within numbers_made
  range_calm (Some b) = cond_calm S (int_eq b.step (pos 0)) (Ret (Raise step_fault))
      (new_items ListKind (count_in b) (numbers b.start b.step (count_in b))) (ret_calm S _)
      (news ListKind (count_in b) (numbers b.start b.step (count_in b)))
  range_calm None = ret_calm S _

  xrange_calm : (o : Option Bounds) → Calm {S = S} (xrange_row o)
  unfolding xrange_row range_within range_made
  xrange_calm (Some b) =
      cond_calm S (int_eq b.step (pos 0)) (Ret (Raise step_fault)) (range_made b) (ret_calm S _)
      (cond_calm S (is_counted (count_in b)) (made_row Range (range_values b)) (Ret (Raise overflow_fault))
      (makes Range (range_values b)) (ret_calm S _))
  xrange_calm None = ret_calm S _

  -- ---- numbers
  int_of_calm : (f : Form) → Calm {S = S} (int_of f)
  unfolding int_of read_row
  int_of_calm (Number n) = ret_calm S _
  int_of_calm (Truth b) = ret_calm S _
  int_of_calm (Text a) = bind_calm S (bytes_row a.0) (λ bs. Ret (text_number bs)) (bytes_calm S a.0)
      (λ bs. ret_calm S _)
  int_of_calm f = ret_calm S _

  int_calm : (args : Few) → Calm {S = S} (int_row args)
  unfolding int_row int_alone
  int_calm Nothing = ret_calm S _
  int_calm (One x) = formed x (λ f. int_of f) int_of_calm
  int_calm Many = ret_calm S _

  bool_calm : (args : Few) → Calm {S = S} (bool_row args)
  unfolding bool_row bool_alone
  bool_calm Nothing = ret_calm S _
  bool_calm (One x) = bind_calm S (truth_row x) (λ b. Ret (Is (BoolValue b))) (truth_calm S x) (λ b. ret_calm S _)
  bool_calm Many = ret_calm S _

  letter_calm : (o : Option ℕ) → Calm {S = S} (letter_row o)
  unfolding letter_row
  letter_calm (Some b) = new_text_calm S (b ∷ [])
  letter_calm None = ret_calm S _

  letter_of_calm : (o : Option _) → Calm {S = S} (letter_of o)
  unfolding letter_of
  letter_of_calm (Some i) = letter_calm (byte_of i)
  letter_of_calm None = ret_calm S _

  chr_calm : (o : Option Value) → Calm {S = S} (chr_row o)
  unfolding chr_row
  chr_calm o = letter_of_calm (number_in o)

  abs_calm : (o : Option Value) → Calm {S = S} (abs_row o)
  unfolding abs_row
  abs_calm o = ret_calm S _

  -- ---- texts
  written_calm : (roots : ℕ) (x : Value) (quoted : Bool) → Calm {S = S} (written_row roots x quoted)
  unfolding written_row
  written_calm roots x quoted = bind_calm S (told_row roots x quoted) (got_row new_text) (told_calm S roots x quoted)
      (got_calm S new_text (λ bs. new_text_calm S bs))

  str_of_calm : (roots : ℕ) (x : Value) (f : Form) → Calm {S = S} (str_of roots x f)
  unfolding str_of
  str_of_calm roots x (Text a) = ret_calm S _
  str_of_calm roots x f = written_calm roots x false

  str_calm : (roots : ℕ) (args : Few) → Calm {S = S} (str_row roots args)
  unfolding str_row str_alone
  str_calm roots Nothing = new_text_calm S []
  str_calm roots (One x) = formed x (λ f. str_of roots x f) (str_of_calm roots x)
  str_calm roots Many = ret_calm S _

  repr_calm : (roots : ℕ) (o : Option Value) → Calm {S = S} (repr_row roots o)
  unfolding repr_row
  repr_calm roots (Some x) = written_calm roots x true
  repr_calm roots None = ret_calm S _

  ord_of_calm : (f : Form) → Calm {S = S} (ord_of f)
  unfolding ord_of byte_row
  ord_of_calm (Text a) = bind_calm S (bytes_row a.0) (λ bs. Ret (byte_value bs)) (bytes_calm S a.0) (λ bs. ret_calm S _)
  ord_of_calm f = ret_calm S _

  ord_calm : (o : Option Value) → Calm {S = S} (ord_row o)
  unfolding ord_row ord_alone
  ord_calm (Some x) = formed x (λ f. ord_of f) ord_of_calm
  ord_calm None = ret_calm S _

  -- ---- gathering
  items_calm : (k : Kind) (vs : List Value) → Calm {S = S} (items_made k vs)
  unfolding items_made
  items_calm k vs = news k (length vs) vs

  gathered_steady : (k : Kind) (x : Value) → Steady {S = S} false (gathered_row k x)
  unfolding gathered_row
  gathered_steady k x = gathers x (items_made k) (items_calm k)

  list_steady : (args : Few) → Steady {S = S} false (list_row args)
  unfolding list_row
  list_steady Nothing = makes ListKind [] false
  list_steady (One x) = gathered_steady ListKind x
  list_steady Many = ret_calm S _ false

  tuple_of_steady : (x : Value) (f : Form) → Steady {S = S} false (tuple_of x f)
  unfolding tuple_of
  tuple_of_steady x (Items a) = ret_calm S _ false
  tuple_of_steady x f = gathered_steady Tuple x

  -- what follows at most one look
  after_form : (x : Value) (f : Form → Row S (Got Value)) → ((k : Form) → Steady {S = S} false (f k)) →
      Steady {S = S} false (bind (form_row x) f)
  unfolding form_row form_at kind_row bind Steady
  after_form (Ref a) f n = ((refl, tt), λ r. n (form_of r.kind a))
  after_form Unset f n = n _
  after_form NoneValue f n = n _
  after_form (BoolValue b) f n = n _
  after_form (Int i) f n = n _
  after_form (Builtin b) f n = n _

  tuple_steady : (args : Few) → Steady {S = S} false (tuple_row args)
  unfolding tuple_row tuple_alone
  tuple_steady Nothing = makes Tuple [] false
  tuple_steady (One x) = after_form x (λ f. tuple_of x f) (tuple_of_steady x)
  tuple_steady Many = ret_calm S _ false

  dict_calm : (args : Few) → Calm {S = S} (dict_row args)
  unfolding dict_row
  dict_calm Nothing = makes Dict []
  dict_calm (One x) = ret_calm S _
  dict_calm Many = ret_calm S _

  sorted_items_calm : (vs : List Value) → Calm {S = S} (sorted_items vs)
  unfolding sorted_items
  sorted_items_calm vs = bind_calm S (sorted_row vs) (got_row (items_made ListKind)) (sorted_calm S vs)
      (got_calm S (items_made ListKind) (items_calm ListKind))

  sorted_steady : (o : Option Value) → Steady {S = S} false (sorted_by o)
  unfolding sorted_by sorted_alone
  sorted_steady (Some x) = gathers x sorted_items sorted_items_calm
  sorted_steady None = ret_calm S _ false

  -- ---- isinstance
  walk_calm : {A B : Type 0} (f : A → Row S (Result A B)) (end : B) → ((a : A) → Calm (f a)) → (m : ℕ) (a : A) →
      Calm (walk_row f end m a)
  unfolding walk_row
  walk_calm f end n zero a = ret_calm S end
  walk_calm {A} {B} f end n (suc m) a = bind_calm S (f a) (walk_on (walk_row f end m)) (n a) (on (walk_calm f end n m))
    where
      on : ((a : A) → Calm (walk_row f end m a)) → (r : Result A B) → Calm (walk_on (walk_row f end m) r)
      on more (Ok a) = more a
      on more (Err b) = ret_calm S b

  step_calm : (base : ℕ) (v : Value) → Calm {S = S} (sub_step base v)
  unfolding sub_step base_step
  step_calm base (Ref c) =
      cond_calm S (eqb c.0 base) (Ret (Err true)) (bind (look_row c.0 1) (λ b. Ret (Ok b))) (ret_calm S _)
      (bind_calm S (look_row c.0 1) (λ b. Ret (Ok b)) (look_calm S c.0 1) (λ b. ret_calm S _))
  step_calm base Unset = ret_calm S _
  step_calm base NoneValue = ret_calm S _
  step_calm base (BoolValue b) = ret_calm S _
  step_calm base (Int i) = ret_calm S _
  step_calm base (Builtin b) = ret_calm S _

  below_calm : (k : Value) (c : Addr) → Calm {S = S} (below_row k c)
  unfolding below_row
  below_calm (Ref k) c = walk_calm (sub_step c.0) false (step_calm c.0) MOST_BASES (ref k.0)
  below_calm Unset c = ret_calm S _
  below_calm NoneValue c = ret_calm S _
  below_calm (BoolValue b) c = ret_calm S _
  below_calm (Int i) c = ret_calm S _
  below_calm (Builtin b) c = ret_calm S _

  form_below_calm : (f : Form) (c : Addr) → Calm {S = S} (form_below f c)
  unfolding form_below object_below
  form_below_calm (Object a) c = bind_calm S (look_row a.0 0) (λ k. below_row k c) (look_calm S a.0 0)
      (λ k. below_calm k c)
  form_below_calm f c = ret_calm S _

  own_test_calm : (f : Form) (c : Addr) (b : Bool) → Calm {S = S} (own_test f c b)
  unfolding own_test
  own_test_calm f c true = ret_calm S _
  own_test_calm f c false = form_below_calm f c

  class_calm : (roots : ℕ) (f : Form) (c : Class) → Calm {S = S} (class_row roots f c)
  unfolding class_row own_row
  class_calm roots f (Own c) =
      bind_calm S (look_row roots (class_place (class_number (codes "object")))) (λ o. own_test f c (is_ref o c))
      (look_calm S roots (class_place (class_number (codes "object")))) (λ o. own_test_calm f c (is_ref o c))
  class_calm roots f Numbers = ret_calm S _
  class_calm roots f Truths = ret_calm S _
  class_calm roots f Texts = ret_calm S _
  class_calm roots f Lists = ret_calm S _
  class_calm roots f Tuples = ret_calm S _
  class_calm roots f Dicts = ret_calm S _

  turn_calm : (a i : ℕ) (cs : List Class) → Calm {S = S} (class_turn a i cs)
  unfolding class_turn item_form
  turn_calm a i cs =
      bind_calm S (bind (look_row a i) (λ x. form_row x)) (λ f. Ret (with_class cs (class_of f)))
      (bind_calm S (look_row a i) (λ x. form_row x) (look_calm S a i) form_calm) (λ f. ret_calm S _)

  classes_calm : (f : Form) → Calm {S = S} (classes_row f)
  unfolding classes_row classes_at classes_in
  classes_calm (Items a) = bind_calm S (size_row a.0) (λ n. classes_in a.0 n) (size_calm S a.0)
      (λ n. each_calm S (class_turn a.0) (turn_calm a.0) 0 n [])
  classes_calm f = ret_calm S _

  told_calmly : (roots : ℕ) (x : Value) (cs : List Class) → Calm {S = S} (value_told roots x cs)
  unfolding value_told form_told any_row
  told_calmly roots x cs =
      formed x (λ f. form_told roots cs f)
      (λ f. bind_calm S (any_row roots f cs) (λ b. Ret (Is (BoolValue b)))
      (until_calm S (λ i. class_row roots f (class_at cs i)) not false (λ i. class_calm roots f (class_at cs i)) 0
      (length cs)) (λ b. ret_calm S _))

  isinstance_calm : (roots : ℕ) (o : Option (Value × Value)) → Calm {S = S} (isinstance_row roots o)
  unfolding isinstance_row told_by told_of
  isinstance_calm roots (Some p) =
      formed p.1 (λ f. told_of roots p.0 f)
      (λ f. bind_calm S (classes_row f) (got_row (value_told roots p.0)) (classes_calm f)
      (got_calm S (value_told roots p.0) (told_calmly roots p.0)))
  isinstance_calm roots None = ret_calm S _

  -- ---- min, max, sum
  best_calm : (side : Side) (vs : List Value) → Calm {S = S} (best_of side vs)
  unfolding best_of best_from better_row
  best_calm side [] = ret_calm S _
  best_calm side (x ∷ xs) =
      each_calm S (λ i best. better_row side (value_at xs i) best)
      (λ i best. bind_calm S (order_row (value_at xs i) best) (λ g. Ret (better side best (value_at xs i) g))
      (order_calm S (value_at xs i) best) (λ g. ret_calm S _)) 0 (length xs) x

  best_by_steady : (side : Side) (args : List Value) (n : Few) → Steady {S = S} false (best_by side args n)
  unfolding best_by best_in
  best_by_steady side args Nothing = ret_calm S _ false
  best_by_steady side args (One x) = gathers x (best_of side) (best_calm side)
  best_by_steady side args Many = best_calm side args false

  best_steady : (side : Side) (args : List Value) → Steady {S = S} false (best_row side args)
  unfolding best_row
  best_steady side args = best_by_steady side args (few args)

  sum_steady : (o : Option Value) → Steady {S = S} false (sum_row o)
  unfolding sum_row sum_alone sum_items
  sum_steady (Some x) = gathers x (λ vs. Ret (sum_value vs)) (λ vs. ret_calm S _)
  sum_steady None = ret_calm S _ false

  -- ---- all
  module _ (roots b : ℕ) (args : List Value) where
    each_steady : Each (Steady {S = S} false) roots args
    each_steady = record {
      len = len_calm (only args) false;
      range = range_calm (bounds_of args) false;
      xrange = xrange_calm (bounds_of args) false;
      str = str_calm roots (few args) false;
      repr = repr_calm roots (only args) false;
      int = int_calm (few args) false;
      bool = bool_calm (few args) false;
      list = list_steady (few args);
      tuple = tuple_steady (few args);
      dict = dict_calm (few args) false;
      isinstance = isinstance_calm roots (both args) false;
      ord = ord_calm (only args) false;
      chr = chr_calm (only args) false;
      abs = abs_calm (only args) false;
      min = best_steady Least args;
      max = best_steady Greatest args;
      sum = sum_steady (only args);
      sorted = sorted_steady (only args);
      other = ret_calm S _ false;
    }

    all_steady : Steady false (function_row {S = S} roots b args)
    all_steady = each_function (Steady {S = S} false) roots args b each_steady

  pub functions_steady : FunctionsSteady S
  functions_steady = record { function = all_steady }
