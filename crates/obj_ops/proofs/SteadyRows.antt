-- In the course of an operator no record is longer than before it or at its end.
use Rattle.std.proofs.Common.{ℕ, ◌+◌, ◌*◌, ◌==◌, Bool, true, false, leb, List, [], ◌∷◌, ◌++◌, length, slice_get, Option, Some, None, refl}
use Rattle.std.specs.Prelude.{is_some}
use Rattle.std.specs.List.{repeat}
use Rattle.py_base.specs.declared.kind.Kind.{Kind}
use Rattle.py_data.specs.declared.value.Addr.{Addr}
use Rattle.py_data.specs.declared.value.Value.{Value}
use Rattle.py_data.specs.declared.value.Value.TheVariants.{Unset, None as NoneValue, Bool as BoolValue, Int, Ref, Builtin}
use Rattle.py_data.specs.declared.record.Got.{Got}
use Rattle.py_data.specs.declared.record.Got.TheVariants.{Is, Raise}
use Rattle.py_data.specs.declared.record.TheConstants.{LENGTH_LIMIT}
use Rattle.py_data.specs.Fault.{memory_fault, hash_fault, argument_fault}
use Rattle.py_data.specs.Heap.{new_rec}
use Rattle.py_data.specs.Shape.{is_key_kind}
use Rattle.py_data.specs.Comparing.{number_of}
use Rattle.py_data.specs.Texts.{got_then}
use Rattle.py_data.specs.Row.{Row, Ret, Do, Find, bind}
use Rattle.py_data.specs.Looking.{got_row, size_row, look_row, bytes_row}
use Rattle.py_data.specs.Steady.{Steady, Calm}
use Rattle.py_data.proofs.CalmRows.{ret_calm, read_calm, find_calm, push_calm, make_calm, cond_calm, bind_steady, bind_calm, got_calm, until_calm, each_calm, size_calm, look_calm, bytes_calm}
use Rattle.obj_seq.specs.Gather.{gather_row}
use Rattle.obj_seq.proofs.HoldingGather.{gather_steady}
use Rattle.obj_dict.specs.Dict.{key_row, if_key, value_of_pair, get_row}
use Rattle.obj_str.specs.Strings.{new_text}
use Rattle.obj_str.specs.Pieces.{find}
use Rattle.obj_str.proofs.StrHolds.{new_text_calm}
use Rattle.obj_nest.proofs.CalmRows.{equal_calm, order_calm}
use Rattle.obj_class.proofs.TellingCalm.{told_calm}
use Rattle.obj_nest.specs.Equal.{equal_row}
use Rattle.obj_nest.specs.Ordering.{order_row}
use Rattle.obj_class.specs.Telling.{told_row}
use Rattle.obj_ops.specs.declared.operator.Operator.{Operator}
use Rattle.obj_ops.specs.declared.operator.Comparison.{Comparison}
use Rattle.obj_ops.specs.declared.operator.Comparison.TheVariants.{Equal, NotEqual, In, NotIn, Is as Identical, IsNot}
use Rattle.obj_ops.specs.declared.operand.Operand.{Operand}
use Rattle.obj_ops.specs.declared.operand.Operand.TheVariants.{Text}
use Rattle.obj_ops.specs.declared.operand.Case.{Case}
use Rattle.obj_ops.specs.declared.operand.Case.TheVariants.{Join, JoinTexts, Repeat, RepeatText, Format}
use Rattle.obj_ops.specs.declared.format.Piece.{Piece}
use Rattle.obj_ops.specs.declared.format.Piece.TheVariants.{Byte, Number, Text as TextPiece, Unknown}
use Rattle.obj_ops.specs.declared.contain.Container.{Container}
use Rattle.obj_ops.specs.declared.contain.Container.TheVariants.{Items, Pairs, Bytes, Numbers as NumbersOf, Nothing}
use Rattle.obj_ops.specs.Numbers.{operator_of}
use Rattle.obj_ops.specs.Operands.{operand_of, operand_row, case_of}
use Rattle.obj_ops.specs.Sequences.{values_row, made_row, new_items, joined_with, joined_items, joined_text_with, joined_texts, times, repeated_items, new_repeated, repeated_text}
use Rattle.obj_ops.specs.Format.{pieces, asked, grown, text_grown, piece_row, piece_at, pieces_row, finished, formatted_row, arguments_row, template_row, format_row}
use Rattle.obj_ops.specs.Binary.{unary_row, case_row, operand_with, operated_row, binary_row}
use Rattle.obj_ops.specs.InPlace.{push_row, pushed_row, appended_row, extended_row, kept_list, kept_row, changed_row, in_place_row}
use Rattle.obj_ops.specs.Contains.{container_of, container_row, item_row, goes_on, items_row, part_row, text_in_row, is_among, is_key_there, contained_row, contains_row}
use Rattle.obj_ops.specs.Compare.{suited, ordered_row, test_row, is_negated, told, compared_row, compare_row, comparison_of}
use Rattle.obj_ops.specs.HoldsLaws.{OpsSteady}

module _ (S : Type 0) where
  -- ---- looks
  operand_calm : (x : Value) → Calm {S = S} (operand_row x)
  unfolding operand_row
  operand_calm (Ref a) = read_calm S a.0 (λ r. Ret (operand_of r.kind a)) (λ r. ret_calm S _)
  operand_calm Unset = ret_calm S _
  operand_calm NoneValue = ret_calm S _
  operand_calm (BoolValue b) = ret_calm S _
  operand_calm (Int i) = ret_calm S _
  operand_calm (Builtin b) = ret_calm S _

  container_calm : (x : Value) → Calm {S = S} (container_row x)
  unfolding container_row
  container_calm (Ref a) = read_calm S a.0 (λ r. Ret (container_of r.kind a)) (λ r. ret_calm S _)
  container_calm Unset = ret_calm S _
  container_calm NoneValue = ret_calm S _
  container_calm (BoolValue b) = ret_calm S _
  container_calm (Int i) = ret_calm S _
  container_calm (Builtin b) = ret_calm S _

  pub values_calm : (a : ℕ) → Calm {S = S} (values_row a)
  unfolding values_row
  values_calm a = read_calm S a (λ r. Ret r.values) (λ r. ret_calm S _)

  -- ---- keys
  key_calm : (x : Value) → Calm {S = S} (key_row x)
  unfolding key_row
  key_calm (Ref a) = read_calm S a.0 (λ r. Ret (is_key_kind r.kind)) (λ r. ret_calm S _)
  key_calm Unset = ret_calm S _
  key_calm NoneValue = ret_calm S _
  key_calm (BoolValue b) = ret_calm S _
  key_calm (Int i) = ret_calm S _
  key_calm (Builtin b) = ret_calm S _

  pair_calm : (d : ℕ) (o : Option ℕ) → Calm {S = S} (value_of_pair d o)
  unfolding value_of_pair
  pair_calm d None = ret_calm S _
  pair_calm d (Some i) = read_calm S d _ (λ r. ret_calm S _)

  if_calm : {A : Type 0} (row : Row S (Got A)) (b : Bool) → Calm {S = S} row → Calm {S = S} (if_key row b)
  unfolding if_key
  if_calm row true n = n
  if_calm row false n = ret_calm S (Raise hash_fault)

  get_calm : (d : ℕ) (x : Value) → Calm {S = S} (get_row d x)
  unfolding get_row
  get_calm d x = bind_calm S (key_row x) (if_key (Do (Find d x) (value_of_pair d))) (key_calm x)
      (λ b. if_calm (Do (Find d x) (value_of_pair d)) b (find_calm S d x (value_of_pair d) (pair_calm d)))

  -- ---- sequences
  items_calm : (k : Kind) (n : ℕ) (vs : List Value) → Calm {S = S} (new_items k n vs)
  unfolding new_items made_row
  items_calm k n vs = cond_calm S (leb n LENGTH_LIMIT) (made_row k vs) (Ret (Raise memory_fault))
      (make_calm S (new_rec k vs []) (λ a. Ret (Is (Ref (record { 0 = a })))) (λ a. ret_calm S _)) (ret_calm S _)

  join_calm : (k : Kind) (a b : ℕ) → Calm {S = S} (joined_items k a b)
  unfolding joined_items joined_with
  join_calm k a b = bind_calm S (values_row a) (λ xs. joined_with k xs b) (values_calm a)
      (λ xs. bind_calm S (values_row b) (λ ys. new_items k (length xs + length ys) (xs ++ ys)) (values_calm b)
      (λ ys. items_calm k (length xs + length ys) (xs ++ ys)))

  repeat_calm : (k : Kind) (a n : ℕ) → Calm {S = S} (repeated_items k a n)
  unfolding repeated_items
  repeat_calm k a n = bind_calm S (values_row a) (λ xs. new_items k (n * length xs) (repeat n xs)) (values_calm a)
      (λ xs. items_calm k (n * length xs) (repeat n xs))

  push_all_calm : (a : ℕ) (vs : List Value) → Calm {S = S} (push_row a vs)
  unfolding push_row
  push_all_calm a [] = ret_calm S _
  push_all_calm a (x ∷ xs) = push_calm S a x (λ _. push_row a xs) (push_all_calm a xs)

  appended_calm : (a : ℕ) (vs : List Value) → Calm {S = S} (appended_row a vs)
  unfolding appended_row pushed_row
  appended_calm a vs =
      bind_calm S (size_row a) (pushed_row a vs) (size_calm S a)
      (λ n. cond_calm S (leb (n + length vs) LENGTH_LIMIT)
      (bind (push_row a vs) (λ _. Ret (Is (Ref (record { 0 = a }))))) (Ret (Raise memory_fault))
      (bind_calm S (push_row a vs) (λ _. Ret (Is (Ref (record { 0 = a })))) (push_all_calm a vs)
      (λ u. ret_calm S _)) (ret_calm S _))

  pub extended_steady : (a : ℕ) (y : Value) → Steady {S = S} false (extended_row a y)
  unfolding extended_row
  extended_steady a y = bind_steady S false (gather_row y) (got_row (appended_row a)) (gather_steady S y)
      (got_calm S (appended_row a) (appended_calm a))

  join_texts_calm : (a b : ℕ) → Calm {S = S} (joined_texts a b)
  unfolding joined_texts joined_text_with
  join_texts_calm a b = bind_calm S (bytes_row a) (λ xs. joined_text_with xs b) (bytes_calm S a)
      (λ xs. bind_calm S (bytes_row b) (λ ys. new_text (xs ++ ys)) (bytes_calm S b) (λ ys. new_text_calm S (xs ++ ys)))

  repeat_text_calm : (a n : ℕ) → Calm {S = S} (repeated_text a n)
  unfolding repeated_text new_repeated
  repeat_text_calm a n = bind_calm S (bytes_row a) (new_repeated n) (bytes_calm S a)
      (λ bs. cond_calm S (leb (n * length bs) LENGTH_LIMIT) (new_text (repeat n bs)) (Ret (Raise memory_fault))
      (new_text_calm S (repeat n bs)) (ret_calm S _))

  grown_calm : (roots : ℕ) (text : List ℕ) (o : Option Value) → Calm {S = S} (text_grown roots text o)
  unfolding text_grown
  grown_calm roots text None = ret_calm S _
  grown_calm roots text (Some x) = bind_calm S (told_row roots x false) (λ more. Ret (got_then more (grown text)))
      (told_calm S roots x false) (λ more. ret_calm S _)

  piece_calm : (roots : ℕ) (args : List Value) (p : Piece) (text : List ℕ) → Calm {S = S} (piece_row roots args p text)
  unfolding piece_row
  piece_calm roots args (Byte x) text = ret_calm S _
  piece_calm roots args (Number n) text = ret_calm S _
  piece_calm roots args (TextPiece n) text = grown_calm roots text (slice_get args n)
  piece_calm roots args Unknown text = ret_calm S _

  formatted_calm : (roots : ℕ) (ps : List Piece) (args : List Value) → Calm {S = S} (formatted_row roots ps args)
  unfolding formatted_row pieces_row finished
  formatted_calm roots ps args =
      bind_calm S (pieces_row roots ps args) (got_row (finished ps args))
      (each_calm S (λ i. piece_row roots args (piece_at ps i)) (λ i. piece_calm roots args (piece_at ps i)) 0
      (length ps) [])
      (got_calm S (finished ps args) (λ text.
      cond_calm S (asked ps == length args) (new_text text) (Ret (Raise argument_fault)) (new_text_calm S text)
      (ret_calm S _)))

  arguments_calm : (b : Option Addr) (y : Value) → Calm {S = S} (arguments_row b y)
  unfolding arguments_row
  arguments_calm (Some b) y = values_calm b.0
  arguments_calm None y = ret_calm S _

  format_calm : (roots a : ℕ) (b : Option Addr) (y : Value) → Calm {S = S} (format_row roots a b y)
  unfolding format_row template_row
  format_calm roots a b y = bind_calm S (bytes_row a) (λ t. template_row roots t b y) (bytes_calm S a)
      (λ t. bind_calm S (arguments_row b y) (formatted_row roots (pieces false 0 t)) (arguments_calm b y)
      (formatted_calm roots (pieces false 0 t)))

  case_calm : (roots : ℕ) (op : Operator) (y : Value) (c : Case) → Calm {S = S} (case_row roots op y c)
  unfolding case_row
  case_calm roots op y (Join k a b) = join_calm k a.0 b.0
  case_calm roots op y (JoinTexts a b) = join_texts_calm a.0 b.0
  case_calm roots op y (Repeat k a n) = repeat_calm k a.0 (times n)
  case_calm roots op y (RepeatText a n) = repeat_text_calm a.0 (times n)
  case_calm roots op y (Format a b) = format_calm roots a.0 b y
  case_calm roots op y c = ret_calm S _

  with_calm : (roots : ℕ) (op : Operator) (p : Operand) (y : Value) → Calm {S = S} (operand_with roots op p y)
  unfolding operand_with
  with_calm roots op p y = bind_calm S (operand_row y) (λ q. case_row roots op y (case_of op p q)) (operand_calm y)
      (λ q. case_calm roots op y (case_of op p q))

  binary_calm : (roots op : ℕ) (x y : Value) → Calm {S = S} (binary_row roots op x y)
  unfolding binary_row operated_row
  binary_calm roots op x y = bind_calm S (operand_row x) (λ p. operand_with roots (operator_of op) p y)
      (operand_calm x) (λ p. with_calm roots (operator_of op) p y)

  kept_steady : (roots : ℕ) (op : Operator) (p : Operand) (y : Value) (o : Option Addr) →
      Steady {S = S} false (kept_row roots op p y o)
  unfolding kept_row
  kept_steady roots op p y (Some a) = extended_steady a.0 y
  kept_steady roots op p y None = with_calm roots op p y false

  -- what is left behind a row of at most one look
  after_operand : (x : Value) (f : Operand → Row S (Got Value)) → ((p : Operand) → Steady {S = S} false (f p)) →
      Steady {S = S} false (bind (operand_row x) f)
  unfolding operand_row bind Steady
  after_operand (Ref a) f n = ((refl, tt), λ r. n (operand_of r.kind a))
  after_operand Unset f n = n _
  after_operand NoneValue f n = n _
  after_operand (BoolValue b) f n = n _
  after_operand (Int i) f n = n _
  after_operand (Builtin b) f n = n _

  in_place_steady : (roots op : ℕ) (x y : Value) → Steady {S = S} false (in_place_row roots op x y)
  unfolding in_place_row changed_row
  in_place_steady roots op x y = after_operand x
      (λ p. kept_row roots (operator_of op) p y (kept_list (operator_of op) p))
      (λ p. kept_steady roots (operator_of op) p y (kept_list (operator_of op) p))

  -- ---- comparisons
  item_calm : (x : Value) (a i : ℕ) → Calm {S = S} (item_row x a i)
  unfolding item_row
  item_calm x a i = bind_calm S (look_row a i) (equal_row x) (look_calm S a i) (equal_calm S x)

  in_text_calm : (a : ℕ) (p : Operand) → Calm {S = S} (text_in_row a p)
  unfolding text_in_row part_row
  in_text_calm a (Text b) = bind_calm S (bytes_row b.0) (part_row a) (bytes_calm S b.0)
      (λ part. bind_calm S (bytes_row a) (λ bs. Ret (Is (is_some (find bs part)))) (bytes_calm S a)
      (λ bs. ret_calm S _))
  in_text_calm a p = ret_calm S _

  contained_calm : (x : Value) (c : Container) → Calm {S = S} (contained_row x c)
  unfolding contained_row items_row
  contained_calm x (Items a) = bind_calm S (size_row a.0) (items_row x a.0) (size_calm S a.0)
      (λ n. until_calm S (item_row x a.0) goes_on (Is false) (item_calm x a.0) 0 n)
  contained_calm x (Pairs a) = bind_calm S (get_row a.0 x) (λ g. Ret (is_key_there g)) (get_calm a.0 x)
      (λ g. ret_calm S _)
  contained_calm x (Bytes a) = bind_calm S (operand_row x) (text_in_row a.0) (operand_calm x) (in_text_calm a.0)
  contained_calm x (NumbersOf a) = bind_calm S (values_row a.0) (λ vs. Ret (Is (is_among vs (number_of x))))
      (values_calm a.0) (λ vs. ret_calm S _)
  contained_calm x Nothing = ret_calm S _

  contains_calm : (x y : Value) → Calm {S = S} (contains_row x y)
  unfolding contains_row
  contains_calm x y = bind_calm S (container_row y) (contained_row x) (container_calm y) (contained_calm x)

  test_calm : (c : Comparison) (x y : Value) → Calm {S = S} (test_row c x y)
  unfolding test_row ordered_row
  test_calm Equal x y = equal_calm S x y
  test_calm NotEqual x y = equal_calm S x y
  test_calm In x y = contains_calm x y
  test_calm NotIn x y = contains_calm x y
  test_calm Identical x y = ret_calm S _
  test_calm IsNot x y = ret_calm S _
  test_calm c x y = bind_calm S (order_row x y) (λ g. Ret (suited c g)) (order_calm S x y) (λ g. ret_calm S _)

  compare_calm : (op : ℕ) (x y : Value) → Calm {S = S} (compare_row op x y)
  unfolding compare_row compared_row
  compare_calm op x y = bind_calm S (test_row (comparison_of op) x y)
      (λ g. Ret (told (is_negated (comparison_of op)) g)) (test_calm (comparison_of op) x y) (λ g. ret_calm S _)

  unary_calm : (op : ℕ) (x : Value) → Calm {S = S} (unary_row op x)
  unfolding unary_row
  unary_calm op x = ret_calm S _

  pub ops_steady : OpsSteady S
  ops_steady = record {
    unary = λ op x. unary_calm op x false;
    binary = λ roots op x y. binary_calm roots op x y false;
    in_place = in_place_steady;
    compare = λ op x y. compare_calm op x y false;
  }
