-- The rows of nested values make nothing shorter.
use Rattle.std.proofs.Common.{ℕ, zero, suc, ◌+◌, ◌*◌, ◌/◌, ◌==◌, Bool, true, false, ◌&&◌, min, List, [], ◌++◌, Option, Some, None}
use Rattle.std.specs.Prelude.{IfSome, codes}
use Rattle.std.specs.declared.cmp.Ordering.{Ordering}
use Rattle.py_base.specs.declared.kind.Kind.{Kind}
use Rattle.py_base.specs.declared.kind.Kind.TheVariants.{Str, Tuple, List as ListKind, Dict, Cell, Function, Class, Instance, Method, Iter, Range, Lock, Thread}
use Rattle.py_data.specs.declared.value.Value.{Value}
use Rattle.py_data.specs.declared.value.Value.TheVariants.{Unset, None as NoneValue, Bool as BoolValue, Int, Ref, Builtin}
use Rattle.py_data.specs.declared.record.Got.{Got}
use Rattle.py_data.specs.declared.record.Got.TheVariants.{Is, Raise}
use Rattle.py_data.specs.Comparing.{DEPTH_LIMIT, is_same}
use Rattle.py_data.specs.Shape.{same_bytes}
use Rattle.py_data.specs.Row.{Row, Ret}
use Rattle.py_data.specs.Looking.{until_row, each_row, got_row, size_row, look_row, bytes_row, kind_row}
use Rattle.py_data.specs.Steady.{Calm}
use Rattle.py_data.proofs.CalmRows.{ret_calm, read_calm, find_calm, cond_calm, bind_calm, got_calm, until_calm, each_calm, size_calm, look_calm, bytes_calm, kind_calm}
use Rattle.obj_nest.specs.declared.pairing.Pairing.{Pairing}
use Rattle.obj_nest.specs.declared.pairing.Pairing.TheVariants.{Texts, Items, Pairs, Methods, Others}
use Rattle.obj_nest.specs.Levels.{below, level_row, pairing_of, kinds_with, kinds_row}
use Rattle.obj_nest.specs.Equal.{Compares, is_equal, texts_with, texts_row, item_with, item_row, sized_row, items_from, items_row, found_row, sought_row, pair_with, pair_row, paired_row, pairs_from, pairs_row, owner_with, owners_row, methods_with, methods_row, by_pairing, records_row, equal_under, equal_row}
use Rattle.obj_nest.specs.Ordering.{bytes_with, strings_row, Parts, deciding, unequal_row, decided_row, turn_with, turn_row, is_open, by_lengths, shared_row, listed_from, listed_row, ordered_by, ranked_row, order_under, parts_below, order_row}
use Rattle.obj_nest.specs.Truth.{bytes_filled, values_filled, step_with, stop_with, range_filled, filled_by, filled_row, truth_row}
use Rattle.obj_nest.specs.Text.{Writes, spaced, part_row, mapped_row, keyed_row, couple_row, closed_row, parts_row, list_row, tuple_close, tuple_row, dict_row, string_row, name_row, name_by, named_row, between_row, quoted_row, other_text, kind_text, record_row, write_under, repr_row, alone_by, alone_at, alone_row, text_row}
use Rattle.obj_nest.specs.Laws.{NestCalm}

module _ (S : Type 0) where
  -- ---- kinds and levels
  kinds_calm : (a b : ℕ) → Calm {S = S} (kinds_row a b)
  unfolding kinds_row kinds_with
  kinds_calm a b =
      bind_calm S (kind_row a) (λ k. kinds_with b k) (kind_calm S a)
      (λ k. bind_calm S (kind_row b) (λ l. Ret (pairing_of k l)) (kind_calm S b) (λ l. ret_calm S _))

  level_calm : {A U : Type 0} (P : U → Type 0) (o : Option U) (f : U → Row S (Got A)) → IfSome o P →
      ((u : U) → P u → Calm (f u)) → Calm (level_row o f)
  unfolding level_row
  level_calm P None f i n = ret_calm S _
  level_calm P (Some u) f i n = n u i

  -- ---- equality
  abbrev ComparesCalm : Compares S → Type 0
  ComparesCalm u = (x y : Value) → Calm (u x y)

  texts_calm : (a b : ℕ) → Calm {S = S} (texts_row a b)
  unfolding texts_row texts_with
  texts_calm a b =
      bind_calm S (bytes_row a) (λ x. texts_with x b) (bytes_calm S a)
      (λ x. bind_calm S (bytes_row b) (λ y. Ret (Is (same_bytes x y))) (bytes_calm S b) (λ y. ret_calm S _))

  item_calm : (u : Compares S) → ComparesCalm u → (a b i : ℕ) → Calm (item_row u a b i)
  unfolding item_row item_with
  item_calm u n a b i =
      bind_calm S (look_row a i) (λ x. item_with u b i x) (look_calm S a i)
      (λ x. bind_calm S (look_row b i) (λ y. u x y) (look_calm S b i) (λ y. n x y))

  items_calm : (u : Compares S) → ComparesCalm u → (a b : ℕ) → Calm (items_row u a b)
  unfolding items_row items_from sized_row
  items_calm u n a b =
      bind_calm S (size_row a) (λ k. items_from u a b k) (size_calm S a)
      (λ k. bind_calm S (size_row b) (λ m. sized_row (item_row u a b) k m) (size_calm S b)
      (λ m. cond_calm S (k == m) (until_row (item_row u a b) is_equal (Is true) 0 k) (Ret (Is false))
      (until_calm S (item_row u a b) is_equal (Is true) (item_calm u n a b) 0 k) (ret_calm S _)))

  found_calm : (u : Compares S) → ComparesCalm u → (b : ℕ) (x : Value) (o : Option ℕ) → Calm (found_row u b x o)
  unfolding found_row
  found_calm u n b x None = ret_calm S _
  found_calm u n b x (Some j) = bind_calm S (look_row b (2 * j + 1)) (λ y. u x y) (look_calm S b (2 * j + 1))
      (λ y. n x y)

  pair_calm : (u : Compares S) → ComparesCalm u → (a b i : ℕ) → Calm (pair_row u a b i)
  unfolding pair_row pair_with sought_row
  pair_calm u n a b i =
      bind_calm S (look_row a (2 * i)) (λ k. pair_with u a b i k) (look_calm S a (2 * i))
      (λ k. bind_calm S (look_row a (2 * i + 1)) (λ x. sought_row u b k x) (look_calm S a (2 * i + 1))
      (λ x. find_calm S b k (λ o. found_row u b x o) (λ o. found_calm u n b x o)))

  pairs_calm : (u : Compares S) → ComparesCalm u → (a b : ℕ) → Calm (pairs_row u a b)
  unfolding pairs_row pairs_from paired_row
  pairs_calm u n a b =
      bind_calm S (size_row a) (λ k. pairs_from u a b k) (size_calm S a)
      (λ k. bind_calm S (size_row b) (λ m. paired_row (pair_row u a b) k m) (size_calm S b)
      (λ m. cond_calm S (k == m) (until_row (pair_row u a b) is_equal (Is true) 0 (k / 2)) (Ret (Is false))
      (until_calm S (pair_row u a b) is_equal (Is true) (pair_calm u n a b) 0 (k / 2)) (ret_calm S _)))

  methods_calm : (a b : ℕ) → Calm {S = S} (methods_row a b)
  unfolding methods_row methods_with owners_row owner_with
  methods_calm a b =
      bind_calm S (look_row a 0) (λ f. methods_with a b f) (look_calm S a 0)
      (λ f. bind_calm S (look_row b 0) (λ g. owners_row a b (is_same f g)) (look_calm S b 0)
      (λ g. bind_calm S (look_row a 1) (λ x. owner_with b (is_same f g) x) (look_calm S a 1)
      (λ x. bind_calm S (look_row b 1) (λ y. Ret (Is (is_same f g && is_same x y))) (look_calm S b 1)
      (λ y. ret_calm S _))))

  by_calm : (o : Option (Compares S)) → IfSome o ComparesCalm → (a b : ℕ) (p : Pairing) → Calm (by_pairing o a b p)
  unfolding by_pairing
  by_calm o i a b Texts = texts_calm a b
  by_calm o i a b Items = level_calm ComparesCalm o (λ u. items_row u a b) i (λ u n. items_calm u n a b)
  by_calm o i a b Pairs = level_calm ComparesCalm o (λ u. pairs_row u a b) i (λ u n. pairs_calm u n a b)
  by_calm o i a b Methods = methods_calm a b
  by_calm o i a b Others = ret_calm S _

  under_calm : (o : Option (Compares S)) → IfSome o ComparesCalm → ComparesCalm (equal_under o)
  unfolding equal_under records_row
  under_calm o i (Ref a) (Ref b) = bind_calm S (kinds_row a.0 b.0) (by_pairing o a.0 b.0) (kinds_calm a.0 b.0)
      (by_calm o i a.0 b.0)
  under_calm o i (Ref a) Unset = ret_calm S _
  under_calm o i (Ref a) NoneValue = ret_calm S _
  under_calm o i (Ref a) (BoolValue b) = ret_calm S _
  under_calm o i (Ref a) (Int j) = ret_calm S _
  under_calm o i (Ref a) (Builtin b) = ret_calm S _
  under_calm o i Unset y = ret_calm S _
  under_calm o i NoneValue y = ret_calm S _
  under_calm o i (BoolValue b) y = ret_calm S _
  under_calm o i (Int j) y = ret_calm S _
  under_calm o i (Builtin b) y = ret_calm S _

  below_calm : (d : ℕ) → IfSome (below equal_under d) ComparesCalm
  unfolding below
  below_calm zero = tt
  below_calm (suc d) = under_calm (below equal_under d) (below_calm d)

  pub equal_calm : (x y : Value) → Calm {S = S} (equal_row x y)
  unfolding equal_row
  equal_calm x y = under_calm (below equal_under DEPTH_LIMIT) (below_calm DEPTH_LIMIT) x y

  -- ---- order
  abbrev PartsCalm : Parts S → Type 0
  PartsCalm u = ComparesCalm u.same × ((x y : Value) → Calm (u.first x y))

  strings_calm : (a b : ℕ) → Calm {S = S} (strings_row a b)
  unfolding strings_row bytes_with
  strings_calm a b =
      bind_calm S (bytes_row a) (λ x. bytes_with x b) (bytes_calm S a)
      (λ x. bind_calm S (bytes_row b) (λ y. Ret _) (bytes_calm S b) (λ y. ret_calm S _))

  deciding_calm : (g : Got Ordering) → Calm {S = S} (deciding g)
  deciding_calm (Is o) = ret_calm S _
  deciding_calm (Raise e) = ret_calm S _

  unequal_calm : (u : Parts S) → PartsCalm u → (x y : Value) (b : Bool) → Calm (unequal_row u x y b)
  unfolding unequal_row
  unequal_calm u n x y true = ret_calm S _
  unequal_calm u n x y false = bind_calm S (u.first x y) deciding (n.1 x y) deciding_calm

  turn_calm : (u : Parts S) → PartsCalm u → (a b i : ℕ) → Calm (turn_row u a b i)
  unfolding turn_row turn_with decided_row
  turn_calm u n a b i =
      bind_calm S (look_row a i) (λ x. turn_with u b i x) (look_calm S a i)
      (λ x. bind_calm S (look_row b i) (λ y. decided_row u x y) (look_calm S b i)
      (λ y. bind_calm S (u.same x y) (got_row (unequal_row u x y)) (n.0 x y)
      (got_calm S (unequal_row u x y) (unequal_calm u n x y))))

  listed_calm : (u : Parts S) → PartsCalm u → (a b : ℕ) → Calm (listed_row u a b)
  unfolding listed_row listed_from shared_row
  listed_calm u n a b =
      bind_calm S (size_row a) (λ k. listed_from u a b k) (size_calm S a)
      (λ k. bind_calm S (size_row b) (λ m. shared_row u a b k m) (size_calm S b)
      (λ m. bind_calm S (until_row (turn_row u a b) is_open (Is None) 0 (min k m)) (λ g. Ret (by_lengths k m g))
      (until_calm S (turn_row u a b) is_open (Is None) (turn_calm u n a b) 0 (min k m)) (λ g. ret_calm S _)))

  ordered_calm : (o : Option (Parts S)) → IfSome o PartsCalm → (a b : ℕ) (p : Pairing) → Calm (ordered_by o a b p)
  unfolding ordered_by
  ordered_calm o i a b Texts = strings_calm a b
  ordered_calm o i a b Items = level_calm PartsCalm o (λ u. listed_row u a b) i (λ u n. listed_calm u n a b)
  ordered_calm o i a b Pairs = ret_calm S _
  ordered_calm o i a b Methods = ret_calm S _
  ordered_calm o i a b Others = ret_calm S _

  order_under_calm : (o : Option (Parts S)) → IfSome o PartsCalm → (x y : Value) → Calm (order_under o x y)
  unfolding order_under ranked_row
  order_under_calm o i (Ref a) (Ref b) = bind_calm S (kinds_row a.0 b.0) (ordered_by o a.0 b.0) (kinds_calm a.0 b.0)
      (ordered_calm o i a.0 b.0)
  order_under_calm o i (Ref a) Unset = ret_calm S _
  order_under_calm o i (Ref a) NoneValue = ret_calm S _
  order_under_calm o i (Ref a) (BoolValue b) = ret_calm S _
  order_under_calm o i (Ref a) (Int j) = ret_calm S _
  order_under_calm o i (Ref a) (Builtin b) = ret_calm S _
  order_under_calm o i Unset y = ret_calm S _
  order_under_calm o i NoneValue y = ret_calm S _
  order_under_calm o i (BoolValue b) y = ret_calm S _
  order_under_calm o i (Int j) y = ret_calm S _
  order_under_calm o i (Builtin b) y = ret_calm S _

  parts_calm : (d : ℕ) → IfSome (parts_below d) PartsCalm
  unfolding parts_below
  parts_calm zero = tt
  parts_calm (suc d) = (
    under_calm (below equal_under d) (below_calm d),
    order_under_calm (parts_below d) (parts_calm d),
  )

  pub order_calm : (x y : Value) → Calm {S = S} (order_row x y)
  unfolding order_row
  order_calm x y = order_under_calm (parts_below DEPTH_LIMIT) (parts_calm DEPTH_LIMIT) x y

  -- ---- truth
  range_calm : (a : ℕ) → Calm {S = S} (range_filled a)
  unfolding range_filled stop_with step_with
  range_calm a =
      bind_calm S (look_row a 0) (λ start. stop_with a start) (look_calm S a 0)
      (λ start. bind_calm S (look_row a 1) (λ stop. step_with a start stop) (look_calm S a 1)
      (λ stop. bind_calm S (look_row a 2) (λ step. Ret _) (look_calm S a 2) (λ step. ret_calm S _)))

  values_calm : (a : ℕ) → Calm {S = S} (values_filled a)
  unfolding values_filled
  values_calm a = read_calm S a (λ r. Ret _) (λ r. ret_calm S _)

  filled_calm : (a : ℕ) (k : Kind) → Calm {S = S} (filled_by a k)
  unfolding filled_by bytes_filled
  filled_calm a Str = read_calm S a (λ r. Ret _) (λ r. ret_calm S _)
  filled_calm a Tuple = values_calm a
  filled_calm a ListKind = values_calm a
  filled_calm a Dict = values_calm a
  filled_calm a Range = range_calm a
  filled_calm a Cell = ret_calm S _
  filled_calm a Function = ret_calm S _
  filled_calm a Class = ret_calm S _
  filled_calm a Instance = ret_calm S _
  filled_calm a Method = ret_calm S _
  filled_calm a Iter = ret_calm S _
  filled_calm a Lock = ret_calm S _
  filled_calm a Thread = ret_calm S _

  pub truth_calm : (x : Value) → Calm {S = S} (truth_row x)
  unfolding truth_row filled_row
  truth_calm (Ref a) = bind_calm S (kind_row a.0) (λ k. filled_by a.0 k) (kind_calm S a.0) (filled_calm a.0)
  truth_calm Unset = ret_calm S _
  truth_calm NoneValue = ret_calm S _
  truth_calm (BoolValue b) = ret_calm S _
  truth_calm (Int i) = ret_calm S _
  truth_calm (Builtin b) = ret_calm S _

  -- ---- texts
  abbrev WritesCalm : Writes S → Type 0
  WritesCalm u = (out : List ℕ) (x : Value) → Calm (u out x)

  part_calm : (u : Writes S) → WritesCalm u → (a i : ℕ) (out : List ℕ) → Calm (part_row u a i out)
  unfolding part_row
  part_calm u n a i out = bind_calm S (look_row a i) (λ x. u (spaced i out) x) (look_calm S a i)
      (λ x. n (spaced i out) x)

  couple_calm : (u : Writes S) → WritesCalm u → (a i : ℕ) (out : List ℕ) → Calm (couple_row u a i out)
  unfolding couple_row keyed_row mapped_row
  couple_calm u n a i out =
      bind_calm S (look_row a (2 * i)) (λ k. keyed_row u a i (spaced i out) k) (look_calm S a (2 * i))
      (λ k. bind_calm S (u (spaced i out) k) (got_row (mapped_row u a i)) (n (spaced i out) k)
      (got_calm S (mapped_row u a i)
      (λ t. bind_calm S (look_row a (2 * i + 1)) (λ x. u (t ++ codes ": ") x) (look_calm S a (2 * i + 1))
      (λ x. n (t ++ codes ": ") x))))

  written_calm : (f : ℕ → List ℕ → Row S (Got (List ℕ))) → ((i : ℕ) (out : List ℕ) → Calm (f i out)) →
      (k : ℕ) (close out : List ℕ) → Calm (parts_row f k close out)
  unfolding parts_row closed_row
  written_calm f n k close out =
      bind_calm S (each_row f 0 k out) (got_row (closed_row close)) (each_calm S f n 0 k out)
      (got_calm S (closed_row close) (λ t. ret_calm S _))

  list_calm : (u : Writes S) → WritesCalm u → (a : ℕ) (out : List ℕ) → Calm (list_row u a out)
  unfolding list_row
  list_calm u n a out =
      bind_calm S (size_row a) (λ k. parts_row (part_row u a) k (codes "]") (out ++ codes "[")) (size_calm S a)
      (λ k. written_calm (part_row u a) (part_calm u n a) k (codes "]") (out ++ codes "["))

  tuple_calm : (u : Writes S) → WritesCalm u → (a : ℕ) (out : List ℕ) → Calm (tuple_row u a out)
  unfolding tuple_row
  tuple_calm u n a out =
      bind_calm S (size_row a) (λ k. parts_row (part_row u a) k (tuple_close k) (out ++ codes "(")) (size_calm S a)
      (λ k. written_calm (part_row u a) (part_calm u n a) k (tuple_close k) (out ++ codes "("))

  dict_calm : (u : Writes S) → WritesCalm u → (a : ℕ) (out : List ℕ) → Calm (dict_row u a out)
  unfolding dict_row
  dict_calm u n a out =
      bind_calm S (size_row a) (λ k. parts_row (couple_row u a) (k / 2) (codes "}") (out ++ codes "{")) (size_calm S a)
      (λ k. written_calm (couple_row u a) (couple_calm u n a) (k / 2) (codes "}") (out ++ codes "{"))

  string_calm : (x : Value) → Calm {S = S} (string_row x)
  unfolding string_row
  string_calm (Ref a) = bytes_calm S a.0
  string_calm Unset = ret_calm S _
  string_calm NoneValue = ret_calm S _
  string_calm (BoolValue b) = ret_calm S _
  string_calm (Int i) = ret_calm S _
  string_calm (Builtin b) = ret_calm S _

  name_calm : (a : ℕ) → Calm {S = S} (name_row a)
  unfolding name_row
  name_calm a = bind_calm S (look_row a 0) (λ x. string_row x) (look_calm S a 0) string_calm

  name_by_calm : (x : Value) → Calm {S = S} (name_by x)
  unfolding name_by
  name_by_calm (Ref a) = name_calm a.0
  name_by_calm Unset = ret_calm S _
  name_by_calm NoneValue = ret_calm S _
  name_by_calm (BoolValue b) = ret_calm S _
  name_by_calm (Int i) = ret_calm S _
  name_by_calm (Builtin b) = ret_calm S _

  named_calm : (a : ℕ) → Calm {S = S} (named_row a)
  unfolding named_row
  named_calm a = bind_calm S (look_row a 0) (λ x. name_by x) (look_calm S a 0) name_by_calm

  between_calm : (front close : List ℕ) (name : Row S (List ℕ)) → Calm name → (out : List ℕ) →
      Calm (between_row front close name out)
  unfolding between_row
  between_calm front close name n out = bind_calm S name (λ t. Ret (Is (out ++ front ++ t ++ close))) n
      (λ t. ret_calm S _)

  quoted_calm : (a : ℕ) (out : List ℕ) → Calm {S = S} (quoted_row a out)
  unfolding quoted_row
  quoted_calm a out = bind_calm S (bytes_row a) (λ b. Ret _) (bytes_calm S a) (λ b. ret_calm S _)

  other_calm : (a : ℕ) (out : List ℕ) (k : Kind) → Calm {S = S} (other_text a out k)
  unfolding other_text
  other_calm a out Function = between_calm (codes "<function ") (codes ">") (name_row a) (name_calm a) out
  other_calm a out Class = between_calm (codes "<class ") (codes ">") (name_row a) (name_calm a) out
  other_calm a out Instance = between_calm (codes "<") (codes " instance>") (named_row a) (named_calm a) out
  other_calm a out Method = between_calm (codes "<method ") (codes ">") (named_row a) (named_calm a) out
  other_calm a out Str = ret_calm S _
  other_calm a out Tuple = ret_calm S _
  other_calm a out ListKind = ret_calm S _
  other_calm a out Dict = ret_calm S _
  other_calm a out Cell = ret_calm S _
  other_calm a out Iter = ret_calm S _
  other_calm a out Range = ret_calm S _
  other_calm a out Lock = ret_calm S _
  other_calm a out Thread = ret_calm S _

  kind_text_calm : (o : Option (Writes S)) → IfSome o WritesCalm → (a : ℕ) (out : List ℕ) (k : Kind) →
      Calm (kind_text o a out k)
  unfolding kind_text
  kind_text_calm o i a out Str = quoted_calm a out
  kind_text_calm o i a out Tuple = level_calm WritesCalm o (λ u. tuple_row u a out) i (λ u n. tuple_calm u n a out)
  kind_text_calm o i a out ListKind = level_calm WritesCalm o (λ u. list_row u a out) i (λ u n. list_calm u n a out)
  kind_text_calm o i a out Dict = level_calm WritesCalm o (λ u. dict_row u a out) i (λ u n. dict_calm u n a out)
  kind_text_calm o i a out Cell = other_calm a out Cell
  kind_text_calm o i a out Function = other_calm a out Function
  kind_text_calm o i a out Class = other_calm a out Class
  kind_text_calm o i a out Instance = other_calm a out Instance
  kind_text_calm o i a out Method = other_calm a out Method
  kind_text_calm o i a out Iter = other_calm a out Iter
  kind_text_calm o i a out Range = other_calm a out Range
  kind_text_calm o i a out Lock = other_calm a out Lock
  kind_text_calm o i a out Thread = other_calm a out Thread

  write_calm : (o : Option (Writes S)) → IfSome o WritesCalm → WritesCalm (write_under o)
  unfolding write_under record_row
  write_calm o i out (Ref a) = bind_calm S (kind_row a.0) (λ k. kind_text o a.0 out k) (kind_calm S a.0)
      (kind_text_calm o i a.0 out)
  write_calm o i out Unset = ret_calm S _
  write_calm o i out NoneValue = ret_calm S _
  write_calm o i out (BoolValue b) = ret_calm S _
  write_calm o i out (Int j) = ret_calm S _
  write_calm o i out (Builtin b) = ret_calm S _

  writes_calm : (d : ℕ) → IfSome (below write_under d) WritesCalm
  unfolding below
  writes_calm zero = tt
  writes_calm (suc d) = write_calm (below write_under d) (writes_calm d)

  repr_calm : (d : ℕ) (x : Value) → Calm {S = S} (repr_row d x)
  unfolding repr_row
  repr_calm d x = write_calm (below write_under d) (writes_calm d) [] x

  alone_by_calm : (d a : ℕ) (k : Kind) → Calm {S = S} (alone_by d a k)
  unfolding alone_by
  alone_by_calm d a Str = bind_calm S (bytes_row a) (λ b. Ret (Is b)) (bytes_calm S a) (λ b. ret_calm S _)
  alone_by_calm d a Tuple = repr_calm d _
  alone_by_calm d a ListKind = repr_calm d _
  alone_by_calm d a Dict = repr_calm d _
  alone_by_calm d a Cell = repr_calm d _
  alone_by_calm d a Function = repr_calm d _
  alone_by_calm d a Class = repr_calm d _
  alone_by_calm d a Instance = repr_calm d _
  alone_by_calm d a Method = repr_calm d _
  alone_by_calm d a Iter = repr_calm d _
  alone_by_calm d a Range = repr_calm d _
  alone_by_calm d a Lock = repr_calm d _
  alone_by_calm d a Thread = repr_calm d _

  alone_calm : (d : ℕ) (x : Value) → Calm {S = S} (alone_row d x)
  unfolding alone_row alone_at
  alone_calm d (Ref a) = bind_calm S (kind_row a.0) (λ k. alone_by d a.0 k) (kind_calm S a.0) (alone_by_calm d a.0)
  alone_calm d Unset = repr_calm d _
  alone_calm d NoneValue = repr_calm d _
  alone_calm d (BoolValue b) = repr_calm d _
  alone_calm d (Int i) = repr_calm d _
  alone_calm d (Builtin b) = repr_calm d _

  pub text_calm : (d : ℕ) (x : Value) (quoted : Bool) → Calm {S = S} (text_row d x quoted)
  unfolding text_row
  text_calm d x true = repr_calm d x
  text_calm d x false = alone_calm d x

  pub nest_calm : NestCalm S
  nest_calm = record { equal = equal_calm; order = order_calm; truth = truth_calm; text = text_calm }
