-- In the course of these instructions no record is longer than before or at the end.
use Rattle.std.proofs.Common.{ℕ, Bool, true, false, cond, List, [], ◌∷◌, Option, Some, None, refl}
use Rattle.py_base.specs.declared.kind.Kind.{Kind}
use Rattle.py_base.specs.declared.kind.Kind.TheVariants.{Str, Tuple, List as ListKind, Dict}
use Rattle.py_data.specs.declared.value.Value.{Value}
use Rattle.py_data.specs.declared.value.Value.TheVariants.{Unset, None as NoneValue, Bool as BoolValue, Int, Ref, Builtin}
use Rattle.py_data.specs.declared.record.Got.{Got}
use Rattle.py_data.specs.declared.record.Got.TheVariants.{Is, Raise}
use Rattle.py_data.specs.Looking.{look_row, kind_row}
use Rattle.py_data.specs.Row.{Row, Ret, bind}
use Rattle.py_data.proofs.OnlyLooks.{only_look, only_kind}
use Rattle.obj_class.specs.declared.lookup.Found.{Found}
use Rattle.obj_class.specs.declared.lookup.Found.TheVariants.{Plain, Bound}
use Rattle.py_frames.specs.declared.next.Next.TheVariants.{Goes}
use Rattle.py_frames.specs.AttrInstrs.{loaded_attr, load_attr_row, stored_attr, store_attr_row, dropped_attr, del_attr_instr, missing_method, found_method, loaded_method, attr_or_method, method_or_attr, load_method_row}
use Rattle.py_frames.specs.BuildRows.{built_row, build_row, dict_or_raise, filled_dict, new_dict, too_many_pairs, build_dict_row, spread, spread_row, unpack_row, iter_instr, next_or_end, next_instr}
use Rattle.py_frames.specs.GlobalRows.{put_name_row, store_name_row, gone_row, drop_name_row, del_name_row}
use Rattle.py_frames.specs.ItemRows.{load_item_row, store_item_row, del_item_instr, slice_instr}
use Rattle.py_frames.specs.OperatorRows.{unary_instr, not_row, binary_instr, in_place_instr, compare_instr, jump_false_row, keep_false_row, keep_true_row}
use Rattle.py_frames.specs.Raising.{give, done}
use Rattle.std.specs.Prelude.{ℤ, ℕ}
use Rattle.std.proofs.Common.{false, true}
use Rattle.py_data.specs.Looking.{bytes_row, got_row}
use Rattle.py_data.specs.Steady.{Steady, Calm}
use Rattle.py_data.proofs.CalmRows.{do_calm, ret_calm, make_calm, cond_calm, bind_steady, bind_calm, bytes_calm}
use Rattle.py_data.proofs.OnlyLooks.{only_look, only_kind, looks_steady}
use Rattle.obj_class.specs.Named.{method_of}
use Rattle.obj_class.specs.AttrRows.{missing_row, attr_row, set_attr_row, del_attr_row, find_attr_row}
use Rattle.obj_class.proofs.SteadyRows.{attr_steady, set_steady, del_steady, only_find}
use Rattle.obj_dict.specs.Dict.{key_row, if_key, set_pair, set_row, del_row, get_row}
use Rattle.obj_dict.proofs.SteadyRows.{dict_steady}
use Rattle.obj_seq.proofs.SteadyRows.{seq_steady}
use Rattle.obj_seq.specs.Gather.{gather_row}
use Rattle.obj_seq.specs.Iter.{iter_row, next_row}
use Rattle.obj_str.specs.Strings.{new_text}
use Rattle.obj_nest.specs.Truth.{truth_row}
use Rattle.obj_nest.proofs.CalmRows.{nest_calm}
use Rattle.obj_ops.specs.Binary.{unary_row, binary_row}
use Rattle.obj_ops.specs.InPlace.{in_place_row}
use Rattle.obj_ops.specs.Compare.{compare_row}
use Rattle.obj_ops.proofs.SteadyRows.{ops_steady}
use Rattle.py_frames.specs.BuildRows.{pairs_set, all_keys_row}
use Rattle.py_frames.specs.ItemRows.{byte_row, byte_item_row, text_item, list_item, dict_item, item_by, item_of, set_list_item, set_by, set_item, del_list_item, del_key, del_by, del_item, bounds_in, text_slice, slice_by, slice_at, slice_of}
use Rattle.py_frames.proofs.CalmInstrs.{ret, both, one_of, made_then, raise_calm, give_calm, done_calm}

module _ (S : Type 0) where
  abbrev T : {A : Type 0} → Row S A → Type 0
  T row = Steady false row

  -- a steady row, and then one that makes nothing shorter
  after : {A B : Type 0} (row : Row S A) (f : A → Row S B) → T row → ((a : A) → Calm (f a)) → T (bind row f)
  after row f i n = bind_steady S false row f i n

  -- a look, and then a steady row
  looked : {B : Type 0} (a i : ℕ) (f : Value → Row S B) → ((x : Value) → T (f x)) → T (bind (look_row a i) f)
  looked a i f n = looks_steady (look_row a i) f (only_look S a i) n

  kinded : {B : Type 0} (a : ℕ) (f : Kind → Row S B) → ((k : Kind) → T (f k)) → T (bind (kind_row a) f)
  kinded a f n = looks_steady (kind_row a) f (only_kind S a) n

  given : (roots : ℕ) (row : Row S (Got Value)) → T row → T (bind row (λ g. give roots g))
  given roots row i = after row _ i (λ g. give_calm S roots g)

  finished : {A : Type 0} (roots : ℕ) (row : Row S (Got A)) → T row → T (bind row (λ g. done roots g))
  finished roots row i = after row _ i (λ g. done_calm S roots g)

  wrong : {A : Type 0} (x : A) → T (Ret x)
  wrong x = ret_calm S x false

  -- ---- names of a class body
  pub store_name_steady : (roots d n : ℕ) (x : Value) → T (store_name_row roots d n x)
  unfolding store_name_row put_name_row
  store_name_steady roots d n x = let o = dict_steady S in
      looked roots n _ (λ key. finished roots (set_row d key x) (o.set d key x))

  gone_calm : (roots : ℕ) (name : List ℕ) (g : Got Value) → Calm (gone_row {S = S} roots name g)
  unfolding gone_row
  gone_calm roots name (Is x) = ret_calm S (Goes [])
  gone_calm roots name (Raise e) = raise_calm S roots _

  pub del_name_steady : (roots d n : ℕ) (name : List ℕ) → T (del_name_row roots d n name)
  unfolding del_name_row drop_name_row
  del_name_steady roots d n name = let o = dict_steady S in
      looked roots n _ (λ key. after (del_row d key) _ (o.del d key) (λ g. gone_calm roots name g))

  -- ---- attributes
  pub load_attr_steady : (roots n : ℕ) (o : Value) → T (load_attr_row roots n o)
  unfolding load_attr_row loaded_attr
  load_attr_steady roots n o = looked roots n _ (λ name. given roots (attr_row roots o _) (attr_steady S roots _ o))

  pub store_attr_steady : (roots n : ℕ) (x o : Value) → T (store_attr_row roots n x o)
  unfolding store_attr_row stored_attr
  store_attr_steady roots n x o = looked roots n _ (λ name. finished roots (set_attr_row o _ x) (set_steady S _ o x))

  pub del_attr_steady : (roots n : ℕ) (o : Value) → T (del_attr_instr roots n o)
  unfolding del_attr_instr dropped_attr
  del_attr_steady roots n o = looked roots n _ (λ name. finished roots (del_attr_row o _) (del_steady S _ o))

  missing_calm : (name : ℕ) → Calm (missing_row {S = S} {A = Value} name)
  unfolding missing_row
  missing_calm name = bind_calm S (bytes_row name) _ (bytes_calm S name) (λ t. ret_calm S _)

  found_calm : (roots : ℕ) (o : Value) (name : ℕ) (found : Option Found) →
      Calm (found_method {S = S} roots o name found)
  unfolding found_method missing_method
  found_calm roots o name None = bind_calm S (missing_row name) _ (missing_calm name) (λ g. give_calm S roots g)
  found_calm roots o name (Some (Plain x)) = ret_calm S _
  found_calm roots o name (Some (Bound x)) = ret_calm S _

  attr_or_method_steady : (roots n : ℕ) (o : Value) → T (attr_or_method roots n o)
  unfolding attr_or_method loaded_method
  attr_or_method_steady roots n o = looked roots n _
      (λ name. looks_steady (find_attr_row roots o _) _ (only_find S roots _ o) (λ z. found_calm roots o _ z false))

  method_or_attr_steady : (roots n : ℕ) (o : Value) (b : Option ℕ) → T (method_or_attr roots n o b)
  unfolding method_or_attr
  method_or_attr_steady roots n o (Some b) = ret_calm S _ false
  method_or_attr_steady roots n o None = attr_or_method_steady roots n o

  pub load_method_steady : (roots n : ℕ) (text : List ℕ) (o : Value) → T (load_method_row roots n text o)
  unfolding load_method_row
  load_method_steady roots n text (Ref a) = kinded a.0 _
      (λ k. method_or_attr_steady roots n (Ref a) (method_of k text))
  load_method_steady roots n text o = attr_or_method_steady roots n o

  -- ---- items
  text_calm : (bs : List ℕ) → Calm (new_text {S = S} bs)
  unfolding new_text
  text_calm bs = cond_calm S _ _ _ (make_calm S _ _ (λ a. ret_calm S _)) (ret_calm S _)

  byte_calm : (t : List ℕ) (o : Option ℕ) → Calm (byte_row {S = S} t o)
  unfolding byte_row
  byte_calm t (Some k) = text_calm _
  byte_calm t None = ret_calm S _

  text_item_steady : (a : ℕ) (o : Option ℤ) → T (text_item a o)
  unfolding text_item byte_item_row
  text_item_steady a (Some i) = bind_calm S (bytes_row a) _ (bytes_calm S a) (λ t. byte_calm t _) false
  text_item_steady a None = wrong _

  list_item_steady : (a : ℕ) (o : Option ℤ) → T (list_item a o)
  unfolding list_item
  list_item_steady a (Some i) = let q = seq_steady S in q.item a i
  list_item_steady a None = wrong _

  dict_item_steady : (d : ℕ) (key : Value) → T (dict_item d key)
  unfolding dict_item
  dict_item_steady d key = let o = dict_steady S in after (get_row d key) _ (o.get d key) (λ g. ret_calm S _)

  item_by_steady : (a : ℕ) (i : Value) (k : Kind) → T (item_by a i k)
  unfolding item_by
  item_by_steady a i Str = text_item_steady a _
  item_by_steady a i Tuple = list_item_steady a _
  item_by_steady a i ListKind = list_item_steady a _
  item_by_steady a i Dict = dict_item_steady a i
  item_by_steady a i _ = wrong _

  item_steady : (o i : Value) → T (item_of o i)
  unfolding item_of
  item_steady (Ref a) i = kinded a.0 _ (λ k. item_by_steady a.0 i k)
  item_steady _ i = wrong _

  pub load_item_steady : (roots : ℕ) (o i : Value) → T (load_item_row roots o i)
  unfolding load_item_row
  load_item_steady roots o i = given roots (item_of o i) (item_steady o i)

  set_list_steady : (a : ℕ) (x : Value) (o : Option ℤ) → T (set_list_item a x o)
  unfolding set_list_item
  set_list_steady a x (Some i) = let q = seq_steady S in q.set_item a i x
  set_list_steady a x None = wrong _

  set_by_steady : (a : ℕ) (i x : Value) (k : Kind) → T (set_by a i x k)
  unfolding set_by
  set_by_steady a i x ListKind = set_list_steady a x _
  set_by_steady a i x Dict = let o = dict_steady S in o.set a i x
  set_by_steady a i x _ = wrong _

  set_item_steady : (o i x : Value) → T (set_item o i x)
  unfolding set_item
  set_item_steady (Ref a) i x = kinded a.0 _ (λ k. set_by_steady a.0 i x k)
  set_item_steady _ i x = wrong _

  pub store_item_steady : (roots : ℕ) (x o i : Value) → T (store_item_row roots x o i)
  unfolding store_item_row
  store_item_steady roots x o i = finished roots (set_item o i x) (set_item_steady o i x)

  del_list_steady : (a : ℕ) (o : Option ℤ) → T (del_list_item a o)
  unfolding del_list_item
  del_list_steady a (Some i) = let q = seq_steady S in q.del_item a i
  del_list_steady a None = wrong _

  del_key_steady : (d : ℕ) (key : Value) → T (del_key d key)
  unfolding del_key
  del_key_steady d key = let o = dict_steady S in after (del_row d key) _ (o.del d key) (λ g. ret_calm S _)

  del_by_steady : (a : ℕ) (i : Value) (k : Kind) → T (del_by a i k)
  unfolding del_by
  del_by_steady a i ListKind = del_list_steady a _
  del_by_steady a i Dict = del_key_steady a i
  del_by_steady a i _ = wrong _

  del_one_steady : (o i : Value) → T (del_item o i)
  unfolding del_item
  del_one_steady (Ref a) i = kinded a.0 _ (λ k. del_by_steady a.0 i k)
  del_one_steady _ i = wrong _

  pub del_item_steady : (roots : ℕ) (o i : Value) → T (del_item_instr roots o i)
  unfolding del_item_instr
  del_item_steady roots o i = finished roots (del_item o i) (del_one_steady o i)

  slice_by_steady : (a : ℕ) (b : Option ℤ × Option ℤ) (k : Kind) → T (slice_by a b k)
  unfolding slice_by text_slice
  slice_by_steady a b Str = bind_calm S (bytes_row a) _ (bytes_calm S a) (λ t. text_calm _) false
  slice_by_steady a b Tuple = let q = seq_steady S in q.slice a b.0 b.1
  slice_by_steady a b ListKind = let q = seq_steady S in q.slice a b.0 b.1
  slice_by_steady a b _ = wrong _

  slice_at_steady : (a : ℕ) (g : Got (Option ℤ × Option ℤ)) → T (slice_at a g)
  unfolding slice_at
  slice_at_steady a (Is b) = kinded a _ (λ k. slice_by_steady a b k)
  slice_at_steady a (Raise e) = wrong _

  slice_of_steady : (o : Value) (g : Got (Option ℤ × Option ℤ)) → T (slice_of o g)
  unfolding slice_of
  slice_of_steady (Ref a) g = slice_at_steady a.0 g
  slice_of_steady _ g = wrong _

  pub slice_steady : (roots : ℕ) (o i j : Value) → T (slice_instr roots o i j)
  unfolding slice_instr
  slice_steady roots o i j = given roots (slice_of o (bounds_in i j)) (slice_of_steady o (bounds_in i j))

  -- ---- operators and jumps
  pub unary_instr_steady : (roots op : ℕ) (x : Value) → T (unary_instr roots op x)
  unfolding unary_instr
  unary_instr_steady roots op x = let o = ops_steady S in given roots (unary_row op x) (o.unary op x)

  pub binary_instr_steady : (roots op : ℕ) (x y : Value) → T (binary_instr roots op x y)
  unfolding binary_instr
  binary_instr_steady roots op x y = let o = ops_steady S in
      given roots (binary_row roots op x y) (o.binary roots op x y)

  pub in_place_instr_steady : (roots op : ℕ) (x y : Value) → T (in_place_instr roots op x y)
  unfolding in_place_instr
  in_place_instr_steady roots op x y = let o = ops_steady S in
      given roots (in_place_row roots op x y) (o.in_place roots op x y)

  pub compare_instr_steady : (roots op : ℕ) (x y : Value) → T (compare_instr roots op x y)
  unfolding compare_instr
  compare_instr_steady roots op x y = let o = ops_steady S in given roots (compare_row op x y) (o.compare op x y)

  tested : {B : Type 0} (x : Value) (f : Bool → B) → T (bind (truth_row x) (λ b. Ret (f b)))
  tested x f = let n = nest_calm S in bind_calm S (truth_row x) _ (n.truth x) (λ b. ret_calm S (f b)) false

  pub not_steady : (x : Value) → T (not_row x)
  unfolding not_row
  not_steady x = tested x _

  pub jump_false_steady : (t : ℕ) (x : Value) → T (jump_false_row t x)
  unfolding jump_false_row
  jump_false_steady t x = tested x _

  pub keep_false_steady : (t : ℕ) (x : Value) → T (keep_false_row t x)
  unfolding keep_false_row
  keep_false_steady t x = tested x _

  pub keep_true_steady : (t : ℕ) (x : Value) → T (keep_true_row t x)
  unfolding keep_true_row
  keep_true_steady t x = tested x _

  -- ---- what is built
  pub build_calm : (roots : ℕ) (k : Kind) (xs : List Value) → Calm (build_row {S = S} roots k xs)
  unfolding build_row built_row
  build_calm roots k xs = one_of S _ _ _ (made_then S _ _ (λ x. ret S _)) (raise_calm S roots _)

  key_calm : (key : Value) → Calm (key_row {S = S} key)
  unfolding key_row
  key_calm (Ref a) = do_calm _ _ refl tt (λ r. ret S _)
  key_calm Unset = ret S _
  key_calm NoneValue = ret S _
  key_calm (BoolValue b) = ret S _
  key_calm (Int n) = ret S _
  key_calm (Builtin b) = ret S _

  set_pair_calm : (d : ℕ) (key x : Value) (o : Option ℕ) → Calm (set_pair {S = S} d key x o)
  unfolding set_pair
  set_pair_calm d key x None = do_calm _ _ refl tt (λ r. one_of S _ _ _ (do_calm _ _ refl tt (λ u. ret S _)) (ret S _))
  set_pair_calm d key x (Some i) = do_calm _ _ refl tt (λ u. ret S _)

  if_key_calm : {A : Type 0} (row : Row S (Got A)) (b : Bool) → Calm row → Calm (if_key row b)
  unfolding if_key
  if_key_calm row true i = i
  if_key_calm row false i = ret S _

  set_row_calm : (d : ℕ) (key x : Value) → Calm (set_row {S = S} d key x)
  unfolding set_row
  set_row_calm d key x = both S (key_row key) _ (key_calm key)
      (λ b. if_key_calm _ b (do_calm _ _ refl tt (λ o. set_pair_calm d key x o)))

  pairs_calm : (d : ℕ) (xs : List Value) → Calm (pairs_set {S = S} d xs)
  unfolding pairs_set
  pairs_calm d (key ∷ x ∷ rest) = both S (set_row d key x) _ (set_row_calm d key x) (more (pairs_calm d rest))
    where
      more : Calm (pairs_set {S = S} d rest) → (g : Got (Unit {0})) → Calm {S = S} (got_row (λ u. pairs_set d rest) g)
      more i (Is u) = i
      more i (Raise e) = ret S _
  pairs_calm d [] = ret S _
  pairs_calm d (key ∷ []) = ret S _

  dict_calm : (roots : ℕ) (d : Value) (g : Got (Unit {0})) → Calm (dict_or_raise {S = S} roots d g)
  unfolding dict_or_raise
  dict_calm roots d (Is u) = ret S _
  dict_calm roots d (Raise e) = raise_calm S roots e

  all_keys_calm : (xs : List Value) → Calm (all_keys_row {S = S} xs)
  unfolding all_keys_row
  all_keys_calm (key ∷ x ∷ rest) = both S (key_row key) _ (key_calm key) (more (all_keys_calm rest))
    where
      more : Calm (all_keys_row {S = S} rest) → (b : Bool) → Calm {S = S} (cond b (all_keys_row rest) (Ret false))
      more i b = one_of S b _ _ i (ret S false)
  all_keys_calm [] = ret S _
  all_keys_calm (key ∷ []) = ret S _

  pub build_dict_calm : (roots : ℕ) (xs : List Value) → Calm (build_dict_row {S = S} roots xs)
  unfolding build_dict_row new_dict filled_dict too_many_pairs
  build_dict_calm roots xs = one_of S _ _ _
      (made_then S _ _ (λ d. both S (pairs_set _ xs) _ (pairs_calm _ xs) (λ g. dict_calm roots d g)))
      (both S (all_keys_row xs) _ (all_keys_calm xs) (λ b. raise_calm S roots _))

  spread_calm : (roots n : ℕ) (g : Got (List Value)) → Calm (spread {S = S} roots n g)
  unfolding spread
  spread_calm roots n (Is xs) = one_of S _ _ _ (ret S _) (raise_calm S roots _)
  spread_calm roots n (Raise e) = raise_calm S roots e

  cond_steady : {A : Type 0} (b : Bool) (p q : Row S A) → T p → T q → T (cond b p q)
  cond_steady true p q i j = i
  cond_steady false p q i j = j

  pub unpack_steady : (roots n : ℕ) (x : Value) → T (unpack_row roots n x)
  unfolding unpack_row spread_row
  unpack_steady roots n x = let q = seq_steady S in
      cond_steady _ _ _ (after (gather_row x) _ (q.gather x) (λ g. spread_calm roots n g)) (raise_calm S roots _ false)

  pub iter_steady : (roots : ℕ) (x : Value) → T (iter_instr roots x)
  unfolding iter_instr
  iter_steady roots x = let q = seq_steady S in given roots (iter_row x) (q.make_iter x)

  next_end_calm : (roots t : ℕ) (it : Value) (g : Got (Option Value)) → Calm (next_or_end {S = S} roots t it g)
  unfolding next_or_end
  next_end_calm roots t it (Is (Some y)) = ret S _
  next_end_calm roots t it (Is None) = ret S _
  next_end_calm roots t it (Raise e) = raise_calm S roots e

  pub next_instr_steady : (roots t : ℕ) (x : Value) → T (next_instr roots t x)
  unfolding next_instr
  next_instr_steady roots t (Ref a) = let q = seq_steady S in
      after (next_row a.0) _ (q.next a.0) (λ g. next_end_calm roots t _ g)
  next_instr_steady roots t _ = raise_calm S roots _ false
