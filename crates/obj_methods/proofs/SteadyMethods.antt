-- In the course of a method of a list or a dictionary, and of sorting, no record is longer than before it or at its
-- end.
use Rattle.std.proofs.Common.{ℕ, ◌+◌, ◌==◌, ltb, ℤ, negsuc, Bool, true, false, cond, ◌||◌, ◌&&◌, ◌≡◌, List, [], ◌∷◌, ◌++◌, length, map, Option, Some, None, refl}
use Rattle.std.specs.Prelude.{unwrap_or}
use Rattle.py_data.specs.declared.value.Value.{Value}
use Rattle.py_data.specs.declared.value.Value.TheVariants.{Unset, None as NoneValue, Bool as BoolValue, Int, Ref, Builtin}
use Rattle.py_data.specs.declared.change.Change.TheVariants as change
use Rattle.py_data.specs.declared.record.Got.{Got}
use Rattle.py_data.specs.declared.record.Got.TheVariants.{Is, Raise}
use Rattle.py_data.specs.declared.record.TheConstants.{LENGTH_LIMIT}
use Rattle.py_data.specs.Fault.{memory_fault, argument_fault}
use Rattle.py_data.specs.Looking.{got_row, size_row, kind_row, bytes_row}
use Rattle.py_data.specs.Row.{Row, Ret, Do, Edit, bind}
use Rattle.py_data.specs.Steady.{Steady, Calm}
use Rattle.py_data.proofs.CalmRows.{ret_calm, do_calm, push_calm, cond_calm, bind_steady, bind_calm, got_calm, size_calm, kind_calm, bytes_calm}
use Rattle.py_data.proofs.OnlyLooks.{only_steady, looks_steady}
use Rattle.obj_seq.specs.Iter.{is_str}
use Rattle.obj_seq.specs.Seq.{put_row, pop_row, insert_row, del_item_row, reverse_row}
use Rattle.obj_seq.proofs.SteadyRows.{seq_steady}
use Rattle.obj_dict.specs.declared.listing.Part.{Part}
use Rattle.obj_dict.specs.declared.listing.Part.TheVariants.{Keys, Values, Items}
use Rattle.obj_dict.specs.Dict.{get_row, del_row}
use Rattle.obj_dict.specs.Listing.{list_of_row}
use Rattle.obj_dict.proofs.SteadyRows.{dict_steady}
use Rattle.obj_str.specs.Methods.{only}
use Rattle.obj_ops.specs.InPlace.{extended_row}
use Rattle.obj_ops.specs.Sequences.{values_row}
use Rattle.obj_ops.proofs.SteadyRows.{extended_steady, values_calm}
use Rattle.obj_methods.specs.declared.words.Word.{Word}
use Rattle.obj_methods.specs.Arguments.{only_number, number_and_value, key_and_value}
use Rattle.obj_methods.specs.Dicts.{dict_method_row, found_or, get_with, has_with, is_there, list_by, or_given, pop_with}
use Rattle.obj_methods.specs.HoldsLaws.{MethodsSteady}
use Rattle.obj_methods.specs.Lists as lists
use Rattle.obj_methods.specs.Lists.{append_row, append_to, append_with, done, extend_with, found, index_with, insert_with, list_method_row, pop_by, put_all, remove_at, remove_row, remove_with, reverse_by, search_row, sort_by, sort_items, sort_row}
use Rattle.obj_methods.specs.Sorting.{are_numbers, in_order, number_less, sorted_row, text_at, text_by, text_row, value_of, word_less, word_row, worded_row, words_row}
use Rattle.obj_methods.proofs.OnlyEqual.{only_search}

module _ (S : Type 0) where
  -- an answer that is made of what a part answers
  then_steady : {A B : Type 0} (row : Row S A) (f : A → B) → Steady false row →
      Steady {S = S} false (bind row (λ a. Ret (f a)))
  then_steady row f i = bind_steady S false row (λ a. Ret (f a)) i (λ a. ret_calm S (f a))

  wrong_steady : {A : Type 0} (g : Got A) → Steady {S = S} false (Ret g)
  wrong_steady g = ret_calm S g false

  either : {A : Type 0} (b : Bool) (row other : Row S A) → Steady false row → Steady false other →
      Steady false (cond b row other)
  either true row other i j = i
  either false row other i j = j

  -- ---- sorting
  by_calm : (a : ℕ) (b : Bool) → Calm {S = S} (text_by a b)
  unfolding text_by
  by_calm a true = bind_calm S (bytes_row a) (λ bs. Ret (Is bs)) (bytes_calm S a) (λ bs. ret_calm S _)
  by_calm a false = ret_calm S _

  text_calm : (x : Value) → Calm {S = S} (text_row x)
  unfolding text_row text_at
  text_calm (Ref a) = bind_calm S (kind_row a.0) (λ k. text_by a.0 (is_str k)) (kind_calm S a.0)
      (λ k. by_calm a.0 (is_str k))
  text_calm Unset = ret_calm S _
  text_calm NoneValue = ret_calm S _
  text_calm (BoolValue b) = ret_calm S _
  text_calm (Int i) = ret_calm S _
  text_calm (Builtin b) = ret_calm S _

  word_calm : (x : Value) (ws : List Word) → Calm {S = S} (word_row x ws)
  unfolding word_row
  word_calm x ws =
      let f : List ℕ → Row S (Got (List Word)) = λ bs. Ret (Is (ws ++ record { text = bs; value = x } ∷ [])) in
      bind_calm S (text_row x) (got_row f) (text_calm x) (got_calm S f (λ bs. ret_calm S _))

  words_calm : (vs : List Value) (ws : List Word) → Calm {S = S} (words_row vs ws)
  unfolding words_row
  words_calm [] ws = ret_calm S _
  words_calm (x ∷ xs) ws = bind_calm S (word_row x ws) (got_row (words_row xs)) (word_calm x ws)
      (got_calm S (words_row xs) (words_calm xs))

  worded_calm : (vs : List Value) → Calm {S = S} (worded_row vs)
  unfolding worded_row
  worded_calm vs =
      let f : List Word → Row S (Got (List Value)) = λ ws. Ret (Is (map value_of (in_order word_less ws))) in
      bind_calm S (words_row vs []) (got_row f) (words_calm vs []) (got_calm S f (λ ws. ret_calm S _))

  pub sorted_calm : (vs : List Value) → Calm {S = S} (sorted_row vs)
  unfolding sorted_row
  sorted_calm vs = cond_calm S (are_numbers vs) (Ret (Is (in_order number_less vs))) (worded_row vs) (ret_calm S _)
      (worded_calm vs)

  -- ---- lists
  append_steady : (a : ℕ) (o : Option Value) → Steady {S = S} false (append_with a o)
  unfolding append_with append_row append_to
  append_steady a (Some x) =
      bind_calm S (size_row a) (append_to a x) (size_calm S a)
      (λ n. cond_calm S (ltb n LENGTH_LIMIT) (Do (Edit a (change.Push x)) (λ _. Ret (Is NoneValue)))
      (Ret (Raise memory_fault)) (push_calm S a x (λ _. Ret (Is NoneValue)) (ret_calm S _)) (ret_calm S _)) false
  append_steady a None = wrong_steady _

  index_pop_steady : (a : ℕ) (o : Option ℤ) → Steady {S = S} false (lists.pop_with a o)
  unfolding lists.pop_with
  index_pop_steady a (Some i) = (seq_steady S).pop a i
  index_pop_steady a None = wrong_steady _

  pop_steady : (a : ℕ) (args : List Value) → Steady {S = S} false (pop_by a args)
  unfolding pop_by
  pop_steady a args = either (length args == 0) (pop_row a (negsuc 0)) (lists.pop_with a (only_number args))
      ((seq_steady S).pop a (negsuc 0)) (index_pop_steady a (only_number args))

  insert_steady : (a : ℕ) (o : Option (ℤ × Value)) → Steady {S = S} false (insert_with a o)
  unfolding insert_with
  insert_steady a (Some p) = then_steady (insert_row a p.0 p.1) done ((seq_steady S).insert a p.0 p.1)
  insert_steady a None = wrong_steady _

  extend_steady : (a : ℕ) (o : Option Value) → Steady {S = S} false (extend_with a o)
  unfolding extend_with
  extend_steady a (Some y) = then_steady (extended_row a y) done (extended_steady S a y)
  extend_steady a None = wrong_steady _

  index_steady : (a : ℕ) (o : Option Value) → Steady {S = S} false (index_with a o)
  unfolding index_with
  index_steady a (Some x) = then_steady (search_row a x) found (only_steady (search_row a x) (only_search S a x))
  index_steady a None = wrong_steady _

  remove_at_steady : (a : ℕ) (g : Got (Option ℤ)) → Steady {S = S} false (got_row (remove_at a) g)
  unfolding remove_at
  remove_at_steady a (Is (Some i)) = then_steady (del_item_row a i) done ((seq_steady S).del_item a i)
  remove_at_steady a (Is None) = wrong_steady _
  remove_at_steady a (Raise e) = wrong_steady _

  remove_steady : (a : ℕ) (o : Option Value) → Steady {S = S} false (remove_with a o)
  unfolding remove_with remove_row
  remove_steady a (Some x) = looks_steady (search_row a x) (got_row (remove_at a)) (only_search S a x)
      (remove_at_steady a)
  remove_steady a None = wrong_steady _

  reverse_steady : (a : ℕ) (args : List Value) → Steady {S = S} false (reverse_by a args)
  unfolding reverse_by
  reverse_steady a args = either (length args == 0) (bind (reverse_row a) (λ _. Ret (Is NoneValue)))
      (Ret (Raise argument_fault)) (then_steady (reverse_row a) (λ u. Is NoneValue) ((seq_steady S).reverse a))
      (wrong_steady _)

  put_calm : (a k : ℕ) (xs : List Value) → Calm {S = S} (put_row a k xs)
  unfolding put_row
  put_calm a k [] = ret_calm S _
  put_calm a k (x ∷ xs) = do_calm _ _ refl tt (λ u. put_calm a (k + 1) xs)

  put_all_calm : (a : ℕ) (vs : List Value) → Calm {S = S} (put_all a vs)
  unfolding put_all
  put_all_calm a vs = bind_calm S (put_row a 0 vs) (λ _. Ret (Is NoneValue)) (put_calm a 0 vs) (λ u. ret_calm S _)

  sort_calm : (a : ℕ) → Calm {S = S} (sort_row a)
  unfolding sort_row sort_items
  sort_calm a = bind_calm S (values_row a) (sort_items a) (values_calm S a)
      (λ vs. bind_calm S (sorted_row vs) (got_row (put_all a)) (sorted_calm vs)
      (got_calm S (put_all a) (put_all_calm a)))

  sort_steady : (a : ℕ) (args : List Value) → Steady {S = S} false (sort_by a args)
  unfolding sort_by
  sort_steady a args = either (length args == 0) (sort_row a) (Ret (Raise argument_fault)) (sort_calm a false)
      (wrong_steady _)

  list_steady : (m a : ℕ) (args : List Value) → Steady {S = S} false (list_method_row m a args)
  unfolding list_method_row
  list_steady m a args =
      either (m == 34) (append_with a (only args)) _ (append_steady a (only args))
      (either (m == 35) (pop_by a args) _ (pop_steady a args)
      (either (m == 36) (insert_with a (number_and_value args)) _ (insert_steady a (number_and_value args))
      (either (m == 37) (extend_with a (only args)) _ (extend_steady a (only args))
      (either (m == 38) (index_with a (only args)) _ (index_steady a (only args))
      (either (m == 39) (remove_with a (only args)) _ (remove_steady a (only args))
      (either (m == 40) (reverse_by a args) _ (reverse_steady a args)
      (either (m == 41) (sort_by a args) _ (sort_steady a args) (wrong_steady _))))))))

  -- ---- dictionaries
  get_steady : (d : ℕ) (o : Option (Value × Option Value)) → Steady {S = S} false (get_with d o)
  unfolding get_with
  get_steady d (Some p) = then_steady (get_row d p.0) (found_or (unwrap_or p.1 NoneValue)) ((dict_steady S).get d p.0)
  get_steady d None = wrong_steady _

  list_by_steady : (part : Part) (d : ℕ) (args : List Value) → Steady {S = S} false (list_by part d args)
  unfolding list_by
  list_by_steady part d args = either (length args == 0) (list_of_row d part) (Ret (Raise argument_fault))
      ((dict_steady S).list_of d part) (wrong_steady _)

  has_steady : (d : ℕ) (o : Option Value) → Steady {S = S} false (has_with d o)
  unfolding has_with
  has_steady d (Some k) = then_steady (get_row d k) is_there ((dict_steady S).get d k)
  has_steady d None = wrong_steady _

  key_pop_steady : (d : ℕ) (o : Option (Value × Option Value)) → Steady {S = S} false (pop_with d o)
  unfolding pop_with
  key_pop_steady d (Some p) = then_steady (del_row d p.0) (or_given p.1) ((dict_steady S).del d p.0)
  key_pop_steady d None = wrong_steady _

  dict_method_steady : (m d : ℕ) (args : List Value) → Steady {S = S} false (dict_method_row m d args)
  unfolding dict_method_row
  dict_method_steady m d args =
      either (m == 42) (get_with d (key_and_value args)) _ (get_steady d (key_and_value args))
      (either (m == 43) (list_by Keys d args) _ (list_by_steady Keys d args)
      (either (m == 44) (list_by Values d args) _ (list_by_steady Values d args)
      (either (m == 45) (list_by Items d args) _ (list_by_steady Items d args)
      (either (m == 46) (has_with d (only args)) _ (has_steady d (only args))
      (either (m == 47) (pop_with d (key_and_value args)) _ (key_pop_steady d (key_and_value args))
      (wrong_steady _))))))

  pub methods_steady : MethodsSteady S
  methods_steady = record { list_method = list_steady; dict_method = dict_method_steady; sorted = sorted_calm }
