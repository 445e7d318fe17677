-- Over each heap in order each method of a list or a dictionary holds, and so does sorting.
use Rattle.std.proofs.Common.{arith, ◌≡◌, ℕ, ◌+◌, ◌<◌, ◌≤◌, ◌==◌, ltb, ℤ, negsuc, Bool, true, false, cond, List, [], ◌∷◌, length, Option, Some, None, sym, ap, subst, ◌∙◌, inl, inr, lit<}
use Rattle.std.specs.Prelude.{is_some, IfSome, unwrap_or, codes}
use Rattle.std.proofs.lemmas.Bool.{ltb-true}
use Rattle.std.proofs.lemmas.List.{length-set}
use Rattle.py_base.specs.Numbers.{class_number}
use Rattle.py_base.specs.declared.kind.Kind.TheVariants.{List as ListKind}
use Rattle.py_data.specs.declared.value.Value.{Value}
use Rattle.py_data.specs.declared.value.Value.TheVariants.{Unset, None as NoneValue, Bool as BoolValue, Int}
use Rattle.py_data.specs.declared.change.Change.TheVariants as change
use Rattle.py_data.specs.declared.record.Fault.{Fault}
use Rattle.py_data.specs.declared.record.Got.{Got}
use Rattle.py_data.specs.declared.record.Got.TheVariants.{Is, Raise}
use Rattle.py_data.specs.declared.record.TheConstants.{LENGTH_LIMIT}
use Rattle.py_data.specs.Answers.{IsFault, IsGot, IsAnswer, IfItem, IsDone}
use Rattle.py_data.specs.Changes.{IsValuePlace}
use Rattle.py_data.specs.Closed.{IsItem}
use Rattle.py_data.specs.Comparing.{number_of}
use Rattle.py_data.specs.Every.{Every}
use Rattle.py_data.specs.Fault.{memory_fault, operand_fault, argument_fault}
use Rattle.py_data.specs.Heap.{Heap, Rec, is_tracked, with_value}
use Rattle.py_data.specs.Holds.{Holds}
use Rattle.py_data.specs.Looking.{got_row, size_row}
use Rattle.py_data.specs.Order.{Rules, IsOrdered, Extends, MayPut}
use Rattle.py_data.specs.Row.{Row, Ret, Do, Edit, bind}
use Rattle.py_data.proofs.Holding.{holds_ret, holds_bind, holds_weaken}
use Rattle.py_data.proofs.HoldingCalls.{holds_edit, holds_looks}
use Rattle.py_data.proofs.ItemLemmas.{item_stays, items_stay}
use Rattle.py_data.proofs.Looking.{looks_held, size_looks}
use Rattle.py_data.proofs.Steps.{put_here}
use Rattle.obj_seq.specs.HoldsLaws.{IsListAt}
use Rattle.obj_seq.specs.Seq.{put_row, pop_row, insert_row, del_item_row, reverse_row}
use Rattle.obj_seq.proofs.Holding.{at_of, cond_holds, pop_holds, insert_holds, del_item_holds, reverse_holds}
use Rattle.obj_dict.specs.declared.listing.Part.{Part}
use Rattle.obj_dict.specs.declared.listing.Part.TheVariants.{Keys, Values, Items}
use Rattle.obj_dict.specs.Dict.{get_row, del_row}
use Rattle.obj_dict.specs.HoldsLaws.{IsDictAt}
use Rattle.obj_dict.specs.Listing.{list_of_row}
use Rattle.obj_dict.proofs.Holding.{dict_holds}
use Rattle.obj_str.specs.Methods.{only}
use Rattle.obj_ops.specs.InPlace.{extended_row}
use Rattle.obj_ops.specs.Sequences.{values_row}
use Rattle.obj_ops.proofs.Faults.{IsAny}
use Rattle.obj_ops.proofs.Holding.{extended_holds}
use Rattle.obj_methods.specs.Arguments.{only_number, beside, number_and_value, key_and_value}
use Rattle.obj_methods.specs.Dicts.{dict_method_row, found_or, get_with, has_with, if_given, is_there, list_by, or_given, or_value, pop_with}
use Rattle.obj_methods.specs.HoldsLaws.{AreSoMany, MethodsHold}
use Rattle.obj_methods.specs.Lists as lists
use Rattle.obj_methods.specs.Lists.{append_row, append_to, append_with, done, extend_with, found, index_with, insert_with, lack_fault, list_method_row, pop_by, put_all, remove_at, remove_row, remove_with, reverse_by, search_row, sort_by, sort_items, sort_row}
use Rattle.obj_methods.specs.Sorting.{sorted_row}
use Rattle.obj_methods.proofs.ListLeaves.{list_items, values_looks}
use Rattle.obj_methods.proofs.SearchLooks.{place_good, place_in, search_looks}
use Rattle.obj_methods.proofs.SortLooks.{Answered, sorted_looks}

-- ---- arguments
only_item : (h : Heap) (args : List Value) → Every (IsItem h) args → IfItem (only args) h
only_item h [] i = tt
only_item h (x ∷ []) i = i.0
only_item h (x ∷ y ∷ zs) i = tt

beside_item : (h : Heap) (o : Option ℤ) (x : Value) → IsItem h x → IfSome (beside o x) (λ p. IsItem h p.1)
beside_item h (Some n) x i = i
beside_item h None x i = tt

second_item : (h : Heap) (args : List Value) → Every (IsItem h) args →
    IfSome (number_and_value args) (λ p. IsItem h p.1)
second_item h [] i = tt
second_item h (n ∷ []) i = tt
second_item h (n ∷ x ∷ []) i = beside_item h (number_of n) x i.1.0
second_item h (n ∷ x ∷ y ∷ zs) i = tt

-- a key, and a value if one is given, are items
abbrev AreGiven : Heap → Value × Option Value → Type 0
AreGiven h p = IsItem h p.0 × IfItem p.1 h

given_items : (h : Heap) (args : List Value) → Every (IsItem h) args → IfSome (key_and_value args) (AreGiven h)
given_items h [] i = tt
given_items h (k ∷ []) i = (i.0, tt)
given_items h (k ∷ x ∷ []) i = (i.0, i.1.0)
given_items h (k ∷ x ∷ y ∷ zs) i = tt

-- ---- answers
none_item : (h : Heap) → IsItem h NoneValue
none_item h = (tt, λ e. let q : NoneValue ≡ Unset = e in cc)

bool_item : (h : Heap) (b : Bool) → IsItem h (BoolValue b)
bool_item h b = (tt, λ e. let q : BoolValue b ≡ Unset = e in cc)

int_item : (h : Heap) (n : ℤ) → IsItem h (Int n)
int_item h n = (tt, λ e. let q : Int n ≡ Unset = e in cc)

done_good : {A : Type 0} (p : A → Heap → Type 0) (g : Got A) (h : Heap) → IsGot p g h → IsAnswer (done g) h
done_good p (Is a) h i = none_item h
done_good p (Raise e) h i = i

lacking : (h : Heap) → IsFault h lack_fault
lacking h = (lit< tt, lit< tt, tt)

found_good : (g : Got (Option ℤ)) (h : Heap) → IsGot IsAny g h → IsAnswer (found g) h
found_good (Is (Some n)) h i = int_item h n
found_good (Is None) h i = lacking h
found_good (Raise e) h i = i

or_none : (h : Heap) (o : Option Value) → IfItem o h → IsItem h (unwrap_or o NoneValue)
or_none h (Some x) i = i
or_none h None i = none_item h

found_or_good : (x : Value) (g : Got (Option Value)) (h : Heap) → IsItem h x → IsGot IfItem g h →
    IsAnswer (found_or x g) h
found_or_good x (Is (Some y)) h i j = j
found_or_good x (Is None) h i j = i
found_or_good x (Raise e) h i j = j

there_good : (g : Got (Option Value)) (h : Heap) → IsGot IfItem g h → IsAnswer (is_there g) h
there_good (Is o) h i = bool_item h (is_some o)
there_good (Raise e) h i = i

value_good : (x : Value) (e : Fault) (h : Heap) → IsItem h x → IsFault h e → IsAnswer (or_value x e) h
value_good x e h i j = by (e.exc == class_number (codes "KeyError"))
  where
    by : (b : Bool) → IsAnswer (cond b (Is x) (Raise e)) h
    by true = i
    by false = j

if_good : (o : Option Value) (e : Fault) (h : Heap) → IfItem o h → IsFault h e → IsAnswer (if_given o e) h
if_good (Some x) e h i j = value_good x e h i j
if_good None e h i j = j

given_good : (o : Option Value) (g : Got Value) (h : Heap) → IfItem o h → IsAnswer g h → IsAnswer (or_given o g) h
given_good o (Is y) h i j = j
given_good o (Raise e) h i j = if_good o e h i j

if_stays : (h h1 : Heap) (o : Option Value) → Extends h h1 → IfItem o h → IfItem o h1
if_stays h h1 (Some x) y i = item_stays h h1 y x i
if_stays h h1 None y i = tt

module _ {S : Type 0} (rules : Rules) (stands : Heap → S → Type 0) where
  abbrev Good : Row S (Got Value) → Heap → Type 0
  Good row h = Holds rules stands IsAnswer row h

  wrong_holds : (h : Heap) → Good (Ret (Raise argument_fault)) h
  wrong_holds h = holds_ret rules stands IsAnswer (Raise argument_fault) h (lit< tt, lit< tt, tt)

  either : (b : Bool) (row other : Row S (Got Value)) (h : Heap) → Good row h → Good other h → Good (cond b row other) h
  either true row other h i j = i
  either false row other h i j = j

  -- a part, and an answer that is made of what it answers
  then_holds : {A : Type 0} (p : A → Heap → Type 0) (row : Row S A) (f : A → Got Value) (h : Heap) → IsOrdered rules h
      → Holds rules stands p row h → ((a : A) (h1 : Heap) → Extends h h1 → p a h1 → IsAnswer (f a) h1)
      → Good (bind row (λ a. Ret (f a))) h
  then_holds p row f h order i n = holds_bind rules stands p IsAnswer row (λ a. Ret (f a)) h order i
      (λ a h1 order1 x j. holds_ret rules stands IsAnswer (f a) h1 (n a h1 x j))

  -- ---- sorting
  answered_good : (h : Heap) (vs : List Value) (z : Got (List Value)) → Answered S h vs z →
      IsGot (AreSoMany (length vs)) z h
  answered_good h vs z (inl o) = subst (λ g. IsGot (AreSoMany (length vs)) g h) (sym o.is) (o.items, o.count)
  answered_good h vs z (inr o) = subst (λ g. IsGot (AreSoMany (length vs)) g h) (sym o.1) (lit< tt, lit< tt, tt)

  sorted_holds : (h : Heap) (vs : List Value) → IsOrdered rules h → Every (IsItem h) vs →
      Holds rules stands (IsGot (AreSoMany (length vs))) (sorted_row vs) h
  sorted_holds h vs order i =
      holds_weaken rules stands (λ z h1. (h1 ≡ h) × Answered S h vs z) (IsGot (AreSoMany (length vs)))
      (λ z h1 t. subst (λ g. IsGot (AreSoMany (length vs)) z g) (sym t.0) (answered_good h vs z t.1))
      (sorted_row vs) h
      (looks_held rules stands (Answered S h vs) h (sorted_row vs) (sorted_looks S h vs i))

  -- ---- lists
  append_holds : (h : Heap) (a : ℕ) (o : Option Value) → IsOrdered rules h → IsListAt h a → IfItem o h →
      Good (append_with a o) h
  unfolding append_with append_row append_to
  append_holds h a None order at i = wrong_holds h
  append_holds h a (Some x) order at i =
      let t = at_of h a (λ k. k ≡ ListKind) at in
      holds_looks rules stands IsAnswer (λ n. n ≡ length t.rec.values) (size_row a) (append_to a x) h order
      (size_looks S h a t.rec t.here)
      (λ n e. cond_holds rules stands IsAnswer (ltb n LENGTH_LIMIT)
      (Do (Edit a (change.Push x)) (λ _. Ret (Is NoneValue))) (Ret (Raise memory_fault)) h
      (λ room. holds_edit rules stands IsAnswer a (change.Push x) (λ _. Ret (Is NoneValue)) h t.rec order t.here
      (t.kind, subst (λ k. k < LENGTH_LIMIT) e (ltb-true n LENGTH_LIMIT room)) tt i
      (λ h1 order1 y f. holds_ret rules stands IsAnswer (Is NoneValue) h1 (none_item h1)))
      (λ full. holds_ret rules stands IsAnswer (Raise memory_fault) h (lit< tt, lit< tt, tt)))

  index_pop_holds : (h : Heap) (a : ℕ) (o : Option ℤ) → IsOrdered rules h → IsListAt h a → Good (lists.pop_with a o) h
  unfolding lists.pop_with
  index_pop_holds h a (Some i) order at = pop_holds rules stands h a i order at
  index_pop_holds h a None order at = wrong_holds h

  pop_by_holds : (h : Heap) (a : ℕ) (args : List Value) → IsOrdered rules h → IsListAt h a → Good (pop_by a args) h
  unfolding pop_by
  pop_by_holds h a args order at = either (length args == 0) (pop_row a (negsuc 0))
      (lists.pop_with a (only_number args)) h (pop_holds rules stands h a (negsuc 0) order at)
      (index_pop_holds h a (only_number args) order at)

  insert_with_holds : (h : Heap) (a : ℕ) (o : Option (ℤ × Value)) → IsOrdered rules h → IsListAt h a →
      IfSome o (λ p. IsItem h p.1) → Good (insert_with a o) h
  unfolding insert_with
  insert_with_holds h a (Some p) order at i = then_holds IsDone (insert_row a p.0 p.1) done h order
      (insert_holds rules stands h a p.0 p.1 order at i) (λ g h1 y j. done_good (λ u h. Unit {0}) g h1 j)
  insert_with_holds h a None order at i = wrong_holds h

  extend_with_holds : (h : Heap) (a : ℕ) (o : Option Value) → IsOrdered rules h → IsListAt h a → IfItem o h →
      Good (extend_with a o) h
  unfolding extend_with
  extend_with_holds h a (Some y) order at i =
      then_holds IsAnswer (extended_row a y) done h order
      (extended_holds rules stands (record { 0 = a }) y h order (tt, at) i)
      (λ g h1 z j. done_good (λ v h. IsItem h v) g h1 j)
  extend_with_holds h a None order at i = wrong_holds h

  -- what a search answers, and what is done with it
  searched_holds : (f : Got (Option ℤ) → Row S (Got Value)) (h : Heap) (a : ℕ) (x : Value) → IsOrdered rules h →
      IsListAt h a → IsItem h x → ((g : Got (Option ℤ)) → IsGot IsAny g h → Good (f g) h) →
      Good (bind (search_row a x) f) h
  searched_holds f h a x order at i n =
      let t = at_of h a (λ k. k ≡ ListKind) at in
      holds_looks rules stands IsAnswer (λ z. z ≡ place_in h x 0 t.rec.values) (search_row a x) f h order
      (search_looks S rules h order x i a t.rec t.here t.kind)
      (λ g e. n g (subst (λ z. IsGot IsAny z h) (sym e) (place_good h x t.rec.values 0)))

  index_holds : (h : Heap) (a : ℕ) (o : Option Value) → IsOrdered rules h → IsListAt h a → IfItem o h →
      Good (index_with a o) h
  unfolding index_with
  index_holds h a (Some x) order at i = searched_holds (λ g. Ret (found g)) h a x order at i
      (λ g j. holds_ret rules stands IsAnswer (found g) h (found_good g h j))
  index_holds h a None order at i = wrong_holds h

  remove_at_holds : (h : Heap) (a : ℕ) (o : Option ℤ) → IsOrdered rules h → IsListAt h a → Good (remove_at a o) h
  unfolding remove_at
  remove_at_holds h a (Some i) order at =
      then_holds IsDone (del_item_row a i) done h order (del_item_holds rules stands h a i order at)
      (λ g h1 y j. done_good (λ u h. Unit {0}) g h1 j)
  remove_at_holds h a None order at = holds_ret rules stands IsAnswer (Raise lack_fault) h (lacking h)

  remove_holds : (h : Heap) (a : ℕ) (o : Option Value) → IsOrdered rules h → IsListAt h a → IfItem o h →
      Good (remove_with a o) h
  unfolding remove_with remove_row
  remove_holds h a (Some x) order at i = searched_holds (got_row (remove_at a)) h a x order at i by
    where
      by : (g : Got (Option ℤ)) → IsGot IsAny g h → Good (got_row (remove_at a) g) h
      by (Is o) j = remove_at_holds h a o order at
      by (Raise e) j = holds_ret rules stands IsAnswer (Raise e) h j
  remove_holds h a None order at i = wrong_holds h

  reverse_by_holds : (h : Heap) (a : ℕ) (args : List Value) → IsOrdered rules h → IsListAt h a →
      Good (reverse_by a args) h
  unfolding reverse_by
  reverse_by_holds h a args order at =
      either (length args == 0) (bind (reverse_row a) (λ _. Ret (Is NoneValue))) (Ret (Raise argument_fault)) h
      (then_holds IsAny (reverse_row a) (λ u. Is NoneValue) h order (reverse_holds rules stands h a order at)
      (λ u h1 y j. none_item h1)) (wrong_holds h)

  put_holds : (a k : ℕ) (xs : List Value) (r : Rec) (h : Heap) → IsOrdered rules h → h a ≡ Some r → r.kind ≡ ListKind →
      k + length xs ≤ length r.values → Every (IsItem h) xs → Holds rules stands IsAny (put_row a k xs) h
  unfolding put_row
  put_holds a k [] r h order e l w i = holds_ret rules stands IsAny tt h tt
  put_holds a k (x ∷ xs) r h order e l w i =
      let less : k < length r.values = omega arith in
      holds_edit rules stands IsAny a (change.Set k x) (λ _. put_row a (k + 1) xs) h r order e (ap is_tracked l, less)
      (subst (λ z. IsValuePlace z k) (sym l) tt) (subst (λ z. MayPut rules h a z k x) (sym l) i.0)
      (λ h1 order1 y f. put_holds a (k + 1) xs (with_value k x r) h1 order1
      (ap (λ g. g a) f ∙ put_here h a (with_value k x r)) l (omega (arith, length-set r.values k x))
      (items_stay h h1 y xs i.1))

  put_all_holds : (a : ℕ) (r : Rec) (h : Heap) → IsOrdered rules h → h a ≡ Some r → r.kind ≡ ListKind →
      (z : Got (List Value)) → Answered S h r.values z → Good (got_row (put_all a) z) h
  unfolding put_all
  put_all_holds a r h order e l z (inl o) =
      subst (λ g. Good (got_row (put_all a) g) h) (sym o.is)
      (then_holds IsAny (put_row a 0 o.values) (λ u. Is NoneValue) h order
      (put_holds a 0 o.values r h order e l (omega (arith, o.count)) o.items) (λ u h1 y j. none_item h1))
  put_all_holds a r h order e l z (inr o) = subst (λ g. Good (got_row (put_all a) g) h) (sym o.1)
      (holds_ret rules stands IsAnswer (Raise operand_fault) h (lit< tt, lit< tt, tt))

  sort_holds : (h : Heap) (a : ℕ) → IsOrdered rules h → IsListAt h a → Good (sort_row a) h
  unfolding sort_row sort_items
  sort_holds h a order at =
      let t = at_of h a (λ k. k ≡ ListKind) at in
      let items = list_items rules h a t.rec order t.here t.kind in
      holds_looks rules stands IsAnswer (λ vs. vs ≡ t.rec.values) (values_row a) (sort_items a) h order
      (values_looks S h a t.rec t.here)
      (λ vs e. subst (λ l. Good (sort_items a l) h) (sym e)
      (holds_looks rules stands IsAnswer (Answered S h t.rec.values) (sorted_row t.rec.values) (got_row (put_all a)) h
      order (sorted_looks S h t.rec.values items) (put_all_holds a t.rec h order t.here t.kind)))

  sort_by_holds : (h : Heap) (a : ℕ) (args : List Value) → IsOrdered rules h → IsListAt h a → Good (sort_by a args) h
  unfolding sort_by
  sort_by_holds h a args order at = either (length args == 0) (sort_row a) (Ret (Raise argument_fault)) h
      (sort_holds h a order at) (wrong_holds h)

  other_holds : (h : Heap) → Good (Ret (Raise operand_fault)) h
  other_holds h = holds_ret rules stands IsAnswer (Raise operand_fault) h (lit< tt, lit< tt, tt)

  list_holds : (h : Heap) (m a : ℕ) (args : List Value) → IsOrdered rules h → IsListAt h a → Every (IsItem h) args →
      Good (list_method_row m a args) h
  unfolding list_method_row
  list_holds h m a args order at i =
      let o = only_item h args i in
      either (m == 34) (append_with a (only args)) _ h (append_holds h a (only args) order at o)
      (either (m == 35) (pop_by a args) _ h (pop_by_holds h a args order at)
      (either (m == 36) (insert_with a (number_and_value args)) _ h
      (insert_with_holds h a (number_and_value args) order at (second_item h args i))
      (either (m == 37) (extend_with a (only args)) _ h (extend_with_holds h a (only args) order at o)
      (either (m == 38) (index_with a (only args)) _ h (index_holds h a (only args) order at o)
      (either (m == 39) (remove_with a (only args)) _ h (remove_holds h a (only args) order at o)
      (either (m == 40) (reverse_by a args) _ h (reverse_by_holds h a args order at)
      (either (m == 41) (sort_by a args) _ h (sort_by_holds h a args order at) (other_holds h))))))))

  -- ---- dictionaries
  get_holds : (h : Heap) (d : ℕ) (o : Option (Value × Option Value)) → IsOrdered rules h → IsDictAt h d →
      IfSome o (AreGiven h) → Good (get_with d o) h
  unfolding get_with
  get_holds h d (Some p) order at i =
      then_holds (IsGot IfItem) (get_row d p.0) (found_or (unwrap_or p.1 NoneValue)) h order
      ((dict_holds rules stands).get h d p.0 order at i.0)
      (λ g h1 y j. found_or_good (unwrap_or p.1 NoneValue) g h1 (or_none h1 p.1 (if_stays h h1 p.1 y i.1)) j)
  get_holds h d None order at i = wrong_holds h

  list_by_holds : (part : Part) (h : Heap) (d : ℕ) (args : List Value) → IsOrdered rules h → IsDictAt h d →
      Good (list_by part d args) h
  unfolding list_by
  list_by_holds part h d args order at = either (length args == 0) (list_of_row d part) (Ret (Raise argument_fault)) h
      ((dict_holds rules stands).list_of h d part order at) (wrong_holds h)

  has_holds : (h : Heap) (d : ℕ) (o : Option Value) → IsOrdered rules h → IsDictAt h d → IfItem o h →
      Good (has_with d o) h
  unfolding has_with
  has_holds h d (Some k) order at i = then_holds (IsGot IfItem) (get_row d k) is_there h order
      ((dict_holds rules stands).get h d k order at i) (λ g h1 y j. there_good g h1 j)
  has_holds h d None order at i = wrong_holds h

  key_pop_holds : (h : Heap) (d : ℕ) (o : Option (Value × Option Value)) → IsOrdered rules h → IsDictAt h d →
      IfSome o (AreGiven h) → Good (pop_with d o) h
  unfolding pop_with
  key_pop_holds h d (Some p) order at i =
      then_holds IsAnswer (del_row d p.0) (or_given p.1) h order ((dict_holds rules stands).del h d p.0 order at i.0)
      (λ g h1 y j. given_good p.1 g h1 (if_stays h h1 p.1 y i.1) j)
  key_pop_holds h d None order at i = wrong_holds h

  dict_method_holds : (h : Heap) (m d : ℕ) (args : List Value) → IsOrdered rules h → IsDictAt h d →
      Every (IsItem h) args → Good (dict_method_row m d args) h
  unfolding dict_method_row
  dict_method_holds h m d args order at i =
      let p = given_items h args i in
      either (m == 42) (get_with d (key_and_value args)) _ h (get_holds h d (key_and_value args) order at p)
      (either (m == 43) (list_by Keys d args) _ h (list_by_holds Keys h d args order at)
      (either (m == 44) (list_by Values d args) _ h (list_by_holds Values h d args order at)
      (either (m == 45) (list_by Items d args) _ h (list_by_holds Items h d args order at)
      (either (m == 46) (has_with d (only args)) _ h (has_holds h d (only args) order at (only_item h args i))
      (either (m == 47) (pop_with d (key_and_value args)) _ h (key_pop_holds h d (key_and_value args) order at p)
      (other_holds h))))))

  pub methods_hold : MethodsHold rules stands
  methods_hold = record { list_method = list_holds; dict_method = dict_method_holds; sorted = sorted_holds }
