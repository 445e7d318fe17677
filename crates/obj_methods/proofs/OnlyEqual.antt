-- Equality does nothing but look, whatever its looks answer, and so does the search of a list.
use Rattle.std.proofs.Common.{ℕ, zero, suc, ◌+◌, ◌*◌, ◌/◌, ◌==◌, Bool, true, false, cond, ◌&&◌, Option, Some, None}
use Rattle.std.specs.Prelude.{IfSome}
use Rattle.py_data.specs.declared.value.Value.{Value}
use Rattle.py_data.specs.declared.value.Value.TheVariants.{Unset, None as NoneValue, Bool as BoolValue, Int, Ref, Builtin}
use Rattle.py_data.specs.declared.record.Got.{Got}
use Rattle.py_data.specs.declared.record.Got.TheVariants.{Is}
use Rattle.py_data.specs.Comparing.{DEPTH_LIMIT, is_same}
use Rattle.py_data.specs.Shape.{same_bytes}
use Rattle.py_data.specs.Looking.{until_row, size_row, look_row, bytes_row, kind_row}
use Rattle.py_data.specs.Row.{Row, Ret}
use Rattle.py_data.proofs.OnlyLooks.{OnlyLooks, only_bind, only_look, only_kind, only_bytes, only_ret}
use Rattle.obj_nest.specs.declared.pairing.Pairing.{Pairing}
use Rattle.obj_nest.specs.declared.pairing.Pairing.TheVariants.{Texts, Items, Pairs, Methods, Others}
use Rattle.obj_nest.specs.Levels.{below, level_row, pairing_of, kinds_with, kinds_row}
use Rattle.obj_nest.specs.Equal.{Compares, is_equal, texts_with, texts_row, item_with, item_row, sized_row, items_from, items_row, found_row, sought_row, pair_with, pair_row, paired_row, pairs_from, pairs_row, owner_with, owners_row, methods_with, methods_row, by_pairing, records_row, equal_under, equal_row}
use Rattle.obj_methods.specs.Lists as lists
use Rattle.obj_methods.specs.Lists.{first_of, goes_on, place_if, place_row, search_row}

module _ (S : Type 0) where
  -- ---- what py_data's rows are put together by
  only_cond : {A : Type 0} (b : Bool) (p q : Row S A) → OnlyLooks p → OnlyLooks q → OnlyLooks (cond b p q)
  only_cond true p q i j = i
  only_cond false p q i j = j

  only_size : (a : ℕ) → OnlyLooks {S = S} (size_row a)
  unfolding size_row OnlyLooks
  only_size a = (tt, λ r. tt)

  only_until : {A : Type 0} (f : ℕ → Row S A) (goes : A → Bool) (end : A) → ((i : ℕ) → OnlyLooks (f i)) → (i m : ℕ) →
      OnlyLooks (until_row f goes end i m)
  unfolding until_row
  only_until f goes end n i zero = only_ret S end
  only_until f goes end n i (suc m) =
      only_bind (f i) (λ a. cond (goes a) (until_row f goes end (i + 1) m) (Ret a)) (n i)
      (λ a. only_cond (goes a) (until_row f goes end (i + 1) m) (Ret a) (only_until f goes end n (i + 1) m)
      (only_ret S a))

  -- ---- equality
  abbrev Only : Compares S → Type 0
  Only u = (x y : Value) → OnlyLooks (u x y)

  only_kinds : (a b : ℕ) → OnlyLooks {S = S} (kinds_row a b)
  unfolding kinds_row kinds_with
  only_kinds a b = only_bind (kind_row a) (λ k. kinds_with b k) (only_kind S a)
      (λ k. only_bind (kind_row b) (λ l. Ret (pairing_of k l)) (only_kind S b) (λ l. only_ret S _))

  only_level : {A U : Type 0} (P : U → Type 0) (o : Option U) (f : U → Row S (Got A)) → IfSome o P →
      ((u : U) → P u → OnlyLooks (f u)) → OnlyLooks (level_row o f)
  unfolding level_row
  only_level P None f i n = only_ret S _
  only_level P (Some u) f i n = n u i

  only_texts : (a b : ℕ) → OnlyLooks {S = S} (texts_row a b)
  unfolding texts_row texts_with
  only_texts a b = only_bind (bytes_row a) (λ x. texts_with x b) (only_bytes S a)
      (λ x. only_bind (bytes_row b) (λ y. Ret (Is (same_bytes x y))) (only_bytes S b) (λ y. only_ret S _))

  only_item : (u : Compares S) → Only u → (a b i : ℕ) → OnlyLooks (item_row u a b i)
  unfolding item_row item_with
  only_item u n a b i = only_bind (look_row a i) (λ x. item_with u b i x) (only_look S a i)
      (λ x. only_bind (look_row b i) (λ y. u x y) (only_look S b i) (λ y. n x y))

  only_items : (u : Compares S) → Only u → (a b : ℕ) → OnlyLooks (items_row u a b)
  unfolding items_row items_from sized_row
  only_items u n a b =
      only_bind (size_row a) (λ k. items_from u a b k) (only_size a)
      (λ k. only_bind (size_row b) (λ m. sized_row (item_row u a b) k m) (only_size b)
      (λ m. only_cond (k == m) (until_row (item_row u a b) is_equal (Is true) 0 k) (Ret (Is false))
      (only_until (item_row u a b) is_equal (Is true) (only_item u n a b) 0 k) (only_ret S _)))

  only_found : (u : Compares S) → Only u → (b : ℕ) (x : Value) (o : Option ℕ) → OnlyLooks (found_row u b x o)
  unfolding found_row
  only_found u n b x None = only_ret S _
  only_found u n b x (Some j) = only_bind (look_row b (2 * j + 1)) (λ y. u x y) (only_look S b (2 * j + 1)) (λ y. n x y)

  only_sought : (u : Compares S) → Only u → (b : ℕ) (k x : Value) → OnlyLooks (sought_row u b k x)
  unfolding sought_row OnlyLooks
  only_sought u n b k x = (tt, λ o. only_found u n b x o)

  only_pair : (u : Compares S) → Only u → (a b i : ℕ) → OnlyLooks (pair_row u a b i)
  unfolding pair_row pair_with
  only_pair u n a b i =
      only_bind (look_row a (2 * i)) (λ k. pair_with u a b i k) (only_look S a (2 * i))
      (λ k. only_bind (look_row a (2 * i + 1)) (λ x. sought_row u b k x) (only_look S a (2 * i + 1))
      (λ x. only_sought u n b k x))

  only_pairs : (u : Compares S) → Only u → (a b : ℕ) → OnlyLooks (pairs_row u a b)
  unfolding pairs_row pairs_from paired_row
  only_pairs u n a b =
      only_bind (size_row a) (λ k. pairs_from u a b k) (only_size a)
      (λ k. only_bind (size_row b) (λ m. paired_row (pair_row u a b) k m) (only_size b)
      (λ m. only_cond (k == m) (until_row (pair_row u a b) is_equal (Is true) 0 (k / 2)) (Ret (Is false))
      (only_until (pair_row u a b) is_equal (Is true) (only_pair u n a b) 0 (k / 2)) (only_ret S _)))

  only_methods : (a b : ℕ) → OnlyLooks {S = S} (methods_row a b)
  unfolding methods_row methods_with owners_row owner_with
  only_methods a b =
      only_bind (look_row a 0) (λ f. methods_with a b f) (only_look S a 0)
      (λ f. only_bind (look_row b 0) (λ g. owners_row a b (is_same f g)) (only_look S b 0)
      (λ g. only_bind (look_row a 1) (λ x. owner_with b (is_same f g) x) (only_look S a 1)
      (λ x. only_bind (look_row b 1) (λ y. Ret (Is (is_same f g && is_same x y))) (only_look S b 1)
      (λ y. only_ret S _))))

  only_by : (o : Option (Compares S)) → IfSome o Only → (a b : ℕ) (p : Pairing) → OnlyLooks (by_pairing o a b p)
  unfolding by_pairing
  only_by o i a b Texts = only_texts a b
  only_by o i a b Items = only_level Only o (λ u. items_row u a b) i (λ u n. only_items u n a b)
  only_by o i a b Pairs = only_level Only o (λ u. pairs_row u a b) i (λ u n. only_pairs u n a b)
  only_by o i a b Methods = only_methods a b
  only_by o i a b Others = only_ret S _

  only_under : (o : Option (Compares S)) → IfSome o Only → Only (equal_under o)
  unfolding equal_under records_row
  only_under o i (Ref a) (Ref b) = only_bind (kinds_row a.0 b.0) (by_pairing o a.0 b.0) (only_kinds a.0 b.0)
      (only_by o i a.0 b.0)
  only_under o i (Ref a) Unset = only_ret S _
  only_under o i (Ref a) NoneValue = only_ret S _
  only_under o i (Ref a) (BoolValue b) = only_ret S _
  only_under o i (Ref a) (Int j) = only_ret S _
  only_under o i (Ref a) (Builtin b) = only_ret S _
  only_under o i Unset y = only_ret S _
  only_under o i NoneValue y = only_ret S _
  only_under o i (BoolValue b) y = only_ret S _
  only_under o i (Int j) y = only_ret S _
  only_under o i (Builtin b) y = only_ret S _

  only_below : (d : ℕ) → IfSome (below equal_under d) Only
  unfolding below
  only_below zero = tt
  only_below (suc d) = only_under (below equal_under d) (only_below d)

  pub only_equal : (x y : Value) → OnlyLooks {S = S} (equal_row x y)
  unfolding equal_row
  only_equal x y = only_under (below equal_under DEPTH_LIMIT) (only_below DEPTH_LIMIT) x y

  -- ---- the search of a list
  only_place : (x : Value) (a i : ℕ) → OnlyLooks {S = S} (place_row x a i)
  unfolding place_row lists.item_row
  only_place x a i =
      only_bind (lists.item_row x a i) (λ g. Ret (place_if i g))
      (only_bind (look_row a i) (λ y. equal_row y x) (only_look S a i) (λ y. only_equal y x)) (λ g. only_ret S _)

  pub only_search : (a : ℕ) (x : Value) → OnlyLooks {S = S} (search_row a x)
  unfolding search_row first_of
  only_search a x = only_bind (size_row a) (first_of x a) (only_size a)
      (λ n. only_until (place_row x a) goes_on (Is None) (only_place x a) 0 n)
