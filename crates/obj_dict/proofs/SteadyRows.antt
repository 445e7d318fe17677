-- In the course of an operation on a dictionary no record is longer than before it or at its end.
use Rattle.std.proofs.Common.{ℕ, ◌+◌, Bool, true, false, cond, ltb, List, [], ◌∷◌, ◌++◌, length, Option, Some, None, refl}
use Rattle.py_data.specs.declared.value.Value.{Value}
use Rattle.py_data.specs.declared.value.Value.TheVariants.{Unset, None as NoneValue, Bool as BoolValue, Int, Ref, Builtin}
use Rattle.py_data.specs.declared.change.Change.TheVariants as change
use Rattle.py_data.specs.declared.record.Got.{Got}
use Rattle.py_data.specs.declared.record.Got.TheVariants.{Is, Raise}
use Rattle.py_data.specs.declared.record.TheConstants.{LENGTH_LIMIT}
use Rattle.py_data.specs.Fault.{memory_fault}
use Rattle.py_data.specs.Shape.{is_key_kind}
use Rattle.py_data.specs.Row.{Row, Ret, Do, Find, Edit, bind}
use Rattle.py_data.specs.Steady.{Steady}
use Rattle.obj_dict.specs.declared.listing.Part.{Part}
use Rattle.obj_dict.specs.declared.listing.Part.TheVariants.{Keys, Values, Items}
use Rattle.obj_dict.specs.Dict.{key_row, if_key, value_of_pair, get_row, set_pair, set_row, drop_found, del_row}
use Rattle.obj_dict.specs.Listing.{half, list_row, tuples_row, list_of_row}
use Rattle.obj_dict.specs.HoldsLaws.{DictSteady}

module _ (S : Type 0) where
  if_steady : {A : Type 0} (rest : Row S (Got A)) → Steady false rest → (b : Bool) → Steady false (if_key rest b)
  unfolding if_key Steady
  if_steady rest s true = s
  if_steady rest s false = tt

  keyed_steady : {A : Type 0} (rest : Row S (Got A)) → Steady false rest → (key : Value) →
      Steady false (bind (key_row key) (if_key rest))
  unfolding key_row bind Steady
  keyed_steady rest s (Ref a) = ((refl, tt), λ r. if_steady rest s (is_key_kind r.kind))
  keyed_steady rest s Unset = if_steady rest s false
  keyed_steady rest s NoneValue = if_steady rest s true
  keyed_steady rest s (BoolValue b) = if_steady rest s true
  keyed_steady rest s (Int n) = if_steady rest s true
  keyed_steady rest s (Builtin n) = if_steady rest s true

  find_steady : {A : Type 0} (d : ℕ) (key : Value) (k : Option ℕ → Row S A) → ((o : Option ℕ) → Steady false (k o)) →
      Steady false (Do (Find d key) k)
  unfolding Steady
  find_steady d key k s = ((refl, tt), s)

  value_steady : (d : ℕ) (o : Option ℕ) → Steady {S = S} false (value_of_pair d o)
  unfolding value_of_pair Steady
  value_steady d None = tt
  value_steady d (Some i) = ((refl, tt), λ r. tt)

  push_steady : (d : ℕ) (key x : Value) (b : Bool) →
      Steady {S = S} {A = Got (Unit {0})} false
      (cond b (Do (Edit d (change.Pair key x)) (λ _. Ret (Is tt))) (Ret (Raise memory_fault)))
  unfolding Steady
  push_steady d key x true = ((refl, tt), λ u. tt)
  push_steady d key x false = tt

  pair_steady : (d : ℕ) (key x : Value) (o : Option ℕ) → Steady {S = S} false (set_pair d key x o)
  unfolding set_pair Steady
  pair_steady d key x None = ((refl, tt), λ r. push_steady d key x (ltb (length r.values + 1) LENGTH_LIMIT))
  pair_steady d key x (Some i) = ((refl, tt), λ u. tt)

  drop_steady : (d : ℕ) (key : Value) (o : Option ℕ) → Steady {S = S} false (drop_found d key o)
  unfolding drop_found Steady
  drop_steady d key None = tt
  drop_steady d key (Some i) = ((refl, tt), λ r. ((refl, tt), λ u. tt))

  get_steady : (d : ℕ) (key : Value) → Steady {S = S} false (get_row d key)
  unfolding get_row
  get_steady d key = keyed_steady (Do (Find d key) (value_of_pair d))
      (find_steady d key (value_of_pair d) (value_steady d)) key

  set_steady : (d : ℕ) (key x : Value) → Steady {S = S} false (set_row d key x)
  unfolding set_row
  set_steady d key x = keyed_steady (Do (Find d key) (set_pair d key x))
      (find_steady d key (set_pair d key x) (pair_steady d key x)) key

  del_steady : (d : ℕ) (key : Value) → Steady {S = S} false (del_row d key)
  unfolding del_row
  del_steady d key = keyed_steady (Do (Find d key) (drop_found d key))
      (find_steady d key (drop_found d key) (drop_steady d key)) key

  -- a row that makes may go on so
  made_steady : (grown : Bool) (items : List Value) → Steady {S = S} grown (list_row items)
  unfolding Steady
  made_steady true items = ((refl, tt), λ a. tt)
  made_steady false items = ((refl, tt), λ a. tt)

  tuples_steady : (grown : Bool) (made vs : List Value) → Steady {S = S} grown (bind (tuples_row made vs) list_row)
  unfolding tuples_row bind Steady
  tuples_steady grown made [] = made_steady grown made
  tuples_steady grown made (k ∷ []) = made_steady grown made
  tuples_steady true made (k ∷ x ∷ rest) =
      ((refl, tt), λ b. tuples_steady true (made ++ Ref (record { 0 = b }) ∷ []) rest)
  tuples_steady false made (k ∷ x ∷ rest) =
      ((refl, tt), λ b. tuples_steady true (made ++ Ref (record { 0 = b }) ∷ []) rest)

  list_steady : (d : ℕ) (part : Part) → Steady {S = S} false (list_of_row d part)
  unfolding list_of_row bind Steady
  list_steady d Keys = ((refl, tt), λ r. made_steady false (half false r.values))
  list_steady d Values = ((refl, tt), λ r. made_steady false (half true r.values))
  list_steady d Items = ((refl, tt), λ r. tuples_steady false [] r.values)

  pub dict_steady : DictSteady S
  dict_steady = record { get = get_steady; set = set_steady; del = del_steady; list_of = list_steady }
