-- The rows of the lists that a dictionary gives. States `docs/LANGUAGE.md`, "Dictionaries".
use Rattle.std.specs.Prelude.{ℕ, Bool, true, false, cond, List, [], ◌∷◌, ◌++◌}
use Rattle.py_data.specs.declared.value.Value.{Value}
use Rattle.py_data.specs.declared.value.Value.TheVariants.{Ref}
use Rattle.py_base.specs.declared.kind.Kind.TheVariants.{Tuple, List as ListKind}
use Rattle.py_data.specs.declared.record.Got.{Got}
use Rattle.py_data.specs.declared.record.Got.TheVariants.{Is}
use Rattle.py_data.specs.Heap.{new_rec}
use Rattle.py_data.specs.Row.{Row, Ret, Do, Read, Make, bind}
use Rattle.obj_dict.specs.declared.listing.Part.{Part}
use Rattle.obj_dict.specs.declared.listing.Part.TheVariants.{Keys, Values, Items}

-- of each pair its key, or its value, in the order of the pairs
abbrev pub half : Bool → List Value → List Value
half second [] = []
half second (k ∷ []) = []
half second (k ∷ x ∷ rest) = cond second x k ∷ half second rest

-- a new list
abbrev pub list_row : {S : Type 0} → List Value → Row S (Got Value)
list_row items = Do (Make (new_rec ListKind items [])) (λ b. Ret (Is (Ref (record { 0 = b }))))

-- a new tuple of each pair, behind those that were made before
unfoldable pub tuples_row : {S : Type 0} → List Value → List Value → Row S (List Value)
tuples_row made [] = Ret made
tuples_row made (k ∷ []) = Ret made
tuples_row made (k ∷ x ∷ rest) = Do (Make (new_rec Tuple (k ∷ x ∷ []) []))
    (λ b. tuples_row (made ++ Ref (record { 0 = b }) ∷ []) rest)

abbrev pub half_row : {S : Type 0} → ℕ → Bool → Row S (List Value)
half_row d second = Do (Read d) (λ r. Ret (half second r.values))

abbrev pub pairs_row : {S : Type 0} → ℕ → Row S (List Value)
pairs_row d = Do (Read d) (λ r. tuples_row [] r.values)

-- a new list of the keys, of the values, or of a new tuple for each pair
unfoldable pub list_of_row : {S : Type 0} → ℕ → Part → Row S (Got Value)
list_of_row d Keys = bind (half_row d false) list_row
list_of_row d Values = bind (half_row d true) list_row
list_of_row d Items = bind (pairs_row d) list_row
