-- The rows of attributes. States `docs/LANGUAGE.md`, "Instructions" and "Attributes".
use Rattle.std.specs.Prelude.{ℕ, List, [], ◌∷◌, Option, Some, None}
use Rattle.py_data.specs.declared.value.Value.{Value}
use Rattle.py_data.specs.declared.value.Value.TheVariants.{Unset, Ref, Builtin}
use Rattle.py_data.specs.Looking.{kind_row, look_row}
use Rattle.py_data.specs.Row.{Row, Ret, bind}
use Rattle.obj_class.specs.declared.lookup.Found.{Found}
use Rattle.obj_class.specs.declared.lookup.Found.TheVariants.{Plain, Bound}
use Rattle.obj_class.specs.AttrRows.{attr_row, set_attr_row, del_attr_row, find_attr_row, missing_row}
use Rattle.obj_class.specs.Named.{method_of}
use Rattle.py_frames.specs.declared.next.Next.{Next}
use Rattle.py_frames.specs.declared.next.Next.TheVariants.{Goes}
use Rattle.py_frames.specs.Raising.{place_in, give, done}

-- LOAD_ATTR, by the number of the name among the roots
unfoldable pub loaded_attr : {S : Type 0} → ℕ → Value → ℕ → Row S Next
loaded_attr roots o name = bind (attr_row roots o name) (λ g. give roots g)

unfoldable pub load_attr_row : {S : Type 0} → ℕ → ℕ → Value → Row S Next
load_attr_row roots n o = bind (look_row roots n) (λ name. loaded_attr roots o (place_in name))

-- STORE_ATTR
unfoldable pub stored_attr : {S : Type 0} → ℕ → Value → Value → ℕ → Row S Next
stored_attr roots x o name = bind (set_attr_row o name x) (λ g. done roots g)

unfoldable pub store_attr_row : {S : Type 0} → ℕ → ℕ → Value → Value → Row S Next
store_attr_row roots n x o = bind (look_row roots n) (λ name. stored_attr roots x o (place_in name))

-- DEL_ATTR
unfoldable pub dropped_attr : {S : Type 0} → ℕ → Value → ℕ → Row S Next
dropped_attr roots o name = bind (del_attr_row o name) (λ g. done roots g)

unfoldable pub del_attr_instr : {S : Type 0} → ℕ → ℕ → Value → Row S Next
del_attr_instr roots n o = bind (look_row roots n) (λ name. dropped_attr roots o (place_in name))

-- LOAD_METHOD: what is bound and its object, or any other attribute and nothing
unfoldable pub missing_method : {S : Type 0} → ℕ → ℕ → Row S Next
missing_method roots name = bind (missing_row {A = Value} name) (λ g. give roots g)

unfoldable pub found_method : {S : Type 0} → ℕ → Value → ℕ → Option Found → Row S Next
found_method roots o name None = missing_method roots name
found_method roots o name (Some (Plain x)) = Ret (Goes (x ∷ Unset ∷ []))
found_method roots o name (Some (Bound f)) = Ret (Goes (f ∷ o ∷ []))

unfoldable pub loaded_method : {S : Type 0} → ℕ → Value → ℕ → Row S Next
loaded_method roots o name = bind (find_attr_row roots o name) (λ f. found_method roots o name f)

unfoldable pub attr_or_method : {S : Type 0} → ℕ → ℕ → Value → Row S Next
attr_or_method roots n o = bind (look_row roots n) (λ name. loaded_method roots o (place_in name))

-- the text of the name tells whether it is a builtin method of the object's kind; any other is found by its string
unfoldable pub method_or_attr : {S : Type 0} → ℕ → ℕ → Value → Option ℕ → Row S Next
method_or_attr roots n o (Some b) = Ret (Goes (Builtin b ∷ o ∷ []))
method_or_attr roots n o None = attr_or_method roots n o

unfoldable pub load_method_row : {S : Type 0} → ℕ → ℕ → List ℕ → Value → Row S Next
load_method_row roots n text (Ref a) = bind (kind_row a.0) (λ k. method_or_attr roots n (Ref a) (method_of k text))
load_method_row roots n text o = attr_or_method roots n o
