-- Whether a value is in another. States `docs/LANGUAGE.md`, "Operators on sequences".
use Rattle.std.specs.Prelude.{ℕ, zero, suc, ℤ, pos, negsuc, ◌-ℤ◌, ◌%◌, ◌==◌, Bool, true, false, ◌&&◌, List, [], ◌∷◌, Option, Some, is_some, int_lt}
use Rattle.py_base.specs.declared.kind.Kind.{Kind}
use Rattle.py_base.specs.declared.kind.Kind.TheVariants.{Str, Tuple, List as ListKind, Dict, Range}
use Rattle.py_data.specs.declared.value.Addr.{Addr}
use Rattle.py_data.specs.declared.value.Value.{Value}
use Rattle.py_data.specs.declared.value.Value.TheVariants.{Int, Ref}
use Rattle.py_data.specs.declared.record.Got.{Got}
use Rattle.py_data.specs.declared.record.Got.TheVariants.{Is, Raise}
use Rattle.py_data.specs.Fault.{operand_fault}
use Rattle.py_data.specs.Comparing.{number_of}
use Rattle.py_data.specs.Texts.{got_then}
use Rattle.py_data.specs.Row.{Row, Ret, Do, Read, bind}
use Rattle.py_data.specs.Looking.{until_row, size_row, look_row, bytes_row}
use Rattle.obj_dict.specs.Dict.{get_row}
use Rattle.obj_str.specs.Pieces.{find}
use Rattle.obj_nest.specs.Equal.{equal_row}
use Rattle.obj_ops.specs.declared.operand.Operand.{Operand}
use Rattle.obj_ops.specs.declared.operand.Operand.TheVariants.{Text}
use Rattle.obj_ops.specs.declared.contain.Container.{Container}
use Rattle.obj_ops.specs.declared.contain.Container.TheVariants.{Items, Pairs, Bytes, Numbers, Nothing}
use Rattle.obj_ops.specs.Operands.{operand_row}
use Rattle.obj_ops.specs.Sequences.{values_row}

-- what can be looked into, by its kind
abbrev pub container_of : Kind → Addr → Container
container_of Str a = Bytes a
container_of Tuple a = Items a
container_of ListKind a = Items a
container_of Dict a = Pairs a
container_of Range a = Numbers a
container_of _ a = Nothing

unfoldable pub container_row : {S : Type 0} → Value → Row S Container
container_row (Ref a) = Do (Read a.0) (λ r. Ret (container_of r.kind a))
container_row _ = Ret Nothing

-- ---- items

-- the item at a place is equal
unfoldable pub item_row : {S : Type 0} → Value → ℕ → ℕ → Row S (Got Bool)
item_row x a i = bind (look_row a i) (equal_row x)

-- the search goes on behind an item that isn't
abbrev pub goes_on : Got Bool → Bool
goes_on (Is false) = true
goes_on _ = false

-- of n items, from the first on
unfoldable pub items_row : {S : Type 0} → Value → ℕ → ℕ → Row S (Got Bool)
items_row x a n = until_row (item_row x a) goes_on (Is false) 0 n

-- ---- strings

unfoldable pub part_row : {S : Type 0} → ℕ → List ℕ → Row S (Got Bool)
part_row a part = bind (bytes_row a) (λ bs. Ret (Is (is_some (find bs part))))

-- only a string is looked for in a string
unfoldable pub text_in_row : {S : Type 0} → ℕ → Operand → Row S (Got Bool)
text_in_row a (Text p) = bind (bytes_row p.0) (part_row a)
text_in_row a _ = Ret (Raise operand_fault)

-- ---- ranges

-- whole steps of this length make up the way
abbrev pub reaches : ℤ → ℕ → Bool
reaches (pos way) step = way % step == 0
reaches (negsuc way) step = false

-- some whole steps lead from the start to the number, which is before the stop; a step of 0 leads nowhere
abbrev pub is_between : ℤ → ℤ → ℤ → ℤ → Bool
is_between start stop (pos zero) i = false
is_between start stop (pos (suc step)) i = int_lt i stop && reaches (i -ℤ start) (suc step)
is_between start stop (negsuc step) i = int_lt stop i && reaches (start -ℤ i) (suc step)

abbrev pub is_among : List Value → Option ℤ → Bool
is_among (Int start ∷ Int stop ∷ Int step ∷ []) (Some i) = is_between start stop step i
is_among _ _ = false

-- ---- all

-- a key is there
abbrev pub is_key_there : Got (Option Value) → Got Bool
is_key_there g = got_then g (λ o. Is (is_some o))

unfoldable pub contained_row : {S : Type 0} → Value → Container → Row S (Got Bool)
contained_row x (Items a) = bind (size_row a.0) (items_row x a.0)
contained_row x (Pairs a) = bind (get_row a.0 x) (λ g. Ret (is_key_there g))
contained_row x (Bytes a) = bind (operand_row x) (text_in_row a.0)
contained_row x (Numbers a) = bind (values_row a.0) (λ vs. Ret (Is (is_among vs (number_of x))))
contained_row x Nothing = Ret (Raise operand_fault)

unfoldable pub contains_row : {S : Type 0} → Value → Value → Row S (Got Bool)
contains_row x y = bind (container_row y) (contained_row x)
