-- The rows of `list`, `tuple`, `dict` and `sorted`. States `docs/LANGUAGE.md`, "Builtins" and "Iteration".
use Rattle.std.specs.Prelude.{List, [], length, Option, Some, None}
use Rattle.py_base.specs.declared.kind.Kind.{Kind}
use Rattle.py_base.specs.declared.kind.Kind.TheVariants.{List as ListKind, Tuple, Dict}
use Rattle.py_data.specs.declared.value.Value.{Value}
use Rattle.py_data.specs.declared.record.Got.{Got}
use Rattle.py_data.specs.declared.record.Got.TheVariants.{Is, Raise}
use Rattle.py_data.specs.Fault.{argument_fault}
use Rattle.py_data.specs.Looking.{got_row}
use Rattle.py_data.specs.Row.{Row, Ret, bind}
use Rattle.obj_seq.specs.Gather.{gather_row}
use Rattle.obj_methods.specs.Sorting.{sorted_row}
use Rattle.obj_ops.specs.Sequences.{made_row, new_items}
use Rattle.obj_builtins.specs.declared.arguments.Few.{Few}
use Rattle.obj_builtins.specs.declared.arguments.Few.TheVariants.{Nothing, One, Many}
use Rattle.obj_builtins.specs.declared.arguments.Form.{Form}
use Rattle.obj_builtins.specs.declared.arguments.Form.TheVariants.{Items}
use Rattle.obj_builtins.specs.Arguments.{form_row}

-- a new record of these values; MemoryError where they are more than a record may have
unfoldable pub items_made : {S : Type 0} → Kind → List Value → Row S (Got Value)
items_made k vs = new_items k (length vs) vs

-- a new record of all items of a value
unfoldable pub gathered_row : {S : Type 0} → Kind → Value → Row S (Got Value)
gathered_row k x = bind (gather_row x) (got_row (items_made k))

-- ---- list

unfoldable pub list_row : {S : Type 0} → Few → Row S (Got Value)
list_row Nothing = made_row ListKind []
list_row (One x) = gathered_row ListKind x
list_row Many = Ret (Raise argument_fault)

-- ---- tuple

-- a tuple is its own
unfoldable pub tuple_of : {S : Type 0} → Value → Form → Row S (Got Value)
tuple_of x (Items a) = Ret (Is x)
tuple_of x f = gathered_row Tuple x

unfoldable pub tuple_alone : {S : Type 0} → Value → Row S (Got Value)
tuple_alone x = bind (form_row x) (λ f. tuple_of x f)

unfoldable pub tuple_row : {S : Type 0} → Few → Row S (Got Value)
tuple_row Nothing = made_row Tuple []
tuple_row (One x) = tuple_alone x
tuple_row Many = Ret (Raise argument_fault)

-- ---- dict

unfoldable pub dict_row : {S : Type 0} → Few → Row S (Got Value)
dict_row Nothing = made_row Dict []
dict_row _ = Ret (Raise argument_fault)

-- ---- sorted

unfoldable pub sorted_items : {S : Type 0} → List Value → Row S (Got Value)
sorted_items vs = bind (sorted_row vs) (got_row (items_made ListKind))

unfoldable pub sorted_alone : {S : Type 0} → Value → Row S (Got Value)
sorted_alone x = bind (gather_row x) (got_row sorted_items)

unfoldable pub sorted_by : {S : Type 0} → Option Value → Row S (Got Value)
sorted_by (Some x) = sorted_alone x
sorted_by None = Ret (Raise argument_fault)
