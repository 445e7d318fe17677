-- The rows of the methods of lists. States `docs/LANGUAGE.md`, "Methods of lists".
use Rattle.std.specs.Prelude.{ℕ, ℤ, pos, negsuc, ◌==◌, Bool, true, false, cond, ltb, List, length, Option, Some, None, codes}
use Rattle.py_base.specs.Numbers.{builtin_number, class_number}
use Rattle.py_data.specs.declared.value.Value.{Value}
use Rattle.py_data.specs.declared.value.Value.TheVariants.{None as NoneValue, Int}
use Rattle.py_data.specs.declared.change.Change.TheVariants as change
use Rattle.py_data.specs.declared.record.Fault.{Fault}
use Rattle.py_data.specs.declared.record.Got.{Got}
use Rattle.py_data.specs.declared.record.Got.TheVariants.{Is, Raise}
use Rattle.py_data.specs.declared.record.TheConstants.{LENGTH_LIMIT}
use Rattle.py_data.specs.Fault.{text_fault, memory_fault, operand_fault, argument_fault}
use Rattle.py_data.specs.Looking.{until_row, got_row, size_row, look_row}
use Rattle.py_data.specs.Row.{Row, Ret, Do, Edit, bind}
use Rattle.obj_seq.specs.Seq.{put_row, pop_row, insert_row, del_item_row, reverse_row}
use Rattle.obj_str.specs.Methods.{only}
use Rattle.obj_nest.specs.Equal.{equal_row}
use Rattle.obj_ops.specs.InPlace.{extended_row}
use Rattle.obj_ops.specs.Sequences.{values_row}
use Rattle.obj_methods.specs.Arguments.{only_number, number_and_value}
use Rattle.obj_methods.specs.Sorting.{sorted_row}

-- ---- answers

-- no item is equal to the value
abbrev pub lack_fault : Fault
lack_fault = text_fault (class_number (codes "ValueError")) (codes "not in list")

-- what is done gives None
abbrev pub done : {A : Type 0} → Got A → Got Value
done (Is a) = Is NoneValue
done (Raise e) = Raise e

-- ---- append

unfoldable pub append_to : {S : Type 0} → ℕ → Value → ℕ → Row S (Got Value)
append_to a x n = cond (ltb n LENGTH_LIMIT) (Do (Edit a (change.Push x)) (λ _. Ret (Is NoneValue)))
    (Ret (Raise memory_fault))

unfoldable pub append_row : {S : Type 0} → ℕ → Value → Row S (Got Value)
append_row a x = bind (size_row a) (append_to a x)

unfoldable pub append_with : {S : Type 0} → ℕ → Option Value → Row S (Got Value)
append_with a (Some x) = append_row a x
append_with a None = Ret (Raise argument_fault)

-- ---- pop

unfoldable pub pop_with : {S : Type 0} → ℕ → Option ℤ → Row S (Got Value)
pop_with a (Some i) = pop_row a i
pop_with a None = Ret (Raise argument_fault)

-- the last item, where there is no argument
unfoldable pub pop_by : {S : Type 0} → ℕ → List Value → Row S (Got Value)
pop_by a args = cond (length args == 0) (pop_row a (negsuc 0)) (pop_with a (only_number args))

-- ---- insert, extend

unfoldable pub insert_with : {S : Type 0} → ℕ → Option (ℤ × Value) → Row S (Got Value)
insert_with a (Some p) = bind (insert_row a p.0 p.1) (λ g. Ret (done g))
insert_with a None = Ret (Raise argument_fault)

unfoldable pub extend_with : {S : Type 0} → ℕ → Option Value → Row S (Got Value)
extend_with a (Some y) = bind (extended_row a y) (λ g. Ret (done g))
extend_with a None = Ret (Raise argument_fault)

-- ---- index, remove

-- the place of an item that is equal, and none where it isn't
abbrev pub place_if : ℕ → Got Bool → Got (Option ℤ)
place_if i (Is true) = Is (Some (pos i))
place_if i (Is false) = Is None
place_if i (Raise e) = Raise e

-- the item at a place, and then the value
unfoldable pub item_row : {S : Type 0} → Value → ℕ → ℕ → Row S (Got Bool)
item_row x a i = bind (look_row a i) (λ y. equal_row y x)

unfoldable pub place_row : {S : Type 0} → Value → ℕ → ℕ → Row S (Got (Option ℤ))
place_row x a i = bind (item_row x a i) (λ g. Ret (place_if i g))

-- the search goes on behind an item that isn't equal
abbrev pub goes_on : Got (Option ℤ) → Bool
goes_on (Is None) = true
goes_on _ = false

-- the first of n items that is equal
unfoldable pub first_of : {S : Type 0} → Value → ℕ → ℕ → Row S (Got (Option ℤ))
first_of x a n = until_row (place_row x a) goes_on (Is None) 0 n

unfoldable pub search_row : {S : Type 0} → ℕ → Value → Row S (Got (Option ℤ))
search_row a x = bind (size_row a) (first_of x a)

-- the place that was found
abbrev pub found : Got (Option ℤ) → Got Value
found (Is (Some i)) = Is (Int i)
found (Is None) = Raise lack_fault
found (Raise e) = Raise e

unfoldable pub index_with : {S : Type 0} → ℕ → Option Value → Row S (Got Value)
index_with a (Some x) = bind (search_row a x) (λ g. Ret (found g))
index_with a None = Ret (Raise argument_fault)

unfoldable pub remove_at : {S : Type 0} → ℕ → Option ℤ → Row S (Got Value)
remove_at a (Some i) = bind (del_item_row a i) (λ g. Ret (done g))
remove_at a None = Ret (Raise lack_fault)

unfoldable pub remove_row : {S : Type 0} → ℕ → Value → Row S (Got Value)
remove_row a x = bind (search_row a x) (got_row (remove_at a))

unfoldable pub remove_with : {S : Type 0} → ℕ → Option Value → Row S (Got Value)
remove_with a (Some x) = remove_row a x
remove_with a None = Ret (Raise argument_fault)

-- ---- reverse, sort

unfoldable pub reverse_by : {S : Type 0} → ℕ → List Value → Row S (Got Value)
reverse_by a args = cond (length args == 0) (bind (reverse_row a) (λ _. Ret (Is NoneValue)))
    (Ret (Raise argument_fault))

-- values in the places of the items
unfoldable pub put_all : {S : Type 0} → ℕ → List Value → Row S (Got Value)
put_all a vs = bind (put_row a 0 vs) (λ _. Ret (Is NoneValue))

unfoldable pub sort_items : {S : Type 0} → ℕ → List Value → Row S (Got Value)
sort_items a vs = bind (sorted_row vs) (got_row (put_all a))

-- all items are read and tested before any change
unfoldable pub sort_row : {S : Type 0} → ℕ → Row S (Got Value)
sort_row a = bind (values_row a) (sort_items a)

unfoldable pub sort_by : {S : Type 0} → ℕ → List Value → Row S (Got Value)
sort_by a args = cond (length args == 0) (sort_row a) (Ret (Raise argument_fault))

-- ---- the method of a number

-- TypeError, `unsupported operand`, for a number of no method of lists
unfoldable pub list_method_row : {S : Type 0} → ℕ → ℕ → List Value → Row S (Got Value)
list_method_row m a args =
    cond (m == builtin_number (codes "list.append")) (append_with a (only args))
    (cond (m == builtin_number (codes "list.pop")) (pop_by a args)
    (cond (m == builtin_number (codes "list.insert")) (insert_with a (number_and_value args))
    (cond (m == builtin_number (codes "list.extend")) (extend_with a (only args))
    (cond (m == builtin_number (codes "list.index")) (index_with a (only args))
    (cond (m == builtin_number (codes "list.remove")) (remove_with a (only args))
    (cond (m == builtin_number (codes "list.reverse")) (reverse_by a args)
    (cond (m == builtin_number (codes "list.sort")) (sort_by a args) (Ret (Raise operand_fault)))))))))
