-- The rows of items and slices. States `docs/LANGUAGE.md`, "Instructions", "Lists and tuples" and "Dictionaries".
use Rattle.std.specs.Prelude.{ℕ, ℤ, ◌-◌, List, length, take, drop, Option, Some, None}
use Rattle.py_base.specs.declared.kind.Kind.{Kind}
use Rattle.py_base.specs.declared.kind.Kind.TheVariants.{Str, Tuple, List as ListKind, Dict}
use Rattle.py_data.specs.declared.value.Value.{Value}
use Rattle.py_data.specs.declared.value.Value.TheVariants.{None as NoneValue, Ref}
use Rattle.py_data.specs.declared.record.Got.{Got}
use Rattle.py_data.specs.declared.record.Got.TheVariants.{Is, Raise}
use Rattle.py_data.specs.Comparing.{number_of}
use Rattle.py_data.specs.Fault.{index_fault, key_fault, operand_fault}
use Rattle.py_data.specs.Looking.{bytes_row, kind_row}
use Rattle.py_data.specs.Texts.{got_then}
use Rattle.py_data.specs.Row.{Row, Ret, bind}
use Rattle.obj_dict.specs.Dict.{get_row, set_row, del_row}
use Rattle.obj_seq.specs.Seq.{place, bound_or, item_row, set_item_row, del_item_row, slice_row}
use Rattle.obj_str.specs.Strings.{new_text}
use Rattle.py_frames.specs.declared.next.Next.{Next}
use Rattle.py_frames.specs.Raising.{give, done}

-- ---- LOAD_ITEM: an item of a list or a tuple and a byte of a string by an index, a value of a dictionary by a key

unfoldable pub byte_row : {S : Type 0} → List ℕ → Option ℕ → Row S (Got Value)
byte_row t (Some k) = new_text (take 1 (drop k t))
byte_row t None = Ret (Raise index_fault)

unfoldable pub byte_item_row : {S : Type 0} → ℕ → ℤ → Row S (Got Value)
byte_item_row a i = bind (bytes_row a) (λ t. byte_row t (place i (length t)))

-- an index of a string, and of a list or a tuple
unfoldable pub text_item : {S : Type 0} → ℕ → Option ℤ → Row S (Got Value)
text_item a (Some i) = byte_item_row a i
text_item a None = Ret (Raise operand_fault)

unfoldable pub list_item : {S : Type 0} → ℕ → Option ℤ → Row S (Got Value)
list_item a (Some i) = item_row a i
list_item a None = Ret (Raise operand_fault)

unfoldable pub value_or_key : Value → Got (Option Value) → Got Value
value_or_key key (Is (Some x)) = Is x
value_or_key key (Is None) = Raise (key_fault key)
value_or_key key (Raise e) = Raise e

unfoldable pub dict_item : {S : Type 0} → ℕ → Value → Row S (Got Value)
dict_item d key = bind (get_row d key) (λ g. Ret (value_or_key key g))

unfoldable pub item_by : {S : Type 0} → ℕ → Value → Kind → Row S (Got Value)
item_by a i Str = text_item a (number_of i)
item_by a i Tuple = list_item a (number_of i)
item_by a i ListKind = list_item a (number_of i)
item_by a i Dict = dict_item a i
item_by a i _ = Ret (Raise operand_fault)

unfoldable pub item_of : {S : Type 0} → Value → Value → Row S (Got Value)
item_of (Ref a) i = bind (kind_row a.0) (λ k. item_by a.0 i k)
item_of _ i = Ret (Raise operand_fault)

unfoldable pub load_item_row : {S : Type 0} → ℕ → Value → Value → Row S Next
load_item_row roots o i = bind (item_of o i) (λ g. give roots g)

-- ---- STORE_ITEM

unfoldable pub set_list_item : {S : Type 0} → ℕ → Value → Option ℤ → Row S (Got (Unit {0}))
set_list_item a x (Some i) = set_item_row a i x
set_list_item a x None = Ret (Raise operand_fault)

unfoldable pub set_by : {S : Type 0} → ℕ → Value → Value → Kind → Row S (Got (Unit {0}))
set_by a i x ListKind = set_list_item a x (number_of i)
set_by a i x Dict = set_row a i x
set_by a i x _ = Ret (Raise operand_fault)

unfoldable pub set_item : {S : Type 0} → Value → Value → Value → Row S (Got (Unit {0}))
set_item (Ref a) i x = bind (kind_row a.0) (λ k. set_by a.0 i x k)
set_item _ i x = Ret (Raise operand_fault)

unfoldable pub store_item_row : {S : Type 0} → ℕ → Value → Value → Value → Row S Next
store_item_row roots x o i = bind (set_item o i x) (λ g. done roots g)

-- ---- DEL_ITEM

unfoldable pub del_list_item : {S : Type 0} → ℕ → Option ℤ → Row S (Got (Unit {0}))
del_list_item a (Some i) = del_item_row a i
del_list_item a None = Ret (Raise operand_fault)

unfoldable pub del_key : {S : Type 0} → ℕ → Value → Row S (Got (Unit {0}))
del_key d key = bind (del_row d key) (λ g. Ret (got_then g (λ x. Is tt)))

unfoldable pub del_by : {S : Type 0} → ℕ → Value → Kind → Row S (Got (Unit {0}))
del_by a i ListKind = del_list_item a (number_of i)
del_by a i Dict = del_key a i
del_by a i _ = Ret (Raise operand_fault)

unfoldable pub del_item : {S : Type 0} → Value → Value → Row S (Got (Unit {0}))
del_item (Ref a) i = bind (kind_row a.0) (λ k. del_by a.0 i k)
del_item _ i = Ret (Raise operand_fault)

unfoldable pub del_item_instr : {S : Type 0} → ℕ → Value → Value → Row S Next
del_item_instr roots o i = bind (del_item o i) (λ g. done roots g)

-- ---- SLICE

-- a bound: a number, or None for the front or the end
abbrev pub bound_by : Option ℤ → Got (Option ℤ)
bound_by (Some i) = Is (Some i)
bound_by None = Raise operand_fault

abbrev pub bound_in : Value → Got (Option ℤ)
bound_in NoneValue = Is None
bound_in x = bound_by (number_of x)

abbrev pub bounds_in : Value → Value → Got (Option ℤ × Option ℤ)
bounds_in x y = got_then (bound_in x) (λ i. got_then (bound_in y) (λ j. Is (i, j)))

-- the bytes from one place up to another
abbrev pub bytes_part : List ℕ → ℕ → ℕ → List ℕ
bytes_part t i j = take (j - i) (drop i t)

unfoldable pub text_slice : {S : Type 0} → ℕ → Option ℤ → Option ℤ → Row S (Got Value)
text_slice a i j = bind (bytes_row a) (λ t.
    new_text (bytes_part t (bound_or i 0 (length t)) (bound_or j (length t) (length t))))

unfoldable pub slice_by : {S : Type 0} → ℕ → Option ℤ × Option ℤ → Kind → Row S (Got Value)
slice_by a b Str = text_slice a b.0 b.1
slice_by a b Tuple = slice_row a b.0 b.1
slice_by a b ListKind = slice_row a b.0 b.1
slice_by a b _ = Ret (Raise operand_fault)

unfoldable pub slice_at : {S : Type 0} → ℕ → Got (Option ℤ × Option ℤ) → Row S (Got Value)
slice_at a (Is b) = bind (kind_row a) (λ k. slice_by a b k)
slice_at a (Raise e) = Ret (Raise e)

unfoldable pub slice_of : {S : Type 0} → Value → Got (Option ℤ × Option ℤ) → Row S (Got Value)
slice_of (Ref a) b = slice_at a.0 b
slice_of _ b = Ret (Raise operand_fault)

unfoldable pub slice_instr : {S : Type 0} → ℕ → Value → Value → Value → Row S Next
slice_instr roots o i j = bind (slice_of o (bounds_in i j)) (λ g. give roots g)
