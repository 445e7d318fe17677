-- The rows of the methods of strings. States `docs/LANGUAGE.md`, "Methods of strings".
use Rattle.std.specs.Prelude.{ℕ, pos, negsuc, ◌==◌, Bool, true, false, cond, leb, List, [], ◌∷◌, ◌++◌, length, Option, Some, None, codes}
use Rattle.py_base.specs.Numbers.{builtin_number, class_number}
use Rattle.py_base.specs.declared.kind.Kind.TheVariants.{List as ListKind, Str}
use Rattle.py_data.specs.declared.value.Value.{Value}
use Rattle.py_data.specs.declared.value.Value.TheVariants.{None as NoneValue, Bool as BoolValue, Int, Ref}
use Rattle.py_data.specs.declared.record.Fault.{Fault}
use Rattle.py_data.specs.declared.record.Got.{Got}
use Rattle.py_data.specs.declared.record.Got.TheVariants.{Is, Raise}
use Rattle.py_data.specs.declared.record.TheConstants.{LENGTH_LIMIT}
use Rattle.py_data.specs.Fault.{text_fault, memory_fault, operand_fault, argument_fault}
use Rattle.py_data.specs.Heap.{Rec, new_rec}
use Rattle.py_data.specs.Looking.{bytes_row, got_row}
use Rattle.py_data.specs.Row.{Row, Ret, Do, Read, Make, bind}
use Rattle.obj_seq.specs.Gather.{gather_row}
use Rattle.obj_seq.specs.Iter.{is_str}
use Rattle.obj_str.specs.Cutting.{pieces_of}
use Rattle.obj_str.specs.Pieces.{begins, ends, find, joined, has_bytes, strip, upper, lower, replaced}
use Rattle.obj_str.specs.Strings.{new_text}

-- ---- what is raised

-- a text can't be cut at nothing
abbrev pub separator_fault : Fault
separator_fault = text_fault (class_number (codes "ValueError")) (codes "empty separator")

-- ---- arguments

-- the one argument
abbrev pub only : List Value → Option Value
only [] = None
only (x ∷ []) = Some x
only (x ∷ y ∷ zs) = None

-- the two arguments
abbrev pub both : List Value → Option (Value × Value)
both [] = None
both (x ∷ []) = None
both (x ∷ y ∷ []) = Some (x, y)
both (x ∷ y ∷ z ∷ zs) = None

-- the bytes of a record that is a string
abbrev pub text_in : {S : Type 0} → Rec → Row S (Got (List ℕ))
text_in r = cond (is_str r.kind) (Ret (Is r.bytes)) (Ret (Raise argument_fault))

unfoldable pub text_at : {S : Type 0} → ℕ → Row S (Got (List ℕ))
text_at a = Do (Read a) text_in

-- the bytes of a value that is a string
unfoldable pub text_item : {S : Type 0} → Value → Row S (Got (List ℕ))
text_item (Ref a) = text_at a.0
text_item _ = Ret (Raise argument_fault)

-- ---- join

-- the texts of values, in their order, behind those that were read; and then what is done with all
unfoldable pub texts_then : {S : Type 0} → (List (List ℕ) → Row S (Got Value)) → List Value → List (List ℕ) →
    Row S (Got Value)
texts_then k [] ps = k ps
texts_then k (x ∷ xs) ps = bind (text_item x) (got_row (λ p. texts_then k xs (ps ++ p ∷ [])))

-- the texts of values with a separator between each two
abbrev pub texts_row : {S : Type 0} → List ℕ → List Value → Row S (Got Value)
texts_row sep vs = texts_then (λ ps. new_text (joined sep ps)) vs []

unfoldable pub items_row : {S : Type 0} → ℕ → List Value → Row S (Got Value)
items_row a vs = bind (bytes_row a) (λ sep. texts_row sep vs)

unfoldable pub join_with : {S : Type 0} → ℕ → Option Value → Row S (Got Value)
join_with a (Some x) = bind (gather_row x) (got_row (items_row a))
join_with a None = Ret (Raise argument_fault)

-- ---- split

-- a new string of a piece
unfoldable pub piece_row : {S : Type 0} → List ℕ → Row S Value
piece_row p = Do (Make (new_rec Str [] p)) (λ a. Ret (Ref (record { 0 = a })))

-- new strings of pieces, in their order, behind those that were made; and then what is done with all
unfoldable pub strings_then : {S : Type 0} → (List Value → Row S (Got Value)) → List (List ℕ) → List Value →
    Row S (Got Value)
strings_then k [] vs = k vs
strings_then k (p ∷ ps) vs = bind (piece_row p) (λ x. strings_then k ps (vs ++ x ∷ []))

-- a new list of values
unfoldable pub new_list : {S : Type 0} → List Value → Row S (Got Value)
new_list vs = Do (Make (new_rec ListKind vs [])) (λ a. Ret (Is (Ref (record { 0 = a }))))

-- a new list of new strings; MemoryError, before anything is made, where they are more than a list may have
unfoldable pub list_row : {S : Type 0} → List (List ℕ) → Row S (Got Value)
list_row ps = cond (leb (length ps) LENGTH_LIMIT) (strings_then new_list ps []) (Ret (Raise memory_fault))

-- the pieces at a separator, or, without one, at runs of blanks
unfoldable pub cut_row : {S : Type 0} → ℕ → Option (List ℕ) → Row S (Got Value)
cut_row a sep = bind (bytes_row a) (λ bs. list_row (pieces_of sep bs))

unfoldable pub cut_at : {S : Type 0} → ℕ → List ℕ → Row S (Got Value)
cut_at a sep = cond (has_bytes sep) (cut_row a (Some sep)) (Ret (Raise separator_fault))

abbrev pub is_none : Value → Bool
is_none NoneValue = true
is_none _ = false

-- None as a separator is none
unfoldable pub split_at : {S : Type 0} → ℕ → Value → Row S (Got Value)
split_at a x = cond (is_none x) (cut_row a None) (bind (text_item x) (got_row (cut_at a)))

unfoldable pub split_with : {S : Type 0} → ℕ → Option Value → Row S (Got Value)
split_with a (Some x) = split_at a x
split_with a None = Ret (Raise argument_fault)

abbrev pub split_row : {S : Type 0} → ℕ → List Value → Row S (Got Value)
split_row a args = cond (length args == 0) (cut_row a None) (split_with a (only args))

-- ---- methods without arguments: a new string made of the object's bytes

unfoldable pub bare_row : {S : Type 0} → (List ℕ → List ℕ) → ℕ → List Value → Row S (Got Value)
bare_row f a args = cond (length args == 0) (bind (bytes_row a) (λ bs. new_text (f bs))) (Ret (Raise argument_fault))

-- ---- methods with a part as their argument: a value that the object's bytes and the part's give

unfoldable pub part_in : {S : Type 0} → (List ℕ → List ℕ → Value) → ℕ → List ℕ → Row S (Got Value)
part_in f a part = bind (bytes_row a) (λ bs. Ret (Is (f bs part)))

unfoldable pub part_with : {S : Type 0} → (List ℕ → List ℕ → Value) → ℕ → Option Value → Row S (Got Value)
part_with f a (Some x) = bind (text_item x) (got_row (part_in f a))
part_with f a None = Ret (Raise argument_fault)

abbrev pub begins_value : List ℕ → List ℕ → Value
begins_value bs part = BoolValue (begins part bs)

abbrev pub ends_value : List ℕ → List ℕ → Value
ends_value bs part = BoolValue (ends part bs)

-- a place, and -1 for none
abbrev pub place_value : Option ℕ → Value
place_value (Some k) = Int (pos k)
place_value None = Int (negsuc 0)

abbrev pub find_value : List ℕ → List ℕ → Value
find_value bs part = place_value (find bs part)

-- ---- replace

unfoldable pub replace_in : {S : Type 0} → ℕ → List ℕ → List ℕ → Row S (Got Value)
replace_in a old new = bind (bytes_row a) (λ bs. new_text (replaced old new bs))

unfoldable pub replace_by : {S : Type 0} → ℕ → Value → List ℕ → Row S (Got Value)
replace_by a y old = bind (text_item y) (got_row (replace_in a old))

unfoldable pub replace_with : {S : Type 0} → ℕ → Option (Value × Value) → Row S (Got Value)
replace_with a (Some p) = bind (text_item p.0) (got_row (replace_by a p.1))
replace_with a None = Ret (Raise argument_fault)

-- ---- the method of a number

-- TypeError, `unsupported operand`, for a number of no method of strings
unfoldable pub method_row : {S : Type 0} → ℕ → ℕ → List Value → Row S (Got Value)
method_row m a args =
    cond (m == builtin_number (codes "str.join")) (join_with a (only args))
    (cond (m == builtin_number (codes "str.split")) (split_row a args)
    (cond (m == builtin_number (codes "str.strip")) (bare_row strip a args)
    (cond (m == builtin_number (codes "str.upper")) (bare_row upper a args)
    (cond (m == builtin_number (codes "str.lower")) (bare_row lower a args)
    (cond (m == builtin_number (codes "str.startswith")) (part_with begins_value a (only args))
    (cond (m == builtin_number (codes "str.endswith")) (part_with ends_value a (only args))
    (cond (m == builtin_number (codes "str.find")) (part_with find_value a (only args))
    (cond (m == builtin_number (codes "str.replace")) (replace_with a (both args)) (Ret (Raise operand_fault))))))))))
