-- The rows of going through an object. States `docs/LANGUAGE.md`, "Iteration".
use Rattle.std.specs.Prelude.{ℕ, zero, ℤ, pos, ◌+◌, ◌*◌, ◌/◌, ◌==◌, Bool, true, false, List, [], ◌∷◌, length, slice_get, not, ltb, leb, cond, Option, Some, None}
use Rattle.py_data.specs.declared.value.Value.{Value}
use Rattle.py_data.specs.declared.value.Value.TheVariants.{Int, Ref}
use Rattle.py_base.specs.declared.kind.Kind.{Kind}
use Rattle.py_base.specs.declared.kind.Kind.TheVariants.{Str, Tuple, List as ListKind, Dict, Iter, Range}
use Rattle.py_data.specs.declared.record.Got.{Got}
use Rattle.py_data.specs.declared.record.Got.TheVariants.{Is, Raise}
use Rattle.obj_seq.specs.declared.advance.Parts.{Parts}
use Rattle.obj_seq.specs.declared.span.Span.{Span}
use Rattle.py_data.specs.Heap.{Rec, new_rec}
use Rattle.py_data.specs.declared.change.Change.TheVariants as change
use Rattle.py_data.specs.Row.{Row, Ret, Do, Read, Edit, Make}
use Rattle.py_data.specs.Fault.{iterable_fault, operand_fault, size_fault}
use Rattle.py_data.specs.Range.{range_length, range_item}

-- ---- what can be gone through

-- the values of a record that has three
abbrev pub three : List Value → Option (Value × Value × Value)
three (x ∷ y ∷ z ∷ []) = Some (x, y, z)
three _ = None

-- three whole numbers are those of a range
abbrev pub is_range : ℤ → ℤ → ℤ → Bool
is_range start stop (pos zero) = false
is_range start stop step = leb (range_length start stop step) 9_223_372_036_854_775_807

abbrev pub span_in : Option (Value × Value × Value) → Option Span
span_in (Some (Int start, Int stop, Int step)) =
    cond (is_range start stop step) (Some (record { start = start; stop = stop; step = step })) None
span_in _ = None

-- what a range's values say
abbrev pub span_of : List Value → Option Span
span_of vs = span_in (three vs)

-- how many numbers a range has
abbrev pub count_span : Option Span → Option ℕ
count_span (Some s) = Some (range_length s.start s.stop s.step)
count_span None = None

-- the length that an iterator over a record of a kind notes at its start: the number of its items, bytes or pairs
abbrev pub count_of : Kind → List Value → List ℕ → Option ℕ
count_of ListKind vs bs = Some (length vs)
count_of Tuple vs bs = Some (length vs)
count_of Str vs bs = Some (length bs)
count_of Dict vs bs = Some (length vs / 2)
count_of Range vs bs = count_span (span_of vs)
count_of _ vs bs = None

-- ---- make_iter

-- the values of a new iterator: what it goes over, its place, and the length at its start
abbrev pub iter_values : ℕ → ℕ → ℕ → List Value
iter_values a at count = Ref (record { 0 = a }) ∷ Int (pos at) ∷ Int (pos count) ∷ []

unfoldable pub make_iter_row : {S : Type 0} → ℕ → Option ℕ → Row S (Got Value)
make_iter_row a (Some n) = Do (Make (new_rec Iter (iter_values a 0 n) [])) (λ b. Ret (Is (Ref (record { 0 = b }))))
make_iter_row a None = Ret (Raise iterable_fault)

abbrev pub is_iter : Kind → Bool
is_iter Iter = true
is_iter _ = false

-- an iterator is its own
abbrev pub iter_of : {S : Type 0} → ℕ → Rec → Row S (Got Value)
iter_of a r = cond (is_iter r.kind) (Ret (Is (Ref (record { 0 = a }))))
    (make_iter_row a (count_of r.kind r.values r.bytes))

abbrev pub iter_row : {S : Type 0} → Value → Row S (Got Value)
iter_row (Ref a) = Do (Read a.0) (iter_of a.0)
iter_row _ = Ret (Raise iterable_fault)

-- ---- next

-- the number of a range at a place
abbrev pub number_in : Option Span → ℕ → Option Value
number_in (Some s) at = cond (ltb at (range_length s.start s.stop s.step)) (Some (Int (range_item s.start s.step at)))
    None
number_in None at = None

-- what a record of a kind has at a place: its item, the key of its pair, its number
abbrev pub pick : Kind → List Value → ℕ → Option Value
pick ListKind vs at = slice_get vs at
pick Tuple vs at = slice_get vs at
pick Dict vs at = slice_get vs (2 * at)
pick Range vs at = number_in (span_of vs) at
pick _ vs at = None

-- a dictionary that hasn't as many pairs as when it began to be gone through
abbrev pub has_changed : Kind → List Value → ℕ → Bool
has_changed Dict vs count = not (length vs / 2 == count)
has_changed _ vs count = false

-- the answer x, and the iterator goes on to the next place
abbrev pub go_on : {S : Type 0} → ℕ → ℕ → Value → Row S (Got (Option Value))
go_on it at x = Do (Edit it (change.Set 1 (Int (pos (at + 1))))) (λ _. Ret (Is (Some x)))

unfoldable pub go_or_end : {S : Type 0} → ℕ → ℕ → Option Value → Row S (Got (Option Value))
go_or_end it at (Some x) = go_on it at x
go_or_end it at None = Ret (Is None)

-- a new string of one byte
unfoldable pub byte_or_end : {S : Type 0} → ℕ → ℕ → Option ℕ → Row S (Got (Option Value))
byte_or_end it at (Some x) = Do (Make (new_rec Str [] (x ∷ []))) (λ b. go_or_end it at (Some (Ref (record { 0 = b }))))
byte_or_end it at None = Ret (Is None)

abbrev pub is_str : Kind → Bool
is_str Str = true
is_str _ = false

abbrev pub next_over : {S : Type 0} → ℕ → ℕ → ℕ → Rec → Row S (Got (Option Value))
next_over it at count r =
    cond
    (is_str r.kind)
    (byte_or_end it at (slice_get r.bytes at))
    (cond (has_changed r.kind r.values count) (Ret (Raise size_fault)) (go_or_end it at (pick r.kind r.values at)))

abbrev pub parts_in : Option (Value × Value × Value) → Option Parts
parts_in (Some (Ref a, Int (pos at), Int (pos count))) = Some (record { over = a; at = at; count = count })
parts_in _ = None

-- what an iterator's values say
abbrev pub parts_of : List Value → Option Parts
parts_of vs = parts_in (three vs)

unfoldable pub next_with : {S : Type 0} → ℕ → Option Parts → Row S (Got (Option Value))
next_with it (Some p) = Do (Read p.over.0) (next_over it p.at p.count)
next_with it None = Ret (Is None)

-- what a record says, if it is an iterator
abbrev pub iter_parts : Kind → List Value → Option (Option Parts)
iter_parts Iter vs = Some (parts_of vs)
iter_parts _ vs = None

-- what is no iterator doesn't go on
unfoldable pub next_by : {S : Type 0} → ℕ → Option (Option Parts) → Row S (Got (Option Value))
next_by it (Some o) = next_with it o
next_by it None = Ret (Raise operand_fault)

abbrev pub next_row : {S : Type 0} → ℕ → Row S (Got (Option Value))
next_row it = Do (Read it) (λ q. next_by it (iter_parts q.kind q.values))
