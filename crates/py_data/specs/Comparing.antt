-- Equality and order of values in a heap, by recursion on the values. States `docs/HEAP.md`, "Equality and order".
use Rattle.std.specs.Prelude.{ℕ, zero, suc, ◌+◌, ℤ, Bool, true, false, cond, ◌&&◌, List, [], ◌∷◌, length, eqb, Option, Some, None}
use Rattle.std.specs.declared.cmp.Ordering.{Ordering}
use Rattle.std.specs.declared.cmp.Ordering.TheVariants.{Less, Equal, Greater}
use Rattle.std.specs.Ordering.{int_cmp, nat_cmp, int_eq, ordering_then}
use Rattle.py_data.specs.declared.value.Value.{Value}
use Rattle.py_data.specs.declared.value.Value.TheVariants.{None as NoneValue, Bool as BoolValue, Int, Ref, Builtin}
use Rattle.py_base.specs.declared.kind.Kind.{Kind}
use Rattle.py_base.specs.declared.kind.Kind.TheVariants.{Str, Tuple, List as ListKind, Dict, Method}
use Rattle.py_data.specs.declared.record.Got.{Got}
use Rattle.py_data.specs.declared.record.Got.TheVariants.{Is, Raise}
use Rattle.py_data.specs.Fault.{depth_fault, operand_fault}
use Rattle.py_data.specs.Heap.{Rec, Heap, at, value_at}
use Rattle.py_data.specs.Shape.{bit, same_key, find}

-- how many levels of lists, tuples and dictionaries may stand in one another
abbrev pub DEPTH_LIMIT : ℕ
DEPTH_LIMIT = 100

-- what compares the parts of a container; none, where no level is left
abbrev pub Under : Type 0 → Type 0
Under A = Option (Value → Value → Got A)

-- the parts are compared, where a level is left
abbrev pub one_level : {A : Type 0} → Under A → ((Value → Value → Got A) → Got A) → Got A
one_level None f = Raise depth_fault
one_level (Some u) f = f u

-- ---- identity

-- whether two values are the same one, as `is` has it: None, truth values, integers and builtins by type and value,
-- others by address
abbrev pub is_same : Value → Value → Bool
is_same NoneValue NoneValue = true
is_same (BoolValue b) (BoolValue c) = int_eq (bit b) (bit c)
is_same (Int i) (Int j) = int_eq i j
is_same (Builtin i) (Builtin j) = eqb i j
is_same (Ref a) (Ref b) = eqb a.0 b.0
is_same _ _ = false

-- ---- equality

-- the first of two answers decides, where it isn't "equal"
abbrev pub and_then : Got Bool → Got Bool → Got Bool
and_then (Is true) next = next
and_then first next = first

-- item by item, of lists of one length
abbrev pub equal_items : (Value → Value → Got Bool) → List Value → List Value → Got Bool
equal_items u (x ∷ xs) (y ∷ ys) = and_then (u x y) (equal_items u xs ys)
equal_items u _ _ = Is true

-- a value, and that of the pair of this number, if there is one
abbrev pub equal_found : (Value → Value → Got Bool) → List Value → Value → Option ℕ → Got Bool
equal_found u ys x None = Is false
equal_found u ys x (Some i) = u x (value_at ys (i + (i + 1)))

-- the value of each key is that of the same key of the other dictionary, of as many pairs; in the order of the first
-- one
abbrev pub equal_pairs : Heap → (Value → Value → Got Bool) → List Value → List Value → Got Bool
equal_pairs h u (k ∷ x ∷ rest) ys = and_then (equal_found u ys x (find h ys k)) (equal_pairs h u rest ys)
equal_pairs h u _ ys = Is true

-- lengths that differ decide alone
abbrev pub of_one_length : List Value → List Value → Got Bool → Got Bool
of_one_length xs ys same = cond (eqb (length xs) (length ys)) same (Is false)

-- two records of these kinds; `otherwise` is the answer by what they are as keys
abbrev pub equal_kinds : Heap → Under Bool → Bool → Kind → Kind → List Value → List Value → Got Bool
equal_kinds h under otherwise Tuple Tuple xs ys = one_level under (λ u. of_one_length xs ys (equal_items u xs ys))
equal_kinds h under otherwise ListKind ListKind xs ys = one_level under (λ u. of_one_length xs ys (equal_items u xs ys))
equal_kinds h under otherwise Dict Dict xs ys = one_level under (λ u. of_one_length xs ys (equal_pairs h u xs ys))
equal_kinds h under otherwise Method Method xs ys =
    Is (is_same (value_at xs 0) (value_at ys 0) && is_same (value_at xs 1) (value_at ys 1))
equal_kinds h under otherwise _ _ xs ys = Is otherwise

abbrev pub equal_by : Heap → Under Bool → Value → Value → Got Bool
equal_by h under (Ref a) (Ref b) = equal_kinds h under (same_key h (Ref a) (Ref b)) (at h a.0).kind (at h b.0).kind
    (at h a.0).values (at h b.0).values
equal_by h under x y = Is (same_key h x y)

-- with so many levels left
unfoldable pub equal_within : Heap → ℕ → Value → Value → Got Bool
equal_within h zero x y = equal_by h None x y
equal_within h (suc d) x y = equal_by h (Some (equal_within h d)) x y

-- whether two values are equal; RuntimeError, where they are nested deeper than 100 levels up to what decides
abbrev pub equal : Heap → Value → Value → Got Bool
equal h x y = equal_within h DEPTH_LIMIT x y

-- ---- order

-- the number that a value is, if it is one
abbrev pub number_of : Value → Option ℤ
number_of (Int i) = Some i
number_of (BoolValue b) = Some (bit b)
number_of _ = None

abbrev pub order_bytes : List ℕ → List ℕ → Ordering
order_bytes [] [] = Equal
order_bytes [] (y ∷ ys) = Less
order_bytes (x ∷ xs) [] = Greater
order_bytes (x ∷ xs) (y ∷ ys) = ordering_then (nat_cmp x y) (order_bytes xs ys)

-- of two items that are equal, what follows them decides; of others, their order
abbrev pub order_then : Got Bool → Got Ordering → Got Ordering → Got Ordering
order_then (Is true) here next = next
order_then (Is false) here next = here
order_then (Raise fault) here next = Raise fault

-- the first items that are unequal decide by their order; where there are none, the shorter comes first
abbrev pub order_items : (Value → Value → Got Bool) → (Value → Value → Got Ordering) → List Value → List Value →
    Got Ordering
order_items same u [] [] = Is Equal
order_items same u [] (y ∷ ys) = Is Less
order_items same u (x ∷ xs) [] = Is Greater
order_items same u (x ∷ xs) (y ∷ ys) = order_then (same x y) (u x y) (order_items same u xs ys)

abbrev pub order_numbers : Option ℤ → Option ℤ → Got Ordering
order_numbers (Some i) (Some j) = Is (int_cmp i j)
order_numbers _ _ = Raise operand_fault

-- by how two lists of items are ordered
abbrev pub order_records : (List Value → List Value → Got Ordering) → Kind → Kind → Rec → Rec → Got Ordering
order_records items Str Str r s = Is (order_bytes r.bytes s.bytes)
order_records items Tuple Tuple r s = items r.values s.values
order_records items ListKind ListKind r s = items r.values s.values
order_records items _ _ r s = Raise operand_fault

abbrev pub order_by : Heap → (List Value → List Value → Got Ordering) → Value → Value → Got Ordering
order_by h items (Ref a) (Ref b) = order_records items (at h a.0).kind (at h b.0).kind (at h a.0) (at h b.0)
order_by h items x y = order_numbers (number_of x) (number_of y)

-- with so many levels left
unfoldable pub order_within : Heap → ℕ → Value → Value → Got Ordering
order_within h zero x y = order_by h (λ xs ys. Raise depth_fault) x y
order_within h (suc d) x y = order_by h (order_items (equal_within h d) (order_within h d)) x y

-- Which of two values comes first: of numbers, of strings by their bytes, of two lists or two tuples by their first
-- unequal items. Others have no order (TypeError), and RuntimeError comes where they are nested deeper than 100 levels
-- up to what decides.
abbrev pub order : Heap → Value → Value → Got Ordering
order h x y = order_within h DEPTH_LIMIT x y
