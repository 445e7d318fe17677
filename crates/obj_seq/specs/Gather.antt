-- The rows that gather all items of an object at once. States `docs/LANGUAGE.md`, "Iteration".
use Rattle.std.specs.Prelude.{◌≡◌, ℕ, zero, suc, ℤ, pos, negsuc, ◌+◌, ltb, cond, false, List, [], ◌∷◌, ◌++◌, Option, Some, None, Result, Ok, Err, refl}
use Rattle.py_data.specs.declared.value.Value.{Value}
use Rattle.py_data.specs.declared.value.Value.TheVariants.{Int, Ref}
use Rattle.py_base.specs.declared.kind.Kind.{Kind}
use Rattle.py_base.specs.declared.kind.Kind.TheVariants.{Str, Tuple, List as ListKind, Dict, Iter, Range}
use Rattle.py_data.specs.declared.record.Got.{Got}
use Rattle.py_data.specs.declared.record.Got.TheVariants.{Is, Raise}
use Rattle.py_data.specs.declared.record.TheConstants.{LENGTH_LIMIT}
use Rattle.py_data.specs.Heap.{Rec, new_rec}
use Rattle.py_data.specs.Row.{Row, Ret, Do, Read, Make, bind}
use Rattle.py_data.specs.Fault.{iterable_fault, memory_fault, size_fault}
use Rattle.py_data.specs.Looking.{walk_row}
use Rattle.py_data.specs.Range.{range_length, range_item}
use Rattle.obj_seq.specs.declared.span.Span.{Span}
use Rattle.obj_seq.specs.Iter.{next_row, span_of}

-- of each pair its key, in the order of the pairs
abbrev pub keys_of : List Value → List Value
keys_of [] = []
keys_of (k ∷ []) = []
keys_of (k ∷ x ∷ rest) = k ∷ keys_of rest

-- a new string of each byte, behind those that were made before
unfoldable pub letters_row : {S : Type 0} → List Value → List ℕ → Row S (Got (List Value))
letters_row made [] = Ret (Is made)
letters_row made (x ∷ xs) = Do (Make (new_rec Str [] (x ∷ [])))
    (λ b. letters_row (made ++ Ref (record { 0 = b }) ∷ []) xs)

-- the first so many numbers of a range
abbrev pub numbers : ℤ → ℤ → ℕ → List Value
numbers start step zero = []
numbers start step (suc n) = numbers start step n ++ Int (range_item start step n) ∷ []

-- the numbers of a range, unless there are more than a list may have
unfoldable pub numbers_row : {S : Type 0} → Option Span → Row S (Got (List Value))
numbers_row (Some s) =
    cond
    (ltb LENGTH_LIMIT (range_length s.start s.stop s.step))
    (Ret (Raise memory_fault))
    (Ret (Is (numbers s.start s.step (range_length s.start s.stop s.step))))
numbers_row None = Ret (Raise iterable_fault)

-- one more item of an iterator goes behind those that were taken; at its end these are the answer
abbrev pub taken : List Value → Got (Option Value) → Result (List Value) (Got (List Value))
taken xs (Is (Some x)) = Ok (xs ++ x ∷ [])
taken xs (Is None) = Err (Is xs)
taken xs (Raise e) = Err (Raise e)

abbrev pub take_row : {S : Type 0} → ℕ → List Value → Row S (Result (List Value) (Got (List Value)))
take_row it xs = bind (next_row it) (λ g. Ret (taken xs g))

-- what is left of an iterator, unless it gives more than a list may have
unfoldable pub left_row : {S : Type 0} → ℕ → Row S (Got (List Value))
left_row it = walk_row (take_row it) (Raise memory_fault) (LENGTH_LIMIT + 1) []

-- the items of a record by its kind
abbrev pub gather_as : {S : Type 0} → ℕ → Kind → List Value → List ℕ → Row S (Got (List Value))
gather_as a ListKind vs bs = Ret (Is vs)
gather_as a Tuple vs bs = Ret (Is vs)
gather_as a Dict vs bs = Ret (Is (keys_of vs))
gather_as a Str vs bs = letters_row [] bs
gather_as a Range vs bs = numbers_row (span_of vs)
gather_as a Iter vs bs = left_row a
gather_as a _ vs bs = Ret (Raise iterable_fault)

abbrev pub gather_of : {S : Type 0} → ℕ → Rec → Row S (Got (List Value))
gather_of a r = gather_as a r.kind r.values r.bytes

-- the items of a value
unfoldable pub gather_row : {S : Type 0} → Value → Row S (Got (List Value))
gather_row (Ref a) = Do (Read a.0) (gather_of a.0)
gather_row _ = Ret (Raise iterable_fault)

-- ---- worked rows

-- the keys of {1: 2, 3: 4}, the numbers of range(5, 0, -2)
one_and_three : keys_of (Int (pos 1) ∷ Int (pos 2) ∷ Int (pos 3) ∷ Int (pos 4) ∷ []) ≡ Int (pos 1) ∷ Int (pos 3) ∷ []
one_and_three = refl

five_three_one : numbers (pos 5) (negsuc 1) 3 ≡ Int (pos 5) ∷ Int (pos 3) ∷ Int (pos 1) ∷ []
five_three_one = refl

-- 'ab' is two new strings, in the order of its bytes
two_letters : letters_row {S = Unit {0}} [] (97 ∷ 98 ∷ []) ≡ Do (Make (new_rec Str [] (97 ∷ [])))
    (λ a. Do (Make (new_rec Str [] (98 ∷ []))) (λ b. Ret (Is (Ref (record { 0 = a }) ∷ Ref (record { 0 = b }) ∷ []))))
unfolding letters_row
two_letters = refl

-- a range of 1,048,576 numbers may be gathered, and one of 1,048,577 not
most_numbers : ltb LENGTH_LIMIT (range_length (pos 0) (pos 1_048_576) (pos 1)) ≡ false
most_numbers = refl

too_many_numbers : numbers_row {S = Unit {0}} (span_of (Int (pos 0) ∷ Int (pos 1_048_577) ∷ Int (pos 1) ∷ [])) ≡ Ret
    (Raise memory_fault)
unfolding numbers_row
too_many_numbers = refl

-- three numbers with a step of 0 are no range
no_span : span_of (Int (pos 1) ∷ Int (pos 5) ∷ Int (pos 0) ∷ []) ≡ None
no_span = refl

-- a turn over an iterator after 1: another item, the end, an exception
one_more : taken (Int (pos 1) ∷ []) (Is (Some (Int (pos 2)))) ≡ Ok (Int (pos 1) ∷ Int (pos 2) ∷ [])
one_more = refl

at_the_end : taken (Int (pos 1) ∷ []) (Is None) ≡ Err (Is (Int (pos 1) ∷ []))
at_the_end = refl

stopped_short : taken (Int (pos 1) ∷ []) (Raise size_fault) ≡ Err (Raise size_fault)
stopped_short = refl

-- a number can't be gone through
no_items : gather_row {S = Unit {0}} (Int (pos 5)) ≡ Ret (Raise iterable_fault)
unfolding gather_row
no_items = refl
