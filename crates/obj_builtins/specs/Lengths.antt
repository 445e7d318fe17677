-- The row of `len`. States `docs/LANGUAGE.md`, "Builtins".
use Rattle.std.specs.Prelude.{ℕ, ℤ, pos, ◌/◌, Bool, cond, leb, length, Option, Some, None}
use Rattle.std.specs.Ordering.{int_eq}
use Rattle.py_base.specs.declared.kind.Kind.{Kind}
use Rattle.py_base.specs.declared.kind.Kind.TheVariants.{Str, Tuple, List as ListKind, Dict, Range}
use Rattle.py_data.specs.declared.value.Value.{Value}
use Rattle.py_data.specs.declared.value.Value.TheVariants.{Int, Ref}
use Rattle.py_data.specs.declared.record.Got.{Got}
use Rattle.py_data.specs.declared.record.Got.TheVariants.{Is, Raise}
use Rattle.py_data.specs.Fault.{argument_fault}
use Rattle.py_data.specs.Looking.{kind_row, size_row, look_row}
use Rattle.py_data.specs.Range.{range_length}
use Rattle.py_data.specs.Row.{Row, Ret, Do, Read, bind}

-- ---- ranges

-- as many numbers as 63 bits count
abbrev pub is_counted : ℕ → Bool
is_counted n = leb n 9_223_372_036_854_775_807

-- how many numbers a range has; none, where its step is 0 or they are more than 63 bits count
abbrev pub number_count : ℤ → ℤ → ℤ → Option ℤ
number_count start stop step = cond (int_eq step (pos 0)) None
    (cond (is_counted (range_length start stop step)) (Some (pos (range_length start stop step))) None)

-- of the three values of a range
abbrev pub range_count : Value → Value → Value → Option ℤ
range_count (Int start) (Int stop) (Int step) = number_count start stop step
range_count x y z = None

-- a count as a value
abbrev pub counted : Option ℤ → Got Value
counted (Some n) = Is (Int n)
counted None = Raise argument_fault

unfoldable pub step_count : {S : Type 0} → ℕ → Value → Value → Row S (Got Value)
step_count a start stop = bind (look_row a 2) (λ step. Ret (counted (range_count start stop step)))

unfoldable pub stop_count : {S : Type 0} → ℕ → Value → Row S (Got Value)
stop_count a start = bind (look_row a 1) (λ stop. step_count a start stop)

unfoldable pub numbers_length : {S : Type 0} → ℕ → Row S (Got Value)
numbers_length a = bind (look_row a 0) (λ start. stop_count a start)

-- ---- other records

-- how many bytes a record has
unfoldable pub byte_count : {S : Type 0} → ℕ → Row S ℕ
byte_count a = Do (Read a) (λ r. Ret (length r.bytes))

unfoldable pub bytes_length : {S : Type 0} → ℕ → Row S (Got Value)
bytes_length a = bind (byte_count a) (λ n. Ret (Is (Int (pos n))))

unfoldable pub items_length : {S : Type 0} → ℕ → Row S (Got Value)
items_length a = bind (size_row a) (λ n. Ret (Is (Int (pos n))))

-- a pair is two values
unfoldable pub pairs_length : {S : Type 0} → ℕ → Row S (Got Value)
pairs_length a = bind (size_row a) (λ n. Ret (Is (Int (pos (n / 2)))))

-- ---- the function

-- the bytes of a string, the items of a tuple or list, the pairs of a dictionary, the numbers of a range
unfoldable pub length_by : {S : Type 0} → ℕ → Kind → Row S (Got Value)
length_by a Str = bytes_length a
length_by a Tuple = items_length a
length_by a ListKind = items_length a
length_by a Dict = pairs_length a
length_by a Range = numbers_length a
length_by a _ = Ret (Raise argument_fault)

unfoldable pub length_at : {S : Type 0} → ℕ → Row S (Got Value)
length_at a = bind (kind_row a) (λ k. length_by a k)

unfoldable pub length_row : {S : Type 0} → Value → Row S (Got Value)
length_row (Ref a) = length_at a.0
length_row _ = Ret (Raise argument_fault)

-- of one argument
unfoldable pub len_row : {S : Type 0} → Option Value → Row S (Got Value)
len_row (Some x) = length_row x
len_row None = Ret (Raise argument_fault)
