-- The row of `sum`. States `docs/LANGUAGE.md`, "Builtins".
use Rattle.std.specs.Prelude.{ℤ, pos, ◌+ℤ◌, cond, List, [], ◌∷◌, Option, Some, None}
use Rattle.py_data.specs.declared.value.Value.{Value}
use Rattle.py_data.specs.declared.value.Value.TheVariants.{Int}
use Rattle.py_data.specs.declared.record.Got.{Got}
use Rattle.py_data.specs.declared.record.Got.TheVariants.{Is, Raise}
use Rattle.py_data.specs.Comparing.{number_of}
use Rattle.py_data.specs.Fault.{operand_fault, argument_fault}
use Rattle.py_data.specs.Looking.{got_row}
use Rattle.py_data.specs.Row.{Row, Ret, bind}
use Rattle.py_data.specs.Texts.{got_then}
use Rattle.obj_ops.specs.Numbers.{is_narrow, overflow_fault}
use Rattle.obj_seq.specs.Gather.{gather_row}

-- a number, where 64 bits hold it
unfoldable pub held : ℤ → Got ℤ
held z = cond (is_narrow z) (Is z) (Raise overflow_fault)

-- an item behind the sum so far, which has to be a number
unfoldable pub added : ℤ → Option ℤ → Got ℤ
added n (Some i) = held (n +ℤ i)
added n None = Raise operand_fault

-- each item added to the sum so far, from the left
unfoldable pub summed : ℤ → List Value → Got ℤ
summed n [] = Is n
summed n (x ∷ xs) = got_then (added n (number_of x)) (λ m. summed m xs)

abbrev pub sum_value : List Value → Got Value
sum_value vs = got_then (summed (pos 0) vs) (λ n. Is (Int n))

unfoldable pub sum_items : {S : Type 0} → List Value → Row S (Got Value)
sum_items vs = Ret (sum_value vs)

unfoldable pub sum_alone : {S : Type 0} → Value → Row S (Got Value)
sum_alone x = bind (gather_row x) (got_row sum_items)

unfoldable pub sum_row : {S : Type 0} → Option Value → Row S (Got Value)
sum_row (Some x) = sum_alone x
sum_row None = Ret (Raise argument_fault)
