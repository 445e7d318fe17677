-- The rows of `min` and `max`. States `docs/LANGUAGE.md`, "Builtins".
use Rattle.std.specs.Prelude.{Bool, cond, List, [], ◌∷◌, length, codes}
use Rattle.std.specs.declared.cmp.Ordering.{Ordering}
use Rattle.py_base.specs.Numbers.{class_number}
use Rattle.py_data.specs.declared.value.Value.{Value}
use Rattle.py_data.specs.declared.record.Fault.{Fault}
use Rattle.py_data.specs.declared.record.Got.{Got}
use Rattle.py_data.specs.declared.record.Got.TheVariants.{Is, Raise}
use Rattle.py_data.specs.Fault.{text_fault, argument_fault}
use Rattle.py_data.specs.Heap.{value_at}
use Rattle.py_data.specs.Looking.{each_row, got_row}
use Rattle.py_data.specs.Row.{Row, Ret, bind}
use Rattle.py_data.specs.Texts.{got_then}
use Rattle.obj_nest.specs.Ordering.{order_row}
use Rattle.obj_ops.specs.Compare.{is_below, is_above}
use Rattle.obj_seq.specs.Gather.{gather_row}
use Rattle.obj_builtins.specs.declared.best.Side.{Side}
use Rattle.obj_builtins.specs.declared.best.Side.TheVariants.{Least, Greatest}
use Rattle.obj_builtins.specs.declared.arguments.Few.{Few}
use Rattle.obj_builtins.specs.declared.arguments.Few.TheVariants.{Nothing, One, Many}
use Rattle.obj_builtins.specs.Arguments.{few}

-- nothing is the least of no values
abbrev pub sequence_fault : Fault
sequence_fault = text_fault (class_number (codes "ValueError")) (codes "empty sequence")

-- a later value takes the place of the best so far only where it is less, or greater
abbrev pub is_better : Side → Ordering → Bool
is_better Least o = is_below o
is_better Greatest o = is_above o

-- the better of the best so far and a later value, by their order
abbrev pub better : Side → Value → Value → Got Ordering → Got Value
better side best x g = got_then g (λ o. Is (cond (is_better side o) x best))

unfoldable pub better_row : {S : Type 0} → Side → Value → Value → Row S (Got Value)
better_row side x best = bind (order_row x best) (λ g. Ret (better side best x g))

-- the best of a value and those behind it, from the left
unfoldable pub best_from : {S : Type 0} → Side → Value → List Value → Row S (Got Value)
best_from side first vs = each_row (λ i best. better_row side (value_at vs i) best) 0 (length vs) first

unfoldable pub best_of : {S : Type 0} → Side → List Value → Row S (Got Value)
best_of side [] = Ret (Raise sequence_fault)
best_of side (x ∷ xs) = best_from side x xs

unfoldable pub best_in : {S : Type 0} → Side → Value → Row S (Got Value)
best_in side x = bind (gather_row x) (got_row (best_of side))

-- of two arguments or more, or of the items of one
unfoldable pub best_by : {S : Type 0} → Side → List Value → Few → Row S (Got Value)
best_by side args Nothing = Ret (Raise argument_fault)
best_by side args (One x) = best_in side x
best_by side args Many = best_of side args

unfoldable pub best_row : {S : Type 0} → Side → List Value → Row S (Got Value)
best_row side args = best_by side args (few args)
