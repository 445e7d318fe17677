-- The rows of `range` and `xrange`. States `docs/LANGUAGE.md`, "Builtins".
use Rattle.std.specs.Prelude.{ℕ, ℤ, pos, cond, List, [], ◌∷◌, Option, Some, None, codes}
use Rattle.std.specs.Ordering.{int_eq}
use Rattle.py_base.specs.Numbers.{class_number}
use Rattle.py_base.specs.declared.kind.Kind.TheVariants.{List as ListKind, Range}
use Rattle.py_data.specs.declared.value.Value.{Value}
use Rattle.py_data.specs.declared.value.Value.TheVariants.{Int}
use Rattle.py_data.specs.declared.record.Fault.{Fault}
use Rattle.py_data.specs.declared.record.Got.{Got}
use Rattle.py_data.specs.declared.record.Got.TheVariants.{Raise}
use Rattle.py_data.specs.Comparing.{number_of}
use Rattle.py_data.specs.Fault.{text_fault, argument_fault}
use Rattle.py_data.specs.Range.{range_length}
use Rattle.py_data.specs.Row.{Row, Ret}
use Rattle.obj_seq.specs.Gather.{numbers}
use Rattle.obj_ops.specs.Numbers.{overflow_fault}
use Rattle.obj_ops.specs.Sequences.{made_row, new_items}
use Rattle.obj_builtins.specs.declared.ranges.Bounds.{Bounds}
use Rattle.obj_builtins.specs.Lengths.{is_counted}

-- no numbers stand a step of 0 apart
abbrev pub step_fault : Fault
step_fault = text_fault (class_number (codes "ValueError")) (codes "step is zero")

-- ---- arguments

abbrev pub bounds_in : Option ℤ → Option ℤ → Option ℤ → Option Bounds
bounds_in (Some start) (Some stop) (Some step) = Some (record { start = start; stop = stop; step = step })
bounds_in _ _ _ = None

-- the stop; the start and the stop; or these and the step: numbers, among them truth values
abbrev pub bounds_of : List Value → Option Bounds
bounds_of (stop ∷ []) = bounds_in (Some (pos 0)) (number_of stop) (Some (pos 1))
bounds_of (start ∷ stop ∷ []) = bounds_in (number_of start) (number_of stop) (Some (pos 1))
bounds_of (start ∷ stop ∷ step ∷ []) = bounds_in (number_of start) (number_of stop) (number_of step)
bounds_of _ = None

-- how many numbers there are
abbrev pub count_in : Bounds → ℕ
count_in b = range_length b.start b.stop b.step

-- ---- a new list of the numbers

unfoldable pub numbers_made : {S : Type 0} → Bounds → Row S (Got Value)
numbers_made b = new_items ListKind (count_in b) (numbers b.start b.step (count_in b))

-- the step is tested first
unfoldable pub numbers_within : {S : Type 0} → Bounds → Row S (Got Value)
numbers_within b = cond (int_eq b.step (pos 0)) (Ret (Raise step_fault)) (numbers_made b)

unfoldable pub range_row : {S : Type 0} → Option Bounds → Row S (Got Value)
range_row (Some b) = numbers_within b
range_row None = Ret (Raise argument_fault)

-- ---- a new range

-- the three values of a range
abbrev pub range_values : Bounds → List Value
range_values b = Int b.start ∷ Int b.stop ∷ Int b.step ∷ []

unfoldable pub range_made : {S : Type 0} → Bounds → Row S (Got Value)
range_made b = cond (is_counted (count_in b)) (made_row Range (range_values b)) (Ret (Raise overflow_fault))

unfoldable pub range_within : {S : Type 0} → Bounds → Row S (Got Value)
range_within b = cond (int_eq b.step (pos 0)) (Ret (Raise step_fault)) (range_made b)

unfoldable pub xrange_row : {S : Type 0} → Option Bounds → Row S (Got Value)
xrange_row (Some b) = range_within b
xrange_row None = Ret (Raise argument_fault)
