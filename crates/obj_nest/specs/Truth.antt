-- Whether a value is true: the row, look by look. States `docs/HEAP.md`, "Truth".
use Rattle.std.specs.Prelude.{ℕ, pos, Bool, true, false, not, [], ◌∷◌, length, nat_lt}
use Rattle.std.specs.Ordering.{int_eq}
use Rattle.py_base.specs.declared.kind.Kind.{Kind}
use Rattle.py_base.specs.declared.kind.Kind.TheVariants.{Str, Tuple, List as ListKind, Dict, Range}
use Rattle.py_data.specs.declared.value.Value.{Value}
use Rattle.py_data.specs.declared.value.Value.TheVariants.{Bool as BoolValue, Int, Ref, Builtin}
use Rattle.py_data.specs.Looking.{look_row, kind_row}
use Rattle.py_data.specs.Row.{Row, Ret, Do, Read, bind}
use Rattle.py_data.specs.Truth.{has_item}

-- a string, a tuple, a list or a dictionary
unfoldable pub bytes_filled : {S : Type 0} → ℕ → Row S Bool
bytes_filled a = Do (Read a) (λ r. Ret (nat_lt 0 (length r.bytes)))

unfoldable pub values_filled : {S : Type 0} → ℕ → Row S Bool
values_filled a = Do (Read a) (λ r. Ret (nat_lt 0 (length r.values)))

-- a range: its start, its stop and its step
unfoldable pub step_with : {S : Type 0} → ℕ → Value → Value → Row S Bool
step_with a start stop = bind (look_row a 2) (λ step. Ret (has_item (start ∷ stop ∷ step ∷ [])))

unfoldable pub stop_with : {S : Type 0} → ℕ → Value → Row S Bool
stop_with a start = bind (look_row a 1) (λ stop. step_with a start stop)

unfoldable pub range_filled : {S : Type 0} → ℕ → Row S Bool
range_filled a = bind (look_row a 0) (λ start. stop_with a start)

-- a record of this kind
unfoldable pub filled_by : {S : Type 0} → ℕ → Kind → Row S Bool
filled_by a Str = bytes_filled a
filled_by a Tuple = values_filled a
filled_by a ListKind = values_filled a
filled_by a Dict = values_filled a
filled_by a Range = range_filled a
filled_by a _ = Ret true

unfoldable pub filled_row : {S : Type 0} → ℕ → Row S Bool
filled_row a = bind (kind_row a) (λ k. filled_by a k)

-- a value that is no reference
abbrev pub plain_truth : Value → Bool
plain_truth (BoolValue b) = b
plain_truth (Int i) = not (int_eq i (pos 0))
plain_truth (Builtin b) = true
plain_truth _ = false

-- whether a value is true; one that is no reference costs no look
unfoldable pub truth_row : {S : Type 0} → Value → Row S Bool
truth_row (Ref a) = filled_row a.0
truth_row x = Ret (plain_truth x)
