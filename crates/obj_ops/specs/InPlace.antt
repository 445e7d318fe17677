-- The row of INPLACE. States `docs/LANGUAGE.md`, "Operators on sequences".
use Rattle.std.specs.Prelude.{ℕ, ◌+◌, cond, leb, List, [], ◌∷◌, length, Option, Some, None}
use Rattle.py_data.specs.declared.value.Addr.{Addr}
use Rattle.py_data.specs.declared.value.Value.{Value}
use Rattle.py_data.specs.declared.value.Value.TheVariants.{Ref}
use Rattle.py_data.specs.declared.record.Got.{Got}
use Rattle.py_data.specs.declared.record.Got.TheVariants.{Is, Raise}
use Rattle.py_data.specs.declared.record.TheConstants.{LENGTH_LIMIT}
use Rattle.py_data.specs.declared.change.Change.TheVariants as change
use Rattle.py_data.specs.Fault.{memory_fault}
use Rattle.py_data.specs.Row.{Row, Ret, Do, Edit, bind}
use Rattle.py_data.specs.Looking.{size_row, got_row}
use Rattle.obj_seq.specs.Gather.{gather_row}
use Rattle.obj_ops.specs.declared.operator.Operator.{Operator}
use Rattle.obj_ops.specs.declared.operator.Operator.TheVariants.{Add}
use Rattle.obj_ops.specs.declared.operand.Operand.{Operand}
use Rattle.obj_ops.specs.Numbers.{operator_of}
use Rattle.obj_ops.specs.Operands.{operand_row, list_of}
use Rattle.obj_ops.specs.Binary.{operand_with}

-- values at the end of a list
unfoldable pub push_row : {S : Type 0} → ℕ → List Value → Row S (Unit {0})
push_row a [] = Ret tt
push_row a (x ∷ xs) = Do (Edit a (change.Push x)) (λ _. push_row a xs)

-- to a list of n items, which is the answer; MemoryError before the first one, where there would be too many
unfoldable pub pushed_row : {S : Type 0} → ℕ → List Value → ℕ → Row S (Got Value)
pushed_row a vs n = cond (leb (n + length vs) LENGTH_LIMIT)
    (bind (push_row a vs) (λ _. Ret (Is (Ref (record { 0 = a }))))) (Ret (Raise memory_fault))

unfoldable pub appended_row : {S : Type 0} → ℕ → List Value → Row S (Got Value)
appended_row a vs = bind (size_row a) (pushed_row a vs)

-- the items of a value, which are all read before, at the end of a list
unfoldable pub extended_row : {S : Type 0} → ℕ → Value → Row S (Got Value)
extended_row a y = bind (gather_row y) (got_row (appended_row a))

-- the list that an operator keeps: only `+=` keeps one
abbrev pub kept_list : Operator → Operand → Option Addr
kept_list Add p = list_of p
kept_list _ p = None

unfoldable pub kept_row : {S : Type 0} → ℕ → Operator → Operand → Value → Option Addr → Row S (Got Value)
kept_row roots op p y (Some a) = extended_row a.0 y
kept_row roots op p y None = operand_with roots op p y

unfoldable pub changed_row : {S : Type 0} → ℕ → Operator → Value → Value → Row S (Got Value)
changed_row roots op x y = bind (operand_row x) (λ p. kept_row roots op p y (kept_list op p))

unfoldable pub in_place_row : {S : Type 0} → ℕ → ℕ → Value → Value → Row S (Got Value)
in_place_row roots op x y = changed_row roots (operator_of op) x y
