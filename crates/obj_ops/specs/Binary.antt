-- The rows of UNARY and BINARY: what the operands are, the left one first, and then one case for each class of
-- operands. States `docs/LANGUAGE.md`, "Arithmetic", "Operators on sequences" and "The % operator".
use Rattle.std.specs.Prelude.{ℕ, ℤ, Option, Some, None}
use Rattle.py_data.specs.declared.value.Value.{Value}
use Rattle.py_data.specs.declared.record.Got.{Got}
use Rattle.py_data.specs.declared.record.Got.TheVariants.{Raise}
use Rattle.py_data.specs.Fault.{operand_fault}
use Rattle.py_data.specs.Comparing.{number_of}
use Rattle.py_data.specs.Row.{Row, Ret, bind}
use Rattle.obj_ops.specs.declared.operator.Operator.{Operator}
use Rattle.obj_ops.specs.declared.operator.Sign.{Sign}
use Rattle.obj_ops.specs.declared.operand.Operand.{Operand}
use Rattle.obj_ops.specs.declared.operand.Case.{Case}
use Rattle.obj_ops.specs.declared.operand.Case.TheVariants.{Numbers, Truths, Join, JoinTexts, Repeat, RepeatText, Format}
use Rattle.obj_ops.specs.Numbers.{operator_of, sign_of, calculated, calculated_truths, signed}
use Rattle.obj_ops.specs.Operands.{operand_row, case_of}
use Rattle.obj_ops.specs.Sequences.{joined_items, joined_texts, repeated_items, repeated_text, times}
use Rattle.obj_ops.specs.Format.{format_row}

-- ---- one operand

-- a sign before a number; TypeError before anything else
unfoldable pub signed_value : Sign → Option ℤ → Got Value
signed_value sign (Some i) = signed sign i
signed_value sign None = Raise operand_fault

unfoldable pub unary_row : {S : Type 0} → ℕ → Value → Row S (Got Value)
unary_row op x = Ret (signed_value (sign_of op) (number_of x))

-- ---- two operands

-- where it is a matter of numbers, or of none
unfoldable pub calculated_case : Operator → Case → Got Value
calculated_case op (Numbers i j) = calculated op i j
calculated_case op (Truths b c) = calculated_truths op b c
calculated_case op _ = Raise operand_fault

unfoldable pub case_row : {S : Type 0} → ℕ → Operator → Value → Case → Row S (Got Value)
case_row roots op y (Join k a b) = joined_items k a.0 b.0
case_row roots op y (JoinTexts a b) = joined_texts a.0 b.0
case_row roots op y (Repeat k a n) = repeated_items k a.0 (times n)
case_row roots op y (RepeatText a n) = repeated_text a.0 (times n)
case_row roots op y (Format a b) = format_row roots a.0 b y
case_row roots op y c = Ret (calculated_case op c)

-- the left operand is known
unfoldable pub operand_with : {S : Type 0} → ℕ → Operator → Operand → Value → Row S (Got Value)
operand_with roots op p y = bind (operand_row y) (λ q. case_row roots op y (case_of op p q))

unfoldable pub operated_row : {S : Type 0} → ℕ → Operator → Value → Value → Row S (Got Value)
operated_row roots op x y = bind (operand_row x) (λ p. operand_with roots op p y)

-- the address of the root classes, the operator's number, the left and the right operand
unfoldable pub binary_row : {S : Type 0} → ℕ → ℕ → Value → Value → Row S (Got Value)
binary_row roots op x y = operated_row roots (operator_of op) x y
