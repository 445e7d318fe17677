-- Operators on numbers answer numbers, truth values or exceptions.
use Rattle.std.proofs.Common.{◌≡◌, ℤ, pos, negsuc, Bool, true, false, cond, lit<, Option, Some, None}
use Rattle.std.specs.Ordering.{int_eq}
use Rattle.py_data.specs.declared.value.Value.TheVariants.{Unset, Bool as BoolValue, Int}
use Rattle.py_data.specs.declared.record.Got.TheVariants.{Is, Raise}
use Rattle.py_data.specs.Heap.{Heap}
use Rattle.py_data.specs.Closed.{IsItem}
use Rattle.py_data.specs.Shape.{bit}
use Rattle.py_data.specs.Answers.{IsAnswer}
use Rattle.obj_ops.specs.declared.operator.Operator.{Operator}
use Rattle.obj_ops.specs.declared.operator.Operator.TheVariants.{Or, Xor, And, ShiftLeft, ShiftRight, Add, Subtract, Multiply, Divide, FloorDivide, Remainder, Power}
use Rattle.obj_ops.specs.declared.operator.Sign.{Sign}
use Rattle.obj_ops.specs.declared.operator.Sign.TheVariants.{Plus, Minus, Invert}
use Rattle.obj_ops.specs.declared.operand.Case.{Case}
use Rattle.obj_ops.specs.declared.operand.Case.TheVariants.{Numbers, Truths}
use Rattle.obj_ops.specs.Numbers.{zero_fault, overflow_fault, is_narrow, narrowed, divided, shifted_left, shifted_right, raised, calculated, calculated_truths, signed}
use Rattle.obj_ops.specs.Binary.{signed_value, calculated_case}

module _ (h : Heap) where
  pub int_item : (z : ℤ) → IsItem h (Int z)
  int_item z = (tt, λ e. let q : Int z ≡ Unset = e in cc)

  pub bool_item : (b : Bool) → IsItem h (BoolValue b)
  bool_item b = (tt, λ e. let q : BoolValue b ≡ Unset = e in cc)

  narrowed_good : (z : ℤ) → IsAnswer (narrowed z) h
  unfolding narrowed
  narrowed_good z = by (is_narrow z)
    where
      by : (b : Bool) → IsAnswer (cond b (Is (Int z)) (Raise overflow_fault)) h
      by true = int_item z
      by false = (lit< tt, lit< tt, tt)

  divided_good : (f : ℤ → ℤ → ℤ) (i j : ℤ) → IsAnswer (divided f i j) h
  unfolding divided
  divided_good f i j = by (int_eq j (pos 0))
    where
      by : (b : Bool) → IsAnswer (cond b (Raise zero_fault) (narrowed (f i j))) h
      by true = (lit< tt, lit< tt, tt)
      by false = narrowed_good (f i j)

  left_good : (i j : ℤ) → IsAnswer (shifted_left i j) h
  unfolding shifted_left
  left_good i (pos n) = narrowed_good _
  left_good i (negsuc n) = (lit< tt, lit< tt, tt)

  right_good : (i j : ℤ) → IsAnswer (shifted_right i j) h
  unfolding shifted_right
  right_good i (pos n) = int_item _
  right_good i (negsuc n) = (lit< tt, lit< tt, tt)

  raised_good : (i j : ℤ) → IsAnswer (raised i j) h
  unfolding raised
  raised_good i (pos n) = narrowed_good _
  raised_good i (negsuc n) = (lit< tt, lit< tt, tt)

  calculated_good : (op : Operator) (i j : ℤ) → IsAnswer (calculated op i j) h
  unfolding calculated
  calculated_good Or i j = int_item _
  calculated_good Xor i j = int_item _
  calculated_good And i j = int_item _
  calculated_good ShiftLeft i j = left_good i j
  calculated_good ShiftRight i j = right_good i j
  calculated_good Add i j = narrowed_good _
  calculated_good Subtract i j = narrowed_good _
  calculated_good Multiply i j = narrowed_good _
  calculated_good Divide i j = divided_good _ i j
  calculated_good FloorDivide i j = divided_good _ i j
  calculated_good Remainder i j = divided_good _ i j
  calculated_good Power i j = raised_good i j

  truths_good : (op : Operator) (b c : Bool) → IsAnswer (calculated_truths op b c) h
  unfolding calculated_truths
  truths_good Or b c = bool_item _
  truths_good Xor b c = bool_item _
  truths_good And b c = bool_item _
  truths_good op b c = calculated_good op (bit b) (bit c)

  pub signed_good : (sign : Sign) (o : Option ℤ) → IsAnswer (signed_value sign o) h
  unfolding signed_value signed
  signed_good Plus (Some i) = int_item i
  signed_good Minus (Some i) = narrowed_good _
  signed_good Invert (Some i) = int_item _
  signed_good sign None = (lit< tt, lit< tt, tt)

  pub case_answer : (op : Operator) (c : Case) → IsAnswer (calculated_case op c) h
  unfolding calculated_case
  case_answer op (Numbers i j) = calculated_good op i j
  case_answer op (Truths b c) = truths_good op b c
  case_answer op c = (lit< tt, lit< tt, tt)
