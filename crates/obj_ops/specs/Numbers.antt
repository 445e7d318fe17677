-- The operators on numbers, which have 64 bits. States `docs/LANGUAGE.md`, "Arithmetic".
use Rattle.std.specs.Prelude.{ℕ, ℤ, pos, negsuc, neg_ℤ, ◌+ℤ◌, ◌-ℤ◌, ◌*ℤ◌, ◌^◌, ◌==◌, Bool, cond, not, ◌&&◌, ◌||◌, if◌then◌else◌, codes, int_lt}
use Rattle.std.specs.Ordering.{int_eq}
use Rattle.std.specs.Int.{w64, int_pow, int_bit_and, int_bit_or, int_bit_xor, int_bit_not}
use Rattle.py_base.specs.Numbers.{binary_number, unary_number, class_number}
use Rattle.py_data.specs.declared.value.Value.{Value}
use Rattle.py_data.specs.declared.value.Value.TheVariants.{Bool as BoolValue, Int}
use Rattle.py_data.specs.declared.record.Got.{Got}
use Rattle.py_data.specs.declared.record.Got.TheVariants.{Is, Raise}
use Rattle.py_data.specs.declared.record.Fault.{Fault}
use Rattle.py_data.specs.Fault.{text_fault}
use Rattle.py_data.specs.Arithmetic.{floor_quotient, floor_remainder}
use Rattle.py_data.specs.Shape.{bit}
use Rattle.obj_ops.specs.declared.operator.Operator.{Operator}
use Rattle.obj_ops.specs.declared.operator.Operator.TheVariants.{Or, Xor, And, ShiftLeft, ShiftRight, Add, Subtract, Multiply, Divide, FloorDivide, Remainder, Power}
use Rattle.obj_ops.specs.declared.operator.Sign.{Sign}
use Rattle.obj_ops.specs.declared.operator.Sign.TheVariants.{Plus, Minus, Invert}

-- ---- which operator a number names; one that names none counts as the last

abbrev pub operator_of : ℕ → Operator
operator_of n =
    if n == binary_number (codes "|") then Or else
    if n == binary_number (codes "^") then Xor else
    if n == binary_number (codes "&") then And else
    if n == binary_number (codes "<<") then ShiftLeft else
    if n == binary_number (codes ">>") then ShiftRight else
    if n == binary_number (codes "+") then Add else
    if n == binary_number (codes "-") then Subtract else
    if n == binary_number (codes "*") then Multiply else
    if n == binary_number (codes "/") then Divide else
    if n == binary_number (codes "//") then FloorDivide else
    if n == binary_number (codes "%") then Remainder else Power

abbrev pub sign_of : ℕ → Sign
sign_of n = if n == unary_number (codes "+") then Plus else if n == unary_number (codes "-") then Minus else Invert

-- ---- exceptions

abbrev pub zero_fault : Fault
zero_fault = text_fault (class_number (codes "ZeroDivisionError")) (codes "integer division or modulo by zero")

abbrev pub overflow_fault : Fault
overflow_fault = text_fault (class_number (codes "OverflowError")) (codes "integer overflow")

abbrev pub shift_fault : Fault
shift_fault = text_fault (class_number (codes "ValueError")) (codes "negative shift count")

abbrev pub exponent_fault : Fault
exponent_fault = text_fault (class_number (codes "ValueError")) (codes "negative exponent")

-- ---- numbers

-- from -2^63 to 2^63 - 1
abbrev pub is_narrow : ℤ → Bool
is_narrow z = not (int_lt z (negsuc 9_223_372_036_854_775_807)) && not (int_lt (pos 9_223_372_036_854_775_807) z)

-- a number, where 64 bits hold it
unfoldable pub narrowed : ℤ → Got Value
narrowed z = cond (is_narrow z) (Is (Int z)) (Raise overflow_fault)

-- by a divisor that isn't 0
unfoldable pub divided : (ℤ → ℤ → ℤ) → ℤ → ℤ → Got Value
divided f i j = cond (int_eq j (pos 0)) (Raise zero_fault) (narrowed (f i j))

-- times two as often as the count says
unfoldable pub shifted_left : ℤ → ℤ → Got Value
shifted_left i (pos n) = narrowed (i *ℤ pos (2 ^ n))
shifted_left i (negsuc n) = Raise shift_fault

-- halved so often, and rounded down
unfoldable pub shifted_right : ℤ → ℤ → Got Value
shifted_right i (pos n) = Is (Int (floor_quotient i (pos (2 ^ n))))
shifted_right i (negsuc n) = Raise shift_fault

unfoldable pub raised : ℤ → ℤ → Got Value
raised i (pos n) = narrowed (int_pow i n)
raised i (negsuc n) = Raise exponent_fault

-- an operator on two whole numbers; those on bits take a number as its 64 bits, in two's complement
unfoldable pub calculated : Operator → ℤ → ℤ → Got Value
calculated Or i j = Is (Int (int_bit_or w64 i j))
calculated Xor i j = Is (Int (int_bit_xor w64 i j))
calculated And i j = Is (Int (int_bit_and w64 i j))
calculated ShiftLeft i j = shifted_left i j
calculated ShiftRight i j = shifted_right i j
calculated Add i j = narrowed (i +ℤ j)
calculated Subtract i j = narrowed (i -ℤ j)
calculated Multiply i j = narrowed (i *ℤ j)
calculated Divide i j = divided floor_quotient i j
calculated FloorDivide i j = divided floor_quotient i j
calculated Remainder i j = divided floor_remainder i j
calculated Power i j = raised i j

-- exactly one of two truth values
abbrev pub is_one : Bool → Bool → Bool
is_one b c = (b || c) && not (b && c)

-- on two truth values: `& | ^` give a truth value, all others take them as 1 and 0
unfoldable pub calculated_truths : Operator → Bool → Bool → Got Value
calculated_truths Or b c = Is (BoolValue (b || c))
calculated_truths Xor b c = Is (BoolValue (is_one b c))
calculated_truths And b c = Is (BoolValue (b && c))
calculated_truths op b c = calculated op (bit b) (bit c)

-- one number with a sign before it
unfoldable pub signed : Sign → ℤ → Got Value
signed Plus i = Is (Int i)
signed Minus i = narrowed (neg_ℤ i)
signed Invert i = Is (Int (int_bit_not w64 i))
