-- Operators worked by hand. Expected values are Python 2.7's, but where a rule is marked (own).
-- States `docs/LANGUAGE.md`, "Arithmetic", "Operators on sequences" and "The % operator".
use Rattle.std.specs.Prelude.{◌≡◌, pos, negsuc, true, false, None, Some, [], ◌∷◌, refl, codes}
use Rattle.py_base.specs.Numbers.{binary_number, unary_number, compare_number}
use Rattle.py_base.specs.declared.kind.Kind.TheVariants.{Tuple, List as ListKind}
use Rattle.py_data.specs.declared.value.Value.TheVariants.{Int, Bool as BoolValue}
use Rattle.py_data.specs.declared.record.Got.TheVariants.{Is, Raise}
use Rattle.obj_ops.specs.declared.operator.Operator.TheVariants.{Or, Xor, And, ShiftLeft, ShiftRight, Add, Subtract, Multiply, Divide, Remainder, Power}
use Rattle.obj_ops.specs.declared.operator.Sign.TheVariants.{Minus, Invert}
use Rattle.obj_ops.specs.declared.operator.Comparison.TheVariants.{NotIn, IsNot}
use Rattle.obj_ops.specs.declared.operand.Operand.TheVariants.{Whole, Truth, Text, Sequence, Other}
use Rattle.obj_ops.specs.declared.operand.Case.TheVariants.{Truths, Repeat, RepeatText, Format, Wrong}
use Rattle.obj_ops.specs.declared.format.Piece.TheVariants.{Byte, Number, Text as TextPiece, Unknown}
use Rattle.obj_ops.specs.Numbers.{operator_of, sign_of, calculated, calculated_truths, signed, divided, narrowed, raised, shifted_left, shifted_right, zero_fault, overflow_fault, exponent_fault, shift_fault}
use Rattle.obj_ops.specs.Operands.{case_of}
use Rattle.obj_ops.specs.Format.{pieces, asked}
use Rattle.obj_ops.specs.Contains.{is_between}
use Rattle.obj_ops.specs.Compare.{comparison_of}

-- ---- numbers of operators
power_is : operator_of (binary_number (codes "**")) ≡ Power
power_is = refl

remainder_is : operator_of (binary_number (codes "%")) ≡ Remainder
remainder_is = refl

invert_is : sign_of (unary_number (codes "~")) ≡ Invert
invert_is = refl

not_in_is : comparison_of (compare_number (codes "not in")) ≡ NotIn
not_in_is = refl

is_not_is : comparison_of (compare_number (codes "is not")) ≡ IsNot
is_not_is = refl

-- ---- numbers
-- -7 / 2, 1 % 0, 9223372036854775807 + 1
floor : calculated Divide (negsuc 6) (pos 2) ≡ Is (Int (negsuc 3))
unfolding calculated divided narrowed
floor = refl

none : calculated Remainder (pos 1) (pos 0) ≡ Raise zero_fault
unfolding calculated divided narrowed
none = refl

wide : calculated Add (pos 9_223_372_036_854_775_807) (pos 1) ≡ Raise overflow_fault
unfolding calculated narrowed
wide = refl

-- -9223372036854775808 / -1, and - of the least number
least_by_minus_one : calculated Divide (negsuc 9_223_372_036_854_775_807) (negsuc 0) ≡ Raise overflow_fault
unfolding calculated divided narrowed
least_by_minus_one = refl

minus_least : signed Minus (negsuc 9_223_372_036_854_775_807) ≡ Raise overflow_fault
unfolding signed narrowed
minus_least = refl

-- 2 ** 62, 2 ** 63, (-2) ** 63, 0 ** 0, (-1) ** 3, 2 ** -1
power : calculated Power (pos 2) (pos 62) ≡ Is (Int (pos 4_611_686_018_427_387_904))
unfolding calculated raised narrowed
power = refl

power_wide : calculated Power (pos 2) (pos 63) ≡ Raise overflow_fault
unfolding calculated raised narrowed
power_wide = refl

power_least : calculated Power (negsuc 1) (pos 63) ≡ Is (Int (negsuc 9_223_372_036_854_775_807))
unfolding calculated raised narrowed
power_least = refl

power_zero : calculated Power (pos 0) (pos 0) ≡ Is (Int (pos 1))
unfolding calculated raised narrowed
power_zero = refl

power_negative : calculated Power (pos 2) (negsuc 0) ≡ Raise exponent_fault
unfolding calculated raised
power_negative = refl

-- 1 << 62, 1 << 63, -1 << 63, 1 << -1; 5 >> 1, -5 >> 1, -5 >> 70
left : calculated ShiftLeft (pos 1) (pos 62) ≡ Is (Int (pos 4_611_686_018_427_387_904))
unfolding calculated shifted_left narrowed
left = refl

left_wide : calculated ShiftLeft (pos 1) (pos 63) ≡ Raise overflow_fault
unfolding calculated shifted_left narrowed
left_wide = refl

left_least : calculated ShiftLeft (negsuc 0) (pos 63) ≡ Is (Int (negsuc 9_223_372_036_854_775_807))
unfolding calculated shifted_left narrowed
left_least = refl

left_negative : calculated ShiftLeft (pos 1) (negsuc 0) ≡ Raise shift_fault
unfolding calculated shifted_left
left_negative = refl

right : calculated ShiftRight (negsuc 4) (pos 1) ≡ Is (Int (negsuc 2))
unfolding calculated shifted_right
right = refl

right_all : calculated ShiftRight (negsuc 4) (pos 70) ≡ Is (Int (negsuc 0))
unfolding calculated shifted_right
right_all = refl

-- 6 & 3, -1 & 3, 6 | 3, 6 ^ 3, ~5
both : calculated And (pos 6) (pos 3) ≡ Is (Int (pos 2))
unfolding calculated
both = refl

both_negative : calculated And (negsuc 0) (pos 3) ≡ Is (Int (pos 3))
unfolding calculated
both_negative = refl

either : calculated Or (pos 6) (pos 3) ≡ Is (Int (pos 7))
unfolding calculated
either = refl

one : calculated Xor (pos 6) (pos 3) ≡ Is (Int (pos 5))
unfolding calculated
one = refl

inverted : signed Invert (pos 5) ≡ Is (Int (negsuc 5))
unfolding signed
inverted = refl

-- True & False, True + True
truths : calculated_truths And true false ≡ Is (BoolValue false)
unfolding calculated_truths
truths = refl

truths_sum : calculated_truths Add true true ≡ Is (Int (pos 2))
unfolding calculated_truths calculated narrowed
truths_sum = refl

-- ---- operands
-- True * [..], [..] + (..), [..] - 1, 'a' * True, 'a' + 1, True ^ True
once : case_of Multiply (Truth true) (Sequence ListKind (record { 0 = 5 })) ≡ Repeat ListKind (record { 0 = 5 }) (pos 1)
once = refl

unlike : case_of Add (Sequence ListKind (record { 0 = 5 })) (Sequence Tuple (record { 0 = 6 })) ≡ Wrong
unlike = refl

less : case_of Subtract (Sequence ListKind (record { 0 = 5 })) (Whole (pos 1)) ≡ Wrong
less = refl

text_once : case_of Multiply (Text (record { 0 = 5 })) (Truth true) ≡ RepeatText (record { 0 = 5 }) (pos 1)
text_once = refl

text_and_number : case_of Add (Text (record { 0 = 5 })) (Whole (pos 1)) ≡ Wrong
text_and_number = refl

exclusive : case_of Xor (Truth true) (Truth true) ≡ Truths true true
exclusive = refl

-- 'a' % (..), 'a' % None
with_tuple : case_of Remainder (Text (record { 0 = 5 })) (Sequence Tuple (record { 0 = 6 })) ≡ Format
    (record { 0 = 5 }) (Some (record { 0 = 6 }))
with_tuple = refl

with_value : case_of Remainder (Text (record { 0 = 5 })) Other ≡ Format (record { 0 = 5 }) None
with_value = refl

-- ---- templates
-- '%d-%s%%', 'a%', '%q'
three : pieces false 0 (codes "%d-%s%%") ≡ Number 0 ∷ Byte 45 ∷ TextPiece 1 ∷ Byte 37 ∷ []
unfolding pieces
three = refl

two_asked : asked (pieces false 0 (codes "%d-%s%%")) ≡ 2
unfolding pieces
two_asked = refl

lone : pieces false 0 (codes "a%") ≡ Byte 97 ∷ Unknown ∷ []
unfolding pieces
lone = refl

strange : pieces false 0 (codes "%q") ≡ Unknown ∷ []
unfolding pieces
strange = refl

-- ---- ranges
-- 7 in xrange(1, 10, 3), 10 in it, 3 in xrange(5, 0, -2), 0 in it
there : is_between (pos 1) (pos 10) (pos 3) (pos 7) ≡ true
there = refl

at_stop : is_between (pos 1) (pos 10) (pos 3) (pos 10) ≡ false
at_stop = refl

downwards : is_between (pos 5) (pos 0) (negsuc 1) (pos 3) ≡ true
downwards = refl

between : is_between (pos 5) (pos 0) (negsuc 1) (pos 2) ≡ false
between = refl
