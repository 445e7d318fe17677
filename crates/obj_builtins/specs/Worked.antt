-- Builtin functions worked by hand. Expected values are Python 2.7's, but where a rule is marked (own).
-- States `docs/LANGUAGE.md`, "Builtins".
use Rattle.std.specs.Prelude.{◌≡◌, pos, negsuc, true, false, None, Some, [], ◌∷◌, refl, codes}
use Rattle.std.specs.declared.cmp.Ordering.TheVariants.{Equal, Greater as Above}
use Rattle.py_base.specs.Numbers.{builtin_number, class_number}
use Rattle.py_base.specs.declared.kind.Kind.TheVariants.{List as ListKind}
use Rattle.py_data.specs.declared.value.Value.{Value}
use Rattle.py_data.specs.declared.value.Value.TheVariants.{None as NoneValue, Bool as BoolValue, Int}
use Rattle.py_data.specs.declared.record.Got.{Got}
use Rattle.py_data.specs.declared.record.Got.TheVariants.{Is, Raise}
use Rattle.py_data.specs.Fault.{text_fault, operand_fault, argument_fault}
use Rattle.py_data.specs.Row.{Row, Ret}
use Rattle.obj_ops.specs.Numbers.{narrowed, overflow_fault}
use Rattle.obj_ops.specs.Sequences.{made_row, new_items}
use Rattle.obj_builtins.specs.declared.arguments.Form.TheVariants.{Number, Truth, Named}
use Rattle.obj_builtins.specs.declared.best.Side.TheVariants.{Least, Greatest}
use Rattle.obj_builtins.specs.declared.kinds.Class.TheVariants.{Numbers, Truths, Dicts}
use Rattle.obj_builtins.specs.Best.{better}
use Rattle.obj_builtins.specs.Functions.{later_row, function_row}
use Rattle.obj_builtins.specs.Kinds.{class_of, class_row}
use Rattle.obj_builtins.specs.Lengths.{counted, range_count, length_row, len_row}
use Rattle.obj_builtins.specs.Literals.{signed_number, stripped_number, text_number}
use Rattle.obj_builtins.specs.Numbers.{absolute, absolute_in, abs_row, byte_of}
use Rattle.obj_builtins.specs.Ranges.{step_fault, bounds_of, numbers_made, numbers_within, range_row, range_made, range_within, xrange_row}
use Rattle.obj_builtins.specs.Sums.{held, added, summed, sum_value}
use Rattle.obj_builtins.specs.Texts.{byte_value}

-- a row that answers at once
abbrev now : Got Value → Row (Unit {0}) (Got Value)
now g = Ret g

-- ---- lengths and ranges
-- len(5); len(xrange(1, 10, 3))
no_length : function_row {S = Unit {0}} 0 (builtin_number (codes "len")) (Int (pos 5) ∷ []) ≡ now (Raise argument_fault)
unfolding function_row len_row length_row
no_length = refl

three : counted (range_count (Int (pos 1)) (Int (pos 10)) (Int (pos 3))) ≡ Is (Int (pos 3))
three = refl

-- range(5, 0, -2) is [5, 3, 1]
downwards : function_row {S = Unit {0}} 0 (builtin_number (codes "range"))
    (Int (pos 5) ∷ Int (pos 0) ∷ Int (negsuc 1) ∷ []) ≡ made_row ListKind (Int (pos 5) ∷ Int (pos 3) ∷ Int (pos 1) ∷ [])
unfolding function_row range_row numbers_within numbers_made new_items
downwards = refl

-- range(True) is [0]; range(1, 2, 0); range(None); xrange(-1, 9223372036854775807)
one : function_row {S = Unit {0}} 0 (builtin_number (codes "range")) (BoolValue true ∷ []) ≡ made_row ListKind
    (Int (pos 0) ∷ [])
unfolding function_row range_row numbers_within numbers_made new_items
one = refl

standing : function_row {S = Unit {0}} 0 (builtin_number (codes "range"))
    (Int (pos 1) ∷ Int (pos 2) ∷ Int (pos 0) ∷ []) ≡ now (Raise step_fault)
unfolding function_row range_row numbers_within
standing = refl

no_bounds : bounds_of (NoneValue ∷ []) ≡ None
no_bounds = refl

too_wide : function_row {S = Unit {0}} 0 (builtin_number (codes "xrange"))
    (Int (negsuc 0) ∷ Int (pos 9_223_372_036_854_775_807) ∷ []) ≡ now (Raise overflow_fault)
unfolding function_row xrange_row range_within range_made
too_wide = refl

-- ---- int
-- int(' -12\n'), int('+7'), int('- 1'), int(''), int('9223372036854775808'), int('-9223372036854775808')
blanks : text_number (32 ∷ 45 ∷ 49 ∷ 50 ∷ 10 ∷ []) ≡ Is (Int (negsuc 11))
unfolding stripped_number signed_number narrowed
blanks = refl

plus : text_number (codes "+7") ≡ Is (Int (pos 7))
unfolding stripped_number signed_number narrowed
plus = refl

blank_behind_the_sign : text_number (codes "- 1") ≡ Raise
    (text_fault (class_number (codes "ValueError")) (codes "invalid literal for int() with base 10: '- 1'"))
unfolding stripped_number signed_number
blank_behind_the_sign = refl

nothing : text_number [] ≡ Raise (text_fault (class_number (codes "ValueError"))
    (codes "invalid literal for int() with base 10: ''"))
unfolding stripped_number
nothing = refl

wide : text_number (codes "9223372036854775808") ≡ Raise overflow_fault
unfolding stripped_number signed_number narrowed
wide = refl

least : text_number (codes "-9223372036854775808") ≡ Is (Int (negsuc 9_223_372_036_854_775_807))
unfolding stripped_number signed_number narrowed
least = refl

-- ---- ord, chr, abs
-- ord('a'), ord('ab'); chr(255), chr(256), chr(-1); abs(-3), abs(True), abs(-9223372036854775808), abs(None)
letter : byte_value (codes "a") ≡ Is (Int (pos 97))
letter = refl

two_letters : byte_value (codes "ab") ≡ Raise argument_fault
two_letters = refl

last_byte : byte_of (pos 255) ≡ Some 255
last_byte = refl

past_the_bytes : byte_of (pos 256) ≡ None
past_the_bytes = refl

before_the_bytes : byte_of (negsuc 0) ≡ None
before_the_bytes = refl

absolute_three : function_row {S = Unit {0}} 0 (builtin_number (codes "abs")) (Int (negsuc 2) ∷ []) ≡ now
    (Is (Int (pos 3)))
unfolding function_row later_row abs_row absolute_in absolute narrowed
absolute_three = refl

absolute_truth : function_row {S = Unit {0}} 0 (builtin_number (codes "abs")) (BoolValue true ∷ []) ≡ now
    (Is (Int (pos 1)))
unfolding function_row later_row abs_row absolute_in absolute narrowed
absolute_truth = refl

absolute_least : absolute (negsuc 9_223_372_036_854_775_807) ≡ Raise overflow_fault
unfolding absolute narrowed
absolute_least = refl

-- ---- isinstance
-- isinstance(True, int), isinstance(1, bool); `dict` names a class of values, `len` names none
truth_is_a_number : class_row {S = Unit {0}} 0 (Truth true) Numbers ≡ Ret true
unfolding class_row
truth_is_a_number = refl

number_is_no_truth : class_row {S = Unit {0}} 0 (Number (pos 1)) Truths ≡ Ret false
unfolding class_row
number_is_no_truth = refl

type_of_dictionaries : class_of (Named (builtin_number (codes "dict"))) ≡ Some Dicts
type_of_dictionaries = refl

no_type : class_of (Named (builtin_number (codes "len"))) ≡ None
no_type = refl

-- ---- min, max, sum
-- a later value that is equal doesn't take the place of the best so far
stays : better Least (Int (pos 1)) (BoolValue true) (Is Equal) ≡ Is (Int (pos 1))
stays = refl

goes : better Greatest (Int (pos 1)) (Int (pos 2)) (Is Above) ≡ Is (Int (pos 2))
goes = refl

-- sum([]), sum([1, True]), sum([9223372036854775807, 1, -1]), sum([None])
no_items : sum_value [] ≡ Is (Int (pos 0))
unfolding summed
no_items = refl

two : sum_value (Int (pos 1) ∷ BoolValue true ∷ []) ≡ Is (Int (pos 2))
unfolding summed added held
two = refl

wide_so_far : sum_value (Int (pos 9_223_372_036_854_775_807) ∷ Int (pos 1) ∷ Int (negsuc 0) ∷ []) ≡ Raise overflow_fault
unfolding summed added held
wide_so_far = refl

no_number : sum_value (NoneValue ∷ []) ≡ Raise operand_fault
unfolding summed added
no_number = refl

-- the number of a module is none of a function
no_function : function_row {S = Unit {0}} 0 (builtin_number (codes "thread")) [] ≡ now (Raise operand_fault)
unfolding function_row later_row
no_function = refl
