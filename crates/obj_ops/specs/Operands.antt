-- What operands are to an operator, and what it does with two of them. States `docs/LANGUAGE.md`, "Arithmetic",
-- "Operators on sequences" and "The % operator".
use Rattle.std.specs.Prelude.{ℤ, Bool, Option, Some, None}
use Rattle.py_base.specs.declared.kind.Kind.{Kind}
use Rattle.py_base.specs.declared.kind.Kind.TheVariants.{Str, Tuple, List as ListKind}
use Rattle.py_data.specs.declared.value.Addr.{Addr}
use Rattle.py_data.specs.declared.value.Value.{Value}
use Rattle.py_data.specs.declared.value.Value.TheVariants.{Bool as BoolValue, Int, Ref}
use Rattle.py_data.specs.Row.{Row, Ret, Do, Read}
use Rattle.py_data.specs.Shape.{bit}
use Rattle.obj_ops.specs.declared.operator.Operator.{Operator}
use Rattle.obj_ops.specs.declared.operator.Operator.TheVariants.{Add, Multiply, Remainder}
use Rattle.obj_ops.specs.declared.operand.Operand.{Operand}
use Rattle.obj_ops.specs.declared.operand.Operand.TheVariants.{Whole, Truth, Text, Sequence, Other}
use Rattle.obj_ops.specs.declared.operand.Case.{Case}
use Rattle.obj_ops.specs.declared.operand.Case.TheVariants.{Numbers, Truths, Join, JoinTexts, Repeat, RepeatText, Format, Wrong}

-- ---- operands

-- what a record is to an operator
abbrev pub operand_of : Kind → Addr → Operand
operand_of Str a = Text a
operand_of Tuple a = Sequence Tuple a
operand_of ListKind a = Sequence ListKind a
operand_of _ a = Other

-- what a value is: of a reference the record's kind is looked at
unfoldable pub operand_row : {S : Type 0} → Value → Row S Operand
operand_row (Ref a) = Do (Read a.0) (λ r. Ret (operand_of r.kind a))
operand_row (Int i) = Ret (Whole i)
operand_row (BoolValue b) = Ret (Truth b)
operand_row _ = Ret Other

abbrev pub number_of : Operand → Option ℤ
number_of (Whole i) = Some i
number_of (Truth b) = Some (bit b)
number_of _ = None

abbrev pub truth_of : Operand → Option Bool
truth_of (Truth b) = Some b
truth_of _ = None

-- the tuple of arguments that stands behind `%`
abbrev pub tuple_of : Operand → Option Addr
tuple_of (Sequence Tuple a) = Some a
tuple_of _ = None

-- the list to which `+=` adds
abbrev pub list_of : Operand → Option Addr
list_of (Sequence ListKind a) = Some a
list_of _ = None

-- ---- cases

abbrev pub both_numbers : Option ℤ → Option ℤ → Case
both_numbers (Some i) (Some j) = Numbers i j
both_numbers _ _ = Wrong

abbrev pub both_truths : Option Bool → Option Bool → Case → Case
both_truths (Some b) (Some c) otherwise = Truths b c
both_truths _ _ otherwise = otherwise

-- two truth values, or two numbers
abbrev pub numbers_case : Operand → Operand → Case
numbers_case p q = both_truths (truth_of p) (truth_of q) (both_numbers (number_of p) (number_of q))

abbrev pub repeat_case : Kind → Addr → Option ℤ → Case
repeat_case k a (Some n) = Repeat k a n
repeat_case k a None = Wrong

abbrev pub repeat_text_case : Addr → Option ℤ → Case
repeat_text_case a (Some n) = RepeatText a n
repeat_text_case a None = Wrong

-- two sequences of one kind
abbrev pub join_case : Kind → Kind → Addr → Addr → Case
join_case Tuple Tuple a b = Join Tuple a b
join_case ListKind ListKind a b = Join ListKind a b
join_case _ _ a b = Wrong

abbrev pub join_with : Kind → Addr → Operand → Case
join_with k a (Sequence l b) = join_case k l a b
join_with k a _ = Wrong

abbrev pub join_text_with : Addr → Operand → Case
join_text_with a (Text b) = JoinTexts a b
join_text_with a _ = Wrong

-- `+`: both are strings, both sequences of one kind, or both numbers
abbrev pub add_case : Operand → Operand → Case
add_case (Text a) q = join_text_with a q
add_case (Sequence k a) q = join_with k a q
add_case p q = numbers_case p q

-- `*` of what is no sequence, whose number is known if it is one
abbrev pub times_case : Operand → Operand → Case
times_case p (Text b) = repeat_text_case b (number_of p)
times_case p (Sequence l b) = repeat_case l b (number_of p)
times_case p q = numbers_case p q

-- `*`: one is a string or a sequence and the other a number, or both are numbers
abbrev pub multiply_case : Operand → Operand → Case
multiply_case (Text a) q = repeat_text_case a (number_of q)
multiply_case (Sequence k a) q = repeat_case k a (number_of q)
multiply_case p q = times_case p q

-- `%`: the left one is a string, or both are numbers
abbrev pub remainder_case : Operand → Operand → Case
remainder_case (Text a) q = Format a (tuple_of q)
remainder_case p q = numbers_case p q

abbrev pub case_of : Operator → Operand → Operand → Case
case_of Add p q = add_case p q
case_of Multiply p q = multiply_case p q
case_of Remainder p q = remainder_case p q
case_of _ p q = numbers_case p q
