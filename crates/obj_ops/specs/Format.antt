-- A string with values in it. States `docs/LANGUAGE.md`, "The % operator".
use Rattle.std.specs.Prelude.{ℕ, ℤ, ◌+◌, ◌==◌, Bool, cond, leb, if◌then◌else◌, List, [], ◌∷◌, ◌++◌, length, Option, Some, None, slice_get, unwrap_or, codes, true, false}
use Rattle.std.specs.Fmt.{signed_decimal}
use Rattle.py_base.specs.Numbers.{class_number}
use Rattle.py_data.specs.declared.value.Addr.{Addr}
use Rattle.py_data.specs.declared.value.Value.{Value}
use Rattle.py_data.specs.declared.record.Got.{Got}
use Rattle.py_data.specs.declared.record.Got.TheVariants.{Is, Raise}
use Rattle.py_data.specs.declared.record.Fault.{Fault}
use Rattle.py_data.specs.declared.record.TheConstants.{LENGTH_LIMIT}
use Rattle.py_data.specs.Fault.{text_fault, memory_fault, argument_fault}
use Rattle.py_data.specs.Comparing.{number_of}
use Rattle.py_data.specs.Texts.{got_then}
use Rattle.py_data.specs.Row.{Row, Ret, bind}
use Rattle.py_data.specs.Looking.{each_row, got_row, bytes_row}
use Rattle.obj_str.specs.Strings.{new_text}
use Rattle.obj_class.specs.Telling.{told_row}
use Rattle.obj_ops.specs.declared.format.Piece.{Piece}
use Rattle.obj_ops.specs.declared.format.Piece.TheVariants.{Byte, Number, Text, Unknown}
use Rattle.obj_ops.specs.Sequences.{values_row}

-- a percent sign stands before another byte than `d`, `s` and `%`, or last
abbrev pub format_fault : Fault
format_fault = text_fault (class_number (codes "ValueError")) (codes "unsupported format")

-- ---- the pieces of a template

-- what a percent sign and the byte behind it stand for, where so many arguments are taken before
abbrev pub conversion : ℕ → ℕ → Piece
conversion n x = if x == 100 then Number n else if x == 115 then Text n else if x == 37 then Byte 37 else Unknown

-- how many arguments a piece takes
abbrev pub takes : Piece → ℕ
takes (Number n) = 1
takes (Text n) = 1
takes _ = 0

-- each other byte stands for itself; the flag says whether a percent sign was just read, the number how many arguments
-- were taken so far
unfoldable pub pieces : Bool → ℕ → List ℕ → List Piece
pieces false n [] = []
pieces true n [] = Unknown ∷ []
pieces false n (x ∷ xs) = cond (x == 37) (pieces true n xs) (Byte x ∷ pieces false n xs)
pieces true n (x ∷ xs) = conversion n x ∷ pieces false (n + takes (conversion n x)) xs

-- how many arguments they all take
abbrev pub asked : List Piece → ℕ
asked [] = 0
asked (p ∷ ps) = takes p + asked ps

-- ---- the text so far

-- MemoryError, where it would be longer than a string may be
unfoldable pub grown : List ℕ → List ℕ → Got (List ℕ)
grown text more = cond (leb (length text + length more) LENGTH_LIMIT) (Is (text ++ more)) (Raise memory_fault)

-- a number in decimal digits; TypeError, where the argument is missing or is none
unfoldable pub number_grown : List ℕ → Option ℤ → Got (List ℕ)
number_grown text (Some i) = grown text (signed_decimal i)
number_grown text None = Raise argument_fault

-- the number that an argument is, if it is there and is one
abbrev pub number_in : Option Value → Option ℤ
number_in (Some x) = number_of x
number_in None = None

-- the text of a value by itself; TypeError, where the argument is missing
unfoldable pub text_grown : {S : Type 0} → ℕ → List ℕ → Option Value → Row S (Got (List ℕ))
text_grown roots text (Some x) = bind (told_row roots x false) (λ more. Ret (got_then more (grown text)))
text_grown roots text None = Ret (Raise argument_fault)

-- a piece is written behind the text so far
unfoldable pub piece_row : {S : Type 0} → ℕ → List Value → Piece → List ℕ → Row S (Got (List ℕ))
piece_row roots args (Byte x) text = Ret (grown text (x ∷ []))
piece_row roots args (Number n) text = Ret (number_grown text (number_in (slice_get args n)))
piece_row roots args (Text n) text = text_grown roots text (slice_get args n)
piece_row roots args Unknown text = Ret (Raise format_fault)

abbrev pub piece_at : List Piece → ℕ → Piece
piece_at ps i = unwrap_or (slice_get ps i) Unknown

-- from left to right; the first piece that can't be written raises
unfoldable pub pieces_row : {S : Type 0} → ℕ → List Piece → List Value → Row S (Got (List ℕ))
pieces_row roots ps args = each_row (λ i. piece_row roots args (piece_at ps i)) 0 (length ps) []

-- ---- the operator

-- a new string, where no argument is left
unfoldable pub finished : {S : Type 0} → List Piece → List Value → List ℕ → Row S (Got Value)
finished ps args text = cond (asked ps == length args) (new_text text) (Ret (Raise argument_fault))

unfoldable pub formatted_row : {S : Type 0} → ℕ → List Piece → List Value → Row S (Got Value)
formatted_row roots ps args = bind (pieces_row roots ps args) (got_row (finished ps args))

-- the values of a tuple, or one value
unfoldable pub arguments_row : {S : Type 0} → Option Addr → Value → Row S (List Value)
arguments_row (Some b) y = values_row b.0
arguments_row None y = Ret (y ∷ [])

unfoldable pub template_row : {S : Type 0} → ℕ → List ℕ → Option Addr → Value → Row S (Got Value)
template_row roots template b y = bind (arguments_row b y) (formatted_row roots (pieces false 0 template))

unfoldable pub format_row : {S : Type 0} → ℕ → ℕ → Option Addr → Value → Row S (Got Value)
format_row roots a b y = bind (bytes_row a) (λ template. template_row roots template b y)
