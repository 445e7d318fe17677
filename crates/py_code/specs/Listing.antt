-- The text of a program, for a reader. States `docs/LANGUAGE.md`, "Listing".
use Rattle.std.specs.Prelude.{ℕ, ◌+◌, ◌-◌, ◌==◌, Bool, true, false, if◌then◌else◌, codes, List, [], ◌∷◌, ◌++◌, Option, Some, None, length, drop, get_or, slice_get, unwrap_or, option_map}
use Rattle.std.specs.List.{flat_map, list_any}
use Rattle.std.specs.Fmt.{decimal, signed_decimal}
use Rattle.py_base.specs.declared.kind.Kind.{Kind}
use Rattle.py_base.specs.declared.kind.Kind.TheVariants.{Str, Class}
use Rattle.py_base.specs.Numbers.{unary_signs, binary_signs, compare_signs, class_names, builtin_names, truth_text}
use Rattle.py_text.specs.Repr.{repr_of}
use Rattle.py_code.specs.declared.instr.Constant.{Constant}
use Rattle.py_code.specs.declared.instr.Constant.TheVariants.{None as NoValue, Truth, Int, Builtin, Root as RootOf}
use Rattle.py_code.specs.declared.instr.Instr.{Instr}
use Rattle.py_code.specs.declared.program.Root.{Root}
use Rattle.py_code.specs.declared.program.Code.{Code}
use Rattle.py_code.specs.declared.program.Program.{Program}
use Rattle.py_code.specs.declared.assembly.operand.Operand.{Operand}
use Rattle.py_code.specs.declared.assembly.operand.Operand.TheVariants.{Nothing, Pushed, Slot, Record, Body, UnarySign, BinarySign, CompareSign, Place, Count, Arguments, Defaults}
use Rattle.py_code.specs.Operands.{mnemonic, operand_of, kind_name}

-- ---- names

-- a number, and in parentheses what it names, if it names anything
unfoldable pub named : ℕ → Option (List ℕ) → List ℕ
named n None = decimal n
named n (Some t) = decimal n ++ codes " (" ++ t ++ codes ")"

-- what is written for a name that is empty
abbrev pub name_or : List ℕ → List ℕ → List ℕ
name_or other [] = other
name_or other (b ∷ bs) = b ∷ bs

abbrev pub slot_name : List ℕ → List ℕ
slot_name t = name_or (codes "<hidden>") t

abbrev pub code_name : Code → List ℕ
code_name c = name_or (codes "<module>") c.name

-- a string as `repr` writes it, the name of a class, or that of a global
abbrev pub root_name_by : Kind → Root → List ℕ
root_name_by Str r = repr_of r.bytes
root_name_by Class r = unwrap_or (slice_get class_names r.number) (decimal r.number)
root_name_by _ r = name_or (codes "<threads>") r.bytes

unfoldable pub root_name : Root → List ℕ
root_name r = root_name_by r.kind r

-- ---- operands

abbrev pub root_text : List Root → ℕ → List ℕ
root_text roots n = named n (option_map root_name (slice_get roots n))

abbrev pub code_text : List Code → ℕ → List ℕ
code_text all f = named f (option_map code_name (slice_get all f))

abbrev pub constant_text : List Root → Constant → List ℕ
constant_text roots NoValue = codes "None"
constant_text roots (Truth b) = truth_text b
constant_text roots (Int i) = signed_decimal i
constant_text roots (Builtin b) = codes "builtin " ++ named b (slice_get builtin_names b)
constant_text roots (RootOf r) = codes "root " ++ root_text roots r

-- a keyword, behind a space; a number that is no root's is written alone
abbrev pub key_text : List Root → ℕ → List ℕ
key_text roots k = 32 ∷ unwrap_or (option_map root_name (slice_get roots k)) (decimal k)

abbrev pub keys_text : List Root → List ℕ → List ℕ
keys_text roots ks = flat_map (key_text roots) ks

abbrev pub label_text : ℕ → List ℕ
label_text l = 76 ∷ decimal l

-- the label of a place
abbrev pub label_at : List (Option ℕ) → ℕ → Option ℕ
label_at labels p = unwrap_or (slice_get labels p) None

unfoldable pub operand_text : Program → Code → List (Option ℕ) → Operand → List ℕ
operand_text p c labels Nothing = []
operand_text p c labels (Pushed k) = constant_text p.roots k
operand_text p c labels (Slot s) = named s (option_map slot_name (slice_get c.slots s))
operand_text p c labels (Record r) = root_text p.roots r
operand_text p c labels (Body f) = code_text p.codes f
operand_text p c labels (UnarySign o) = named o (slice_get unary_signs o)
operand_text p c labels (BinarySign o) = named o (slice_get binary_signs o)
operand_text p c labels (CompareSign o) = named o (slice_get compare_signs o)
operand_text p c labels (Place t) = named t (option_map (λ l. codes "to " ++ label_text l) (label_at labels t))
operand_text p c labels (Count n) = decimal n
operand_text p c labels (Arguments n l) = decimal n ++ codes " keywords " ++ decimal l ++ keys_text p.roots
    (get_or c.keys l [])
operand_text p c labels (Defaults f n) = code_text p.codes f ++ codes " defaults " ++ decimal n

-- ---- labels

abbrev pub is_place : ℕ → Operand → Bool
is_place p (Place t) = t == p
is_place p _ = false

abbrev pub jumps_to : ℕ → Instr → Bool
jumps_to p i = is_place p (operand_of i)

-- of each place, from p on, whether an instruction names it
unfoldable pub marks : List Instr → ℕ → List Instr → List Bool
marks all p [] = []
marks all p (i ∷ is) = list_any (jumps_to p) all ∷ marks all (p + 1) is

-- the places that are named have the next numbers, from l on
unfoldable pub labelled : ℕ → List Bool → List (Option ℕ)
labelled l [] = []
labelled l (true ∷ ms) = Some l ∷ labelled (l + 1) ms
labelled l (false ∷ ms) = None ∷ labelled l ms

-- the labels of the places of a code
abbrev pub labels_of : List Instr → List (Option ℕ)
labels_of is = labelled 1 (marks is 0 is)

-- ---- lines

abbrev pub newline : List ℕ
newline = 10 ∷ []

-- at the right of six columns
unfoldable pub column : List ℕ → List ℕ
column t = drop (length t) (codes "      ") ++ t

-- a mnemonic in fifteen columns, and behind it the operands; it stands alone where there are none
abbrev pub with_operands : List ℕ → List ℕ → List ℕ
with_operands m [] = m
with_operands m (b ∷ bs) = m ++ drop (length m) (codes "               ") ++ b ∷ bs

abbrev pub is_line : Option ℕ → ℕ → Bool
is_line None l = false
is_line (Some k) l = k == l

-- the line of a place, where the place before it has another one
abbrev pub line_by : Option ℕ → Option ℕ → List ℕ
line_by before None = []
line_by before (Some l) = if is_line before l then [] else decimal l

unfoldable pub line_mark : List ℕ → ℕ → List ℕ
line_mark lines p = line_by (if p == 0 then None else slice_get lines (p - 1)) (slice_get lines p)

-- the label of a place, with a colon
abbrev pub label_by : Option ℕ → List ℕ
label_by None = []
label_by (Some l) = label_text l ++ codes ":"

-- an instruction: its line, its label, its place, and what it does
unfoldable pub instr_line : Program → Code → List (Option ℕ) → ℕ → Instr → List ℕ
instr_line p c labels n i =
    column (line_mark c.lines n) ++ column (label_by (label_at labels n)) ++ column (decimal n) ++ codes " "
    ++ with_operands (mnemonic i) (operand_text p c labels (operand_of i)) ++ newline

unfoldable pub root_line : ℕ → Root → List ℕ
root_line n r = column (decimal n) ++ codes " " ++ kind_name r.kind ++ codes " " ++ root_name r ++ newline

unfoldable pub key_line : List Root → ℕ → List ℕ → List ℕ
key_line roots n ks = codes "  Keywords " ++ decimal n ++ codes ":" ++ keys_text roots ks ++ newline

-- what is written for each, with its number, from n on
unfoldable pub numbered : {A : Type 0} → (ℕ → A → List ℕ) → ℕ → List A → List ℕ
numbered f n [] = []
numbered f n (x ∷ xs) = f n x ++ numbered f (n + 1) xs

-- ---- a code and a program

unfoldable pub title_line : ℕ → Code → List ℕ
title_line n c = newline ++ codes "Code " ++ decimal n ++ codes ": " ++ code_name c ++ newline

unfoldable pub parameters_line : Code → List ℕ
parameters_line c = codes "  Parameters: " ++ decimal c.params ++ newline

unfoldable pub slots_line : Code → List ℕ
slots_line c = codes "  Slots:" ++ flat_map (λ t. 32 ∷ slot_name t) c.slots ++ newline

unfoldable pub code_lines : Program → ℕ → Code → List ℕ
code_lines p n c =
    title_line n c ++ parameters_line c ++ slots_line c
    ++ numbered (key_line p.roots) 0 c.keys
    ++ numbered (instr_line p c (labels_of c.instrs)) 0 c.instrs

unfoldable pub listing_of : Program → List ℕ
listing_of p = codes "Roots:" ++ newline ++ numbered root_line 0 p.roots ++ numbered (code_lines p) 0 p.codes
