-- The texts of values, as `repr` and `str` write them: the row, look by look, which writes behind a text.
-- States `docs/HEAP.md`, "Texts".
use Rattle.std.specs.Prelude.{ℕ, ◌+◌, ◌*◌, ◌/◌, Bool, true, false, cond, List, [], ◌++◌, Option, codes, ◌==◌, unwrap_or, slice_get}
use Rattle.std.specs.Fmt.{signed_decimal}
use Rattle.py_base.specs.declared.kind.Kind.{Kind}
use Rattle.py_base.specs.declared.kind.Kind.TheVariants.{Str, Tuple, List as ListKind, Dict, Function, Class, Instance, Method, Iter, Range, Lock, Thread}
use Rattle.py_text.specs.Repr.{repr_of}
use Rattle.py_data.specs.declared.value.Value.{Value}
use Rattle.py_data.specs.declared.value.Value.TheVariants.{None as NoneValue, Bool as BoolValue, Int, Ref, Builtin}
use Rattle.py_base.specs.Numbers.{truth_text, builtin_names}
use Rattle.py_data.specs.declared.record.Got.{Got}
use Rattle.py_data.specs.declared.record.Got.TheVariants.{Is}
use Rattle.py_data.specs.Heap.{Rec, Heap, at}
use Rattle.py_data.specs.Texts.{Spelling, repr_within}
use Rattle.py_data.specs.Row.{Row, Ret, bind}
use Rattle.py_data.specs.Looking.{size_row, look_row, bytes_row, each_row, got_row, kind_row}
use Rattle.obj_nest.specs.Levels.{below, level_row}

-- the name of the builtin of this number, in the list of all; no other number is a value's
abbrev pub builtin_text : ℕ → List ℕ
builtin_text b = unwrap_or (slice_get builtin_names b) []

-- how the simplest values are written: numbers in decimal, strings in quotes, builtins by their names in the list of
-- all
abbrev pub spelling : Spelling
spelling = record { number = signed_decimal; quoted = repr_of; builtin = builtin_text }

-- the text of a record of a kind by itself, with so many levels left: a string is written as it is
abbrev pub alone_by_kind : Heap → ℕ → Value → Kind → Rec → Got (List ℕ)
alone_by_kind h d x Str r = Is r.bytes
alone_by_kind h d x _ r = repr_within spelling h d x

abbrev pub alone_within : Heap → ℕ → Value → Got (List ℕ)
alone_within h d (Ref a) = alone_by_kind h d (Ref a) (at h a.0).kind (at h a.0)
alone_within h d x = repr_within spelling h d x

-- The text of a value, with so many levels left: as it stands within others, or by itself. An exception is written as
-- any other instance is.
abbrev pub text_within : Heap → ℕ → Value → Bool → Got (List ℕ)
text_within h d x true = repr_within spelling h d x
text_within h d x false = alone_within h d x

-- what writes a value behind a text
abbrev pub Writes : Type 0 → Type 0
Writes S = List ℕ → Value → Row S (Got (List ℕ))

-- a value that is no reference
abbrev pub leaf_text : Value → List ℕ
leaf_text NoneValue = codes "None"
leaf_text (BoolValue b) = truth_text b
leaf_text (Int i) = signed_decimal i
leaf_text (Builtin b) = codes "<built-in " ++ builtin_text b ++ codes ">"
leaf_text _ = []

-- ---- lists, tuples and dictionaries

-- a comma and a space before each part but the first
abbrev pub spaced : ℕ → List ℕ → List ℕ
spaced i out = cond (i == 0) out (out ++ codes ", ")

-- the item at a place
unfoldable pub part_row : {S : Type 0} → Writes S → ℕ → ℕ → List ℕ → Row S (Got (List ℕ))
part_row u a i out = bind (look_row a i) (λ x. u (spaced i out) x)

unfoldable pub mapped_row : {S : Type 0} → Writes S → ℕ → ℕ → List ℕ → Row S (Got (List ℕ))
mapped_row u a i out = bind (look_row a (2 * i + 1)) (λ x. u (out ++ codes ": ") x)

unfoldable pub keyed_row : {S : Type 0} → Writes S → ℕ → ℕ → List ℕ → Value → Row S (Got (List ℕ))
keyed_row u a i out k = bind (u out k) (got_row (mapped_row u a i))

-- the key of the pair of this number, a colon and a space, and its value
unfoldable pub couple_row : {S : Type 0} → Writes S → ℕ → ℕ → List ℕ → Row S (Got (List ℕ))
couple_row u a i out = bind (look_row a (2 * i)) (λ k. keyed_row u a i (spaced i out) k)

unfoldable pub closed_row : {S : Type 0} → List ℕ → List ℕ → Row S (Got (List ℕ))
closed_row close out = Ret (Is (out ++ close))

-- so many parts, and what closes them
unfoldable pub parts_row : {S : Type 0} → (ℕ → List ℕ → Row S (Got (List ℕ))) → ℕ → List ℕ → List ℕ →
    Row S (Got (List ℕ))
parts_row f n close out = bind (each_row f 0 n out) (got_row (closed_row close))

unfoldable pub list_row : {S : Type 0} → Writes S → ℕ → List ℕ → Row S (Got (List ℕ))
list_row u a out = bind (size_row a) (λ n. parts_row (part_row u a) n (codes "]") (out ++ codes "["))

-- a tuple of one item has a comma behind it
abbrev pub tuple_close : ℕ → List ℕ
tuple_close n = cond (n == 1) (codes ",)") (codes ")")

unfoldable pub tuple_row : {S : Type 0} → Writes S → ℕ → List ℕ → Row S (Got (List ℕ))
tuple_row u a out = bind (size_row a) (λ n. parts_row (part_row u a) n (tuple_close n) (out ++ codes "("))

unfoldable pub dict_row : {S : Type 0} → Writes S → ℕ → List ℕ → Row S (Got (List ℕ))
dict_row u a out = bind (size_row a) (λ n. parts_row (couple_row u a) (n / 2) (codes "}") (out ++ codes "{"))

-- ---- names

-- the bytes of the string that a value is the address of
unfoldable pub string_row : {S : Type 0} → Value → Row S (List ℕ)
string_row (Ref a) = bytes_row a.0
string_row x = Ret []

-- the name of the function or class at an address
unfoldable pub name_row : {S : Type 0} → ℕ → Row S (List ℕ)
name_row a = bind (look_row a 0) (λ x. string_row x)

unfoldable pub name_by : {S : Type 0} → Value → Row S (List ℕ)
name_by (Ref a) = name_row a.0
name_by (Builtin b) = Ret (builtin_text b)
name_by x = Ret []

-- the name of an instance's class, and of a method's function or builtin
unfoldable pub named_row : {S : Type 0} → ℕ → Row S (List ℕ)
named_row a = bind (look_row a 0) (λ x. name_by x)

-- a name between two texts
unfoldable pub between_row : {S : Type 0} → List ℕ → List ℕ → Row S (List ℕ) → List ℕ → Row S (Got (List ℕ))
between_row front close name out = bind name (λ n. Ret (Is (out ++ front ++ n ++ close)))

-- ---- any record, any value

unfoldable pub quoted_row : {S : Type 0} → ℕ → List ℕ → Row S (Got (List ℕ))
quoted_row a out = bind (bytes_row a) (λ b. Ret (Is (out ++ repr_of b)))

-- records of these kinds are all written alike
abbrev pub plain_text : Kind → List ℕ
plain_text Iter = codes "<iterator>"
plain_text Range = codes "<xrange>"
plain_text Lock = codes "<lock>"
plain_text Thread = codes "<thread>"
plain_text _ = []

-- a record of a kind that has no parts to be written
unfoldable pub other_text : {S : Type 0} → ℕ → List ℕ → Kind → Row S (Got (List ℕ))
other_text a out Function = between_row (codes "<function ") (codes ">") (name_row a) out
other_text a out Class = between_row (codes "<class ") (codes ">") (name_row a) out
other_text a out Instance = between_row (codes "<") (codes " instance>") (named_row a) out
other_text a out Method = between_row (codes "<method ") (codes ">") (named_row a) out
other_text a out k = Ret (Is (out ++ plain_text k))

-- a record of this kind
unfoldable pub kind_text : {S : Type 0} → Option (Writes S) → ℕ → List ℕ → Kind → Row S (Got (List ℕ))
kind_text under a out Str = quoted_row a out
kind_text under a out Tuple = level_row under (λ u. tuple_row u a out)
kind_text under a out ListKind = level_row under (λ u. list_row u a out)
kind_text under a out Dict = level_row under (λ u. dict_row u a out)
kind_text under a out k = other_text a out k

unfoldable pub record_row : {S : Type 0} → Option (Writes S) → ℕ → List ℕ → Row S (Got (List ℕ))
record_row under a out = bind (kind_row a) (λ k. kind_text under a out k)

-- given what writes the parts of containers
unfoldable pub write_under : {S : Type 0} → Option (Writes S) → Writes S
write_under under out (Ref a) = record_row under a.0 out
write_under under out x = Ret (Is (out ++ leaf_text x))

-- with so many levels left
abbrev pub write_levels : {S : Type 0} → ℕ → Writes S
write_levels d = write_under (below write_under d)

-- as it stands within others, behind no text
unfoldable pub repr_row : {S : Type 0} → ℕ → Value → Row S (Got (List ℕ))
repr_row d x = write_levels d [] x

-- by itself: a string is written as it is
unfoldable pub alone_by : {S : Type 0} → ℕ → ℕ → Kind → Row S (Got (List ℕ))
alone_by d a Str = bind (bytes_row a) (λ b. Ret (Is b))
alone_by d a _ = repr_row d (Ref (record { 0 = a }))

unfoldable pub alone_at : {S : Type 0} → ℕ → ℕ → Row S (Got (List ℕ))
alone_at d a = bind (kind_row a) (λ k. alone_by d a k)

unfoldable pub alone_row : {S : Type 0} → ℕ → Value → Row S (Got (List ℕ))
alone_row d (Ref a) = alone_at d a.0
alone_row d x = repr_row d x

-- The text of a value, with so many levels left: as it stands within others (`quoted`), or by itself. An exception is
-- written as any other instance is.
unfoldable pub text_row : {S : Type 0} → ℕ → Value → Bool → Row S (Got (List ℕ))
text_row d x true = repr_row d x
text_row d x false = alone_row d x
