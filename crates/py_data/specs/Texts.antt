-- The texts of values, as `repr` and `str` write them, by recursion on the values. An exception's `str` isn't among
-- them.
-- States `docs/HEAP.md`, "Texts".
use Rattle.std.specs.Prelude.{ℕ, zero, suc, ℤ, List, [], ◌∷◌, ◌++◌, Option, Some, None, codes}
use Rattle.py_data.specs.declared.value.Value.{Value}
use Rattle.py_data.specs.declared.value.Value.TheVariants.{Unset, None as NoneValue, Bool as BoolValue, Int, Ref, Builtin}
use Rattle.py_base.specs.declared.kind.Kind.{Kind}
use Rattle.py_base.specs.declared.kind.Kind.TheVariants.{Str, Tuple, List as ListKind, Dict, Cell, Function, Class, Instance, Method, Iter, Range, Lock, Thread}
use Rattle.py_base.specs.Numbers.{truth_text}
use Rattle.py_data.specs.declared.record.Got.{Got}
use Rattle.py_data.specs.declared.record.Got.TheVariants.{Is, Raise}
use Rattle.py_data.specs.Fault.{depth_fault}
use Rattle.py_data.specs.Heap.{Rec, Heap, at, value_at}
use Rattle.py_data.specs.Comparing.{DEPTH_LIMIT}

-- how the simplest values are written: numbers, strings and the names of builtins
pub record Spelling : Type 0 where
  pub number : ℤ → List ℕ
  pub quoted : List ℕ → List ℕ
  pub builtin : ℕ → List ℕ

-- what writes the parts of a container; none, where no level is left
abbrev pub Parts : Type 0
Parts = Option (Value → Got (List ℕ))

abbrev pub got_then : {A B : Type 0} → Got A → (A → Got B) → Got B
got_then (Is x) f = f x
got_then (Raise e) f = Raise e

-- each but the first is put behind a comma and a space
abbrev pub more_texts : (Value → Got (List ℕ)) → List Value → Got (List ℕ)
more_texts u [] = Is []
more_texts u (x ∷ xs) = got_then (u x) (λ t. got_then (more_texts u xs) (λ ts. Is (codes ", " ++ t ++ ts)))

abbrev pub item_texts : (Value → Got (List ℕ)) → List Value → Got (List ℕ)
item_texts u [] = Is []
item_texts u (x ∷ xs) = got_then (u x) (λ t. got_then (more_texts u xs) (λ ts. Is (t ++ ts)))

-- a key, a colon and a space, and its value
abbrev pub pair_text : (Value → Got (List ℕ)) → Value → Value → Got (List ℕ)
pair_text u k x = got_then (u k) (λ t. got_then (u x) (λ y. Is (t ++ codes ": " ++ y)))

abbrev pub more_pairs : (Value → Got (List ℕ)) → List Value → Got (List ℕ)
more_pairs u (k ∷ x ∷ rest) = got_then (pair_text u k x)
    (λ t. got_then (more_pairs u rest) (λ ts. Is (codes ", " ++ t ++ ts)))
more_pairs u _ = Is []

abbrev pub pair_texts : (Value → Got (List ℕ)) → List Value → Got (List ℕ)
pair_texts u (k ∷ x ∷ rest) = got_then (pair_text u k x) (λ t. got_then (more_pairs u rest) (λ ts. Is (t ++ ts)))
pair_texts u _ = Is []

abbrev pub between : List ℕ → List ℕ → Got (List ℕ) → Got (List ℕ)
between open' close text = got_then text (λ t. Is (open' ++ t ++ close))

-- a tuple of one item has a comma behind it
abbrev pub tuple_end : List Value → List ℕ
tuple_end (x ∷ []) = codes ",)"
tuple_end xs = codes ")"

-- the parts are written, where a level is left
abbrev pub in_level : Parts → ((Value → Got (List ℕ)) → Got (List ℕ)) → Got (List ℕ)
in_level None f = Raise depth_fault
in_level (Some u) f = f u

-- the bytes of the string that a value is the address of
abbrev pub bytes_of : Heap → Value → List ℕ
bytes_of h (Ref a) = (at h a.0).bytes
bytes_of h v = []

-- the first value of the record that a value is the address of: the name of a function and of a class
abbrev pub name_of : Heap → Value → List ℕ
name_of h (Ref a) = bytes_of h (value_at (at h a.0).values 0)
name_of h v = []

-- the name of a method's function or builtin
abbrev pub method_name : Spelling → Heap → Value → List ℕ
method_name s h (Builtin b) = s.builtin b
method_name s h v = name_of h v

-- a record of this kind, at this address
abbrev pub record_text : Spelling → Heap → Parts → Value → Kind → Rec → Got (List ℕ)
record_text s h parts v Str r = Is (s.quoted r.bytes)
record_text s h parts v Tuple r = in_level parts (λ u. between (codes "(") (tuple_end r.values) (item_texts u r.values))
record_text s h parts v ListKind r = in_level parts (λ u. between (codes "[") (codes "]") (item_texts u r.values))
record_text s h parts v Dict r = in_level parts (λ u. between (codes "{") (codes "}") (pair_texts u r.values))
record_text s h parts v Cell r = Is []
record_text s h parts v Function r = Is (codes "<function " ++ name_of h v ++ codes ">")
record_text s h parts v Class r = Is (codes "<class " ++ name_of h v ++ codes ">")
record_text s h parts v Instance r = Is (codes "<" ++ name_of h (value_at r.values 0) ++ codes " instance>")
record_text s h parts v Method r = Is (codes "<method " ++ method_name s h (value_at r.values 0) ++ codes ">")
record_text s h parts v Iter r = Is (codes "<iterator>")
record_text s h parts v Range r = Is (codes "<xrange>")
record_text s h parts v Lock r = Is (codes "<lock>")
record_text s h parts v Thread r = Is (codes "<thread>")

abbrev pub repr_by : Spelling → Heap → Parts → Value → Got (List ℕ)
repr_by s h parts Unset = Is []
repr_by s h parts NoneValue = Is (codes "None")
repr_by s h parts (BoolValue b) = Is (truth_text b)
repr_by s h parts (Int i) = Is (s.number i)
repr_by s h parts (Builtin b) = Is (codes "<built-in " ++ s.builtin b ++ codes ">")
repr_by s h parts (Ref a) = record_text s h parts (Ref a) (at h a.0).kind (at h a.0)

-- with so many levels left
unfoldable pub repr_within : Spelling → Heap → ℕ → Value → Got (List ℕ)
repr_within s h zero v = repr_by s h None v
repr_within s h (suc d) v = repr_by s h (Some (repr_within s h d)) v

-- the text of a value within others; RuntimeError, where they are nested deeper than 100 levels
abbrev pub repr : Spelling → Heap → Value → Got (List ℕ)
repr s h v = repr_within s h DEPTH_LIMIT v

-- the text of a value by itself: a string is written as it is
abbrev pub str_by : Spelling → Heap → Value → Kind → Rec → Got (List ℕ)
str_by s h v Str r = Is r.bytes
str_by s h v _ r = repr s h v

abbrev pub str : Spelling → Heap → Value → Got (List ℕ)
str s h (Ref a) = str_by s h (Ref a) (at h a.0).kind (at h a.0)
str s h v = repr s h v
