-- Equality, order, truth and texts, worked by hand. States `docs/HEAP.md`, "Equality and order", "Truth" and "Texts".
use Rattle.std.specs.Prelude.{◌≡◌, ℕ, pos, Bool, true, false, List, [], ◌∷◌, codes, slice_get, None, refl}
use Rattle.std.specs.declared.cmp.Ordering.TheVariants.{Less}
use Rattle.py_base.specs.Numbers.{builtin_number}
use Rattle.py_base.specs.declared.kind.Kind.{Kind}
use Rattle.py_base.specs.declared.kind.Kind.TheVariants.{Str, Tuple, List as ListKind, Dict}
use Rattle.py_data.specs.declared.value.Value.{Value}
use Rattle.py_data.specs.declared.value.Value.TheVariants.{None as NoneValue, Bool as BoolValue, Int, Ref, Builtin}
use Rattle.py_data.specs.declared.record.Got.{Got}
use Rattle.py_data.specs.declared.record.Got.TheVariants.{Is, Raise}
use Rattle.py_data.specs.Fault.{depth_fault, operand_fault}
use Rattle.py_data.specs.Heap.{Heap, Rec, new_rec, at}
use Rattle.py_data.specs.Comparing.{DEPTH_LIMIT}
use Rattle.py_data.specs.Texts.{repr_within, repr, str_by, str}
use Rattle.py_data.specs.Row.{Row, Ret}
use Rattle.obj_nest.specs.declared.pairing.Pairing.TheVariants.{Others, Items}
use Rattle.obj_nest.specs.Levels.{below, level_row, pairing_of}
use Rattle.obj_nest.specs.Equal.{Compares, equal_under, equal_row}
use Rattle.obj_nest.specs.Ordering.{order_under, order_row, by_lengths}
use Rattle.obj_nest.specs.Truth.{truth_row}
use Rattle.obj_nest.specs.Text.{write_under, repr_row, alone_row, text_row, spelling, alone_by_kind, text_within, builtin_text, spaced, tuple_close}

abbrev to : ℕ → Value
to a = Ref (record { 0 = a })

-- ---- values that are no records cost no look

none_is_none : equal_row {S = Unit {0}} NoneValue NoneValue ≡ Ret (Is true)
unfolding equal_row equal_under
none_is_none = refl

one_is_true : equal_row {S = Unit {0}} (Int (pos 1)) (BoolValue true) ≡ Ret (Is true)
unfolding equal_row equal_under
one_is_true = refl

record_and_number : equal_row {S = Unit {0}} (to 7) (Int (pos 1)) ≡ Ret (Is false)
unfolding equal_row equal_under
record_and_number = refl

true_before_two : order_row {S = Unit {0}} (BoolValue true) (Int (pos 2)) ≡ Ret (Is Less)
unfolding order_row order_under
true_before_two = refl

none_has_no_order : order_row {S = Unit {0}} NoneValue NoneValue ≡ Ret (Raise operand_fault)
unfolding order_row order_under
none_has_no_order = refl

zero_is_false : truth_row {S = Unit {0}} (Int (pos 0)) ≡ Ret false
unfolding truth_row
zero_is_false = refl

text_of_len : text_row {S = Unit {0}} 100 (Builtin (builtin_number (codes "len"))) true ≡ Ret
    (Is (codes "<built-in len>"))
unfolding text_row repr_row write_under
text_of_len = refl

text_of_none : text_row {S = Unit {0}} 100 NoneValue false ≡ Ret (Is (codes "None"))
unfolding text_row alone_row repr_row write_under
text_of_none = refl

-- ---- parts

-- where no level is left, a list has no parts to be compared
too_deep : (f : Compares (Unit {0}) → Row (Unit {0}) (Got Bool)) →
    level_row (below equal_under 0) f ≡ Ret (Raise depth_fault)
unfolding level_row below
too_deep f = refl

unlike_kinds : pairing_of ListKind Tuple ≡ Others
unlike_kinds = refl

lists_by_items : pairing_of ListKind ListKind ≡ Items
lists_by_items = refl

front_is_less : by_lengths 1 2 (Is None) ≡ Is Less
front_is_less = refl

method_by_its_name : builtin_text (builtin_number (codes "str.join")) ≡ codes "str.join"
method_by_its_name = refl

comma_of_one : tuple_close 1 ≡ codes ",)"
comma_of_one = refl

second_part : spaced 1 (codes "[1") ≡ codes "[1, "
second_part = refl

-- ---- texts of records: 0: it and a quote; 1: [None, that]; 2: (None,); 3: {True: that list}

abbrev records : List Rec
records =
    new_rec Str [] (codes "it'") ∷
    new_rec ListKind (NoneValue ∷ to 0 ∷ []) [] ∷
    new_rec Tuple (NoneValue ∷ []) [] ∷
    new_rec Dict (BoolValue true ∷ to 1 ∷ []) [] ∷ []

abbrev heap : Heap
heap a = slice_get records a

list_text : text_within heap 100 (to 1) false ≡ Is (codes "[None, \"it'\"]")
unfolding repr_within at
list_text = refl

tuple_text : text_within heap 100 (to 2) true ≡ Is (codes "(None,)")
unfolding repr_within at
tuple_text = refl

dict_text : text_within heap 100 (to 3) true ≡ Is (codes "{True: [None, \"it'\"]}")
unfolding repr_within at
dict_text = refl

string_by_itself : text_within heap 100 (to 0) false ≡ Is (codes "it'")
unfolding at
string_by_itself = refl

string_quoted : text_within heap 100 (to 0) true ≡ Is (codes "\"it'\"")
unfolding repr_within at
string_quoted = refl

-- ---- at a hundred levels the texts are those that `repr` and `str` are defined as

quoted_is_repr : (h : Heap) (x : Value) → text_within h DEPTH_LIMIT x true ≡ repr spelling h x
quoted_is_repr h x = refl

by_kind_is_str : (h : Heap) (x : Value) (k : Kind) (r : Rec) → alone_by_kind h DEPTH_LIMIT x k r ≡ str_by spelling h x
    k r
by_kind_is_str h x Str r = refl
by_kind_is_str h x k r = refl

plain_is_str : (h : Heap) (x : Value) → text_within h DEPTH_LIMIT x false ≡ str spelling h x
plain_is_str h (Ref a) = by_kind_is_str h (Ref a) (at h a.0).kind (at h a.0)
plain_is_str h x = refl
