-- Closed heaps, equality, order, truth and texts, worked by hand over small heaps. States `docs/HEAP.md`, "Closed
-- heaps", "Equality and order", "Truth" and "Texts".
use Rattle.std.specs.Prelude.{◌≡◌, ℕ, zero, suc, ◌+◌, ◌-◌, ℤ, pos, negsuc, true, false, cond, eqb, List, [], ◌∷◌, ◌++◌, codes, slice_get, Option, Some, None, refl}
use Rattle.std.specs.declared.cmp.Ordering.TheVariants.{Less, Equal, Greater}
use Rattle.py_data.specs.declared.value.Value.{Value}
use Rattle.py_data.specs.declared.value.Value.TheVariants.{None as NoneValue, Bool as BoolValue, Int, Ref, Builtin}
use Rattle.py_base.specs.declared.kind.Kind.TheVariants.{Str, Tuple, List as ListKind, Dict, Class, Method, Range, Lock}
use Rattle.py_data.specs.declared.record.Got.TheVariants.{Is, Raise}
use Rattle.py_data.specs.Fault.{depth_fault, operand_fault}
use Rattle.py_data.specs.Heap.{Heap, Rec, new_rec, no_records, at}
use Rattle.py_data.specs.Closed.{IsClosed, BasesEnd}
use Rattle.py_data.specs.Comparing.{equal, equal_within, order, order_within}
use Rattle.py_data.specs.Truth.{truth}
use Rattle.py_data.specs.Texts.{Spelling, repr, repr_within, str}

abbrev to : ℕ → Value
to a = Ref (record { 0 = a })

-- 0: 'a'; 1: 'a' again; 2: (1, 'a'); 3: [1, 'a']; 4: [1]; 5: a list that holds itself; 6: {1: 'a', 2: []};
-- 7: {2: [], True: 'a'}; 8: []; 9: (); 10: xrange(3, 3); 11: xrange(5, 0, -2); 12: a lock; 13: (True,); 14: (1,);
-- 15: 'ab'; 16: 'Z'; 17: (None,); 18: [None, 1]; 19: [None, 2]; 20: [None]; 21: [1] again; 22: a method of 4;
-- 23: the same again; 24: that of 21; 25: another of 4
abbrev records : List Rec
records =
    new_rec Str [] (codes "a") ∷
    new_rec Str [] (codes "a") ∷
    new_rec Tuple (Int (pos 1) ∷ to 0 ∷ []) [] ∷
    new_rec ListKind (Int (pos 1) ∷ to 1 ∷ []) [] ∷
    new_rec ListKind (Int (pos 1) ∷ []) [] ∷
    new_rec ListKind (to 5 ∷ []) [] ∷
    new_rec Dict (Int (pos 1) ∷ to 0 ∷ Int (pos 2) ∷ to 8 ∷ []) [] ∷
    new_rec Dict (Int (pos 2) ∷ to 8 ∷ BoolValue true ∷ to 1 ∷ []) [] ∷
    new_rec ListKind [] [] ∷
    new_rec Tuple [] [] ∷
    new_rec Range (Int (pos 3) ∷ Int (pos 3) ∷ Int (pos 1) ∷ []) [] ∷
    new_rec Range (Int (pos 5) ∷ Int (pos 0) ∷ Int (negsuc 1) ∷ []) [] ∷
    new_rec Lock (BoolValue false ∷ []) [] ∷
    new_rec Tuple (BoolValue true ∷ []) [] ∷
    new_rec Tuple (Int (pos 1) ∷ []) [] ∷
    new_rec Str [] (codes "ab") ∷
    new_rec Str [] (codes "Z") ∷
    new_rec Tuple (NoneValue ∷ []) [] ∷
    new_rec ListKind (NoneValue ∷ Int (pos 1) ∷ []) [] ∷
    new_rec ListKind (NoneValue ∷ Int (pos 2) ∷ []) [] ∷
    new_rec ListKind (NoneValue ∷ []) [] ∷
    new_rec ListKind (Int (pos 1) ∷ []) [] ∷
    new_rec Method (Builtin 0 ∷ to 4 ∷ []) [] ∷
    new_rec Method (Builtin 0 ∷ to 4 ∷ []) [] ∷
    new_rec Method (Builtin 0 ∷ to 21 ∷ []) [] ∷
    new_rec Method (Builtin 1 ∷ to 4 ∷ []) [] ∷ []

abbrev heap : Heap
heap a = slice_get records a

-- a heap of lists within lists: `[]` at 0, and at each further address a list of the one before; so 99 has 100 levels
abbrev nest : Heap
nest a = Some (new_rec ListKind (cond (eqb a 0) [] (to (a - 1) ∷ [])) [])

-- ---- equality

same_bytes : equal heap (to 0) (to 1) ≡ Is true
unfolding equal_within at
same_bytes = refl

true_is_one : equal heap (BoolValue true) (Int (pos 1)) ≡ Is true
unfolding equal_within at
true_is_one = refl

text_and_number : equal heap (to 0) (Int (pos 1)) ≡ Is false
unfolding equal_within at
text_and_number = refl

-- a tuple and a list of equal items
unlike_kinds : equal heap (to 2) (to 3) ≡ Is false
unfolding equal_within at
unlike_kinds = refl

-- (1,) and (True,)
items_by_value : equal heap (to 14) (to 13) ≡ Is true
unfolding equal_within at
items_by_value = refl

lengths_differ : equal heap (to 3) (to 4) ≡ Is false
unfolding equal_within at
lengths_differ = refl

-- {1: 'a', 2: []} and {2: [], True: 'a'}
pairs_in_any_order : equal heap (to 6) (to 7) ≡ Is true
unfolding equal_within at
pairs_in_any_order = refl

hundred_levels : equal nest (to 99) (to 99) ≡ Is true
unfolding equal_within at
hundred_levels = refl

one_level_more : equal nest (to 100) (to 100) ≡ Raise depth_fault
unfolding equal_within at
one_level_more = refl

-- a list inside itself
too_deep : equal heap (to 5) (to 5) ≡ Raise depth_fault
unfolding equal_within at
too_deep = refl

locks_by_identity : equal heap (to 12) (to 12) ≡ Is true
unfolding equal_within at
locks_by_identity = refl

-- the same builtin, and the same object of its own
methods_of_one : equal heap (to 22) (to 23) ≡ Is true
unfolding equal_within at
methods_of_one = refl

-- of two lists that are equal, and not the same
methods_of_equals : equal heap (to 22) (to 24) ≡ Is false
unfolding equal_within at
methods_of_equals = refl

methods_of_other_names : equal heap (to 22) (to 25) ≡ Is false
unfolding equal_within at
methods_of_other_names = refl

-- ---- order

numbers : order heap (BoolValue true) (Int (pos 2)) ≡ Is Less
unfolding order_within at
numbers = refl

number_and_text : order heap (Int (pos 1)) (to 0) ≡ Raise operand_fault
unfolding order_within at
number_and_text = refl

-- 'a' is the front of 'ab'
front_of_text : order heap (to 0) (to 15) ≡ Is Less
unfolding order_within at
front_of_text = refl

-- 'ab' and 'Z', by their first bytes
capitals_come_first : order heap (to 15) (to 16) ≡ Is Greater
unfolding order_within at
capitals_come_first = refl

-- [1] is the front of [1, 'a']
front_is_less : order heap (to 4) (to 3) ≡ Is Less
unfolding equal_within order_within at
front_is_less = refl

-- [None, 1] and [None, 2]: None has no order, but the first items are equal
first_unequal_decide : order heap (to 18) (to 19) ≡ Is Less
unfolding equal_within order_within at
first_unequal_decide = refl

-- (None,) and (None,)
all_equal : order heap (to 17) (to 17) ≡ Is Equal
unfolding equal_within order_within at
all_equal = refl

-- [None] and [1]
unequal_without_order : order heap (to 20) (to 4) ≡ Raise operand_fault
unfolding equal_within order_within at
unequal_without_order = refl

dictionaries_have_none : order heap (to 6) (to 7) ≡ Raise operand_fault
unfolding order_within at
dictionaries_have_none = refl

order_of_hundred_levels : order nest (to 99) (to 99) ≡ Is Equal
unfolding equal_within order_within at
order_of_hundred_levels = refl

order_one_level_more : order nest (to 100) (to 100) ≡ Raise depth_fault
unfolding equal_within order_within at
order_one_level_more = refl

order_too_deep : order heap (to 5) (to 5) ≡ Raise depth_fault
unfolding equal_within order_within at
order_too_deep = refl

-- ---- truth

zero_is_false : truth heap (Int (pos 0)) ≡ false
unfolding at
zero_is_false = refl

empty_list_is_false : truth heap (to 8) ≡ false
unfolding at
empty_list_is_false = refl

filled_list_is_true : truth heap (to 4) ≡ true
unfolding at
filled_list_is_true = refl

empty_range_is_false : truth heap (to 10) ≡ false
unfolding at
empty_range_is_false = refl

range_down_is_true : truth heap (to 11) ≡ true
unfolding at
range_down_is_true = refl

lock_is_true : truth heap (to 12) ≡ true
unfolding at
lock_is_true = refl

-- ---- texts, where numbers, strings and builtins are written so

abbrev digit : ℤ → List ℕ
digit (pos n) = (48 + n) ∷ []
digit (negsuc n) = 45 ∷ (49 + n) ∷ []

abbrev quoted : List ℕ → List ℕ
quoted bs = 39 ∷ (bs ++ 39 ∷ [])

abbrev spelling : Spelling
spelling = record { number = digit; quoted = quoted; builtin = λ b. codes "len" }

pair : repr spelling heap (to 2) ≡ Is (codes "(1, 'a')")
unfolding repr_within at
pair = refl

items : repr spelling heap (to 3) ≡ Is (codes "[1, 'a']")
unfolding repr_within at
items = refl

one_item : repr spelling heap (to 13) ≡ Is (codes "(True,)")
unfolding repr_within at
one_item = refl

no_item : repr spelling heap (to 9) ≡ Is (codes "()")
unfolding repr_within at
no_item = refl

pairs : repr spelling heap (to 6) ≡ Is (codes "{1: 'a', 2: []}")
unfolding repr_within at
pairs = refl

text_itself : str spelling heap (to 0) ≡ Is (codes "a")
unfolding repr_within at
text_itself = refl

range : repr spelling heap (to 10) ≡ Is (codes "<xrange>")
unfolding repr_within at
range = refl

builtin : str spelling heap (Builtin 0) ≡ Is (codes "<built-in len>")
unfolding repr_within at
builtin = refl

-- so many pairs of brackets within one another
abbrev brackets : ℕ → List ℕ
brackets zero = []
brackets (suc n) = 91 ∷ (brackets n ++ 93 ∷ [])

text_of_hundred_levels : repr spelling nest (to 99) ≡ Is (brackets 100)
unfolding repr_within at
text_of_hundred_levels = refl

text_one_level_more : repr spelling nest (to 100) ≡ Raise depth_fault
unfolding repr_within at
text_one_level_more = refl

text_too_deep : repr spelling heap (to 5) ≡ Raise depth_fault
unfolding repr_within at
text_too_deep = refl

-- ---- closed heaps

-- the empty heap is closed
nothing_open : IsClosed no_records
nothing_open a r e = absurd (none_some e)
  where
    none_some : ◌≡◌ {A = Option Rec} None (Some r) → ⊥
    none_some e = cc

-- a class whose base is itself has no end of bases
abbrev own_base : Heap
own_base a = Some (new_rec Class (NoneValue ∷ to 0 ∷ NoneValue ∷ []) [])

no_end : (n : ℕ) → BasesEnd own_base n (to 0) → ⊥
no_end zero h = h
no_end (suc n) h = no_end n h
