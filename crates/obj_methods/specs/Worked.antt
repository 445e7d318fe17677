-- Methods and sorting worked by hand. Expected values are Python 2.7's, but where a rule is marked (own).
-- States `docs/LANGUAGE.md`, "Methods of lists", "Methods of dictionaries" and "Sorting".
use Rattle.std.specs.Prelude.{◌≡◌, ℕ, pos, negsuc, true, None, Some, List, [], ◌∷◌, refl, codes}
use Rattle.py_base.specs.Numbers.{builtin_number}
use Rattle.py_data.specs.declared.value.Value.TheVariants.{None as NoneValue, Bool as BoolValue, Int, Builtin}
use Rattle.py_data.specs.declared.change.Change.TheVariants as change
use Rattle.py_data.specs.declared.record.Got.TheVariants.{Is, Raise}
use Rattle.py_data.specs.declared.record.TheConstants.{LENGTH_LIMIT}
use Rattle.py_data.specs.Fault.{key_fault, hash_fault, memory_fault, operand_fault, argument_fault}
use Rattle.py_data.specs.Row.{Ret, Do, Edit, bind}
use Rattle.obj_seq.specs.Seq.{pop_row}
use Rattle.obj_methods.specs.declared.words.Word.{Word}
use Rattle.obj_methods.specs.Arguments.{number_and_value, key_and_value}
use Rattle.obj_methods.specs.Dicts.{dict_method_row, found_or, is_there, or_given}
use Rattle.obj_methods.specs.Lists.{append_to, append_with, found, lack_fault, list_method_row, pop_by, pop_with}
use Rattle.obj_methods.specs.Sorting.{in_order, number_less, sorted_row, text_row, word_less, word_row, worded_row, words_row}

-- ---- sorting
-- sorted([3, True, -2, 1]) is [-2, True, 1, 3]: True and 1 stay as they stood
numbers : in_order number_less (Int (pos 3) ∷ BoolValue true ∷ Int (negsuc 1) ∷ Int (pos 1) ∷ []) ≡ Int (negsuc 1) ∷
    BoolValue true ∷ Int (pos 1) ∷ Int (pos 3) ∷ []
numbers = refl

-- and [1, True] stays so too
ties : in_order number_less (Int (pos 1) ∷ BoolValue true ∷ []) ≡ Int (pos 1) ∷ BoolValue true ∷ []
ties = refl

-- the text of a value, by the number of a builtin that stands for it
abbrev word : List ℕ → ℕ → Word
word bs n = record { text = bs; value = Builtin n }

-- 'b', 'ab', '', 'a' and another 'ab': a text comes before those that go on from it
words : in_order word_less (word (codes "b") 0 ∷ word (codes "ab") 1 ∷ word [] 2 ∷ word (codes "a") 3 ∷ word
    (codes "ab") 4 ∷ [])
    ≡ word [] 2 ∷ word (codes "a") 3 ∷ word (codes "ab") 1 ∷ word (codes "ab") 4 ∷ word (codes "b") 0 ∷ []
words = refl

-- capital letters come before small ones, as their bytes do
capitals : word_less (word (codes "Z") 0) (word (codes "a") 1) ≡ true
capitals = refl

-- sorted([]) is []; sorted([None]) raises (own: Python 2.7 gives [None])
empty : sorted_row {S = Unit {0}} [] ≡ Ret (Is [])
unfolding sorted_row
empty = refl

alone : sorted_row {S = Unit {0}} (NoneValue ∷ []) ≡ Ret (Raise operand_fault)
unfolding sorted_row worded_row words_row word_row text_row bind
alone = refl

-- a number beside what is none
mixed : sorted_row {S = Unit {0}} (Int (pos 1) ∷ NoneValue ∷ []) ≡ Ret (Raise operand_fault)
unfolding sorted_row worded_row words_row word_row text_row bind
mixed = refl

-- ---- lists
-- a.pop() is a.pop(-1), a.pop(True) is a.pop(1), and a.pop(None) and a.pop(0, 1) are wrong
pop_last : (a : ℕ) → pop_by {S = Unit {0}} a [] ≡ pop_row a (negsuc 0)
unfolding pop_by
pop_last a = refl

pop_truth : (a : ℕ) → pop_by {S = Unit {0}} a (BoolValue true ∷ []) ≡ pop_row a (pos 1)
unfolding pop_by pop_with
pop_truth a = refl

pop_none : (a : ℕ) → pop_by {S = Unit {0}} a (NoneValue ∷ []) ≡ Ret (Raise argument_fault)
unfolding pop_by pop_with
pop_none a = refl

pop_two : (a : ℕ) → pop_by {S = Unit {0}} a (Int (pos 0) ∷ Int (pos 1) ∷ []) ≡ Ret (Raise argument_fault)
unfolding pop_by pop_with
pop_two a = refl

-- a.insert(True, None), a.insert(None, 1)
insert_truth : number_and_value (BoolValue true ∷ NoneValue ∷ []) ≡ Some (pos 1, NoneValue)
insert_truth = refl

insert_none : number_and_value (NoneValue ∷ Int (pos 1) ∷ []) ≡ None
insert_none = refl

-- the last item that a list takes, and one more
append_last : (a : ℕ) → append_to {S = Unit {0}} a NoneValue 1_048_575 ≡ Do (Edit a (change.Push NoneValue))
    (λ _. Ret (Is NoneValue))
unfolding append_to
append_last a = refl

append_more : (a : ℕ) → append_to {S = Unit {0}} a NoneValue LENGTH_LIMIT ≡ Ret (Raise memory_fault)
unfolding append_to
append_more a = refl

-- a place that was found, and none
place : found (Is (Some (pos 2))) ≡ Is (Int (pos 2))
place = refl

no_place : found (Is None) ≡ Raise lack_fault
no_place = refl

-- a method's number decides: a.append() and a.sort(1) are wrong, and a dictionary's method is none of a list
append_none : (a : ℕ) → list_method_row {S = Unit {0}} (builtin_number (codes "list.append")) a [] ≡ Ret
    (Raise argument_fault)
unfolding list_method_row append_with
append_none a = refl

not_of_lists : (a : ℕ) → list_method_row {S = Unit {0}} (builtin_number (codes "dict.get")) a [] ≡ Ret
    (Raise operand_fault)
unfolding list_method_row
not_of_lists a = refl

-- ---- dictionaries
-- d.get(1), d.get(1, 2), d.get()
one_argument : key_and_value (Int (pos 1) ∷ []) ≡ Some (Int (pos 1), None)
one_argument = refl

two_arguments : key_and_value (Int (pos 1) ∷ Int (pos 2) ∷ []) ≡ Some (Int (pos 1), Some (Int (pos 2)))
two_arguments = refl

no_argument : key_and_value [] ≡ None
no_argument = refl

-- what is there comes before what is given; None that is there is there
found_first : found_or (Int (pos 2)) (Is (Some NoneValue)) ≡ Is NoneValue
found_first = refl

none_there : is_there (Is (Some NoneValue)) ≡ Is (BoolValue true)
none_there = refl

-- d.pop(1, 2) and d.pop(1) where 1 isn't there; d.pop([], 2)
given : or_given (Some (Int (pos 2))) (Raise (key_fault (Int (pos 1)))) ≡ Is (Int (pos 2))
given = refl

not_given : or_given None (Raise (key_fault (Int (pos 1)))) ≡ Raise (key_fault (Int (pos 1)))
not_given = refl

unhashable : or_given (Some (Int (pos 2))) (Raise hash_fault) ≡ Raise hash_fault
unhashable = refl

not_of_dicts : (d : ℕ) → dict_method_row {S = Unit {0}} (builtin_number (codes "list.sort")) d [] ≡ Ret
    (Raise operand_fault)
unfolding dict_method_row
not_of_dicts d = refl
