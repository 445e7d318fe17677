-- Worked rows of what words stand for.
use Rattle.std.proofs.Common.{◌≡◌, ℕ, List, [], ◌∷◌, get_or, pos, negsuc, true, refl}
use Rattle.py_base.specs.declared.kind.Kind.TheVariants.{Str, Tuple, List as ListKind, Dict, Cell}
use Rattle.py_data.specs.declared.value.Value.TheVariants.{Unset, None as NoneValue, Bool as BoolValue, Int, Ref}
use Rattle.py_data.specs.Heap.{new_rec}
use Rattle.paged_store.specs.Words.{Words, signed, value_of, clipped, value_in, byte_in, size_of, room_in, kind_at, kind_in, class_in, index_class_in, first_in, record_of, decode}
use Rattle.dict_index.specs.Packed.{packed}
use Rattle.paged_store.specs.inner.Written.{made_class, made_head}
use Rattle.seg_store.specs.Extents.{class_holding}
use Rattle.py_data.specs.Heap.{room_of}

-- the words of a list from place 2 on, where the record at address 1 begins
from_two : List ℕ → Words
from_two ws p = get_or (0 ∷ 0 ∷ ws) p 0

-- a Cell with 7: kind 5, a body of class 1
cell_seven : decode (from_two (16777477 ∷ 1 ∷ 6 ∷ 0 ∷ 3 ∷ 7 ∷ [])) 1 ≡ new_rec Cell (Int (pos 7) ∷ []) []
unfolding from_two decode record_of clipped value_in byte_in size_of room_in kind_at kind_in class_in index_class_in
    first_in value_of signed room_of
cell_seven = refl

-- an unset Cell, and one with -1
cell_unset : decode (from_two (16777477 ∷ 1 ∷ 6 ∷ 0 ∷ 0 ∷ 0 ∷ [])) 1 ≡ new_rec Cell (Unset ∷ []) []
unfolding from_two decode record_of clipped value_in byte_in size_of room_in kind_at kind_in class_in index_class_in
    first_in value_of signed room_of
cell_unset = refl

cell_minus_one : decode (from_two (16777477 ∷ 1 ∷ 6 ∷ 0 ∷ 3 ∷ 18446744073709551615 ∷ [])) 1 ≡
    new_rec Cell (Int (negsuc 0) ∷ []) []
unfolding from_two decode record_of clipped value_in byte_in size_of room_in kind_at kind_in class_in index_class_in
    first_in value_of signed room_of
cell_minus_one = refl

-- the Str "ab", whose bytes are the lowest two of a word, and an empty one
str_ab : decode (from_two (16777473 ∷ 2 ∷ 6 ∷ 0 ∷ 25185 ∷ 0 ∷ [])) 1 ≡ new_rec Str [] (97 ∷ 98 ∷ [])
unfolding from_two decode record_of clipped value_in byte_in size_of room_in kind_at kind_in class_in index_class_in
    first_in value_of signed room_of
str_ab = refl

str_empty : decode (from_two (1 ∷ 0 ∷ 0 ∷ 0 ∷ [])) 1 ≡ new_rec Str [] []
unfolding from_two decode record_of clipped value_in byte_in size_of room_in kind_at kind_in class_in index_class_in
    first_in value_of signed room_of
str_empty = refl

-- an empty List
list_empty : decode (from_two (3 ∷ 0 ∷ 0 ∷ 0 ∷ [])) 1 ≡ new_rec ListKind [] []
unfolding from_two decode record_of clipped value_in byte_in size_of room_in kind_at kind_in class_in index_class_in
    first_in value_of signed room_of
list_empty = refl

-- a List that was made empty, with one value and room 2: its body is of class 2
list_of_one : decode (from_two (515 ∷ 1 ∷ 6 ∷ 0 ∷ 4 ∷ 9 ∷ 0 ∷ 0 ∷ [])) 1 ≡
    record { kind = ListKind; values = Ref (record { 0 = 9 }) ∷ []; bytes = []; room = 2; first = 0 }
unfolding from_two decode record_of clipped value_in byte_in size_of room_in kind_at kind_in class_in index_class_in
    first_in value_of signed room_of
list_of_one = refl

-- a Dict of one pair: a body of class 2, and an index of class 1 behind it
dict_of_one : decode (from_two (33620484 ∷ 2 ∷ 6 ∷ 10 ∷ 1 ∷ 0 ∷ 2 ∷ 1 ∷ 1 ∷ 0 ∷ [])) 1 ≡
    new_rec Dict (NoneValue ∷ BoolValue true ∷ []) []
unfolding from_two decode record_of clipped value_in byte_in size_of room_in kind_at kind_in class_in index_class_in
    first_in value_of signed room_of
dict_of_one = refl

-- what the count tells beyond the body is 0
beyond_body : decode (from_two (16777477 ∷ 2 ∷ 6 ∷ 0 ∷ 3 ∷ 7 ∷ 3 ∷ 8 ∷ [])) 1 ≡
    record { kind = Cell; values = Int (pos 7) ∷ Unset ∷ []; bytes = []; room = 0; first = 0 }
unfolding from_two decode record_of clipped value_in byte_in size_of room_in kind_at kind_in class_in index_class_in
    first_in value_of signed room_of
beyond_body = refl

-- ---- when they are made

head_of_cell : made_head Cell 1 ≡ 16777477
unfolding made_head made_class class_holding room_of
head_of_cell = refl

head_of_short_text : made_head Str 16 ≡ 16777473
unfolding made_head made_class class_holding room_of
head_of_short_text = refl

head_of_longer_text : made_head Str 17 ≡ 33554945
unfolding made_head made_class class_holding room_of
head_of_longer_text = refl

head_of_empty_list : made_head ListKind 0 ≡ 3
unfolding made_head made_class class_holding room_of
head_of_empty_list = refl

head_of_empty_dict : made_head Dict 0 ≡ 33620484
unfolding made_head made_class class_holding room_of
head_of_empty_dict = refl

-- a Tuple of 24 values has a body of 64 words
head_of_roots : made_head Tuple 24 ≡ 100664834
unfolding made_head made_class class_holding room_of
head_of_roots = refl

words_of_ab : packed (97 ∷ 98 ∷ []) 0 ≡ 25185
unfolding packed
words_of_ab = refl

second_word : packed (1 ∷ 2 ∷ 3 ∷ 4 ∷ 5 ∷ 6 ∷ 7 ∷ 8 ∷ 9 ∷ []) 1 ≡ 9
unfolding packed
second_word = refl
