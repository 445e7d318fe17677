-- The extents of records, worked by hand. States `docs/HEAP.md`, "Extents".
use Rattle.std.specs.Prelude.{◌≡◌, ℕ, ◌*◌, List, [], replicate, refl, Some, None}
use Rattle.std.proofs.Common.{arith}
use Rattle.py_data.specs.declared.value.Value.{Value}
use Rattle.py_data.specs.declared.value.Value.TheVariants.{None as NoneValue}
use Rattle.py_base.specs.declared.kind.Kind.TheVariants.{Str, Tuple, List as ListKind, Dict, Cell, Class, Thread}
use Rattle.py_data.specs.Heap.{Rec, new_rec, room_of}
use Rattle.seg_store.specs.Extents.{class_holding, extents, words_in, words_at, Wants}

-- so many values
abbrev pub nones : ℕ → List Value
nones n = replicate n NoneValue

-- a List of so many values and a Dict of so many pairs, with the room that they have now and had when they were made
abbrev pub a_list : ℕ → ℕ → ℕ → Rec
a_list n room first = record { kind = ListKind; values = nones n; bytes = []; room = room; first = first }

abbrev a_dict : ℕ → ℕ → ℕ → Rec
a_dict n room first = record { kind = Dict; values = nones (2 * n); bytes = []; room = room; first = first }

-- ---- the least class of which an extent holds so many words

none_held : class_holding 0 ≡ 0
unfolding class_holding
none_held = refl

one_held : class_holding 1 ≡ 1
unfolding class_holding
one_held = refl

three_held : class_holding 3 ≡ 2
unfolding class_holding
three_held = refl

most_held : class_holding 2_097_152 ≡ 21
unfolding class_holding
most_held = refl

-- ---- words of records: a header has 4

cell_words : words_at (Some (new_rec Cell (nones 1) [])) ≡ 6
unfolding class_holding extents words_in room_of
cell_words = refl

text_words : words_at (Some (new_rec Str [] (replicate 16 65))) ≡ 6
unfolding class_holding extents words_in room_of
text_words = refl

longer_text_words : words_at (Some (new_rec Str [] (replicate 17 65))) ≡ 8
unfolding class_holding extents words_in room_of
longer_text_words = refl

empty_text_words : words_at (Some (new_rec Str [] [])) ≡ 4
unfolding class_holding extents words_in room_of
empty_text_words = refl

-- room for a pair, and an index of half as many words
dict_words : words_at (Some (new_rec Dict [] [])) ≡ 10
unfolding class_holding extents words_in room_of
dict_words = refl

class_words : words_at (Some (new_rec Class (nones 3) [])) ≡ 12
unfolding class_holding extents words_in room_of
class_words = refl

thread_words : words_at (Some (new_rec Thread (nones 4) [])) ≡ 12
unfolding class_holding extents words_in room_of
thread_words = refl

tuple_words : words_at (Some (new_rec Tuple (nones 24) [])) ≡ 68
unfolding class_holding extents words_in room_of
tuple_words = refl

empty_list_words : words_at (Some (new_rec ListKind [] [])) ≡ 4
unfolding class_holding extents words_in room_of
empty_list_words = refl

-- made empty, and grown to room 256: bodies of the classes 1 to 9 beside the header
grown_list_words : words_at (Some (a_list 0 256 0)) ≡ 1_026
unfolding class_holding extents words_in
grown_list_words = refl

-- made with five pairs, and grown once: bodies of 32 and 64 words, and an index of half of each
grown_dict_words : words_at (Some (a_dict 0 32 16)) ≡ 148
unfolding class_holding extents words_in
grown_dict_words = refl

no_words : words_at None ≡ 0
unfolding words_in
no_words = refl

-- ---- what is wanted

-- a List of 256 values with room for no more is given room for 512: its next body is of class 10
next_body : Wants (Some (a_list 256 256 0)) (a_list 257 512 0) 1_024
unfolding class_holding extents
next_body = record { class = 10; least = omega arith; most = omega arith; words = refl; more = omega arith }

-- a record that is made wants its header, or its body
header_wanted : Wants None (new_rec Cell (nones 1) []) 4
unfolding class_holding extents room_of
header_wanted = record { class = 2; least = omega arith; most = omega arith; words = refl; more = omega arith }

body_wanted : Wants None (new_rec Cell (nones 1) []) 2
unfolding class_holding extents room_of
body_wanted = record { class = 1; least = omega arith; most = omega arith; words = refl; more = omega arith }
