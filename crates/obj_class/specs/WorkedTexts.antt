-- Texts of exceptions worked by hand, over one small heap. States `docs/LANGUAGE.md`, "Texts of exceptions".
use Rattle.std.specs.Prelude.{◌≡◌, pos, codes, true, false, List, [], ◌∷◌, slice_get, refl}
use Rattle.py_base.specs.declared.kind.Kind.TheVariants.{Str, Tuple, List as ListKind, Dict, Class, Instance}
use Rattle.py_data.specs.declared.value.Value.TheVariants.{None as NoneValue, Bool as BoolValue, Int}
use Rattle.py_data.specs.declared.record.Got.TheVariants.{Is, Raise}
use Rattle.py_data.specs.Fault.{depth_fault}
use Rattle.py_data.specs.Heap.{Heap, Rec, new_rec, at}
use Rattle.py_data.specs.Texts.{repr_within}
use Rattle.obj_class.specs.Bases.{ref}
use Rattle.obj_class.specs.Telling.{text_of, told_within}

-- The roots (0) have BaseException (1) and KeyError (2) at their places; I (3) is below BaseException, and C (4) below
-- none. 6 is the string `args`, 7 the string a. Behind them come tuples, dictionaries and instances.
abbrev records : List Rec
records =
    new_rec Tuple (NoneValue ∷ NoneValue ∷ ref 1 ∷ NoneValue ∷ NoneValue ∷ NoneValue ∷ NoneValue ∷ NoneValue ∷
    NoneValue ∷ NoneValue ∷ NoneValue ∷ NoneValue ∷ NoneValue ∷ NoneValue ∷ NoneValue ∷ NoneValue ∷ NoneValue ∷
    NoneValue ∷ ref 2 ∷ []) [] ∷
    new_rec Class (ref 7 ∷ NoneValue ∷ ref 9 ∷ []) [] ∷
    new_rec Class (ref 7 ∷ ref 1 ∷ ref 9 ∷ []) [] ∷
    new_rec Class (ref 5 ∷ ref 1 ∷ ref 9 ∷ []) [] ∷
    new_rec Class (ref 5 ∷ NoneValue ∷ ref 9 ∷ []) [] ∷
    new_rec Str [] (codes "I") ∷
    new_rec Str [] (codes "args") ∷
    new_rec Str [] (codes "a") ∷
    new_rec Tuple (ref 7 ∷ []) [] ∷
    new_rec Dict [] [] ∷
    new_rec Dict (ref 7 ∷ NoneValue ∷ ref 6 ∷ ref 8 ∷ []) [] ∷
    new_rec Instance (ref 2 ∷ ref 10 ∷ []) [] ∷
    new_rec Instance (ref 3 ∷ ref 10 ∷ []) [] ∷
    new_rec Instance (ref 4 ∷ ref 10 ∷ []) [] ∷
    new_rec Instance (ref 1 ∷ ref 9 ∷ []) [] ∷
    new_rec Tuple [] [] ∷
    new_rec Dict (ref 6 ∷ ref 15 ∷ []) [] ∷
    new_rec Instance (ref 1 ∷ ref 16 ∷ []) [] ∷
    new_rec Tuple (NoneValue ∷ BoolValue true ∷ []) [] ∷
    new_rec Dict (ref 6 ∷ ref 18 ∷ []) [] ∷
    new_rec Instance (ref 1 ∷ ref 19 ∷ []) [] ∷
    new_rec Dict (ref 6 ∷ Int (pos 5) ∷ []) [] ∷
    new_rec Instance (ref 1 ∷ ref 21 ∷ []) [] ∷
    new_rec Tuple (ref 11 ∷ []) [] ∷
    new_rec Dict (ref 6 ∷ ref 23 ∷ []) [] ∷
    new_rec Instance (ref 1 ∷ ref 24 ∷ []) [] ∷
    new_rec Tuple (ref 28 ∷ []) [] ∷
    new_rec Dict (ref 6 ∷ ref 26 ∷ []) [] ∷
    new_rec Instance (ref 1 ∷ ref 27 ∷ []) [] ∷
    new_rec ListKind (ref 12 ∷ []) [] ∷ []

abbrev heap : Heap
heap a = slice_get records a

-- KeyError('a') tells its one item in quotes
key_is_quoted : text_of heap 0 (ref 11) false ≡ Is (codes "'a'")
unfolding told_within repr_within at
key_is_quoted = refl

-- another exception tells it by itself
item_by_itself : text_of heap 0 (ref 12) false ≡ Is (codes "a")
unfolding told_within repr_within at
item_by_itself = refl

-- an instance of another class has no text of its own, nor has an exception within others
other_instance : text_of heap 0 (ref 13) false ≡ Is (codes "<I instance>")
unfolding told_within repr_within at
other_instance = refl

in_quotes : text_of heap 0 (ref 12) true ≡ Is (codes "<I instance>")
unfolding told_within repr_within at
in_quotes = refl

within_a_list : text_of heap 0 (ref 29) false ≡ Is (codes "[<I instance>]")
unfolding told_within repr_within at
within_a_list = refl

-- no `args`, an empty tuple, and no tuple
without_args : text_of heap 0 (ref 14) false ≡ Is (codes "")
unfolding told_within repr_within at
without_args = refl

of_no_items : text_of heap 0 (ref 17) false ≡ Is (codes "")
unfolding told_within repr_within at
of_no_items = refl

no_tuple : text_of heap 0 (ref 22) false ≡ Is (codes "")
unfolding told_within repr_within at
no_tuple = refl

-- of two items the tuple is told
of_two_items : text_of heap 0 (ref 20) false ≡ Is (codes "(None, True)")
unfolding told_within repr_within at
of_two_items = refl

-- an exception in an exception
in_an_exception : text_of heap 0 (ref 25) false ≡ Is (codes "'a'")
unfolding told_within repr_within at
in_an_exception = refl

-- an exception in itself is nested too deep
in_itself : text_of heap 0 (ref 28) false ≡ Raise depth_fault
unfolding told_within repr_within at
in_itself = refl
