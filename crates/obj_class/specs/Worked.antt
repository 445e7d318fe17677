-- Classes and attributes worked by hand, over one small heap. States `docs/LANGUAGE.md`, "Classes and instances" and
-- "Attributes".
use Rattle.std.specs.Prelude.{◌≡◌, pos, codes, true, false, List, [], ◌∷◌, slice_get, Some, None, refl, get_or}
use Rattle.py_base.specs.Numbers.{builtin_number, class_number}
use Rattle.py_base.specs.declared.kind.Kind.TheVariants.{Str, Tuple, List as ListKind, Dict, Function, Class, Instance, Thread}
use Rattle.py_data.specs.declared.value.Value.TheVariants.{None as NoneValue, Bool as BoolValue, Int, Builtin}
use Rattle.py_data.specs.Heap.{Heap, Rec, new_rec}
use Rattle.obj_class.specs.declared.lookup.Found.TheVariants.{Plain, Bound}
use Rattle.obj_class.specs.Attributes.{attribute, inherited}
use Rattle.obj_class.specs.Bases.{ref, is_below}
use Rattle.obj_class.specs.Roots.{base_names, own_name}

-- Class A has the function m and x = 1; class B, whose base is A, has x = 2; the first instance of B has y = 3, the
-- second m = 5. The roots have at the place of `thread.error` the class A.
abbrev records : List Rec
records = new_rec Str [] (codes "A") ∷ new_rec Dict (ref 10 ∷ ref 12 ∷ ref 11 ∷ Int (pos 1) ∷ []) [] ∷ new_rec Class
    (ref 0 ∷ NoneValue ∷ ref 1 ∷ []) [] ∷ new_rec Str [] (codes "B") ∷ new_rec Dict (ref 11 ∷ Int (pos 2) ∷ []) [] ∷
    new_rec Class (ref 3 ∷ ref 2 ∷ ref 4 ∷ []) [] ∷ new_rec Dict (ref 13 ∷ Int (pos 3) ∷ []) [] ∷ new_rec Instance
    (ref 5 ∷ ref 6 ∷ []) [] ∷ new_rec Dict (ref 10 ∷ Int (pos 5) ∷ []) [] ∷ new_rec Instance (ref 5 ∷ ref 8 ∷ []) [] ∷
    new_rec Str [] (codes "m") ∷ new_rec Str [] (codes "x") ∷ new_rec Function (ref 10 ∷ Int (pos 1) ∷ ref 14 ∷ []) []
    ∷ new_rec Str [] (codes "y") ∷ new_rec Tuple [] [] ∷ new_rec Str [] (codes "append") ∷ new_rec ListKind [] [] ∷
    new_rec Str [] (codes "start_new_thread") ∷ new_rec Thread (NoneValue ∷ ref 14 ∷ NoneValue ∷ BoolValue false ∷ [])
    [] ∷ new_rec Str [] (codes "error") ∷ new_rec Tuple
    (NoneValue ∷ NoneValue ∷ NoneValue ∷ NoneValue ∷ NoneValue ∷ NoneValue ∷ NoneValue ∷ NoneValue ∷ NoneValue ∷
    NoneValue ∷ NoneValue ∷ NoneValue ∷ NoneValue ∷ NoneValue ∷ NoneValue ∷ NoneValue ∷ NoneValue ∷ NoneValue ∷
    NoneValue ∷ NoneValue ∷ ref 2 ∷ []) [] ∷ []

abbrev heap : Heap
heap a = slice_get records a

-- an instance's own comes before its class's
own_comes_first : attribute heap 20 (ref 9) 10 ≡ Some (Plain (Int (pos 5)))
own_comes_first = refl

-- the nearest class comes before its base
nearest_comes_first : attribute heap 20 (ref 7) 11 ≡ Some (Plain (Int (pos 2)))
unfolding inherited
nearest_comes_first = refl

-- a function of a class is bound to an instance, and is as it is of a class
function_is_bound : attribute heap 20 (ref 7) 10 ≡ Some (Bound (ref 12))
unfolding inherited
function_is_bound = refl

function_of_class : attribute heap 20 (ref 5) 10 ≡ Some (Plain (ref 12))
unfolding inherited
function_of_class = refl

-- neither an instance nor its classes have it
nowhere : attribute heap 20 (ref 7) 15 ≡ None
unfolding inherited
nowhere = refl

-- a list has its methods, and a number and a tuple have none
list_has_append : attribute heap 20 (ref 16) 15 ≡ Some (Bound (Builtin (builtin_number (codes "list.append"))))
list_has_append = refl

tuple_has_none : attribute heap 20 (ref 14) 15 ≡ None
tuple_has_none = refl

number_has_none : attribute heap 20 (Int (pos 5)) 11 ≡ None
number_has_none = refl

-- what the module `thread` has, a thread hasn't
module_starts : attribute heap 20 (Builtin (builtin_number (codes "thread"))) 17 ≡ Some
    (Plain (Builtin (builtin_number (codes "thread.start_new_thread"))))
module_starts = refl

thread_does_not : attribute heap 20 (ref 18) 17 ≡ None
thread_does_not = refl

-- and it has the class of the roots
module_has_error : attribute heap 20 (Builtin (builtin_number (codes "thread"))) 19 ≡ Some (Plain (ref 2))
module_has_error = refl

other_has_none : attribute heap 20 (Builtin (builtin_number (codes "threading"))) 19 ≡ None
other_has_none = refl

-- B is below A and below itself, and A isn't below B
below_its_base : is_below heap 2 2 (ref 5) ≡ true
below_its_base = refl

below_itself : is_below heap 5 1 (ref 5) ≡ true
below_itself = refl

not_below_its_heir : is_below heap 5 9 (ref 2) ≡ false
not_below_its_heir = refl

-- bases and names of the classes that every program has
key_error_base : get_or base_names (class_number (codes "KeyError")) [] ≡ codes "LookupError"
key_error_base = refl

error_base : get_or base_names (class_number (codes "thread.error")) [] ≡ codes "Exception"
error_base = refl

error_name : own_name (class_number (codes "thread.error")) ≡ codes "error"
error_name = refl

unbound_name : own_name (class_number (codes "UnboundLocalError")) ≡ codes "UnboundLocalError"
unbound_name = refl
