-- Places, bounds and parts, worked by hand for the list 1, 2, 3, and what an iterator says. States `docs/LANGUAGE.md`,
-- "Lists and tuples" and "Iteration".
use Rattle.std.specs.Prelude.{◌≡◌, pos, negsuc, List, [], ◌∷◌, Some, None, refl}
use Rattle.py_data.specs.declared.value.Value.{Value}
use Rattle.py_base.specs.declared.kind.Kind.TheVariants.{Iter, Range}
use Rattle.py_data.specs.declared.value.Value.TheVariants.{Int}
use Rattle.obj_seq.specs.Iter.{iter_parts, iter_values}
use Rattle.obj_seq.specs.Seq.{place, bound, bound_or, part}

abbrev three : List Value
three = Int (pos 1) ∷ Int (pos 2) ∷ Int (pos 3) ∷ []

-- the indices 0, 2, 3, -1, -3 and -4
first : place (pos 0) 3 ≡ Some 0
first = refl

last : place (pos 2) 3 ≡ Some 2
last = refl

past_the_end : place (pos 3) 3 ≡ None
past_the_end = refl

from_the_end : place (negsuc 0) 3 ≡ Some 2
from_the_end = refl

first_from_the_end : place (negsuc 2) 3 ≡ Some 0
first_from_the_end = refl

before_the_front : place (negsuc 3) 3 ≡ None
before_the_front = refl

-- the bounds 1, 9, -1 and -9
inside : bound (pos 1) 3 ≡ 1
inside = refl

cut : bound (pos 9) 3 ≡ 3
cut = refl

before_the_last : bound (negsuc 0) 3 ≡ 2
before_the_last = refl

cut_at_the_front : bound (negsuc 8) 3 ≡ 0
cut_at_the_front = refl

-- [1:9], [:-1], [:] and [2:1]
one_to_nine : part three (bound_or (Some (pos 1)) 0 3) (bound_or (Some (pos 9)) 3 3) ≡ Int (pos 2) ∷ Int (pos 3) ∷ []
one_to_nine = refl

all_but_the_last : part three (bound_or None 0 3) (bound_or (Some (negsuc 0)) 3 3) ≡ Int (pos 1) ∷ Int (pos 2) ∷ []
all_but_the_last = refl

whole : part three (bound_or None 0 3) (bound_or None 3 3) ≡ three
whole = refl

nothing : part three (bound_or (Some (pos 2)) 0 3) (bound_or (Some (pos 1)) 3 3) ≡ []
nothing = refl

-- at the second of three values of the record at 5; a range isn't an iterator
second_of_three : iter_parts Iter (iter_values 5 1 3) ≡ Some (Some (record { over = record { 0 = 5 }; at = 1; count = 3 }))
second_of_three = refl

range_is_none : iter_parts Range (Int (pos 0) ∷ Int (pos 3) ∷ Int (pos 1) ∷ []) ≡ None
range_is_none = refl
