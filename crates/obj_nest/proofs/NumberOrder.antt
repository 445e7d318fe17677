-- Two values that are numbers are ordered as these numbers.
use Rattle.std.proofs.Common.{◌≡◌, ℕ, ℤ, zero, suc, List, Option, Some, None, refl, ap, ◌∙◌}
use Rattle.std.specs.declared.cmp.Ordering.{Ordering}
use Rattle.std.specs.Ordering.{int_cmp}
use Rattle.py_data.specs.declared.value.Value.{Value}
use Rattle.py_data.specs.declared.value.Value.TheVariants.{Unset, None as NoneValue, Bool as BoolValue, Int, Ref, Builtin}
use Rattle.py_data.specs.declared.record.Got.{Got}
use Rattle.py_data.specs.declared.record.Got.TheVariants.{Is}
use Rattle.py_data.specs.Heap.{Heap}
use Rattle.py_data.specs.Comparing.{order, order_by, order_numbers, order_within, number_of}

by_numbers : (h : Heap) (items : List Value → List Value → Got Ordering) (x y : Value) (i : ℤ) → number_of x ≡ Some i →
    order_by h items x y ≡ order_numbers (number_of x) (number_of y)
by_numbers h items (Int n) y i e = refl
by_numbers h items (BoolValue b) y i e = refl
by_numbers h items Unset y i e = absurd (let q : ◌≡◌ {A = Option ℤ} None (Some i) = e in cc)
by_numbers h items NoneValue y i e = absurd (let q : ◌≡◌ {A = Option ℤ} None (Some i) = e in cc)
by_numbers h items (Ref a) y i e = absurd (let q : ◌≡◌ {A = Option ℤ} None (Some i) = e in cc)
by_numbers h items (Builtin b) y i e = absurd (let q : ◌≡◌ {A = Option ℤ} None (Some i) = e in cc)

two_numbers : (h : Heap) (items : List Value → List Value → Got Ordering) (x y : Value) (i j : ℤ) →
    number_of x ≡ Some i → number_of y ≡ Some j → order_by h items x y ≡ Is (int_cmp i j)
two_numbers h items x y i j ex ey = by_numbers h items x y i ex ∙
    (ap (λ o. order_numbers o (number_of y)) ex ∙ ap (order_numbers (Some i)) ey)

numbers_within : (h : Heap) (d : ℕ) (x y : Value) (i j : ℤ) → number_of x ≡ Some i → number_of y ≡ Some j →
    order_within h d x y ≡ Is (int_cmp i j)
unfolding order_within
numbers_within h zero x y i j ex ey = two_numbers h _ x y i j ex ey
numbers_within h (suc d) x y i j ex ey = two_numbers h _ x y i j ex ey

pub number_order : (h : Heap) (x y : Value) (i j : ℤ) → number_of x ≡ Some i → number_of y ≡ Some j →
    order h x y ≡ Is (int_cmp i j)
number_order h x y i j ex ey = numbers_within h 100 x y i j ex ey
