-- What std's sorts of numbers and of texts give is the order of the definitions.
use Rattle.std.proofs.Common.{◌≡◌, List, [], ◌∷◌, ℕ, refl, sym, ap, subst, Result}
use Rattle.std.specs.Prelude.{IfOk}
use Rattle.std.specs.Ordering.{is_lt, nat_cmp, ordering_then}
use Rattle.std.specs.Cmp.{IsStrictWeakOrder, IsTotalOrder}
use Rattle.std.specs.Cmp.Lexicographic.{slice_cmp}
use Rattle.std.proofs.lemmas.Cmp.{int_cmp_total, nat_list_cmp_total}
use Rattle.std.proofs.lemmas.List.Sorted.{ranks_by}
use Rattle.py_data.specs.Comparing.{order_bytes}
use Rattle.obj_methods.specs.declared.words.Word.{Word}
use Rattle.obj_methods.specs.Sorting.{number_in, number_less, word_less}

pub bytes_cmp : (xs ys : List ℕ) → order_bytes xs ys ≡ slice_cmp nat_cmp xs ys
bytes_cmp [] [] = refl
bytes_cmp [] (y ∷ ys) = refl
bytes_cmp (x ∷ xs) [] = refl
bytes_cmp (x ∷ xs) (y ∷ ys) = ap (ordering_then (nat_cmp x y)) (bytes_cmp xs ys)

-- order of bytes is total
pub bytes_total : IsTotalOrder order_bytes
bytes_total = subst IsTotalOrder (λ i xs ys. sym (bytes_cmp xs ys) i) nat_list_cmp_total

pub numbers_rank : IsStrictWeakOrder number_less
numbers_rank = ranks_by int_cmp_total number_in

pub words_rank : IsStrictWeakOrder word_less
words_rank = ranks_by bytes_total (λ (w : Word). w.text)

pub texts_rank : {X : Type 0} (text : X → List ℕ) → IsStrictWeakOrder (λ x y. is_lt (order_bytes (text x) (text y)))
texts_rank text = ranks_by bytes_total text

-- an answer that is known by another name
pub if_ok_as : {A E : Type 0} (r : Result A E) (x y : A) → x ≡ y → IfOk r (λ a. a ≡ x) → IfOk r (λ a. a ≡ y)
if_ok_as r x y e h = subst (λ z. IfOk r (λ a. a ≡ z)) e h
