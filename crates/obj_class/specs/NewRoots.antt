-- How the list of roots of a program is made, in a heap of its own or behind other records. States `docs/LANGUAGE.md`,
-- "Exceptions".
use Rattle.std.specs.Prelude.{ℕ, zero, suc, ◌+◌, pos, List, [], ◌∷◌, ◌++◌}
use Rattle.py_base.specs.declared.kind.Kind.TheVariants.{Str, Tuple, Dict, Cell, Class}
use Rattle.py_base.specs.Numbers.{class_count}
use Rattle.py_data.specs.declared.value.Addr.{Addr}
use Rattle.py_data.specs.declared.value.Value.{Value}
use Rattle.py_data.specs.declared.value.Value.TheVariants.{Int}
use Rattle.py_data.specs.Heap.{new_rec}
use Rattle.py_data.specs.Row.{Row, Ret, Do, Make, bind}
use Rattle.obj_class.specs.Exceptions.{made_row}
use Rattle.obj_class.specs.Roots.{own_name, root_base}

-- ---- one class: its name, its dictionary, and the class

unfoldable pub class_of_row : {S : Type 0} → Value → Value → Row S Value
class_of_row base name = bind (made_row (new_rec Dict [] []))
    (λ dict. made_row (new_rec Class (name ∷ base ∷ dict ∷ []) []))

unfoldable pub new_class_row : {S : Type 0} → Value → List ℕ → Row S Value
new_class_row base text = bind (made_row (new_rec Str [] text)) (λ name. class_of_row base name)

-- ---- all classes

-- the class of a number is made over those before it
unfoldable pub next_root_row : {S : Type 0} → ℕ → List Value → Row S (List Value)
next_root_row n vs = bind (new_class_row (root_base vs n) (own_name n)) (λ c. Ret (vs ++ c ∷ []))

-- so many classes from a number on
unfoldable pub roots_from : {S : Type 0} → ℕ → ℕ → List Value → Row S (List Value)
roots_from n zero vs = Ret vs
roots_from n (suc m) vs = bind (next_root_row n vs) (λ ws. roots_from (n + 1) m ws)

unfoldable pub roots_listed_row : {S : Type 0} → List Value → Row S Addr
roots_listed_row vs = Do (Make (new_rec Tuple vs [])) (λ a. Ret (record { 0 = a }))

unfoldable pub roots_behind_row : {S : Type 0} → Value → Row S Addr
roots_behind_row cell = bind (roots_from 0 class_count (cell ∷ [])) (λ vs. roots_listed_row vs)

-- The Cell of the count of threads, which is 1, the classes in the order of their numbers, and the list of them.
unfoldable pub roots_row : {S : Type 0} → Row S Addr
roots_row = bind (made_row (new_rec Cell (Int (pos 1) ∷ []) [])) (λ cell. roots_behind_row cell)
