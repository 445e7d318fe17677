-- The row of SETUP, which makes the roots of a program. States `docs/LANGUAGE.md`, "Instructions" and "Exceptions".
use Rattle.std.specs.Prelude.{ℕ, pos, List, [], ◌∷◌, ◌++◌}
use Rattle.py_base.specs.declared.kind.Kind.{Kind}
use Rattle.py_base.specs.declared.kind.Kind.TheVariants.{Str, Tuple, Dict, Cell, Class}
use Rattle.py_data.specs.declared.value.Value.{Value}
use Rattle.py_data.specs.declared.value.Value.TheVariants.{Unset, None as NoneValue, Int}
use Rattle.py_data.specs.Heap.{new_rec}
use Rattle.py_data.specs.Row.{Row, Ret, Do, Make, bind}
use Rattle.py_code.specs.declared.program.Program.{Program}
use Rattle.py_code.specs.declared.program.Root.{Root}
use Rattle.obj_class.specs.Exceptions.{made_row}
use Rattle.obj_class.specs.Roots.{own_name, root_base}
use Rattle.py_frames.specs.declared.next.Next.{Next}
use Rattle.py_frames.specs.declared.next.Next.TheVariants.{Begins}

-- ---- one root, once those before it are made

-- a class: its base stands before it
unfoldable pub named_class : {S : Type 0} → ℕ → List Value → Value → Value → Row S Value
named_class n vs name dict = made_row (new_rec Class (name ∷ root_base vs n ∷ dict ∷ []) [])

unfoldable pub class_dict : {S : Type 0} → ℕ → List Value → Value → Row S Value
class_dict n vs name = bind (made_row (new_rec Dict [] [])) (λ dict. named_class n vs name dict)

unfoldable pub class_root : {S : Type 0} → ℕ → List Value → Row S Value
class_root n vs = bind (made_row (new_rec Str [] (own_name n))) (λ name. class_dict n vs name)

-- the first Cell has the count of threads, and the others nothing yet
abbrev pub cell_start : List Value → Value
cell_start [] = Int (pos 1)
cell_start vs = Unset

unfoldable pub root_by : {S : Type 0} → Root → List Value → Kind → Row S Value
root_by r vs Cell = made_row (new_rec Cell (cell_start vs ∷ []) [])
root_by r vs Class = class_root r.number vs
root_by r vs Str = made_row (new_rec Str [] r.bytes)
root_by r vs _ = Ret NoneValue

-- ---- all of them in their order

unfoldable pub roots_row : {S : Type 0} → List Root → List Value → Row S (List Value)
roots_row [] vs = Ret vs
roots_row (r ∷ rs) vs = bind (root_by r vs r.kind) (λ x. roots_row rs (vs ++ x ∷ []))

unfoldable pub begun_row : {S : Type 0} → List Value → Row S Next
begun_row vs = Do (Make (new_rec Tuple vs [])) (λ a. Ret (Begins (record { 0 = a })))

unfoldable pub setup_row : {S : Type 0} → Program → Row S Next
setup_row p = bind (roots_row p.roots []) (λ vs. begun_row vs)
