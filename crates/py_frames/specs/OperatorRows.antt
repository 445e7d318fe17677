-- The rows of operators and jumps. States `docs/LANGUAGE.md`, "Instructions".
use Rattle.std.specs.Prelude.{ℕ, Bool, true, false, not, [], ◌∷◌}
use Rattle.py_data.specs.declared.value.Value.{Value}
use Rattle.py_data.specs.declared.value.Value.TheVariants.{Bool as BoolValue}
use Rattle.py_data.specs.Row.{Row, Ret, bind}
use Rattle.obj_nest.specs.Truth.{truth_row}
use Rattle.obj_ops.specs.Binary.{unary_row, binary_row}
use Rattle.obj_ops.specs.InPlace.{in_place_row}
use Rattle.obj_ops.specs.Compare.{compare_row}
use Rattle.py_frames.specs.declared.next.Next.{Next}
use Rattle.py_frames.specs.declared.next.Next.TheVariants.{Goes, Jumps}
use Rattle.py_frames.specs.Raising.{give}

-- ---- operators, by their numbers

unfoldable pub unary_instr : {S : Type 0} → ℕ → ℕ → Value → Row S Next
unary_instr roots op x = bind (unary_row op x) (λ g. give roots g)

unfoldable pub not_row : {S : Type 0} → Value → Row S Next
not_row x = bind (truth_row x) (λ b. Ret (Goes (BoolValue (not b) ∷ [])))

unfoldable pub binary_instr : {S : Type 0} → ℕ → ℕ → Value → Value → Row S Next
binary_instr roots op x y = bind (binary_row roots op x y) (λ g. give roots g)

unfoldable pub in_place_instr : {S : Type 0} → ℕ → ℕ → Value → Value → Row S Next
in_place_instr roots op x y = bind (in_place_row roots op x y) (λ g. give roots g)

unfoldable pub compare_instr : {S : Type 0} → ℕ → ℕ → Value → Value → Row S Next
compare_instr roots op x y = bind (compare_row op x y) (λ g. give roots g)

-- ---- jumps

-- JUMP_FALSE
unfoldable pub fall_or_jump : ℕ → Bool → Next
fall_or_jump t true = Goes []
fall_or_jump t false = Jumps t []

unfoldable pub jump_false_row : {S : Type 0} → ℕ → Value → Row S Next
jump_false_row t x = bind (truth_row x) (λ b. Ret (fall_or_jump t b))

-- KEEP_FALSE and KEEP_TRUE: a value that is kept is there where they jump
unfoldable pub pop_or_keep : ℕ → Value → Bool → Next
pop_or_keep t x true = Goes []
pop_or_keep t x false = Jumps t (x ∷ [])

unfoldable pub keep_false_row : {S : Type 0} → ℕ → Value → Row S Next
keep_false_row t x = bind (truth_row x) (λ b. Ret (pop_or_keep t x b))

unfoldable pub keep_true_row : {S : Type 0} → ℕ → Value → Row S Next
keep_true_row t x = bind (truth_row x) (λ b. Ret (pop_or_keep t x (not b)))
