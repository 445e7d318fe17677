-- The way along the bases of classes, and whether a class is another one or has it among its bases.
-- States `docs/LANGUAGE.md`, "Classes and instances".
use Rattle.std.specs.Prelude.{◌≡◌, ℕ, zero, suc, Bool, true, false, cond, eqb, Result, Ok, Err}
use Rattle.py_data.specs.declared.value.Value.{Value}
use Rattle.py_data.specs.declared.value.Value.TheVariants.{None as NoneValue, Ref}
use Rattle.py_data.specs.Heap.{Heap}
use Rattle.py_data.specs.Closed.{base_of}
use Rattle.py_data.specs.Row.{Row, Ret, bind}
use Rattle.py_data.specs.Looking.{look_row, walk_row}

-- the address of a record as a value
abbrev pub ref : ℕ → Value
ref a = Ref (record { 0 = a })

-- as many turns as there are addresses
abbrev pub MOST_BASES : ℕ
MOST_BASES = 4_294_967_296

-- ---- what is meant

-- so many steps along bases
abbrev pub up : Heap → ℕ → Value → Value
up h zero v = v
up h (suc k) (Ref c) = up h k (base_of (h c.0))
up h (suc k) _ = NoneValue

-- a class is below another if some steps along bases lead to it; none do if it is that class
abbrev pub IsBelow : Heap → ℕ → Value → Type 0
IsBelow h base v = (k : ℕ) × (up h k v ≡ ref base)

-- the same as a test of at most so many classes on the way
abbrev pub is_below : Heap → ℕ → ℕ → Value → Bool
is_below h base zero v = false
is_below h base (suc n) (Ref c) = cond (eqb c.0 base) true (is_below h base n (base_of (h c.0)))
is_below h base (suc n) _ = false

-- ---- the row

-- one turn at a class: it is the one that is looked for, or its base is the next
unfoldable pub base_step : {S : Type 0} → ℕ → ℕ → Row S (Result Value Bool)
base_step base c = cond (eqb c base) (Ret (Err true)) (bind (look_row c 1) (λ b. Ret (Ok b)))

unfoldable pub sub_step : {S : Type 0} → ℕ → Value → Row S (Result Value Bool)
sub_step base (Ref c) = base_step base c.0
sub_step base _ = Ret (Err false)

-- whether a class is another one or has it among its bases
abbrev pub is_sub_row : {S : Type 0} → ℕ → ℕ → Row S Bool
is_sub_row c base = walk_row (sub_step base) false MOST_BASES (ref c)
