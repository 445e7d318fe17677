-- How a key is looked for in an index: from its home on, until a pair has an equal key or a slot is empty.
-- States `docs/HEAP.md`, "The index of a dictionary".
use Rattle.std.specs.Prelude.{◌≡◌, ◌≢◌, ◌⊎◌, ℕ, ◌-◌, ◌*◌, ◌<◌, false, List}
use Rattle.py_data.specs.declared.value.Value.{Value}
use Rattle.py_data.specs.Heap.{Heap, value_at}
use Rattle.py_data.specs.Shape.{same_key}
use Rattle.dict_index.specs.Slots.{slot}

-- the first d slots from a slot on are passed: none is empty, and none has the number of a pair with an equal key
pub record Passed (h : Heap) (vs : List Value) (key : Value) (n : ℕ) (w : ℕ → ℕ) (start d : ℕ) : Type 0 where
  pub filled : (e : ℕ) → e < d → w (slot n start e) ≢ 0
  pub differ : (e : ℕ) → e < d → same_key h (value_at vs (2 * (w (slot n start e) - 1))) key ≡ false

-- the search is over: once round, or at an empty slot
abbrev pub IsOver : ℕ → (ℕ → ℕ) → ℕ → ℕ → Type 0
IsOver n w start d = (d ≡ n) ⊎ (w (slot n start d) ≡ 0)
