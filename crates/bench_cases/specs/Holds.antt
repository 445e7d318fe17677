-- What the measures know of the record that they work on. States `docs/HEAP.md`, "Records" and "Views".
use Rattle.std.specs.Prelude.{◌≡◌, ℕ, length, Some}
use Rattle.py_base.specs.declared.kind.Kind.{Kind}
use Rattle.py_data.specs.Heap.{Rec}
use Rattle.py_data.specs.Sense.{Sense, IsLive}

-- a record of that kind and so many values stands there, and the view has not stopped
pub record HoldsRecord {S X : Type 0} (u : Sense S X) (k : Kind) (a n : ℕ) (v : X) : Type 0 where
  pub live : IsLive u v
  pub r : Rec
  pub is : u.heap v a ≡ Some r
  pub kind : r.kind ≡ k
  pub long : length r.values ≡ n

-- a record of some kind
abbrev pub Holds : {S X : Type 0} → Sense S X → ℕ → ℕ → X → Type 0
Holds u a n v = (k : Kind) × HoldsRecord u k a n v
