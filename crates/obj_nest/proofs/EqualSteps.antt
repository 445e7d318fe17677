-- The search of a key, for the proof of equality.
use Rattle.std.proofs.Common.{ℕ, Option}
use Rattle.py_data.specs.declared.value.Value.{Value}
use Rattle.py_data.specs.Row.{Find}
use Rattle.py_data.specs.Sense.{Sense, Lawful, Safe}
use Rattle.py_data.proofs.Rows.{safe_next}
use Rattle.obj_nest.specs.Equal.{Compares, sought_row, found_row}

pub sought_next : {S X : Type 0} {u : Sense S X} (L : Lawful u) (f : Compares S) (b : ℕ) (k x : Value) (v m : X)
    (o : Option ℕ) → Safe u.partial (sought_row f b k x) (u.heap v) → u.does (Find b k) v o m →
    Safe u.partial (found_row f b x o) (u.heap m)
unfolding sought_row
sought_next L f b k x v m o s d = safe_next L (Find b k) (λ o. found_row f b x o) v m o s d
