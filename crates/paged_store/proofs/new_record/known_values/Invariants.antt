use Rattle.std.proofs.Common.{ℕ, ◌<◌}
use Rattle.py_data.specs.Heap.{value_at}
use Rattle.paged_store.specs.inner.Formed.{FitsValue}
use Rattle.paged_store.proofs.new_record.known_values.Given as goal

abbrev pub invariant-values : goal.invariant-values
invariant-values l = (j : ℕ) → j < l.v-index → FitsValue (value_at l.values j)
