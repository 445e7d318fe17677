use Rattle.std.proofs.Common.{◌≢◌, drop}
use Rattle.py_data.specs.Every.{Every}
use Rattle.py_data.specs.declared.value.Value.TheVariants.{Unset}
use Rattle.store_bench.proofs.bench.shapes.are_set.Given as goal

abbrev pub invariant-values : goal.invariant-values
invariant-values l = Every (λ v. v ≢ Unset) (drop l.v-index l.vs) → Every (λ v. v ≢ Unset) l.vs
