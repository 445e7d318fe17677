use Rattle.std.proofs.Common.{◌*◌}
use Rattle.py_base.specs.declared.kind.Kind.TheVariants.{Dict}
use Rattle.bench_cases.specs.Holds.{HoldsRecord}
use Rattle.bench_cases.proofs.heap.changes.Given as goal

abbrev pub invariant-loop-place : goal.invariant-loop-place
invariant-loop-place g l = HoldsRecord g.V.View.sense Dict l.dict.0 (2 * l.count) l.v
