use Rattle.py_base.specs.declared.kind.Kind.TheVariants.{List as ListKind}
use Rattle.bench_cases.specs.Holds.{HoldsRecord}
use Rattle.bench_cases.proofs.heap.appends.Given as goal

abbrev pub invariant-loop-n : goal.invariant-loop-n
invariant-loop-n g l = HoldsRecord g.V.View.sense ListKind l.list.0 l.n l.v
