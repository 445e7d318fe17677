use Rattle.std.proofs.Common.{◌≡◌, subst, arith}
use Rattle.py_base.specs.declared.kind.Kind.TheVariants.{List as ListKind}
use Rattle.bench_cases.specs.Holds.{HoldsRecord}
use Rattle.bench_cases.proofs.Pairs.{list_asks}
use Rattle.bench_cases.proofs.heap.appends.Goals as goal

pub make-requires : goal.make-requires
make-requires g c = λ h. list_asks _ g.V.View.sense.partial h _ c.new.ensures

pub sum-requires : goal.sum-requires
sum-requires g c =
    let all : c.loop-n.n ≡ c.args.count = omega arith in
    (ListKind, subst (λ n. HoldsRecord g.V.View.sense ListKind c.in_ok-list.list.0 n c.loop-n.v) all c.loop-n.invariant)
