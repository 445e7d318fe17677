use Rattle.std.proofs.Common.{◌≡◌, ◌∙◌, ◌*◌, ap, length, subst}
use Rattle.py_base.specs.declared.kind.Kind.TheVariants.{Dict}
use Rattle.bench_cases.specs.Holds.{HoldsRecord}
use Rattle.obj_bench.proofs.BenchPairs.{pairs_length}
use Rattle.bench_cases.proofs.Pairs.{dict_asks}
use Rattle.bench_cases.proofs.heap.changes.Goals as goal

pub make-requires : goal.make-requires
make-requires g c = λ h. dict_asks _ g.V.View.sense.partial h c.args.count _ c.in_ok-values.ensures c.requires

pub loop-place-init : goal.loop-place-init
loop-place-init g c =
    let long : length c.in_ok-values.values ≡ 2 * c.args.count = ap length c.in_ok-values.ensures ∙
    pairs_length 0 c.args.count in
    subst (λ n. HoldsRecord g.V.View.sense Dict c.in_ok-dict.dict.0 n c.make.new.v) long c.in_ok-dict.ensures
