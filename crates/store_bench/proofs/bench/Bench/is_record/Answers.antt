use Rattle.std.proofs.Common.{◌≡◌, subst}
use Rattle.py_data.specs.Heap.{Heap}
use Rattle.py_data.specs.Shape.{KindIn}
use Rattle.seg_store.specs.Meaning.{sees}
use Rattle.store_bench.proofs.There.{kind_there}
use Rattle.store_bench.proofs.bench.Bench.is_record.Goals as goal

pub returns : goal.returns
returns g c t = subst (λ x. KindIn (h c.args.a.0) (λ q. q ≡ x)) (c.same_kind.ensures t)
    (kind_there h c.args.a.0 _ c.kind.ensures.there c.kind.ensures.kind)
  where
    h : Heap
    h = sees (g.S.SegStore.meaning c.args.self.now.store) c.args.k
