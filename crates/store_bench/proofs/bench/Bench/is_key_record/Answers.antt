use Rattle.std.proofs.Common.{sym, ◌∙◌}
use Rattle.seg_store.specs.Meaning.{sees}
use Rattle.store_bench.proofs.There.{key_there}
use Rattle.store_bench.proofs.bench.Bench.is_key_record.Goals as goal

pub returns : goal.returns
returns g c = λ t. key_there (sees (g.S.SegStore.meaning c.args.self.now.store) c.args.k) c.args.a.0 _
    c.kind.ensures.there c.kind.ensures.kind (sym c.is_key_kind.ensures ∙ t)
