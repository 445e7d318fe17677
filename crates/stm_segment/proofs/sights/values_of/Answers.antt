use Rattle.seg_store.specs.Meaning.{sees}
use Rattle.stm_segment.proofs.Sighting.{has_place}
use Rattle.stm_segment.proofs.sights.values_of.Goals as goal

pub val-requires-clause-there : goal.val-requires-clause-there
val-requires-clause-there g c =
    has_place (sees (g.S.SegStore.meaning c.args.store.now) c.args.k) c.args.a.0 c.values.i c.value_count-count.result
    c.requires.there c.value_count-count.ensures.count c.values-test.true
