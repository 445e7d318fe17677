use Rattle.std.proofs.Common.{arith}
use Rattle.seg_store.specs.Meaning.{sees}
use Rattle.stm_segment.proofs.Sighting.{has_place}
use Rattle.stm_core.proofs.fitting.has_values.Goals as goal

pub val-requires-clause-there : goal.val-requires-clause-there
val-requires-clause-there g c =
    has_place (sees (g.S.SegStore.meaning c.args.store.now) c.args.k) c.args.a.0 c.values.i c.value_count.result
    c.requires.there c.value_count.ensures.count (omega arith)
