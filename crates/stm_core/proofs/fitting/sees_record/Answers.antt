use Rattle.seg_store.specs.Meaning.{sees}
use Rattle.stm_segment.proofs.Sighting.{seen_is}
use Rattle.stm_core.proofs.fitting.sees_record.Goals as goal

pub returns-then-is_there : goal.returns-then-is_there
returns-then-is_there g c =
    seen_is (sees (g.S.SegStore.meaning c.args.store.now) c.args.k) c.args.a.0 c.args.r.now c.is_same.result
    (c.is_there.ensures.0 c.if-is_there.true) c.is_same.ensures
