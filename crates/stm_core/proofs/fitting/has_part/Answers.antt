use Rattle.std.proofs.Common.{arith}
use Rattle.seg_store.specs.Meaning.{sees}
use Rattle.stm_segment.proofs.Sighting.{has_bytes}
use Rattle.stm_core.proofs.fitting.has_part.Goals as goal

pub copy_bytes-requires-clause-there : goal.copy_bytes-requires-clause-there
copy_bytes-requires-clause-there g c =
    has_bytes (sees (g.S.SegStore.meaning c.args.store.now) c.args.k) c.args.a.0 c.args.from _ c.requires.there
    (omega (arith, c.requires.within, c.requires.room))
