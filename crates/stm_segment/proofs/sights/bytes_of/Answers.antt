use Rattle.std.proofs.Common.{arith}
use Rattle.seg_store.specs.Meaning.{sees}
use Rattle.stm_segment.proofs.Sighting.{has_bytes}
use Rattle.stm_segment.proofs.sights.bytes_of.Goals as goal

pub copy_bytes-requires-clause-there : goal.copy_bytes-requires-clause-there
copy_bytes-requires-clause-there g c =
    let l = c.as_mut_slice.ensures.len in let n = c.in_ok-room.ensures.len in let b = c.byte_count.ensures.count in
    has_bytes (sees (g.S.SegStore.meaning c.args.store.now) c.args.k) c.args.a.0 0 _ c.requires.there
    (omega (arith, l, n, b))
