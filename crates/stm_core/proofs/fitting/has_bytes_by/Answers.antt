use Rattle.std.proofs.Common.{arith}
use Rattle.py_data.specs.Heap.{at}
use Rattle.seg_store.specs.Meaning.{sees}
use Rattle.stm_segment.proofs.Sighting.{part_same}
use Rattle.stm_core.proofs.fitting.has_bytes_by.Goals as goal

pub parts-preserved : goal.parts-preserved
parts-preserved g c =
    let within = c.parts.invariant.within in let n = c.min-n.ensures in let test = c.parts-test.true in
    record {
      within = omega (arith, within, n, test);
      same = part_same (at (sees (g.S.SegStore.meaning c.args.store.now) c.args.k) c.args.a.0).bytes c.args.bytes.now
          c.parts.done c.min-n.result c.parts.invariant.same (omega (arith, within, n, test))
          (c.has_part.ensures.0 c.if-not-has_part.false);
    }
