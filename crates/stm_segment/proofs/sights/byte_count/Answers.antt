use Rattle.std.proofs.Common.{sym, ◌∙◌, arith}
use Rattle.py_data.specs.Heap.{at}
use Rattle.seg_store.specs.Meaning.{sees}
use Rattle.stm_segment.proofs.Seeing.{stored_at, count_bytes}
use Rattle.stm_segment.proofs.sights.byte_count.Goals as goal

pub returns-in_default : goal.returns-in_default
returns-in_default g c =
    let r = at (sees (g.S.SegStore.meaning c.args.store.now) c.args.k) c.args.a.0 in
    record {
      count = sym (count_bytes r.kind r.values r.bytes
          (stored_at (g.S.SegStore.reserved c.args.store.now) (g.S.SegStore.meaning c.args.store.now) c.args.k
          c.args.a.0 c.known.ensures.store c.requires.there).one (λ e. c.in_default.not-Str (c.kind.ensures ∙ e)));
      fits = omega arith;
    }
