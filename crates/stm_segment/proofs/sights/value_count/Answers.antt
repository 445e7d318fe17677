use Rattle.std.proofs.Common.{sym, ◌∙◌}
use Rattle.py_data.specs.Heap.{at}
use Rattle.seg_store.specs.Meaning.{sees}
use Rattle.stm_segment.proofs.Seeing.{stored_at, count_str}
use Rattle.stm_segment.proofs.sights.value_count.Goals as goal

pub returns-in-Str-clause-count : goal.returns-in-Str-clause-count
returns-in-Str-clause-count g c =
    sym (count_str (at (sees (g.S.SegStore.meaning c.args.store.now) c.args.k) c.args.a.0)
    (stored_at (g.S.SegStore.reserved c.args.store.now) (g.S.SegStore.meaning c.args.store.now) c.args.k c.args.a.0
    c.known.ensures.store c.requires.there) (sym c.kind.ensures ∙ c.in-Str.is))
