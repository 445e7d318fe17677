use Rattle.std.proofs.Common.{not, ap, sym, ◌∙◌}
use Rattle.py_data.specs.Heap.{is_tracked}
use Rattle.seg_store.specs.Meaning.{sees}
use Rattle.stm_segment.proofs.Looking.{noted_looked, noted_unlooked}
use Rattle.stm_segment.proofs.segment.SegView.is_seen.Goals as goal

pub returns-then-has_looked : goal.returns-then-has_looked
returns-then-has_looked g c =
    let m = g.S.SegStore.meaning c.args.self.now.store.now in
    sym (noted_looked (sees m c.args.self.now.segment) c.args.a.0 ((m.part c.args.self.now.segment).looked c.args.a.0)
    c.requires.there (sym c.has_looked.ensures ∙ c.if-has_looked.true))

pub returns-else-has_looked : goal.returns-else-has_looked
returns-else-has_looked g c =
    let m = g.S.SegStore.meaning c.args.self.now.store.now in
    ap not (c.is_tracked_kind.ensures ∙ ap is_tracked c.kind.ensures) ∙
    sym (noted_unlooked (sees m c.args.self.now.segment) c.args.a.0
    ((m.part c.args.self.now.segment).looked c.args.a.0) c.requires.there
    (sym c.has_looked.ensures ∙ c.if-has_looked.false))
