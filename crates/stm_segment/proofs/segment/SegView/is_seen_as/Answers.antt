use Rattle.std.proofs.Common.{sym, ap, ◌∙◌}
use Rattle.py_data.specs.Heap.{is_tracked}
use Rattle.seg_store.specs.Meaning.{sees}
use Rattle.stm_segment.proofs.Looking.{noted_tracked, noted_fixed}
use Rattle.stm_segment.proofs.segment.SegView.is_seen_as.Goals as goal

pub returns-then-is_tracked_kind : goal.returns-then-is_tracked_kind
returns-then-is_tracked_kind g c =
    let m = g.S.SegStore.meaning c.args.self.now.store.now in
    c.has_looked.ensures ∙
    sym (noted_tracked (sees m c.args.self.now.segment) c.args.a.0 ((m.part c.args.self.now.segment).looked c.args.a.0)
    c.requires.there
    (ap is_tracked (sym c.requires.kind) ∙ sym c.is_tracked_kind.ensures ∙ c.if-is_tracked_kind.true))

pub returns-else-is_tracked_kind : goal.returns-else-is_tracked_kind
returns-else-is_tracked_kind g c =
    let m = g.S.SegStore.meaning c.args.self.now.store.now in
    sym (noted_fixed (sees m c.args.self.now.segment) c.args.a.0 ((m.part c.args.self.now.segment).looked c.args.a.0)
    c.requires.there
    (ap is_tracked (sym c.requires.kind) ∙ sym c.is_tracked_kind.ensures ∙ c.if-is_tracked_kind.false))
