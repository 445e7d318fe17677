use Rattle.std.proofs.Common.{◌∙◌, ap, [], ◌∷◌, ◌++◌, Some, length}
use Rattle.py_data.specs.Heap.{put_at}
use Rattle.stm_pieces.specs.LentOf.{terms_of, lent_heap, lent_base, all_edits, kept_edits}
use Rattle.stm_pieces.specs.PieceState.{but_at}
use Rattle.stm_pieces.proofs.Loaned.{states_same, states_lent}
use Rattle.stm_pieces.proofs.view.PieceView.add.Goals as goal

pub lend-requires-clause-heap : goal.lend-requires-clause-heap
lend-requires-clause-heap c = ap (λ h. h c.args.a.0) c.open.ensures.heap ∙ c.requires.fresh

pub lend-requires-clause-base : goal.lend-requires-clause-base
lend-requires-clause-base c = ap (λ h. h c.args.a.0) c.open.ensures.base ∙ c.requires.fresh

pub returns-in-Ok-clause-ok : goal.returns-in-Ok-clause-ok
returns-in-Ok-clause-ok c =
    let v = c.args.self.now in
    let l = c.lend.new.self in
    let r = c.args.r in
    let more = c.in-Ok.ensures.ok in
    states_lent v.solo v.stopped (terms_of v.records) (terms_of l) (lent_heap v.records) (lent_base v.records)
    (lent_heap l) (lent_base l) (all_edits v.edits) (all_edits c.open-2.new.self) (kept_edits v.edits)
    (kept_edits c.open-2.new.self)
    v.records.names.items l.names.items c.args.a r c.args.locked
    (more.terms ∙ ap (λ f. but_at f c.args.a.0
    (Some (record { entry = r; most = length r.values; locked = c.args.locked }))) c.open.ensures.terms)
    (more.heap ∙ ap (λ h. put_at h c.args.a.0 r) c.open.ensures.heap)
    (more.base ∙ ap (λ h. put_at h c.args.a.0 r) c.open.ensures.base) c.open-2.ensures.all c.open-2.ensures.kept
    (more.names ∙ ap (λ xs. xs ++ c.args.a ∷ []) c.open.ensures.names)

pub returns-in-Err-clause-err : goal.returns-in-Err-clause-err
returns-in-Err-clause-err c =
    let same = c.in-Err.ensures.err in
    states_same c.args.self.now.solo c.args.self.now.stopped (same.terms ∙ c.open.ensures.terms)
    (same.heap ∙ c.open.ensures.heap) (same.base ∙ c.open.ensures.base) c.open-2.ensures.all c.open-2.ensures.kept
    (same.names ∙ c.open.ensures.names)
