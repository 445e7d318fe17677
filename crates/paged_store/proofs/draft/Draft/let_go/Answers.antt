use Rattle.std.proofs.Common.{refl, ◌∙◌, ap}
use Rattle.page_table.specs.Pages.{Table}
use Rattle.page_table.specs.Lists.{table_of}
use Rattle.paged_store.proofs.DraftParts.{spans_lie, extents_lie, have_classes, changed_within, made_within, restored_table, released_both, given_taken, room_taken}
use Rattle.paged_store.proofs.draft.Draft.let_go.Goals as goal

pub restore_spans-requires-clause-lie : goal.restore_spans-requires-clause-lie
restore_spans-requires-clause-lie c = spans_lie (table_of c.args.pages.now) _ c.args.k c.args.self.now c.requires.fits
    c.deref.result.now _ c.deref.ensures.value refl

pub restore_extents-requires-clause-lie : goal.restore_extents-requires-clause-lie
restore_extents-requires-clause-lie c =
    extents_lie (table_of c.args.pages.now) _ c.args.k c.args.self.now c.requires.fits c.deref-2.result.now _
    c.deref-2.ensures.value (ap (λ (t : Table). t.reserved) c.restore_spans.ensures)

pub restore_extents-requires-clause-classes : goal.restore_extents-requires-clause-classes
restore_extents-requires-clause-classes c = have_classes (table_of c.args.pages.now) _ c.args.k c.args.self.now
    c.requires.fits c.deref-2.result.now c.deref-2.ensures.value

pub give_back_all-requires-clause-lie : goal.give_back_all-requires-clause-lie
give_back_all-requires-clause-lie c =
    extents_lie (table_of c.args.pages.now) _ c.args.k c.args.self.now c.requires.fits c.deref-3.result.now _
    c.deref-3.ensures.value (ap (λ (t : Table). t.reserved) c.restore_extents.ensures ∙
    ap (λ (t : Table). t.reserved) c.restore_spans.ensures)

pub give_back_all-requires-clause-classes : goal.give_back_all-requires-clause-classes
give_back_all-requires-clause-classes c = have_classes (table_of c.args.pages.now) _ c.args.k c.args.self.now
    c.requires.fits c.deref-3.result.now c.deref-3.ensures.value

pub give_back_all-requires-clause-room : goal.give_back_all-requires-clause-room
give_back_all-requires-clause-room c =
    room_taken c.args.self.now c.deref-3.result.now (table_of c.args.pages.now) (table_of c.restore_extents.new.pages)
    c.deref-3.ensures.value
    (ap (λ (t : Table). t.shelf) c.restore_extents.ensures ∙ ap (λ (t : Table). t.shelf) c.restore_spans.ensures)
    c.requires.room

pub release-requires : goal.release-requires
release-requires c = changed_within (table_of c.args.pages.now) _ c.args.k c.args.self.now c.requires.fits
    c.as_slice.result.now _ c.as_slice.ensures refl

pub release-requires-2 : goal.release-requires-2
release-requires-2 c = made_within (table_of c.args.pages.now) _ c.args.k c.args.self.now c.requires.fits
    c.as_slice-2.result.now _ c.as_slice-2.ensures c.release.ensures.sizes.granules

pub returns-clause-table : goal.returns-clause-table
returns-clause-table c =
    given_taken c.args.self.now c.deref-3.result.now _ (table_of c.restore_extents.new.pages)
    (table_of c.give_back_all.new.pages) c.deref-3.ensures.value
    (restored_table (table_of c.args.pages.now) (table_of c.restore_spans.new.pages)
    (table_of c.restore_extents.new.pages) c.args.k c.args.self.now c.deref.result.now c.deref-2.result.now
    c.deref.ensures.value c.deref-2.ensures.value c.restore_spans.ensures c.restore_extents.ensures)
    c.give_back_all.ensures

pub returns-clause-holders : goal.returns-clause-holders
returns-clause-holders c = released_both c.args.self.now c.as_slice.result.now c.as_slice-2.result.now _
    c.release.new.marks _ c.as_slice.ensures c.as_slice-2.ensures c.release.ensures c.release-2.ensures
