use Rattle.std.proofs.Common.{refl, ◌∙◌, ap}
use Rattle.page_table.specs.Pages.{Table}
use Rattle.page_table.specs.Lists.{table_of}
use Rattle.paged_store.proofs.DraftParts.{spans_lie, extents_lie, have_classes, changed_within, made_within, published_table, released_both, shown_made}
use Rattle.paged_store.proofs.draft.Draft.publish.Goals as goal

pub push_spans-requires-clause-lie : goal.push_spans-requires-clause-lie
push_spans-requires-clause-lie c = spans_lie (table_of c.args.pages.now) _ c.args.k c.args.self.now c.requires.fits
    c.deref.result.now _ c.deref.ensures.value refl

pub push_extents-requires-clause-lie : goal.push_extents-requires-clause-lie
push_extents-requires-clause-lie c =
    extents_lie (table_of c.args.pages.now) _ c.args.k c.args.self.now c.requires.fits c.deref-2.result.now _
    c.deref-2.ensures.value (ap (λ (t : Table). t.reserved) c.push_spans.ensures)

pub push_extents-requires-clause-classes : goal.push_extents-requires-clause-classes
push_extents-requires-clause-classes c = have_classes (table_of c.args.pages.now) _ c.args.k c.args.self.now
    c.requires.fits c.deref-2.result.now c.deref-2.ensures.value

pub release-requires : goal.release-requires
release-requires c = changed_within (table_of c.args.pages.now) _ c.args.k c.args.self.now c.requires.fits
    c.as_slice.result.now _ c.as_slice.ensures c.requires.granules

pub release-requires-2 : goal.release-requires-2
release-requires-2 c = made_within (table_of c.args.pages.now) _ c.args.k c.args.self.now c.requires.fits
    c.as_slice-2.result.now _ c.as_slice-2.ensures (c.release.ensures.sizes.granules ∙ c.requires.granules)

pub show-requires : goal.show-requires
show-requires c = made_within (table_of c.args.pages.now) _ c.args.k c.args.self.now c.requires.fits
    c.as_slice-3.result.now _ c.as_slice-3.ensures refl

pub returns-clause-table : goal.returns-clause-table
returns-clause-table c = published_table (table_of c.args.pages.now) (table_of c.push_spans.new.pages)
    (table_of c.push_extents.new.pages) c.args.k c.args.self.now c.deref.result.now c.deref-2.result.now
    c.deref.ensures.value c.deref-2.ensures.value c.push_spans.ensures c.push_extents.ensures

pub returns-clause-present : goal.returns-clause-present
returns-clause-present c = shown_made c.args.self.now c.as_slice-3.result.now _ _ c.as_slice-3.ensures c.show.ensures

pub returns-clause-holders : goal.returns-clause-holders
returns-clause-holders c = released_both c.args.self.now c.as_slice.result.now c.as_slice-2.result.now _
    c.release.new.marks _ c.as_slice.ensures c.as_slice-2.ensures c.release.ensures c.release-2.ensures
