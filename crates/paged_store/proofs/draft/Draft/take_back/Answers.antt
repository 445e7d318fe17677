use Rattle.std.proofs.Common.{drop, refl, ◌∙◌, ap}
use Rattle.page_table.specs.Pages.{Table}
use Rattle.page_table.specs.Lists.{table_of}
use Rattle.paged_store.proofs.DraftParts.{notes_lie, since_lie, since_classes, since_within, rewound_table, released_since, given_since, room_since}
use Rattle.paged_store.proofs.draft.Draft.take_back.Goals as goal

pub write_back-requires-clause-lie : goal.write_back-requires-clause-lie
write_back-requires-clause-lie c = notes_lie (table_of c.args.pages.now) _ c.args.k c.args.self.now c.requires.fits
    c.deref.result.now c.deref.ensures.value

pub restore_extents-requires-clause-lie : goal.restore_extents-requires-clause-lie
restore_extents-requires-clause-lie c =
    since_lie (table_of c.args.pages.now) _ c.args.k c.args.self.now c.requires.fits c.skip-since.result.now _
    (c.skip-since.ensures ∙ ap (drop c.args.self.now.taken_before) c.deref-2.ensures.value)
    (ap (λ (t : Table). t.reserved) c.write_back.ensures)

pub restore_extents-requires-clause-classes : goal.restore_extents-requires-clause-classes
restore_extents-requires-clause-classes c =
    since_classes (table_of c.args.pages.now) _ c.args.k c.args.self.now c.requires.fits c.skip-since.result.now
    (c.skip-since.ensures ∙ ap (drop c.args.self.now.taken_before) c.deref-2.ensures.value)

pub give_back_all-requires-clause-lie : goal.give_back_all-requires-clause-lie
give_back_all-requires-clause-lie c =
    since_lie (table_of c.args.pages.now) _ c.args.k c.args.self.now c.requires.fits c.skip-since.result.now _
    (c.skip-since.ensures ∙ ap (drop c.args.self.now.taken_before) c.deref-2.ensures.value)
    (ap (λ (t : Table). t.reserved) c.restore_extents.ensures ∙ ap (λ (t : Table). t.reserved) c.write_back.ensures)

pub give_back_all-requires-clause-classes : goal.give_back_all-requires-clause-classes
give_back_all-requires-clause-classes c =
    since_classes (table_of c.args.pages.now) _ c.args.k c.args.self.now c.requires.fits c.skip-since.result.now
    (c.skip-since.ensures ∙ ap (drop c.args.self.now.taken_before) c.deref-2.ensures.value)

pub give_back_all-requires-clause-room : goal.give_back_all-requires-clause-room
give_back_all-requires-clause-room c =
    room_since c.args.self.now c.skip-since.result.now (table_of c.args.pages.now)
    (table_of c.restore_extents.new.pages)
    (c.skip-since.ensures ∙ ap (drop c.args.self.now.taken_before) c.deref-2.ensures.value)
    (ap (λ (t : Table). t.shelf) c.restore_extents.ensures ∙ ap (λ (t : Table). t.shelf) c.write_back.ensures)
    c.requires.room

pub release-requires : goal.release-requires
release-requires c = since_within (table_of c.args.pages.now) _ c.args.k c.args.self.now c.requires.fits
    c.skip.result.now _ (c.skip.ensures ∙ ap (drop c.args.self.now.made_before) c.as_slice.ensures) refl

pub returns-clause-table : goal.returns-clause-table
returns-clause-table c =
    let since = c.skip-since.ensures ∙ ap (drop c.args.self.now.taken_before) c.deref-2.ensures.value in
    given_since c.args.self.now c.skip-since.result.now _ (table_of c.restore_extents.new.pages)
    (table_of c.give_back_all.new.pages) since
    (rewound_table (table_of c.args.pages.now) (table_of c.write_back.new.pages) (table_of c.restore_extents.new.pages)
    c.args.k c.args.self.now c.deref.result.now c.skip-since.result.now
    c.deref.ensures.value since c.write_back.ensures c.restore_extents.ensures)
    c.give_back_all.ensures

pub returns-clause-holders : goal.returns-clause-holders
returns-clause-holders c = released_since c.args.self.now c.skip.result.now _ _
    (c.skip.ensures ∙ ap (drop c.args.self.now.made_before) c.as_slice.ensures) c.release.ensures
