use Rattle.std.proofs.Common.{refl}
use Rattle.page_table.specs.Lists.{table_of}
use Rattle.paged_store.specs.Paged.{drafted}
use Rattle.paged_store.specs.inner.Writing.{desk}
use Rattle.paged_store.proofs.DeskLemmas.{on_err, refused_first, refused_last, readied_span}
use Rattle.paged_store.proofs.ready.ready_pages.Goals as goal

pub returns-in_err-open_pages-clause-err : goal.returns-in_err-open_pages-clause-err
unfolding drafted
returns-in_err-open_pages-clause-err c = on_err _
    (refused_first c.args.k c.args.place c.args.n (desk c.args.pages.now c.args.draft.now)
    (table_of c.open_pages.new.pages) c.in_err-open_pages.ensures.same c.args.draft.now.spans.items refl)

pub returns-in_err-add_span-clause-err : goal.returns-in_err-add_span-clause-err
unfolding drafted
returns-in_err-add_span-clause-err c = on_err _
    (refused_first c.args.k c.args.place c.args.n (desk c.args.pages.now c.args.draft.now)
    (table_of c.open_pages.new.pages) c.in_ok-open_pages.ensures.same c.add_span.new.spans.items
    c.in_err-add_span.ensures.err)

pub returns-in_err-add_notes-clause-err : goal.returns-in_err-add_notes-clause-err
unfolding drafted
returns-in_err-add_notes-clause-err c = on_err _
    (refused_last c.args.k c.args.place c.args.n (desk c.args.pages.now c.args.draft.now)
    (table_of c.open_pages.new.pages) c.in_ok-open_pages.ensures.same c.add_span.new.spans.items
    c.in_ok-add_span.ensures.ok c.in_ok-open_pages.ensures.own c.requires.span c.add_notes.new.notes.items
    c.in_err-add_notes.ensures.err)

pub returns-clause-ok : goal.returns-clause-ok
unfolding drafted
returns-clause-ok c = readied_span c.args.k c.args.place c.args.n (desk c.args.pages.now c.args.draft.now)
    (table_of c.open_pages.new.pages) c.in_ok-open_pages.ensures.same c.add_span.new.spans.items
    c.in_ok-add_span.ensures.ok c.in_ok-open_pages.ensures.own c.requires.span c.add_notes.new.notes.items
    c.in_ok-add_notes.ensures.ok
