use Rattle.page_table.specs.Lists.{table_of}
use Rattle.paged_store.specs.Paged.{drafted}
use Rattle.paged_store.specs.inner.Writing.{desk}
use Rattle.paged_store.proofs.DeskLemmas.{opened_none, own_in_page, readied_span}
use Rattle.paged_store.proofs.ready.ready.Goals as goal

pub returns-in-Some-clause-ok : goal.returns-in-Some-clause-ok
unfolding drafted
returns-in-Some-clause-ok c =
    readied_span c.args.k c.args.place c.args.n (desk c.args.pages.now c.args.draft.now)
    (table_of c.args.pages.now) (opened_none (table_of c.args.pages.now)) c.put_span.new.spans.items c.put_span.ensures
    (own_in_page c.args.k c.args.place c.args.n (table_of c.args.pages.now) c.in-Some.ensures.own c.in-Some.ensures.page)
    c.requires.span c.note_run.new.notes.items
    (c.note_run.ensures ((table_of c.args.pages.now).word c.args.k) c.in-Some.ensures.words)
