use Rattle.std.proofs.Common.{◌+◌, ◌*◌}
use Rattle.paged_store.specs.Words.{in_span}
use Rattle.paged_store.specs.inner.Writing.{desk}
use Rattle.paged_store.proofs.DeskLemmas.{on_err, readied_then, refused_then}
use Rattle.paged_store.proofs.write.ready_with_count.Goals as goal

pub returns-in_err-ready-2-clause-err : goal.returns-in_err-ready-2-clause-err
returns-in_err-ready-2-clause-err c = on_err _
    (refused_then c.args.k (in_span c.args.place c.args.n) (in_span (2 * c.args.a + 1) 1)
    (desk c.args.pages.now c.args.draft.now) (desk c.ready.new.pages c.ready.new.draft)
    (desk c.ready-2.new.pages c.ready-2.new.draft) c.in_ok-ready.ensures.ok c.in_err-ready-2.ensures.err)

pub returns-clause-ok : goal.returns-clause-ok
returns-clause-ok c = readied_then c.args.k (in_span c.args.place c.args.n) (in_span (2 * c.args.a + 1) 1)
    (desk c.args.pages.now c.args.draft.now) (desk c.ready.new.pages c.ready.new.draft)
    (desk c.ready-2.new.pages c.ready-2.new.draft) c.in_ok-ready.ensures.ok c.in_ok-ready-2.ensures.ok
