use Rattle.std.proofs.Common.{◌+◌, ◌*◌, ◌∙◌}
use Rattle.page_table.specs.Lists.{table_of}
use Rattle.page_table.specs.Pages.{after_write}
use Rattle.paged_store.specs.Words.{in_span}
use Rattle.paged_store.specs.inner.Writing.{desk, cut_words}
use Rattle.paged_store.proofs.WriteLemmas.{wrote_ready, put_off}
use Rattle.paged_store.proofs.write.cut.Goals as goal

pub returns-clause-ok : goal.returns-clause-ok
returns-clause-ok c = wrote_ready c.args.k (in_span (2 * c.args.a + 1) 1) (desk c.args.pages.now c.args.draft.now)
    (desk c.ready.new.pages c.ready.new.draft) (table_of c.write_word.new.self) (λ w. cut_words w c.args.a c.args.n)
    c.in_ok-ready.ensures.ok
    (c.write_word.ensures ∙ (λ i. after_write c.args.k (2 * c.args.a + 1) (c.from.ensures i)
    (table_of c.ready.new.pages)))
    (λ w p h. put_off (2 * c.args.a + 1) p c.args.n w h)
