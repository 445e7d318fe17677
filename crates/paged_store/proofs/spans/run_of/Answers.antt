use Rattle.page_table.specs.Lists.{table_of}
use Rattle.paged_store.proofs.SpanSteps.{run_one, run_more}
use Rattle.paged_store.proofs.spans.run_of.Goals as goal

pub run-init : goal.run-init
run-init c = run_one (table_of c.args.pages.now).reserved c.args.from c.words-words.result c.args.extents.now
    (record { place = 0; class = 0 }) c.requires.from c.words-words.ensures
    (c.requires.lie c.args.from (record { place = 0; class = 0 }) c.requires.from)

pub run-preserved : goal.run-preserved
run-preserved c = run_more (table_of c.args.pages.now).reserved c.args.from c.run.to _ c.run.words
    c.words-words-in-run.result c.args.extents.now (record { place = 0; class = 0 }) c.run.invariant c.run-test.true
    c.words-words-in-run.ensures c.if-extents-to.true
    (c.requires.lie c.run.to (record { place = 0; class = 0 }) c.run-test.true)
