use Rattle.std.proofs.Common.{◌∙◌, ap, arith}
use Rattle.std.proofs.lemmas.List.{take_all}
use Rattle.page_table.specs.Lists.{table_of}
use Rattle.paged_store.specs.Paged.{in_spans}
use Rattle.paged_store.specs.inner.Ending.{restores}
use Rattle.paged_store.proofs.SpanSteps.{restore_span_step}
use Rattle.paged_store.proofs.spans.restore_spans.Goals as goal

pub spans-preserved : goal.spans-preserved
spans-preserved c = restore_span_step c.args.k c.spans.span-index c.args.spans.now _ (table_of c.args.pages.now)
    (table_of c.spans.pages) (table_of c.restore_words.new.self) (omega arith) c.spans.invariant c.restore_words.ensures

pub returns : goal.returns
returns c = c.spans.invariant ∙ ap (λ xs. restores c.args.k (in_spans xs) (table_of c.args.pages.now))
    (take_all c.spans.span-index c.args.spans.now (omega arith))
