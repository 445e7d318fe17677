use Rattle.std.proofs.Common.{arith}
use Rattle.page_table.specs.Lists.{table_of}
use Rattle.paged_store.proofs.SpanSteps.{push_span_step}
use Rattle.paged_store.proofs.spans.push_spans.Goals as goal

pub spans-preserved : goal.spans-preserved
spans-preserved c = push_span_step c.args.k c.spans.span-index c.args.spans.now _ (table_of c.args.pages.now)
    (table_of c.spans.pages) (table_of c.push_words.new.self) (omega arith) c.spans.invariant c.push_words.ensures
