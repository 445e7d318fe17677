use Rattle.std.proofs.Common.{◌+◌, arith}
use Rattle.page_table.specs.Lists.{table_of}
use Rattle.paged_store.proofs.SpanSteps.{run_one}
use Rattle.paged_store.proofs.TakeLemmas.{opened_then, own_run_step}
use Rattle.paged_store.proofs.take.open_extents.Goals as goal

pub extents-preserved : goal.extents-preserved
extents-preserved c = record {
  same = opened_then (table_of c.args.pages.now) (table_of c.extents.pages) (table_of c.open_span.new.pages)
      c.extents.invariant.same c.in_ok-open_span.ensures.same;
  own = own_run_step c.args.k c.extents.extent-index (c.extents.extent-index + 1) _ _ _ c.args.extents.now
      (table_of c.extents.pages) (table_of c.open_span.new.pages)
      (run_one _ c.extents.extent-index c.words.result c.args.extents.now _ (omega arith) c.words.ensures
      (c.requires.lie c.extents.extent-index _ (omega arith)))
      c.extents.invariant.own c.in_ok-open_span.ensures.same c.in_ok-open_span.ensures.own;
}
