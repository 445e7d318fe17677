use Rattle.std.proofs.Common.{◌∙◌, sym, ap, subst, arith}
use Rattle.std.proofs.lemmas.List.{take_all}
use Rattle.page_table.specs.Pages.{Table}
use Rattle.page_table.specs.Lists.{table_of}
use Rattle.paged_store.specs.Paged.{in_extents}
use Rattle.paged_store.specs.inner.Ending.{ExtentsLie, pushes}
use Rattle.paged_store.proofs.SpanSteps.{push_run_step}
use Rattle.paged_store.proofs.spans.push_extents.Goals as goal

pub run_of-to-requires-clause-lie : goal.run_of-to-requires-clause-lie
run_of-to-requires-clause-lie c = subst (λ n. ExtentsLie n c.args.extents.now)
    (sym (ap (λ (t : Table). t.reserved) c.runs.invariant.words)) c.requires.lie

pub runs-preserved : goal.runs-preserved
runs-preserved c = record {
  within = c.run_of-to.ensures.most;
  words = push_run_step c.args.k c.runs.done c.run_of-to.result.0 _ _ _ c.args.extents.now (table_of c.args.pages.now)
      (table_of c.runs.pages) (table_of c.push_words.new.self) c.run_of-to.ensures c.runs.invariant.words
      c.push_words.ensures;
}

pub returns : goal.returns
returns c = c.runs.invariant.words ∙ ap (λ xs. pushes c.args.k (in_extents xs) (table_of c.args.pages.now))
    (take_all c.runs.done c.args.extents.now (omega arith))
