use Rattle.std.proofs.Common.{◌∙◌, arith}
use Rattle.page_table.proofs.Spans.{copied_page}
use Rattle.page_table.proofs.page.Page.copy_of.Goals as goal

pub returns : goal.returns
returns c = record {
  words =
      λ i small. copied_page c.args.words.now c.deref_mut.result.now c.copy_to.new.to c.args.page c.min-start.result
      c.min-end.result (omega (arith, c.min-start.ensures)) (omega (arith, c.min-end.ensures))
      (c.deref_mut.ensures.value ∙ c.in_ok-copy.ensures.ok) c.copy_to.ensures.words i small;
}
