use Rattle.std.proofs.Common.{◌∙◌, arith}
use Rattle.page_table.specs.Lists.{word_at, sheet_in}
use Rattle.page_table.proofs.SheetLemmas.{share_more}
use Rattle.page_table.proofs.sheet.Sheet.share.Goals as goal

pub parts-preserved : goal.parts-preserved
parts-preserved c = (
  omega (arith, c.in_page-size.ensures, c.parts.invariant.0),
  c.share_part.ensures.words
      ∙ share_more (sheet_in c.args.self.now) c.args.place c.parts.done c.in_page-size.result
      (word_at c.parts.shared.items) (word_at c.args.shared.now.items) c.parts.invariant.1,
  c.share_part.ensures.length ∙ c.parts.invariant.2,
)
