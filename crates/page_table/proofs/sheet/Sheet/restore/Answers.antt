use Rattle.std.proofs.Common.{◌+◌, ◌∙◌, ap, arith}
use Rattle.page_table.specs.Pages.{over}
use Rattle.page_table.specs.Lists.{word_at}
use Rattle.page_table.proofs.Spans.{over_then}
use Rattle.page_table.proofs.sheet.Sheet.restore.Goals as goal

pub parts-preserved : goal.parts-preserved
parts-preserved c =
    let s = word_at c.args.shared.now in (
      omega (arith, c.in_page-size.ensures, c.parts.invariant.0),
      c.restore_part.ensures.words
          ∙ ap (over (c.args.place + c.parts.done) c.in_page-size.result s) c.parts.invariant.1
          ∙ over_then c.args.place c.parts.done c.in_page-size.result s _,
      c.restore_part.ensures.own ∙ c.parts.invariant.2,
    )
