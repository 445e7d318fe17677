use Rattle.std.proofs.Common.{arith}
use Rattle.page_table.proofs.Spans.{copied}
use Rattle.page_table.proofs.page.copy_to.Goals as goal

pub returns-clause-words : goal.returns-clause-words
returns-clause-words c =
    copied c.args.at _ c.args.to.now c.args.from.now _ c.requires c.copy_from_slice.ensures.after (omega arith)
