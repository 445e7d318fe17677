use Rattle.std.proofs.Common.{rules, ◌∙◌}
use Rattle.page_table.specs.Lists.{has_page}
use Rattle.page_table.proofs.sheet.Sheet.has.Goals as goal

pub returns : goal.returns
unfolding has_page
returns c = c.is_some.ensures ∙ search rules
