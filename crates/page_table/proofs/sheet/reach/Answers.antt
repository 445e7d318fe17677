use Rattle.std.proofs.Common.{◌∙◌, ap}
use Rattle.page_table.specs.Lists.{sheet_in}
use Rattle.page_table.proofs.SheetLemmas.{sheet_in_none}
use Rattle.page_table.proofs.sheet.reach.Goals as goal

pub places-preserved : goal.places-preserved
places-preserved c = ap sheet_in c.in_ok-push.ensures.items ∙ sheet_in_none c.places.pages.items ∙ c.places.invariant
