use Rattle.std.proofs.Common.{◌≡◌, ◌+◌, ◌-◌, length}
use Rattle.page_table.specs.Lists.{sheet_in}
use Rattle.page_table.proofs.sheet.reach.Given as goal

abbrev pub invariant-places : goal.invariant-places
invariant-places l = sheet_in l.pages.items ≡ sheet_in l.initial.pages.items

abbrev pub decreases-places : goal.decreases-places
decreases-places l = l.page + 1 - length l.pages.items
