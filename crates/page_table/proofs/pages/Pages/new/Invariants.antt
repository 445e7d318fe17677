use Rattle.std.proofs.Common.{◌≡◌, [], replicate}
use Rattle.page_table.specs.Pages.{no_shelf}
use Rattle.page_table.proofs.pages.Pages.new.Given as goal

abbrev pub invariant-sheets : goal.invariant-sheets
invariant-sheets l = l.sheets.items ≡ replicate l._i []

abbrev pub invariant-shelves : goal.invariant-shelves
invariant-shelves l = l.shelves.items ≡ replicate l._i no_shelf
