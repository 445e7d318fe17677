use Rattle.std.proofs.Common.{◌≡◌, ◌-◌, ◌≤◌}
use Rattle.page_table.specs.Pages.{over}
use Rattle.page_table.specs.Lists.{word_at, sheet_in, word_over, has_page}
use Rattle.page_table.proofs.sheet.Sheet.restore.Given as goal

abbrev pub invariant-parts : goal.invariant-parts
invariant-parts l = (l.done ≤ l.n) ×
    (word_over (sheet_in l.self) (word_at l.shared) ≡ over l.place l.done (word_at l.shared)
    (word_over (sheet_in l.initial.self) (word_at l.shared))) ×
    (has_page (sheet_in l.self) ≡ has_page (sheet_in l.initial.self))

abbrev pub decreases-parts : goal.decreases-parts
decreases-parts l = l.n - l.done
