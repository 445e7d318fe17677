use Rattle.std.proofs.Common.{◌≡◌, ◌-◌, ◌≤◌, length}
use Rattle.page_table.specs.Pages.{over}
use Rattle.page_table.specs.Lists.{word_at, sheet_in, word_over}
use Rattle.page_table.proofs.sheet.Sheet.share.Given as goal

abbrev pub invariant-parts : goal.invariant-parts
invariant-parts l = (l.done ≤ l.n) ×
    (word_at l.shared.items ≡ over l.place l.done (word_over (sheet_in l.self) (word_at l.initial.shared.items))
    (word_at l.initial.shared.items)) × (length l.shared.items ≡ length l.initial.shared.items)

abbrev pub decreases-parts : goal.decreases-parts
decreases-parts l = l.n - l.done
