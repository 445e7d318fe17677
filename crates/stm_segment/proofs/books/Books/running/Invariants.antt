use Rattle.std.proofs.Common.{◌≡◌, ◌≤◌, take}
use Rattle.std.specs.List.{sum_by}
use Rattle.stm_segment.specs.Books.{one_running}
use Rattle.stm_segment.proofs.books.Books.running.Given as goal

abbrev pub invariant-loop-hand : goal.invariant-loop-hand
invariant-loop-hand g l = (l.count ≡ sum_by one_running (take l.hand-index l.hand-items)) × (l.count ≤ l.hand-index)
