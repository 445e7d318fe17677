use Rattle.std.proofs.Common.{◌≡◌, ℕ, ◌<◌, false, slice_get, Some}
use Rattle.stm_segment.specs.declared.books.Work.{Work}
use Rattle.stm_segment.specs.declared.books.Hand.TheVariants.{Runs}
use Rattle.stm_segment.proofs.books.Books.solo_segment.Given as goal

abbrev pub invariant-loop-j : goal.invariant-loop-j
invariant-loop-j g l = (i : ℕ) (x : Work g.row.T.Denot) → i < l.j → slice_get l.self.hands.items i ≡ Some (Runs x) →
    x.solo ≡ false
