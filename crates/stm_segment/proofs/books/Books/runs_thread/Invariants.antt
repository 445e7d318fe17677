use Rattle.std.proofs.Common.{◌≡◌, ◌≢◌, ◌<◌, ℕ, slice_get, Some}
use Rattle.stm_segment.specs.declared.books.Work.{Work}
use Rattle.stm_segment.specs.declared.books.Hand.TheVariants.{Runs}
use Rattle.stm_segment.proofs.books.Books.runs_thread.Given as goal

abbrev pub invariant-loop-hand : goal.invariant-loop-hand
invariant-loop-hand g l = (j : ℕ) (y : Work g.row.T.Denot) → j < l.hand-index →
    slice_get l.hand-items j ≡ Some (Runs y) → l.t ≢ y.thread
