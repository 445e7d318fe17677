use Rattle.std.proofs.Common.{length}
use Rattle.py_data.specs.Every.{Every}
use Rattle.py_data.specs.declared.value.Addr.{Addr}
use Rattle.stm_pieces.specs.PieceOf.{piece_state}
use Rattle.stm_core.specs.inner.Lent.{IsLentAt}
use Rattle.stm_core.proofs.fitting.are_lent.Given as goal

-- where all of what is left is as the segment sees it, so is all that is loaned
abbrev pub invariant-names : goal.invariant-names
invariant-names g l =
    let d = piece_state l.view in
    let P = λ (a : Addr). IsLentAt (g.S.SegStore.meaning l.store) l.k d.loaned d.locked a.0 in
    Every P l.rest → Every P d.names

abbrev pub decreases-names : goal.decreases-names
decreases-names g l = length l.rest
