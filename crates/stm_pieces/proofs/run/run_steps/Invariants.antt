use Rattle.stm_pieces.specs.PieceOf.{piece_state}
use Rattle.stm_pieces.specs.inner.Stepwise.{Going}
use Rattle.stm_pieces.proofs.run.run_steps.Given as goal

abbrev pub invariant-loop-steps : goal.invariant-loop-steps
invariant-loop-steps g l = Going (g.C.Client.prog l.client) (g.C.Client.sound l.client) (piece_state l.initial.view)
    l.steps l.initial.state l.state (piece_state l.view)
