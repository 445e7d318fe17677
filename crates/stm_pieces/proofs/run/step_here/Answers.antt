use Rattle.std.proofs.Common.{subst}
use Rattle.stm_pieces.specs.PieceOf.{piece_state}
use Rattle.stm_pieces.specs.inner.Stepwise.{Turned}
use Rattle.stm_pieces.proofs.Turns.{turn_pure}
use Rattle.stm_pieces.proofs.run.step_here.Goals as goal

pub returns-then-step_pure : goal.returns-then-step_pure
returns-then-step_pure g c =
    turn_pure piece_state (g.C.Client.prog c.args.client.now) (g.C.Client.sound c.args.client.now)
    (g.met.C.Client.asks_to_print c.args.client.now) c.args.state.now c.args.view.now c.requires.lives
    (g.met.C.Client.sound_step c.args.client.now) (g.met.C.Client.outcomes c.args.client.now)
    c.step_pure.new.s (c.step_pure.ensures.done c.if-step_pure.true)

pub returns : goal.returns
returns g c =
    subst (λ q. Turned (g.C.Client.prog c.args.client.now) (g.C.Client.sound c.args.client.now) q
    (piece_state c.args.view.now) c.step_over.result c.step_over.new.state (piece_state c.step_over.new.view))
    (c.step_pure.ensures.not c.if-step_pure.false) c.step_over.ensures
