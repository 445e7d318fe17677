use Rattle.std.proofs.Common.{sym, subst}
use Rattle.stm_pieces.specs.PieceOf.{piece_state}
use Rattle.stm_pieces.specs.inner.Stepwise.{NoStep}
use Rattle.stm_pieces.proofs.Turns.{turn_done, turn_ended, turn_waits, turn_stopped}
use Rattle.stm_pieces.proofs.run.step_over.Goals as goal

pub returns-in-Ok-Done : goal.returns-in-Ok-Done
returns-in-Ok-Done g c =
    turn_done piece_state (g.C.Client.prog c.args.client.now) (g.C.Client.sound c.args.client.now)
    (g.met.C.Client.asks_to_print c.args.client.now) c.args.state.now c.args.view.now c.requires.lives
    (g.met.C.Client.sound_step c.args.client.now) (g.met.C.Client.outcomes c.args.client.now)
    c.in-Ok-Done.field-0 c.step.new.s c.step.new.v c.in-Ok-Done.field-0-is c.in-Ok-Done.ensures.ok

pub returns-in-Ok-Ended : goal.returns-in-Ok-Ended
returns-in-Ok-Ended g c =
    turn_ended piece_state (g.C.Client.prog c.args.client.now) (g.C.Client.sound c.args.client.now)
    (g.met.C.Client.asks_to_print c.args.client.now) c.args.state.now c.args.view.now c.requires.lives
    (g.met.C.Client.sound_step c.args.client.now) (g.met.C.Client.outcomes c.args.client.now)
    c.in-Ok-Ended.field-0 c.step.new.s c.step.new.v c.in-Ok-Ended.field-0-is c.in-Ok-Ended.ensures.ok

pub returns-in-Ok-Waits : goal.returns-in-Ok-Waits
returns-in-Ok-Waits g c =
    turn_waits piece_state (g.C.Client.prog c.args.client.now) (g.C.Client.sound c.args.client.now)
    (g.met.C.Client.asks_to_print c.args.client.now) c.args.state.now c.args.view.now c.requires.lives
    (g.met.C.Client.waits_quietly c.args.client.now) c.in-Ok-Waits.field-0 c.step.new.s c.step.new.v
    c.undo_step.new.self c.in-Ok-Waits.field-0-is c.in-Ok-Waits.ensures.ok c.undo_step.ensures

pub returns-in-Err : goal.returns-in-Err
returns-in-Err g c =
    let p = g.C.Client.prog c.args.client.now in
    let sound = g.C.Client.sound c.args.client.now in
    subst (λ e. NoStep p sound c.args.state.now (piece_state c.args.view.now) e c.step.new.s
    (piece_state c.step.new.v)) (sym c.end_for.ensures)
    (turn_stopped piece_state p sound (g.met.C.Client.asks_to_print c.args.client.now) c.args.state.now
    c.args.view.now c.requires.lives c.in-Err.stop c.step.new.s c.step.new.v c.in-Err.ensures.state
    c.in-Err.ensures.err)
