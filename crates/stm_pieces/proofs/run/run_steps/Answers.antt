use Rattle.std.proofs.Common.{◌≡◌, subst, arith}
use Rattle.stm_pieces.specs.Piece.{IsPiece}
use Rattle.stm_pieces.specs.PieceOf.{piece_state}
use Rattle.stm_pieces.specs.inner.Stepwise.{Tells}
use Rattle.stm_pieces.proofs.Walk.{walked_first, walked_piece, walked_terms, walked_replayed, walked_more}
use Rattle.stm_pieces.proofs.Coming.{ends_early}
use Rattle.stm_pieces.proofs.run.run_steps.Goals as goal

pub loop-steps-init : goal.loop-steps-init
loop-steps-init g c = record {
  walked = walked_first piece_state (g.C.Client.prog c.args.client.now) (g.C.Client.sound c.args.client.now)
      c.args.state.now c.args.view.now c.requires.stands c.requires.tight c.requires.alone;
  lives = c.requires.lives;
}

pub loop-steps-preserved : goal.loop-steps-preserved
loop-steps-preserved g c =
    let p = g.C.Client.prog c.args.client.now in
    let one = c.in-Ok-true.ensures (piece_state c.args.view.now) c.loop-steps.steps c.args.state.now
    c.loop-steps.invariant.walked in
    record {
      walked = walked_more one.0;
      lives = subst (λ b. Tells b (p.life c.step_here.new.state)) c.in-Ok-true.field-0-test one.1;
    }

pub returns-in-Ok-false-clause-piece : goal.returns-in-Ok-false-clause-piece
returns-in-Ok-false-clause-piece g c =
    let one = c.in-Ok-false.ensures (piece_state c.args.view.now) c.loop-steps.steps c.args.state.now
    c.loop-steps.invariant.walked in
    walked_piece piece_state (g.C.Client.prog c.args.client.now) (g.C.Client.sound c.args.client.now)
    {v = c.step_here.new.view} (walked_more one.0)

pub returns-in-Ok-false-clause-end : goal.returns-in-Ok-false-clause-end
returns-in-Ok-false-clause-end g c =
    let p = g.C.Client.prog c.args.client.now in
    let one = c.in-Ok-false.ensures (piece_state c.args.view.now) c.loop-steps.steps c.args.state.now
    c.loop-steps.invariant.walked in
    subst (λ b. Tells b (p.life c.step_here.new.state)) c.in-Ok-false.field-0-test one.1

pub returns-in-Ok-false-clause-terms : goal.returns-in-Ok-false-clause-terms
returns-in-Ok-false-clause-terms g c =
    let one = c.in-Ok-false.ensures (piece_state c.args.view.now) c.loop-steps.steps c.args.state.now
    c.loop-steps.invariant.walked in
    walked_terms piece_state (g.C.Client.prog c.args.client.now) (g.C.Client.sound c.args.client.now)
    {v = c.step_here.new.view} one.0

pub returns-in-Ok-false-clause-replayed : goal.returns-in-Ok-false-clause-replayed
returns-in-Ok-false-clause-replayed g c =
    let one = c.in-Ok-false.ensures (piece_state c.args.view.now) c.loop-steps.steps c.args.state.now
    c.loop-steps.invariant.walked in
    walked_replayed piece_state (g.C.Client.prog c.args.client.now) (g.C.Client.sound c.args.client.now)
    {v = c.step_here.new.view} one.0

pub returns-in-Err-clause-piece : goal.returns-in-Err-clause-piece
returns-in-Err-clause-piece g c =
    let none = c.in-Err.ensures (piece_state c.args.view.now) c.loop-steps.steps c.args.state.now
    c.loop-steps.invariant.walked in
    walked_piece piece_state (g.C.Client.prog c.args.client.now) (g.C.Client.sound c.args.client.now)
    {v = c.step_here.new.view} none.0

pub returns-in-Err-clause-end : goal.returns-in-Err-clause-end
returns-in-Err-clause-end g c =
    let none = c.in-Err.ensures (piece_state c.args.view.now) c.loop-steps.steps c.args.state.now
    c.loop-steps.invariant.walked in
    ends_early (g.C.Client.prog c.args.client.now) c.args.most c.loop-steps.steps c.step_here.new.state
    (piece_state c.step_here.new.view) c.in-Err.end none.1 (omega arith) none.2

pub returns-in-Err-clause-terms : goal.returns-in-Err-clause-terms
returns-in-Err-clause-terms g c =
    let none = c.in-Err.ensures (piece_state c.args.view.now) c.loop-steps.steps c.args.state.now
    c.loop-steps.invariant.walked in
    walked_terms piece_state (g.C.Client.prog c.args.client.now) (g.C.Client.sound c.args.client.now)
    {v = c.step_here.new.view} none.0

pub returns-in-Err-clause-replayed : goal.returns-in-Err-clause-replayed
returns-in-Err-clause-replayed g c =
    let none = c.in-Err.ensures (piece_state c.args.view.now) c.loop-steps.steps c.args.state.now
    c.loop-steps.invariant.walked in
    walked_replayed piece_state (g.C.Client.prog c.args.client.now) (g.C.Client.sound c.args.client.now)
    {v = c.step_here.new.view} none.0

pub returns-clause-piece : goal.returns-clause-piece
returns-clause-piece g c =
    let n : c.loop-steps.steps ≡ c.args.most = omega arith in
    subst (λ k. IsPiece (g.C.Client.prog c.args.client.now) (piece_state c.args.view.now).heap
    (piece_state c.args.view.now).locked k c.args.state.now c.loop-steps.state (piece_state c.loop-steps.view).heap) n
    (walked_piece piece_state (g.C.Client.prog c.args.client.now) (g.C.Client.sound c.args.client.now)
    {v = c.loop-steps.view} c.loop-steps.invariant.walked)

pub returns-clause-terms : goal.returns-clause-terms
returns-clause-terms g c =
    walked_terms piece_state (g.C.Client.prog c.args.client.now) (g.C.Client.sound c.args.client.now)
    {v = c.loop-steps.view} c.loop-steps.invariant.walked

pub returns-clause-replayed : goal.returns-clause-replayed
returns-clause-replayed g c =
    walked_replayed piece_state (g.C.Client.prog c.args.client.now) (g.C.Client.sound c.args.client.now)
    {v = c.loop-steps.view} c.loop-steps.invariant.walked
