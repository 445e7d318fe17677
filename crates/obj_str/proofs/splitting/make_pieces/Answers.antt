use Rattle.py_data.proofs.Steps.{stop_as, leads_own}
use Rattle.obj_str.specs.Cutting.{pieces_of}
use Rattle.obj_str.specs.Methods.{new_list}
use Rattle.obj_str.proofs.JoinLoop.{made_safe, made_stop, made_turn, made_more}
use Rattle.obj_str.proofs.splitting.make_pieces.Goals as goal

pub make_piece-requires-clause-safe : goal.make_piece-requires-clause-safe
make_piece-requires-clause-safe g c =
    made_safe new_list _ c.turns.values c.in-Some.piece.now (pieces_of c.args.separator.now c.in-Some.more.now)
    c.in-Some.ensures.pieces c.turns.invariant

pub returns-in_err-made : goal.returns-in_err-made
returns-in_err-made g c =
    stop_as _ _ _ _ _ _ (made_stop new_list _ c.turns.values c.in-Some.piece.now
    (pieces_of c.args.separator.now c.in-Some.more.now) c.in-Some.ensures.pieces c.turns.invariant _ _
    c.in_err-made.ensures) c.from_residual.ensures.1

pub returns-in_err-push : goal.returns-in_err-push
returns-in_err-push g c =
    let after = made_turn new_list _ c.turns.values c.in-Some.piece.now
    (pieces_of c.args.separator.now c.in-Some.more.now) c.in-Some.ensures.pieces c.turns.invariant
    g.met.V.View.lawful c.make_piece.new.v c.in_ok-made.made c.in_ok-made.ensures in
    stop_as _ _ _ _ _ _ (leads_own after) c.from_residual-in_err-push.ensures.1

pub turns-preserved : goal.turns-preserved
turns-preserved g c =
    made_more new_list _ c.turns.values c.in-Some.piece.now (pieces_of c.args.separator.now c.in-Some.more.now)
    c.in-Some.ensures.pieces c.turns.invariant g.met.V.View.lawful c.make_piece.new.v c.in_ok-made.made
    c.push.new.self c.in_ok-made.ensures c.in_ok-push.ensures.ok
