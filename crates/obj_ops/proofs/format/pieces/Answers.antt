use Rattle.std.proofs.Common.{arith, ◌++◌, ◌∷◌, [], ◌+◌, ◌==◌, true, false, drop, get_or, ap, ◌∙◌}
use Rattle.obj_ops.specs.declared.format.Piece.TheVariants.{Byte}
use Rattle.obj_ops.specs.Format.{takes}
use Rattle.obj_ops.proofs.Loops.{piece_behind, piece_begun, piece_plain, pieces_as, pieces_end, pieces_end_behind, takes_most, flag_as}
use Rattle.obj_ops.proofs.format.pieces.Goals as goal
use Rattle.obj_ops.proofs.format.pieces.Goals.{then-behind+in_ok-push, else-behind+then-x-eq37, else-behind+else-x-eq37+in_ok-push-2, then-behind-2+in_ok-push-3, else-behind-2}

pub turns-preserved : goal.turns-preserved
turns-preserved c = elim c.if-behind.branch [
  | then-behind+in_ok-push w ↦ record {
    all = pieces_as (drop (c.turns.i + 1) c.args.template.now) _ c.if-behind.found
        (c.turns.found ++ w.conversion-piece.result ∷ []) c.if-behind.behind false c.if-behind.taken
        (c.turns.taken + takes w.conversion-piece.result) (w.found-is ∙ w.in_ok-push.ensures.ok) w.behind-is
        (w.taken-is ∙ ap (λ t. c.turns.taken + t) w.takes-taken.ensures)
        (piece_behind c.args.template.now c.turns.i c.turns.taken c.turns.found _ c.turns-test.true
        w.conversion-piece.result w.conversion-piece.ensures
        (flag_as (drop c.turns.i c.args.template.now) c.turns.taken c.turns.found _ c.turns.behind true
        w.if-behind.true c.turns.invariant.all));
    most = let one = takes_most w.takes-taken.result w.conversion-piece.result w.takes-taken.ensures in let m =
        c.turns.invariant.most in omega (arith, one, m, w.taken-is);
  }
  | else-behind+then-x-eq37 w ↦ record {
    all = pieces_as (drop (c.turns.i + 1) c.args.template.now) _ c.if-behind.found c.turns.found c.if-behind.behind
        true c.if-behind.taken c.turns.taken w.found-is w.behind-is w.taken-is
        (piece_begun c.args.template.now c.turns.i c.turns.taken c.turns.found _ c.turns-test.true
        (ap (λ x. x == 37) w.if-x-eq37.true)
        (flag_as (drop c.turns.i c.args.template.now) c.turns.taken c.turns.found _ c.turns.behind false
        w.if-behind.false c.turns.invariant.all));
    most = let m = c.turns.invariant.most in omega (arith, m, w.taken-is);
  }
  | else-behind+else-x-eq37+in_ok-push-2 w ↦ record {
    all = pieces_as (drop (c.turns.i + 1) c.args.template.now) _ c.if-behind.found
        (c.turns.found ++ Byte (get_or c.args.template.now c.turns.i 0) ∷ []) c.if-behind.behind false
        c.if-behind.taken c.turns.taken (w.found-is ∙ w.in_ok-push-2.ensures.ok) (w.behind-is ∙ w.if-behind.false)
        w.taken-is
        (piece_plain c.args.template.now c.turns.i c.turns.taken c.turns.found _ c.turns-test.true
        (grind (arith, w.if-x-eq37.false))
        (flag_as (drop c.turns.i c.args.template.now) c.turns.taken c.turns.found _ c.turns.behind false
        w.if-behind.false c.turns.invariant.all));
    most = let m = c.turns.invariant.most in omega (arith, m, w.taken-is);
  }
]

pub returns : goal.returns
returns c = elim c.if-behind-2.branch [
  | then-behind-2+in_ok-push-3 w ↦ w.found-is ∙
      (w.in_ok-push-3.ensures.ok ∙ pieces_end_behind c.args.template.now c.turns.i c.turns.taken c.turns.found _
      (omega arith) (flag_as (drop c.turns.i c.args.template.now) c.turns.taken c.turns.found _ c.turns.behind true
      w.if-behind-2.true c.turns.invariant.all))
  | else-behind-2 w ↦ w.found-is ∙ pieces_end c.args.template.now c.turns.i c.turns.taken c.turns.found _ (omega arith)
      (flag_as (drop c.turns.i c.args.template.now) c.turns.taken c.turns.found _ c.turns.behind false
      w.if-behind-2.false c.turns.invariant.all)
]
