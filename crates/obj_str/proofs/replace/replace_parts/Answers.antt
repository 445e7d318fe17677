use Rattle.std.proofs.Common.{◌++◌, sym, ap, ◌∙◌}
use Rattle.obj_str.specs.Cutting.{fitting}
use Rattle.obj_str.specs.Pieces as pieces
use Rattle.obj_str.proofs.Fitting.{fitting_is, fitting_more, joined_turn}
use Rattle.obj_str.proofs.replace.replace_parts.Goals as goal

pub returns-in-None : goal.returns-in-None
returns-in-None c =
    let rest = pieces.joined c.args.new.now (pieces.split c.args.old.now c.in-Some.more.now) in
    sym (ap fitting (c.turns.invariant ∙ joined_turn c.args.old.now c.args.new.now c.turns.rest.now c.in-Some.piece.now
    c.in-Some.more.now c.turns.text c.in-Some.ensures.pieces)
    ∙ fitting_more (c.turns.text ++ (c.in-Some.piece.now ++ c.args.new.now)) rest
    (sym c.in_ok-longer.ensures ∙ c.in-None.is))

pub turns-preserved : goal.turns-preserved
turns-preserved c =
    let rest = pieces.joined c.args.new.now (pieces.split c.args.old.now c.in-Some.more.now) in
    let same = fitting_is (c.turns.text ++ (c.in-Some.piece.now ++ c.args.new.now)) c.in-Some-2.longer
    (sym c.in_ok-longer.ensures ∙ c.in-Some-2.is) in
    c.turns.invariant ∙ (joined_turn c.args.old.now c.args.new.now c.turns.rest.now c.in-Some.piece.now
    c.in-Some.more.now c.turns.text c.in-Some.ensures.pieces ∙ ap (λ t. t ++ rest) (sym same))
