use Rattle.std.proofs.Common.{None}
use Rattle.stm_pieces.proofs.Loaned.{states_same}
use Rattle.stm_pieces.proofs.view.PieceViewView.undo_step.Goals as goal

pub returns : goal.returns
returns g c = states_same c.args.self.now.solo None c.undo.ensures.terms c.undo.ensures.heap c.undo.ensures.base
    c.undo-2.ensures.all c.undo-2.ensures.kept c.undo.ensures.names
