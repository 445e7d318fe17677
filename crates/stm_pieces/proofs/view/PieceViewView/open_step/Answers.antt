use Rattle.std.proofs.Common.{None}
use Rattle.stm_pieces.proofs.Loaned.{states_same}
use Rattle.stm_pieces.proofs.view.PieceViewView.open_step.Goals as goal

pub returns : goal.returns
returns g c = states_same c.args.self.now.solo None c.open.ensures.terms c.open.ensures.heap c.open.ensures.base
    c.open-2.ensures.all c.open-2.ensures.kept c.open.ensures.names
