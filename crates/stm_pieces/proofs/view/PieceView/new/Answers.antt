use Rattle.std.proofs.Common.{false, None}
use Rattle.stm_pieces.proofs.Loaned.{states_same}
use Rattle.stm_pieces.proofs.view.PieceView.new.Goals as goal

pub returns : goal.returns
returns c = states_same false None c.new.ensures.terms c.new.ensures.heap c.new.ensures.base c.new-2.ensures.all
    c.new-2.ensures.kept c.new.ensures.names
