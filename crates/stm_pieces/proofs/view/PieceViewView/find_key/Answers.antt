use Rattle.std.proofs.Common.{ap}
use Rattle.stm_pieces.specs.PieceOf.{piece_state}
use Rattle.stm_pieces.proofs.Searches.{search_refused, search_needs}
use Rattle.stm_pieces.proofs.view.PieceViewView.find_key.Goals as goal

pub returns-else-knows-clause-answers : goal.returns-else-knows-clause-answers
returns-else-knows-clause-answers g c = search_refused g.row.S.Denot (piece_state c.args.self.now)
    (piece_state c.fail.new.self) c.args.d.0 c.args.key c.fail.result c.fail.ensures.same
    (ap piece_state c.fail.ensures.rest)
    (search_needs (piece_state c.args.self.now).heap c.args.d.0 c.args.key c.in-Some.r.now c.values.result.now
    c.knows.result c.in-Some.ensures c.values.ensures.values c.knows.ensures.1 c.if-knows.false)
