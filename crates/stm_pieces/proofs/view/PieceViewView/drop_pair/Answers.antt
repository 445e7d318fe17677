use Rattle.py_data.specs.declared.change.Change.TheVariants.{Unpair}
use Rattle.stm_pieces.specs.PieceOf.{piece_state}
use Rattle.stm_pieces.proofs.Edits.{edit_asks, edit_answers}
use Rattle.stm_pieces.proofs.view.PieceViewView.drop_pair.Goals as goal

pub edit-requires : goal.edit-requires
edit-requires g c = edit_asks g.row.S.Denot (piece_state c.args.self.now).heap c.args.d.0 (Unpair c.args.place)
    c.requires.there

pub returns : goal.returns
returns g c = edit_answers g.row.S.Denot piece_state c.args.self.now c.edit.new.self c.requires.live c.args.d.0
    (Unpair c.args.place) c.edit.result c.edit.ensures
