use Rattle.std.proofs.Common.{◌∙◌, ap, [], ◌∷◌, ◌++◌}
use Rattle.stm_pieces.proofs.Loaned.{states_same}
use Rattle.stm_pieces.proofs.view.PieceView.change.Goals as goal

pub returns-in-Ok-replace-clause-ok : goal.returns-in-Ok-replace-clause-ok
returns-in-Ok-replace-clause-ok c =
    let h = c.in-Ok-replace.ensures.heap in (
      h.0,
      h.1,
      states_same c.args.self.now.solo c.args.self.now.stopped c.replace.ensures.terms h.2 c.replace.ensures.base
          (c.note.ensures.all ∙ ap (λ xs. xs ++ (record { 0 = c.args.a }, c.args.c) ∷ []) c.reserve.ensures.all)
          (c.note.ensures.kept ∙ c.reserve.ensures.kept) c.replace.ensures.names,
    )

pub returns-in-Err-replace-clause-err : goal.returns-in-Err-replace-clause-err
returns-in-Err-replace-clause-err c = states_same c.args.self.now.solo c.args.self.now.stopped c.replace.ensures.terms
    c.in-Err-replace.ensures.err c.replace.ensures.base c.reserve.ensures.all c.reserve.ensures.kept
    c.replace.ensures.names
