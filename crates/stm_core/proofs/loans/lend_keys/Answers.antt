use Rattle.std.proofs.Common.{refl, sym, ◌∙◌, arith}
use Rattle.seg_store.specs.Meaning.{sees}
use Rattle.stm_pieces.specs.PieceOf.{piece_state}
use Rattle.stm_segment.proofs.Sighting.{has_place}
use Rattle.stm_core.proofs.Lending.{lent_there}
use Rattle.stm_core.proofs.loans.lend_keys.Goals as goal

pub val-requires-clause-there : goal.val-requires-clause-there
val-requires-clause-there g c =
    let d = piece_state c.args.loan.now.view in
    let test = c.pairs-test.true in let within = c.keyed_pairs-i-end.ensures.within in
    has_place (sees (g.S.SegStore.meaning c.args.store.now) c.args.k) c.args.d.0 _ _
    (lent_there (g.S.SegStore.meaning c.args.store.now) c.args.k d.loaned d.locked c.args.d.0 c.requires.lent
    (sym c.has.ensures ∙ c.if-not-has.false)) refl (omega (arith, test, within))
