use Rattle.std.proofs.Common.{Some, sym, ◌∙◌, ap}
use Rattle.std.proofs.lemmas.Option.{slice_get_read}
use Rattle.stm_pieces.specs.PieceOf.{piece_state}
use Rattle.stm_core.proofs.Loaning.{fits_runs, fits_none}
use Rattle.stm_core.proofs.transactions.Core.fits.Goals as goal

pub returns-in-Runs : goal.returns-in-Runs
returns-in-Runs g c =
    let x = c.args.self.now in
    let p = c.args.p.now in
    let whole = c.requires.good.whole in
    fits_runs (g.C.Client.prog x.client.now) x.length c.args.k _ _ (g.S.SegStore.meaning x.store) x.books p.start
    (piece_state p.view).loaned (piece_state p.view).locked p.steps whole c.in-Runs.work
    (slice_get_read x.books.hands.items _ c.args.k c.index.result.now (sym whole.hands) c.requires.segment
    c.index.ensures ∙ ap Some c.in-Runs.is) c.fits_work.result c.fits_work.ensures

pub returns-in_default : goal.returns-in_default
returns-in_default g c =
    let x = c.args.self.now in
    let p = c.args.p.now in
    let whole = c.requires.good.whole in
    fits_none (g.C.Client.prog x.client.now) x.length c.args.k _ _ (g.S.SegStore.meaning x.store) x.books p.start
    (piece_state p.view).loaned (piece_state p.view).locked p.steps c.index.result.now
    (slice_get_read x.books.hands.items _ c.args.k c.index.result.now (sym whole.hands) c.requires.segment
    c.index.ensures) c.in_default.not-Runs
