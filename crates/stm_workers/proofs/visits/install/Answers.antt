use Rattle.stm_pieces.specs.Ends.{last_of}
use Rattle.stm_pieces.specs.PieceOf.{piece_state}
use Rattle.stm_workers.specs.inner.GrowthLaws.{grows_same}
use Rattle.stm_workers.proofs.Installed.{install_grows}
use Rattle.stm_workers.proofs.visits.install.Goals as goal

pub returns-then-not-fits-clause-grows : goal.returns-then-not-fits-clause-grows
returns-then-not-fits-clause-grows g c = grows_same g.I.Source.state g.O.Sink.state g.E.Sink.state g.C.Client.prog
    g.S.SegStore.meaning g.S.SegStore.peaks c.args.core.now

pub returns-clause-grows : goal.returns-clause-grows
returns-clause-grows g c =
    let p = c.args.piece in
    install_grows g.I.Source.state g.O.Sink.state g.E.Sink.state g.C.Client.prog g.S.SegStore.meaning g.S.SegStore.peaks
    c.args.core.now c.install.new.self c.install.ensures.job c.piece_law.ensures.install c.install.ensures.peaks
    c.args.k (g.S.SegStore.reserved c.install.new.self.store)
    (piece_state p.view).loaned (piece_state p.view).heap p.steps (last_of p.start p.last) c.install.result
    c.install.ensures.installed
