use Rattle.stm_workers.specs.inner.GrowthLaws.{grows_same}
use Rattle.stm_workers.proofs.Installed.{loan_grows}
use Rattle.stm_workers.proofs.visits.lend.Goals as goal

pub returns-then-segments-eq1-clause-grows : goal.returns-then-segments-eq1-clause-grows
returns-then-segments-eq1-clause-grows g c = grows_same g.I.Source.state g.O.Sink.state g.E.Sink.state
    g.C.Client.prog g.S.SegStore.meaning g.S.SegStore.peaks c.args.core.now

pub returns-in-Ok-clause-grows : goal.returns-in-Ok-clause-grows
returns-in-Ok-clause-grows g c = loan_grows g.I.Source.state g.O.Sink.state g.E.Sink.state g.C.Client.prog
    g.S.SegStore.meaning g.S.SegStore.peaks c.args.core.now c.loan.new.self c.loan.ensures.job c.piece_law.ensures.loan
    c.loan.ensures.peaks c.args.k c.loan.result c.loan.ensures.loaned

pub returns-in-Err-clause-grows : goal.returns-in-Err-clause-grows
returns-in-Err-clause-grows g c = loan_grows g.I.Source.state g.O.Sink.state g.E.Sink.state g.C.Client.prog
    g.S.SegStore.meaning g.S.SegStore.peaks c.args.core.now c.loan.new.self c.loan.ensures.job c.piece_law.ensures.loan
    c.loan.ensures.peaks c.args.k c.loan.result c.loan.ensures.loaned
