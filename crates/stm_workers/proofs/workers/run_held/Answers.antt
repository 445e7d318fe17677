use Rattle.std.proofs.Common.{[], All, subst, sym}
use Rattle.std.proofs.lemmas.List.Elements.{All-head}
use Rattle.stm_workers.specs.declared.held.Held.{Held}
use Rattle.stm_workers.specs.Growth.{Grows}
use Rattle.stm_workers.specs.inner.GrowthLaws.{grows_same}
use Rattle.stm_workers.proofs.workers.run_held.Goals as goal

pub returns-in-Ok-clause-grows : goal.returns-in-Ok-clause-grows
returns-in-Ok-clause-grows g c =
    let P = λ (y : Held g.row.C.Denot g.row.S.Denot g.row.I.Denot g.row.O.Denot g.row.E.Denot g.row.C-State.Denot).
    Grows g.I.Source.state g.O.Sink.state g.E.Sink.state g.C.Client.prog g.S.SegStore.meaning g.S.SegStore.peaks y.core
    c.run_locked.result.core in
    All-head P c.args.held [] (subst (All P) (λ i. (c.in-Ok.ensures.seat i).seen) c.run_locked.ensures.grows)

pub returns-in-Err-clause-grows : goal.returns-in-Err-clause-grows
returns-in-Err-clause-grows g c =
    subst (λ (y : Held g.row.C.Denot g.row.S.Denot g.row.I.Denot g.row.O.Denot g.row.E.Denot g.row.C-State.Denot).
    Grows g.I.Source.state g.O.Sink.state g.E.Sink.state g.C.Client.prog g.S.SegStore.meaning g.S.SegStore.peaks
    c.args.held.core
    y.core)
    (sym c.in-Err.ensures.back) (grows_same g.I.Source.state g.O.Sink.state g.E.Sink.state g.C.Client.prog
    g.S.SegStore.meaning g.S.SegStore.peaks c.args.held.core)
