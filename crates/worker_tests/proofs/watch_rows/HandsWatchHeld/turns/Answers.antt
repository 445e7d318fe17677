use Rattle.std.proofs.Common.{◌∙◌}
use Rattle.worker_tests.proofs.TurnsLaws.{turns_told}
use Rattle.worker_tests.proofs.watch_rows.HandsWatchHeld.turns.Goals as goal

pub returns : goal.returns
returns g c = c.len.ensures ∙ turns_told g.I.Source.state g.O.Sink.state g.E.Sink.state g.C.Client.prog
    g.C.Client.sound g.S.SegStore.reserved g.S.SegStore.meaning c.args.value.now.core c.history.result.now.entries
    c.requires.good c.history.ensures
