use Rattle.std.proofs.Common.{◌≡◌, ◌∙◌, sym, ap, subst}
use Rattle.stm_core.specs.Begun.{CountsSteps}
use Rattle.stm_core.specs.Finishing.{idle_core}
use Rattle.stm_core.proofs.Calling.{blank, Quiet, quiet_good, quiet_job, quiet_leads, with_spent, full_same, rose_same, le_same}
use Rattle.stm_core.proofs.FinishingLemmas.{rest_stands}
use Rattle.stm_core.proofs.transactions.Core.come_to_rest.Given as given
use Rattle.stm_core.proofs.transactions.Core.come_to_rest.Goals.{After-known}
use Rattle.stm_core.proofs.transactions.Core.come_to_rest.Goals as goal

rested : (g : given.Over) (c : After-known g) → Quiet g.I.Source.state g.O.Sink.state g.E.Sink.state g.C.Client.prog
    g.C.Client.sound g.S.SegStore.reserved g.S.SegStore.meaning c.args.self.now c.drop_all.new.self
    (λ o o1. o1 ≡ record o { core = idle_core o.core })
rested g c =
    let x = c.args.self.now in
    let y = c.drop_all.new.self in
    let e = c.drop_all.ensures in
    record {
      rest = with_spent x y e.rest;
      shape = e.shape;
      store = c.known.ensures.store;
      whole = e.whole;
      count = ap (λ s. s.spent) e.rest ∙ subst (λ l. CountsSteps x.spent l) (sym (ap (λ k. k.history) (e.core blank)))
          c.requires.good.count;
      kept = full_same _ _ _ _ x.books.cause y.books.cause (le_same _ _ e.reserved) e.shape.1 e.cause
          c.requires.good.kept;
      rose = rose_same x.books.cause y.books.cause _ _ e.cause c.requires.good.sane.rose;
      led = λ o s. rest_stands (g.C.Client.prog x.client.now) x.length _ _ (g.S.SegStore.meaning x.store) x.books o s
          (g.S.SegStore.meaning y.store) y.books c.requires.good.whole.hands c.requires.none e.broken e.core;
    }

pub returns-clause-good : goal.returns-clause-good
returns-clause-good g c = quiet_good g.I.Source.state g.O.Sink.state g.E.Sink.state g.C.Client.prog g.C.Client.sound
    g.S.SegStore.reserved g.S.SegStore.meaning c.args.self.now c.drop_all.new.self _ (rested g c) c.requires.good

pub returns-clause-job : goal.returns-clause-job
returns-clause-job g c = quiet_job g.I.Source.state g.O.Sink.state g.E.Sink.state g.C.Client.prog g.C.Client.sound
    g.S.SegStore.reserved g.S.SegStore.meaning c.args.self.now c.drop_all.new.self _ (rested g c) c.requires.good

pub returns-clause-idle : goal.returns-clause-idle
returns-clause-idle g c = quiet_leads g.I.Source.state g.O.Sink.state g.E.Sink.state g.C.Client.prog g.C.Client.sound
    g.S.SegStore.reserved g.S.SegStore.meaning c.args.self.now c.drop_all.new.self _ (rested g c) c.requires.good
