use Rattle.std.proofs.Common.{ap}
use Rattle.stm_core.proofs.Calling.{blank}
use Rattle.stm_core.proofs.Ended.{ended_dropped}
use Rattle.stm_core.proofs.transactions.Core.fail_out.Goals as goal

pub give_up-requires-clause-fit : goal.give_up-requires-clause-fit
give_up-requires-clause-fit g c = c.requires.out.fit

pub give_up-requires-clause-idle : goal.give_up-requires-clause-idle
give_up-requires-clause-idle g c = c.requires.out.idle

pub returns-else-work-clause-ended : goal.returns-else-work-clause-ended
returns-else-work-clause-ended g c =
    let d = c.give_up.ensures in
    ended_dropped g.S.SegStore.meaning g.S.SegStore.reserved g.S.SegStore.peaks c.args.self.now c.give_up.new.self
    c.args.k d.rest d.whole (ap (λ k. k.history) (d.core blank)) d.store d.reserved d.peaks c.requires.out.count

pub returns-else-work-clause-cause : goal.returns-else-work-clause-cause
returns-else-work-clause-cause g c = ap (λ k. k.cause) (c.give_up.ensures.core blank)

pub returns-else-work-clause-mortal : goal.returns-else-work-clause-mortal
returns-else-work-clause-mortal g c = λ e. (c.give_up.ensures.broken, c.give_up.ensures.core)
