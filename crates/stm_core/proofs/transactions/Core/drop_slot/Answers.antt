use Rattle.std.proofs.Common.{refl, ap, ◌∙◌, slice_get}
use Rattle.std.proofs.lemmas.Option.{slice_get_within}
use Rattle.stm_segment.specs.declared.books.Hand.TheVariants.{Idle, Doomed, Runs}
use Rattle.stm_segment.proofs.Fits.{get_set_same}
use Rattle.stm_core.proofs.Wholes.{taken, core_set}
use Rattle.stm_core.proofs.Publishing.{emptied}
use Rattle.stm_core.proofs.transactions.Core.drop_slot.Goals as goal

pub drop_out-requires-clause-fit : goal.drop_out-requires-clause-fit
drop_out-requires-clause-fit g c = taken c.args.k (g.S.SegStore.meaning c.args.self.now.store) c.args.self.now.books
    c.take.new.self c.in-Runs.work c.requires.whole c.in-Runs.ensures.hand
    (record { rest = c.take.ensures.rest; hands = c.take.ensures.hands })

pub drop_out-requires-clause-idle : goal.drop_out-requires-clause-idle
drop_out-requires-clause-idle g c = ap (λ l. slice_get l c.args.k) c.take.ensures.hands ∙
    get_set_same c.args.self.now.books.hands.items c.args.k Idle
    (slice_get_within c.args.self.now.books.hands.items c.args.k (Runs c.in-Runs.work) c.in-Runs.ensures.hand)

pub returns-in-Runs-clause-core : goal.returns-in-Runs-clause-core
returns-in-Runs-clause-core g c = λ w. c.drop_out.ensures.core w ∙
    core_set c.args.k (g.S.SegStore.meaning c.args.self.now.store) c.args.self.now.books c.take.new.self w Idle
    (record { rest = c.take.ensures.rest; hands = c.take.ensures.hands })
    (slice_get_within c.args.self.now.books.hands.items c.args.k (Runs c.in-Runs.work) c.in-Runs.ensures.hand)

pub returns-in-Doomed-clause-whole : goal.returns-in-Doomed-clause-whole
returns-in-Doomed-clause-whole g c = emptied c.args.k (g.S.SegStore.meaning c.args.self.now.store)
    c.args.self.now.books c.take.new.self (Doomed c.in-Doomed.field-0) refl refl refl c.requires.whole
    c.in-Doomed.ensures.hand (record { rest = c.take.ensures.rest; hands = c.take.ensures.hands })

pub returns-in-Doomed-clause-core : goal.returns-in-Doomed-clause-core
returns-in-Doomed-clause-core g c = λ w. core_set c.args.k (g.S.SegStore.meaning c.args.self.now.store)
    c.args.self.now.books c.take.new.self w Idle (record { rest = c.take.ensures.rest; hands = c.take.ensures.hands })
    (slice_get_within c.args.self.now.books.hands.items c.args.k (Doomed c.in-Doomed.field-0) c.in-Doomed.ensures.hand)

pub returns-in-Idle-clause-whole : goal.returns-in-Idle-clause-whole
returns-in-Idle-clause-whole g c = emptied c.args.k (g.S.SegStore.meaning c.args.self.now.store) c.args.self.now.books
    c.take.new.self Idle refl refl refl c.requires.whole c.in-Idle.ensures.hand
    (record { rest = c.take.ensures.rest; hands = c.take.ensures.hands })

pub returns-in-Idle-clause-core : goal.returns-in-Idle-clause-core
returns-in-Idle-clause-core g c = λ w. core_set c.args.k (g.S.SegStore.meaning c.args.self.now.store)
    c.args.self.now.books c.take.new.self w Idle (record { rest = c.take.ensures.rest; hands = c.take.ensures.hands })
    (slice_get_within c.args.self.now.books.hands.items c.args.k Idle c.in-Idle.ensures.hand)
