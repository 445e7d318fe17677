use Rattle.std.proofs.lemmas.Option.{slice_get_within}
use Rattle.stm_segment.specs.declared.books.Hand.TheVariants.{Idle, Runs}
use Rattle.stm_core.proofs.Wholes.{put_back, core_set}
use Rattle.stm_core.proofs.transactions.Core.put_back.Goals as goal

pub returns-clause-whole : goal.returns-clause-whole
returns-clause-whole g c = put_back c.args.k (g.S.SegStore.meaning c.args.self.now.store) c.args.self.now.books
    c.put.new.self c.args.work c.requires.fit c.requires.idle
    (record { rest = c.put.ensures.rest; hands = c.put.ensures.hands })

pub returns-clause-core : goal.returns-clause-core
returns-clause-core g c = λ w. core_set c.args.k (g.S.SegStore.meaning c.args.self.now.store) c.args.self.now.books
    c.put.new.self w (Runs c.args.work) (record { rest = c.put.ensures.rest; hands = c.put.ensures.hands })
    (slice_get_within c.args.self.now.books.hands.items c.args.k Idle c.requires.idle)
