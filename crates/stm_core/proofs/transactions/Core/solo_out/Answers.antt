use Rattle.std.proofs.Common.{true}
use Rattle.stm_core.proofs.Wholes.{put_back}
use Rattle.stm_core.proofs.transactions.Core.solo_out.Goals as goal

pub returns-in-Some-clause-whole : goal.returns-in-Some-clause-whole
returns-in-Some-clause-whole g c = put_back c.args.k (g.S.SegStore.meaning c.args.self.now.store) c.args.self.now.books
    c.put.new.self c.args.work c.requires.fit c.requires.idle
    (record { rest = c.put.ensures.rest; hands = c.put.ensures.hands })

pub returns-in-None-clause-whole : goal.returns-in-None-clause-whole
returns-in-None-clause-whole g c = put_back c.args.k (g.S.SegStore.meaning c.args.self.now.store) c.args.self.now.books
    c.put-in-None.new.self (record c.args.work { solo = true }) c.requires.fit c.requires.idle
    (record { rest = c.put-in-None.ensures.rest; hands = c.put-in-None.ensures.hands })
