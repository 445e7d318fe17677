use Rattle.std.proofs.Common.{sym, subst}
use Rattle.stm_core.specs.inner.Whole.{Whole}
use Rattle.stm_core.proofs.Publishing.{published_whole}
use Rattle.stm_core.proofs.transactions.Core.publish.Goals as goal

pub returns-clause-whole : goal.returns-clause-whole
returns-clause-whole g c =
    subst (λ m. Whole m c.add_turn.new.self) (sym c.publish.ensures.meaning)
    (published_whole c.args.k (g.S.SegStore.meaning c.args.self.now.store) c.args.self.now.books c.add_turn.new.self
    c.args.work (g.S.SegStore.reserved c.args.self.now.store) c.known.ensures.store c.requires.fit c.requires.idle
    (record {
      rest = c.add_turn.ensures.rest;
      threads = c.add_turn.ensures.threads;
      thread_room =
          c.add_turn.ensures.thread_room;
      pending = c.add_turn.ensures.pending;
      history = c.add_turn.ensures.history;
      history_room = c.add_turn.ensures.history_room;
    }))
