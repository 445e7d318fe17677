use Rattle.std.proofs.Common.{◌≡◌, ◌<◌, ℕ}
use Rattle.stm_segment.specs.CoreState.{Idle}
use Rattle.stm_segment.specs.Books.{Worlds, core_of}
use Rattle.stm_core.specs.inner.Whole.{Whole, SameShape}
use Rattle.stm_core.specs.Finishing.{idle_core}
use Rattle.stm_core.proofs.transactions.Core.drop_all.Given as goal

abbrev pub invariant-slots : goal.invariant-slots
invariant-slots g l = record {
  whole : Whole (g.S.SegStore.meaning l.self.store) l.self.books;
  client : l.self.client ≡ l.initial.self.client;
  alloc : l.self.alloc ≡ l.initial.self.alloc;
  spent : l.self.spent ≡ l.initial.self.spent;
  length : l.self.length ≡ l.initial.self.length;
  budget : l.self.budget ≡ l.initial.self.budget;
  devices : l.self.devices ≡ l.initial.self.devices;
  made_with : l.self.made_with ≡ l.initial.self.made_with;
  broken : l.self.books.broken ≡ l.initial.self.books.broken;
  cause : l.self.books.cause ≡ l.initial.self.books.cause;
  shape : SameShape (g.S.SegStore.meaning l.initial.self.store) (g.S.SegStore.meaning l.self.store);
  reserved : g.S.SegStore.reserved l.self.store ≡ g.S.SegStore.reserved l.initial.self.store;
  peaks : g.S.SegStore.peaks l.self.store ≡ g.S.SegStore.peaks l.initial.self.store;
  idle : (w : Worlds) (i : ℕ) → i < l.k → (core_of w (g.S.SegStore.meaning l.self.store) l.self.books).segments i ≡
      Idle;
  core : (w : Worlds) → idle_core (core_of w (g.S.SegStore.meaning l.self.store) l.self.books) ≡ idle_core
      (core_of w (g.S.SegStore.meaning l.initial.self.store) l.initial.self.books);
}
