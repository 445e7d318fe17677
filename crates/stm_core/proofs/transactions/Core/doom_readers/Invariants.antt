use Rattle.std.proofs.Common.{◌≡◌, ◌-◌, slice_get}
use Rattle.std.specs.List.{range_with_len}
use Rattle.stm_core.specs.Passes.{doom_readers}
use Rattle.stm_segment.specs.Books.{Worlds, Fit, transaction}
use Rattle.stm_core.specs.inner.Whole.{SameShape}
use Rattle.stm_core.specs.inner.Trying.{core_with}
use Rattle.stm_core.proofs.transactions.Core.doom_readers.Given as goal

abbrev pub invariant-segments : goal.invariant-segments
invariant-segments g l = record {
  fit : Fit l.k (g.S.SegStore.meaning l.self.store) l.self.books l.work.progress;
  client : l.self.client ≡ l.initial.self.client;
  alloc : l.self.alloc ≡ l.initial.self.alloc;
  spent : l.self.spent ≡ l.initial.self.spent;
  length : l.self.length ≡ l.initial.self.length;
  budget : l.self.budget ≡ l.initial.self.budget;
  devices : l.self.devices ≡ l.initial.self.devices;
  made_with : l.self.made_with ≡ l.initial.self.made_with;
  broken : l.self.books.broken ≡ l.initial.self.books.broken;
  cause : l.self.books.cause ≡ l.initial.self.books.cause;
  idle : slice_get l.self.books.hands.items l.k ≡ slice_get l.initial.self.books.hands.items l.k;
  part : (g.S.SegStore.meaning l.self.store).part l.k ≡ (g.S.SegStore.meaning l.initial.self.store).part l.k;
  shape : SameShape (g.S.SegStore.meaning l.initial.self.store) (g.S.SegStore.meaning l.self.store);
  reserved : g.S.SegStore.reserved l.self.store ≡ g.S.SegStore.reserved l.initial.self.store;
  peaks : g.S.SegStore.peaks l.self.store ≡ g.S.SegStore.peaks l.initial.self.store;
  core : (w : Worlds) → doom_readers l.k
      (transaction w.own ((g.S.SegStore.meaning l.initial.self.store).part l.k) l.work)
      (range_with_len l.j ((g.S.SegStore.meaning l.initial.self.store).segments - l.j))
      (core_with w l.k (g.S.SegStore.meaning l.self.store) l.self.books l.work)
      ≡ doom_readers l.k (transaction w.own ((g.S.SegStore.meaning l.initial.self.store).part l.k) l.work)
      (range_with_len 0 (g.S.SegStore.meaning l.initial.self.store).segments)
      (core_with w l.k (g.S.SegStore.meaning l.initial.self.store) l.initial.self.books l.work);
}
