use Rattle.std.proofs.Common.{◌<◌, ◌≤◌, ℕ}
use Rattle.stm_segment.specs.Books.{Worlds, core_of}
use Rattle.stm_core.specs.Begun.{IsUnready}
use Rattle.stm_core.proofs.transactions.Core.first_ready.Given as goal

abbrev pub invariant-loop-t : goal.invariant-loop-t
invariant-loop-t g l = (w : Worlds) (s : ℕ) → l.from ≤ s → s < l.t →
    IsUnready (g.C.Client.prog l.self.client.now) (core_of w (g.S.SegStore.meaning l.self.store) l.self.books) s
