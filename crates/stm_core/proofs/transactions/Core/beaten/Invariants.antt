use Rattle.std.proofs.Common.{◌<◌, ℕ, None}
use Rattle.stm_core.specs.inner.Readers.{Beats}
use Rattle.stm_core.proofs.transactions.Core.beaten.Given as goal

abbrev pub invariant-loop-j : goal.invariant-loop-j
invariant-loop-j g l = (i : ℕ) → i < l.j → Beats l.self.books.hands.items (g.S.SegStore.meaning l.self.store) l.k l.me
    i None
