use Rattle.std.proofs.Common.{◌≡◌, ◌≢◌, ◌<◌, ℕ, slice_get, Some}
use Rattle.lock_run.specs.declared.client.Life.TheVariants.{Lives}
use Rattle.stm_core.proofs.transactions.Core.some_lives.Given as goal

abbrev pub invariant-loop-t : goal.invariant-loop-t
invariant-loop-t g l = (t : ℕ) (q : g.row.C-State.Denot) → t < l.t → slice_get l.self.books.threads.entries t ≡ Some q
    → (g.C.Client.prog l.self.client.now).life q ≢ Lives
