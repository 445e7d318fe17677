-- What code and proofs say to each other: nothing public rests on it.
-- What lending the state of one thread leaves of a list of threads. States `docs/HEAP.md`, "The one-lock machine".
use Rattle.std.specs.Prelude.{ℕ, List, slice_set}
use Rattle.std.specs.Borrow.{Lends, MutBor, Fml}
use denote.RattleType.{RattleType}
use Rattle.lock_run.specs.contracts.threads.Threads.{the_row}

-- the list has at that place what is left behind the loan
abbrev pub LendsState : (S : RattleType) → MutBor (List S.Denot) → ℕ → MutBor S.Denot → Fml
LendsState S l t r = Lends (the_row S) S l r (slice_set l.now t)
