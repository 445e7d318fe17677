use Rattle.stm_core.specs.inner.Lent.{Lends}
use Rattle.stm_core.proofs.loans.lend_recent.Given as goal

abbrev pub invariant-recent : goal.invariant-recent
invariant-recent g l = Lends (g.S.SegStore.meaning l.store) l.k l.initial.loan l.loan
