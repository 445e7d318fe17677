use Rattle.stm_core.specs.inner.Lent.{Lends}
use Rattle.stm_core.proofs.loans.lend_keys.Given as goal

abbrev pub invariant-pairs : goal.invariant-pairs
invariant-pairs g l = Lends (g.S.SegStore.meaning l.store) l.k l.initial.loan l.loan
