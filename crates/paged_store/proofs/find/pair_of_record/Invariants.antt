use Rattle.paged_store.proofs.find.pair_of_record.Given as goal

abbrev pub invariant-pairs : goal.invariant-pairs
invariant-pairs l = Unit {0}
