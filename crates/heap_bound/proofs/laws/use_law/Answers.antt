use Rattle.heap_bound.proofs.Lifting.{store_law, use_law, tells_law, tells_refused_law, chain_law}
use Rattle.heap_bound.proofs.laws.use_law.Goals as goal

pub returns-clause-done : goal.returns-clause-done
returns-clause-done g c = tells_law

pub returns-clause-refused : goal.returns-clause-refused
returns-clause-refused g c = tells_refused_law

pub returns-clause-store : goal.returns-clause-store
returns-clause-store g c = store_law

pub returns-clause-used : goal.returns-clause-used
returns-clause-used g c = use_law

pub returns-clause-chain : goal.returns-clause-chain
returns-clause-chain g c = chain_law
