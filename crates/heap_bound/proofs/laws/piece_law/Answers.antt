use Rattle.heap_bound.proofs.EndCalls.{install_law, loan_law, end_law}
use Rattle.heap_bound.proofs.laws.piece_law.Goals as goal

pub returns-clause-install : goal.returns-clause-install
returns-clause-install g c = install_law

pub returns-clause-loan : goal.returns-clause-loan
returns-clause-loan g c = loan_law

pub returns-clause-end : goal.returns-clause-end
returns-clause-end g c = end_law
