use Rattle.obj_seq.proofs.IterFaults.{no_iter_law, size_law}
use Rattle.obj_seq.proofs.laws.iter_fault_law.Goals as goal

pub returns-clause-make_iter : goal.returns-clause-make_iter
returns-clause-make_iter g c = no_iter_law g.met.V.View.lawful

pub returns-clause-next : goal.returns-clause-next
returns-clause-next g c = size_law g.met.V.View.lawful
