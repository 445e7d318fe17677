use Rattle.obj_methods.proofs.ListLeaves as leaves
use Rattle.obj_methods.proofs.laws.remove_law.Goals as goal

pub returns-clause-gone : goal.returns-clause-gone
returns-clause-gone g c = leaves.remove_law g.met.V.View.lawful g.D.Demands.rules

pub returns-clause-missing : goal.returns-clause-missing
returns-clause-missing g c = leaves.remove_lack_law g.met.V.View.lawful g.D.Demands.rules
