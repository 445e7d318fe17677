use Rattle.obj_methods.proofs.ListLeaves as leaves
use Rattle.obj_methods.proofs.laws.sort_law.Goals as goal

pub returns-clause-ordered : goal.returns-clause-ordered
returns-clause-ordered g c = leaves.sort_law g.met.V.View.lawful g.D.Demands.rules

pub returns-clause-refused : goal.returns-clause-refused
returns-clause-refused g c = leaves.sort_refused_law g.met.V.View.lawful g.D.Demands.rules
