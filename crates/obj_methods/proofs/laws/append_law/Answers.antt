use Rattle.obj_methods.proofs.ListLeaves as leaves
use Rattle.obj_methods.proofs.laws.append_law.Goals as goal

pub returns-clause-last : goal.returns-clause-last
returns-clause-last g c = leaves.append_law g.met.V.View.lawful

pub returns-clause-full : goal.returns-clause-full
returns-clause-full g c = leaves.append_full_law g.met.V.View.lawful
