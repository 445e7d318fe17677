use Rattle.obj_methods.proofs.KeyLeaves as leaves
use Rattle.obj_methods.proofs.laws.key_law.Goals as goal

pub returns-clause-get : goal.returns-clause-get
returns-clause-get g c = leaves.get_law g.met.V.View.lawful

pub returns-clause-has_key : goal.returns-clause-has_key
returns-clause-has_key g c = leaves.has_law g.met.V.View.lawful

pub returns-clause-pop : goal.returns-clause-pop
returns-clause-pop g c = leaves.pop_law g.met.V.View.lawful

pub returns-clause-pop_given : goal.returns-clause-pop_given
returns-clause-pop_given g c = leaves.pop_given_law g.met.V.View.lawful

pub returns-clause-pop_missing : goal.returns-clause-pop_missing
returns-clause-pop_missing g c = leaves.pop_lack_law g.met.V.View.lawful

pub returns-clause-unhashable : goal.returns-clause-unhashable
returns-clause-unhashable g c = leaves.hash_law g.met.V.View.lawful
