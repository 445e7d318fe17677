use Rattle.obj_dict.proofs.Whole.{hash_law_shown, get_law_shown, set_law, new_law, full_law, del_law, lack_law}
use Rattle.obj_dict.proofs.laws.dict_law.Goals as goal

pub returns-clause-unhashable : goal.returns-clause-unhashable
returns-clause-unhashable g c = hash_law_shown g.met.V.View.lawful

pub returns-clause-get : goal.returns-clause-get
returns-clause-get g c = get_law_shown g.met.V.View.lawful

pub returns-clause-set : goal.returns-clause-set
returns-clause-set g c = set_law g.met.V.View.lawful

pub returns-clause-set_new : goal.returns-clause-set_new
returns-clause-set_new g c = new_law g.met.V.View.lawful

pub returns-clause-set_full : goal.returns-clause-set_full
returns-clause-set_full g c = full_law g.met.V.View.lawful

pub returns-clause-del : goal.returns-clause-del
returns-clause-del g c = del_law g.met.V.View.lawful

pub returns-clause-del_missing : goal.returns-clause-del_missing
returns-clause-del_missing g c = lack_law g.met.V.View.lawful
