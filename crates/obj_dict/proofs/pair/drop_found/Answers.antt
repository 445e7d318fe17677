use Rattle.py_data.proofs.Steps.{leads_asks, leads_do}
use Rattle.obj_dict.specs.Dict.{drop_found}
use Rattle.obj_dict.proofs.FindSteps.{found_leads, value_there}
use Rattle.obj_dict.proofs.pair.drop_found.Goals as goal

pub val-requires-clause-there : goal.val-requires-clause-there
val-requires-clause-there g c = value_there g.V.View.sense g.met.V.View.lawful c.args.d.0 c.args.key c.args.v.now
    c.find_key.new.self c.in_ok-i.field-0 c.in-Some.i c.in_ok-i.ensures.answers c.in-Some.is

pub drop_pair-requires-clause-there : goal.drop_pair-requires-clause-there
unfolding drop_found
drop_pair-requires-clause-there g c =
    let L = g.met.V.View.lawful in
    leads_asks (leads_do L _ (found_leads L (drop_found c.args.d.0 c.args.key) _ _ c.in_ok-i.ensures.answers
    c.in-Some.is c.requires.safe c.requires.live) c.in_ok-x-in-Some.ensures.0)
