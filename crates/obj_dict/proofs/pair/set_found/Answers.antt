use Rattle.py_data.proofs.Steps.{leads_asks}
use Rattle.obj_dict.specs.Dict.{set_pair}
use Rattle.obj_dict.proofs.FindSteps.{found_leads}
use Rattle.obj_dict.proofs.pair.set_found.Goals as goal

pub set_val-requires-clause-there : goal.set_val-requires-clause-there
unfolding set_pair
set_val-requires-clause-there g c = leads_asks
    (found_leads g.met.V.View.lawful (set_pair c.args.d.0 c.args.key c.args.x) _ _ c.in_ok-i.ensures.answers
    c.in-Some.is c.requires.safe c.requires.live)

pub push_new-requires-clause-safe : goal.push_new-requires-clause-safe
unfolding set_pair
push_new-requires-clause-safe g c =
    let l = found_leads g.met.V.View.lawful (set_pair c.args.d.0 c.args.key c.args.x) _ _ c.in_ok-i.ensures.answers
    c.in-None.is c.requires.safe c.requires.live in
    l.safe

pub returns-in-None : goal.returns-in-None
unfolding set_pair
returns-in-None g c =
    let l = found_leads g.met.V.View.lawful (set_pair c.args.d.0 c.args.key c.args.x) _ _ c.in_ok-i.ensures.answers
    c.in-None.is c.requires.safe c.requires.live in
    l.finish _ _ c.push_new.ensures
