use Rattle.obj_dict.proofs.FindSteps.{value_there}
use Rattle.obj_class.proofs.inheritance.held.Goals as goal

pub val-requires-clause-there : goal.val-requires-clause-there
val-requires-clause-there g c = value_there g.V.View.sense g.met.V.View.lawful c.args.d.0 c.args.key c.args.v.now
    c.find_key.new.self c.in_ok-i.field-0 c.in-Some.i c.in_ok-i.ensures.answers c.in-Some.is
