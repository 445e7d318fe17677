use Rattle.obj_builtins.proofs.RangeAnswers.{ranges_law}
use Rattle.obj_builtins.proofs.laws.ranges_law.Goals as goal

pub returns : goal.returns
returns g c = ranges_law g.V.View.sense g.met.V.View.lawful
