use Rattle.py_data.proofs.AnyWorld.{world_law}
use Rattle.py_data.proofs.laws.world_law.Goals as goal

pub returns : goal.returns
returns g c = world_law
