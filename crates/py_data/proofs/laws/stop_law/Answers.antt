use Rattle.py_data.proofs.Whole.{stopped_at}
use Rattle.py_data.proofs.laws.stop_law.Goals as goal

pub returns : goal.returns
returns g c = stopped_at _
