use Rattle.py_data.proofs.Mirror.{does_afresh}
use Rattle.py_data.proofs.laws.afresh_law.Goals as goal

pub returns : goal.returns
returns g c = does_afresh
