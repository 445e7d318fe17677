use Rattle.py_data.proofs.Same.{does_along}
use Rattle.py_data.proofs.laws.names_law.Goals as goal

pub returns : goal.returns
returns g c = does_along
