use Rattle.py_data.proofs.Ranges.{range_law}
use Rattle.py_data.proofs.laws.range_law.Goals as goal

pub returns : goal.returns
returns c = range_law
