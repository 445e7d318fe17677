use Rattle.py_data.proofs.Parts.{safe_shown}
use Rattle.py_data.proofs.laws.part_law.Goals as goal

pub returns : goal.returns
returns g c = λ p row a h q s. safe_shown p row a h q s
