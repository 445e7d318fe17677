use Rattle.py_data.proofs.FloorDivision.{divides, divides_alone}
use Rattle.py_data.proofs.arithmetic.floor_division_law.Goals as goal

pub returns-clause-divides : goal.returns-clause-divides
returns-clause-divides c = divides

pub returns-clause-alone : goal.returns-clause-alone
returns-clause-alone c = divides_alone
