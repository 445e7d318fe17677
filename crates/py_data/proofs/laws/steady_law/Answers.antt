use Rattle.py_data.proofs.SteadyLemmas.{steady_law, asking_law}
use Rattle.py_data.proofs.laws.steady_law.Goals as goal

pub returns : goal.returns
returns g c = record { lengths = steady_law _ g.met.V.View.lawful _; asks = asking_law _ _ }
