use Rattle.py_data.proofs.Rows.{run_bind, bind_run}
use Rattle.py_data.proofs.laws.bind_law.Goals as goal

pub returns-clause-meaning : goal.returns-clause-meaning
returns-clause-meaning g c = λ p f v b w. (bind_run _ p f v b w, λ h. run_bind _ p f v h.1 w h.0 b h.2 h.3)

pub returns-clause-view : goal.returns-clause-view
returns-clause-view g c = λ p f v b w. (bind_run _ p f v b w, λ h. run_bind _ p f v h.1 w h.0 b h.2 h.3)
