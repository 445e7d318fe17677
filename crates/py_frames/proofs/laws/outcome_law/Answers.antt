use Rattle.py_frames.proofs.Outcomes as outcomes
use Rattle.py_frames.proofs.laws.outcome_law.Goals as goal

pub returns : goal.returns
returns c = outcomes.outcome_law
