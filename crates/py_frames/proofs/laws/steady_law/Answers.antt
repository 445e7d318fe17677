use Rattle.py_frames.proofs.SteadySteps as steady
use Rattle.py_frames.proofs.laws.steady_law.Goals as goal

pub returns-clause-lengths : goal.returns-clause-lengths
returns-clause-lengths c = steady.steady_law

pub returns-clause-asks : goal.returns-clause-asks
returns-clause-asks c = steady.ask_law
