use Rattle.py_frames.proofs.QuietSteps as quiet
use Rattle.py_frames.proofs.laws.wait_law.Goals as goal

pub returns : goal.returns
returns c = quiet.wait_law
