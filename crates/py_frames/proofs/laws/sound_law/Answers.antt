use Rattle.py_frames.proofs.SoundLaws.{first_law, step_law, safe_law}
use Rattle.py_frames.proofs.laws.sound_law.Goals as goal

pub returns-clause-first : goal.returns-clause-first
returns-clause-first c = first_law

pub returns-clause-step : goal.returns-clause-step
returns-clause-step c = step_law

pub returns-clause-safe : goal.returns-clause-safe
returns-clause-safe c = safe_law
