use Rattle.py_frames.proofs.SoundLaws as sound
use Rattle.py_frames.proofs.laws.never_lacks_law.Goals as goal

pub returns : goal.returns
returns c = sound.never_lacks_law
