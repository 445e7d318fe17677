use Rattle.stm_core.proofs.SoloMoves.{solo_beats, solo_keeps, mortal_loses, soloed_moves, failed_moves}
use Rattle.stm_core.proofs.solo_laws.solo_law.Goals as goal

pub returns-clause-beats : goal.returns-clause-beats
returns-clause-beats g c = solo_beats

pub returns-clause-keeps : goal.returns-clause-keeps
returns-clause-keeps g c = solo_keeps

pub returns-clause-mortal : goal.returns-clause-mortal
returns-clause-mortal g c = mortal_loses

pub returns-clause-moves : goal.returns-clause-moves
returns-clause-moves g c = soloed_moves

pub returns-clause-fails : goal.returns-clause-fails
returns-clause-fails g c = λ p first most k n e o o1 x h is solo within f.
    failed_moves p first most k n o x h is solo within e o1 f
