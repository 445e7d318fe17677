use Rattle.stm_core.proofs.OutsideLemmas.{kept_new, kept_after, solo_told}
use Rattle.stm_core.proofs.solo_laws.kept_law.Goals as goal

pub returns-clause-new : goal.returns-clause-new
returns-clause-new g c = kept_new

pub returns-clause-moves : goal.returns-clause-moves
returns-clause-moves g c = kept_after

pub returns-clause-told : goal.returns-clause-told
returns-clause-told g c = solo_told
