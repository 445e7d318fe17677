use Rattle.seg_store.proofs.WordSums.{done_fits, over_not_fits}
use Rattle.seg_store.proofs.laws.fits_law.Goals as goal

pub returns-clause-left : goal.returns-clause-left
returns-clause-left c = done_fits

pub returns-clause-apart : goal.returns-clause-apart
returns-clause-apart c = over_not_fits
