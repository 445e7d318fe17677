use Rattle.seg_store.proofs.Sees.{part_set, lock_shows, change_shows, make_shows, step_shows, end_shows}
use Rattle.seg_store.proofs.laws.sees_law.Goals as goal

pub returns-clause-part : goal.returns-clause-part
returns-clause-part c = part_set

pub returns-clause-lock : goal.returns-clause-lock
returns-clause-lock c = lock_shows

pub returns-clause-change : goal.returns-clause-change
returns-clause-change c = change_shows

pub returns-clause-make : goal.returns-clause-make
returns-clause-make c = make_shows

pub returns-clause-step : goal.returns-clause-step
returns-clause-step c = step_shows

pub returns-clause-ended : goal.returns-clause-ended
returns-clause-ended c = end_shows
