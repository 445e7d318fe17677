use Rattle.py_exprs.proofs.level.+grown_rungs.Given as goal

abbrev pub decreases-grown_rungs : goal.decreases-grown_rungs
decreases-grown_rungs g l = l.rungs
