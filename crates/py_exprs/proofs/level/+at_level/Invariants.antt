use Rattle.py_exprs.proofs.level.+at_level.Given as goal

abbrev pub decreases-at_level : goal.decreases-at_level
decreases-at_level g l = l.level
