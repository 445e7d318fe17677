use Rattle.py_exprs.proofs.growth.+grows.Given as goal

abbrev pub decreases-grows : goal.decreases-grows
decreases-grows l = l.rungs
