use Rattle.made_scripts.proofs.writer.Writer.+fill.Given as goal

abbrev pub decreases-fill : goal.decreases-fill
decreases-fill l = l.level
