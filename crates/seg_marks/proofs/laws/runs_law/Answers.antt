use Rattle.seg_marks.proofs.RunLemmas.{marked_law, held_law}
use Rattle.seg_marks.proofs.laws.runs_law.Goals as goal

pub returns-clause-marked : goal.returns-clause-marked
returns-clause-marked c = marked_law

pub returns-clause-held : goal.returns-clause-held
returns-clause-held c = held_law
