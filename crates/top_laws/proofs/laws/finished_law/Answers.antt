use Rattle.py_frames.specs.Laws.{prog_of}
use Rattle.front_end.specs.TextCode.{HasCode, IsRefused}
use Rattle.top_laws.proofs.Finishing as free
use Rattle.top_laws.proofs.laws.finished_law.Goals as goal

pub returns-clause-finished : goal.returns-clause-finished
returns-clause-finished c = free.finished_law HasCode IsRefused prog_of c.text_law.ensures.program
    c.text_law.ensures.none

pub returns-clause-complete : goal.returns-clause-complete
returns-clause-complete c = free.complete_law HasCode IsRefused prog_of c.text_law.ensures.program
    c.text_law.ensures.none
